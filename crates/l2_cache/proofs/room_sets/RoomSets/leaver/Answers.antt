use Rattle.std.proofs.Common.{◌∙◌, sym, ap}
use Rattle.recency.specs.Uses.{last_of}
use Rattle.recency.specs.Kept.{Kept, without}
use Rattle.recency.proofs.UseLemmas.{not_both}
use Rattle.l2_cache.proofs.RoomLemmas.{if_some, set_of-kept}
use Rattle.l2_cache.proofs.room_sets.RoomSets.leaver.Goals as goal

pub returns-clause-room : goal.returns-clause-room
returns-clause-room c =
    let here = set_of-kept c.self.inside.sets.items c.args.line c.index_of-index.result c.index.result.now c.index_of-index.ensures.index c.index_of-index.ensures.inside c.index.ensures in
    if_some c.oldest_other.result _
    (λ is. not_both c.has_space.result
    (c.has_space.ensures.alone (rw (← c.self.view_is) (ap (λ (k : Kept). last_of (without k.lines c.args.line)) here ∙ sym c.oldest_other.ensures ∙ is)))
    c.if-has_space.false)
