use Rattle.std.proofs.Common.{ap}
use Rattle.recency.specs.Kept.{touched}
use Rattle.l2_cache.proofs.RoomLemmas.{stepped}
use Rattle.l2_cache.proofs.room_sets.RoomSets.touch.Goals as goal

pub returns-clause-after : goal.returns-clause-after
returns-clause-after c =
    rw (← c.self.view_is) (ap (λ sets. record { codec = c.self.inside.codec; sets = sets })
    (stepped c.self.inside.sets.items c.args.line c.index_of-index.result c.index_mut.result.now c.index_of-index.ensures.index c.index_of-index.ensures.inside c.index_mut.ensures.value
    (λ es. touched es c.args.line) c.touch.new.self c.touch.ensures.after))
