use Rattle.std.proofs.Common.{◌-◌, ◌*◌, length, sym, ap, ◌∙◌, arith}
use Rattle.l2_segments.specs.Held.{segments_in}
use Rattle.l2_segments.proofs.LaidLemmas.{laid_fits}
use Rattle.l2_segments.proofs.StoredLemmas.{stored_sound, segments_sum-texts}
use Rattle.l2_segments.proofs.segments.Segments.room.Goals as goal

pub segments_in-requires : goal.segments_in-requires
segments_in-requires c =
    let fits = laid_fits 0 (length c.self.inside.store.items) c.self.inside.held.items c.self.invariant.laid in
    let within = c.self.invariant.within.1 in
    rw c.deref.ensures.0 (omega (arith, c.self.invariant.size))

pub overflow_sub-result : goal.overflow_sub-result
overflow_sub-result c =
    let fits = laid_fits 0 (length c.self.inside.store.items) c.self.inside.held.items c.self.invariant.laid in
    rw (c.segments_in.ensures, c.deref.ensures.0) (omega (arith, c.self.invariant.size))

pub returns-clause-room : goal.returns-clause-room
returns-clause-room c =
    let sum = segments_sum-texts 0 (length c.self.inside.store.items) c.self.inside.store.items c.self.inside.held.items c.self.invariant.laid (omega arith) in
    rw (← c.self.view_is) (ap (λ n. 8 * c.self.inside.ways - n) (c.segments_in.ensures ∙ ap segments_in c.deref.ensures.0 ∙ sym sum))

pub returns-clause-sound : goal.returns-clause-sound
returns-clause-sound c = rw (← c.self.view_is) (stored_sound c.self.invariant)
