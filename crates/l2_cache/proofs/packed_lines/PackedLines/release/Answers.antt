use Rattle.std.proofs.Common.{◌+◌, ℕ, ap, ◌∙◌, arith}
use Rattle.std.specs.Option.{is_some}
use Rattle.l2_segments.specs.Strings.{segments_of, room_of}
use Rattle.l2_cache.proofs.PackedLemmas.{has_payload, few_forms, length-payload, lines_of-emptied}
use Rattle.l2_cache.proofs.packed_lines.PackedLines.release.Goals as goal

pub overflow_cast-slot : goal.overflow_cast-slot
overflow_cast-slot c =
    let has = has_payload c.self.inside.forms.items c.self.inside.strings.texts c.args.slot (rw (← c.self.view_is) at c.requires) in
    omega (arith, has.inside, few_forms c.self.invariant)

pub remove-requires : goal.remove-requires
remove-requires c =
    let has = has_payload c.self.inside.forms.items c.self.inside.strings.texts c.args.slot (rw (← c.self.view_is) at c.requires) in
    ap is_some has.there

pub returns-clause-lines : goal.returns-clause-lines
returns-clause-lines c =
    let has = has_payload c.self.inside.forms.items c.self.inside.strings.texts c.args.slot (rw (← c.self.view_is) at c.requires) in
    rw (← c.self.view_is)
    (lines_of-emptied c.self.inside.forms.items c.self.inside.strings.texts c.remove.new.self.texts c.args.slot has.inside c.remove.ensures.absent c.remove.ensures.others)

pub returns-clause-room : goal.returns-clause-room
returns-clause-room c =
    let has = has_payload c.self.inside.forms.items c.self.inside.strings.texts c.args.slot (rw (← c.self.view_is) at c.requires) in
    let freed = rw has.there at c.remove.ensures.freed in
    rw (← c.self.view_is) (freed ∙ ap (λ (n : ℕ). room_of c.self.inside.strings + segments_of n) (length-payload c.self.invariant c.args.slot has))
