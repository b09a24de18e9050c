use Rattle.std.proofs.Common.{List, ℕ, Some, set, refl, ap, ◌∙◌, arith}
use Rattle.l2_segments.specs.Strings.{Strings}
use Rattle.line_codec.proofs.PayloadLemmas.{line_of-says}
use Rattle.l2_cache.specs.PackedLines.{line_of_string, lines_of}
use Rattle.l2_cache.proofs.PackedLemmas.{slot_inside, few_forms, unused_slot, payload_of, packed_put, lines_of-changed}
use Rattle.l2_cache.proofs.packed_lines.PackedLines.put.Goals as goal

pub index_mut-requires : goal.index_mut-requires
index_mut-requires c =
    let inside = slot_inside c.self.inside.forms.items c.self.inside.strings.texts c.args.slot (rw (← c.self.view_is) at c.requires.inside) in
    omega (arith, inside)

pub overflow_cast-slot-2 : goal.overflow_cast-slot-2
overflow_cast-slot-2 c =
    let inside = slot_inside c.self.inside.forms.items c.self.inside.strings.texts c.args.slot (rw (← c.self.view_is) at c.requires.inside) in
    omega (arith, inside, few_forms c.self.invariant)

pub place-placed-requires-clause-tag : goal.place-placed-requires-clause-tag
place-placed-requires-clause-tag c =
    let inside = slot_inside c.self.inside.forms.items c.self.inside.strings.texts c.args.slot (rw (← c.self.view_is) at c.requires.inside) in
    omega (arith, inside, c.self.invariant.slots)

pub place-placed-requires-clause-unused : goal.place-placed-requires-clause-unused
place-placed-requires-clause-unused c =
    let inside = slot_inside c.self.inside.forms.items c.self.inside.strings.texts c.args.slot (rw (← c.self.view_is) at c.requires.inside) in
    unused_slot c.self.invariant c.args.slot inside (rw (← c.self.view_is) at c.requires.empty)

pub place-placed-requires-clause-some : goal.place-placed-requires-clause-some
place-placed-requires-clause-some c = rw c.as_slice.ensures.value c.pack-packed.ensures.some

pub invariant_of-self : goal.invariant_of-self
invariant_of-self c =
    let inside = slot_inside c.self.inside.forms.items c.self.inside.strings.texts c.args.slot (rw (← c.self.view_is) at c.requires.inside) in
    packed_put c.self.invariant c.place-placed.new.self c.args.slot c.pack-packed.result.form c.pack-packed.result.payload.items
    inside (ap (λ (s : Strings). s.ways) (c.if-prove.ensures.placed refl))
    (payload_of c.self.inside.codec c.pack-packed.result.form c.pack-packed.result.payload.items c.args.from.now c.pack-packed.ensures.reads_back c.pack-packed.ensures.size)
    (c.if-prove.ensures.there refl ∙ ap (λ (b : List ℕ). Some b) c.as_slice.ensures.value)
    c.place-placed.ensures.others

pub returns-clause-lines : goal.returns-clause-lines
returns-clause-lines c =
    let inside = slot_inside c.self.inside.forms.items c.self.inside.strings.texts c.args.slot (rw (← c.self.view_is) at c.requires.inside) in
    let said = ap (line_of_string c.pack-packed.result.form) (c.if-prove.ensures.there refl ∙ ap (λ (b : List ℕ). Some b) c.as_slice.ensures.value)
    ∙ line_of-says c.pack-packed.result.form c.pack-packed.result.payload.items c.args.from.now c.pack-packed.ensures.reads_back in
    rw (← c.self.view_is)
    (lines_of-changed c.self.inside.forms.items c.self.inside.strings.texts c.place-placed.new.self.texts c.args.slot c.pack-packed.result.form
    inside c.place-placed.ensures.others
    ∙ ap (λ (l : List ℕ). set (lines_of c.self.inside.forms.items c.self.inside.strings.texts) c.args.slot l) said)
