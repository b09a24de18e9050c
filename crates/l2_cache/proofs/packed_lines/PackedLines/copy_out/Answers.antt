use Rattle.std.proofs.Common.{length, sym, ap, ◌∙◌, arith}
use Rattle.std.specs.Option.{is_some}
use Rattle.line_codec.specs.Payloads.{line_of}
use Rattle.line_codec.specs.declared.payloads.Form.{Form}
use Rattle.l2_cache.proofs.PackedLemmas.{has_payload, few_forms, read_payload, form_is}
use Rattle.l2_cache.proofs.packed_lines.PackedLines.copy_out.Goals as goal

pub overflow_cast-slot : goal.overflow_cast-slot
overflow_cast-slot c =
    let has = has_payload c.self.inside.forms.items c.self.inside.strings.texts c.args.slot (rw (← c.self.view_is) at c.requires) in
    omega (arith, has.inside, few_forms c.self.invariant)

pub get-len-requires : goal.get-len-requires
get-len-requires c =
    let has = has_payload c.self.inside.forms.items c.self.inside.strings.texts c.args.slot (rw (← c.self.view_is) at c.requires) in
    ap is_some has.there

pub index-form-requires : goal.index-form-requires
index-form-requires c =
    let has = has_payload c.self.inside.forms.items c.self.inside.strings.texts c.args.slot (rw (← c.self.view_is) at c.requires) in
    omega (arith, has.inside)

pub slice_bounds-bytes-end : goal.slice_bounds-bytes-end
slice_bounds-bytes-end c =
    let has = has_payload c.self.inside.forms.items c.self.inside.strings.texts c.args.slot (rw (← c.self.view_is) at c.requires) in
    (read_payload c.self.inside.forms.items c.self.inside.strings.texts c.args.slot c.get-len.result _ c.get-len.new.into has c.get-len.ensures).2

pub slice_bounds-unpack-end : goal.slice_bounds-unpack-end
slice_bounds-unpack-end c =
    let has = has_payload c.self.inside.forms.items c.self.inside.strings.texts c.args.slot (rw (← c.self.view_is) at c.requires) in
    let read = read_payload c.self.inside.forms.items c.self.inside.strings.texts c.args.slot c.get-len.result _ c.get-len.new.into has c.get-len.ensures in
    read.1 ∙ sym (ap length read.0)

pub unpack-requires : goal.unpack-requires
unpack-requires c =
    let has = has_payload c.self.inside.forms.items c.self.inside.strings.texts c.args.slot (rw (← c.self.view_is) at c.requires) in
    let read = read_payload c.self.inside.forms.items c.self.inside.strings.texts c.args.slot c.get-len.result _ c.get-len.new.into has c.get-len.ensures in
    rw (read.0, form_is c.self.inside.forms.items c.args.slot c.index-form.result.now has.inside c.index-form.ensures) (c.self.invariant.payloads c.args.slot has.payload has.there).says

pub returns : goal.returns
returns c =
    let has = has_payload c.self.inside.forms.items c.self.inside.strings.texts c.args.slot (rw (← c.self.view_is) at c.requires) in
    let read = read_payload c.self.inside.forms.items c.self.inside.strings.texts c.args.slot c.get-len.result _ c.get-len.new.into has c.get-len.ensures in
    rw (← c.self.view_is)
    (c.unpack.ensures ∙ ap (line_of c.index-form.result.now) read.0
    ∙ ap (λ (f : Form). line_of f has.payload) (form_is c.self.inside.forms.items c.args.slot c.index-form.result.now has.inside c.index-form.ensures) ∙ sym has.line)
