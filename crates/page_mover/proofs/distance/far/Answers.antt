use Rattle.std.proofs.Common.{arith, ◌∙◌, sym, ap, ◌≡◌}
use Rattle.page_slots.specs.declared.desc.Shape.{Shape}
use Rattle.page_slots.specs.Descs.{shape_of}
use Rattle.page_mover.specs.Far.{far_of}
use Rattle.page_mover.proofs.FallLemmas.{near, far_zero}
use Rattle.page_mover.proofs.distance.far.Goals as goal

told : (c : goal.After-distance) → c.distance.result ≡ far_of c.args.codec (shape_of c.args.desc.now) c.args.bytes.now
told c = c.distance.ensures ∙ ap (λ (s : Shape). far_of c.args.codec s c.args.bytes.now) c.shape.ensures

pub returns-clause-at_plan : goal.returns-clause-at_plan
returns-clause-at_plan c =
    let zero = far_zero c.args.codec (shape_of c.args.desc.now) c.args.bytes.now c.requires in
    (λ e. zero.0 (sym (told c) ∙ e), λ at. told c ∙ zero.1 at)

pub returns-clause-most : goal.returns-clause-most
returns-clause-most c = omega (arith, told c, near c.args.codec (shape_of c.args.desc.now) c.args.bytes.now c.requires)
