use Rattle.std.proofs.Common.{◌≡◌, ◌∙◌, ap}
use Rattle.page_slots.specs.declared.desc.Shape.{Shape}
use Rattle.page_slots.specs.Descs.{shape_of}
use Rattle.page_mover.proofs.FallLemmas.{near}
use Rattle.page_mover.proofs.PlanLemmas.{fits_block}
use Rattle.page_mover.proofs.CallLemmas.{kind_next, kind_at_plan}
use Rattle.page_mover.specs.Turns.{kind_of, turn_of}
use Rattle.page_mover.proofs.calls.turn.Goals as goal

kind_told : (c : goal.After-kind) → c.kind.result ≡ kind_of (turn_of c.args.codec (shape_of c.args.desc.now) c.args.bytes.now)
kind_told c = c.kind.ensures ∙ ap kind_of (c.find_turn.ensures ∙ ap (λ (s : Shape). turn_of c.args.codec s c.args.bytes.now) c.shape.ensures)

pub returns-clause-next : goal.returns-clause-next
returns-clause-next c = kind_next c.args.codec (shape_of c.args.desc.now) c.args.bytes.now c.kind.result c.requires (kind_told c)

pub returns-clause-at_plan : goal.returns-clause-at_plan
returns-clause-at_plan c = kind_at_plan c.args.codec (shape_of c.args.desc.now) c.args.bytes.now c.kind.result c.requires (kind_told c)

pub returns-clause-most : goal.returns-clause-most
returns-clause-most c = near c.args.codec (shape_of c.args.desc.now) c.args.bytes.now c.requires

pub returns-clause-fits : goal.returns-clause-fits
returns-clause-fits c = fits_block c.args.codec (shape_of c.args.desc.now) c.args.bytes.now c.requires
