use Rattle.std.proofs.Common.{subst, sym}
use Rattle.page_slots.specs.declared.moving.Step.{Step}
use Rattle.page_slots.specs.Forms.{form_of}
use Rattle.page_slots.specs.Lines.{content_at}
use Rattle.page_slots.specs.Moves.{IsStep}
use Rattle.page_slots.specs.Puts.{HasNoPlace}
use Rattle.page_slots.proofs.ShiftLemmas.{step_down_is, place_down}
use Rattle.page_slots.proofs.desc.Slots.shift_down.Goals as goal

pub make_step-requires-clause-is_step : goal.make_step-requires-clause-is_step
make_step-requires-clause-is_step c =
    subst (IsStep c.args.self c.args.bytes.now) (sym c.step_down-step.ensures) (step_down_is c.args.self c.args.small c.args.bytes.now c.requires.can c.requires.sound.holds)

pub make_step-requires-clause-has_place : goal.make_step-requires-clause-has_place
make_step-requires-clause-has_place c over =
    place_down c.args.codec c.args.self c.args.small c.args.bytes.now c.requires.can c.requires.sound c.requires.rooms
    (subst (λ (s : Step). HasNoPlace c.args.codec s.after c.args.bytes.now s.line (content_at (form_of c.args.self) c.args.bytes.now s.line)) c.step_down-step.ensures over)
