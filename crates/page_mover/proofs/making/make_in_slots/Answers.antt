use Rattle.std.proofs.Common.{sym, refl, ◌∙◌}
use Rattle.page_slots.specs.declared.desc.Shape.TheVariants.{Slotted}
use Rattle.page_slots.specs.Descs.{content_of}
use Rattle.page_mover.proofs.KeepLemmas.{keeps_whole, keeps_zeros}
use Rattle.page_mover.proofs.NeedLemmas.{down_needs, up_needs, hoist_needs, halve_needs, rewrite_needs, zero_needs}
use Rattle.page_mover.proofs.making.make_in_slots.Goals as goal

pub rewrite-requires-clause-order_in : goal.rewrite-requires-clause-order_in
rewrite-requires-clause-order_in c = (rewrite_needs c.args.codec c.args.slots c.args.bytes.now c.in-Rewrite.order c.in-Rewrite.target c.requires.sound (sym c.in-Rewrite.is ∙ c.requires.turn)).order_in

pub rewrite-requires-clause-is_target : goal.rewrite-requires-clause-is_target
rewrite-requires-clause-is_target c = (rewrite_needs c.args.codec c.args.slots c.args.bytes.now c.in-Rewrite.order c.in-Rewrite.target c.requires.sound (sym c.in-Rewrite.is ∙ c.requires.turn)).is_target

pub rewrite-requires-clause-room : goal.rewrite-requires-clause-room
rewrite-requires-clause-room c = (rewrite_needs c.args.codec c.args.slots c.args.bytes.now c.in-Rewrite.order c.in-Rewrite.target c.requires.sound (sym c.in-Rewrite.is ∙ c.requires.turn)).room

pub rewrite-requires-clause-size_in : goal.rewrite-requires-clause-size_in
rewrite-requires-clause-size_in c = (rewrite_needs c.args.codec c.args.slots c.args.bytes.now c.in-Rewrite.order c.in-Rewrite.target c.requires.sound (sym c.in-Rewrite.is ∙ c.requires.turn)).size_in

pub shift_down-requires-clause-can : goal.shift_down-requires-clause-can
shift_down-requires-clause-can c = (down_needs c.args.codec c.args.slots c.args.bytes.now c.in-Down.small c.requires.sound (sym c.in-Down.is ∙ c.requires.turn)).0

pub shift_down-requires-clause-rooms : goal.shift_down-requires-clause-rooms
shift_down-requires-clause-rooms c = (down_needs c.args.codec c.args.slots c.args.bytes.now c.in-Down.small c.requires.sound (sym c.in-Down.is ∙ c.requires.turn)).1

pub shift_up-requires-clause-can : goal.shift_up-requires-clause-can
shift_up-requires-clause-can c = up_needs c.args.codec c.args.slots c.args.bytes.now c.in-Up.large c.requires.sound (sym c.in-Up.is ∙ c.requires.turn)

pub hoist-requires-clause-can : goal.hoist-requires-clause-can
hoist-requires-clause-can c =
    hoist_needs c.args.codec c.args.slots c.args.bytes.now c.in-Hoist.low c.in-Hoist.high c.in-Hoist.above c.requires.sound (sym c.in-Hoist.is ∙ c.requires.turn)

pub halve-requires-clause-can : goal.halve-requires-clause-can
halve-requires-clause-can c = halve_needs c.args.codec c.args.slots c.args.bytes.now c.requires.sound (sym c.in-Halve.is ∙ c.requires.turn)

pub returns-in-Next-clause-keeps : goal.returns-in-Next-clause-keeps
returns-in-Next-clause-keeps c = keeps_whole c.args.codec (content_of (Slotted c.args.slots) c.args.bytes.now) (Slotted c.args.slots) c.args.bytes.now c.requires.sound refl

pub returns-in-Zero-clause-keeps : goal.returns-in-Zero-clause-keeps
returns-in-Zero-clause-keeps c =
    keeps_zeros c.args.codec (Slotted c.args.slots) c.args.bytes.now c.args.bytes.now (zero_needs c.args.codec c.args.slots c.args.bytes.now c.requires.sound (sym c.in-Zero.is ∙ c.requires.turn))

pub returns-in-Down-clause-keeps : goal.returns-in-Down-clause-keeps
returns-in-Down-clause-keeps c =
    keeps_whole c.args.codec (content_of (Slotted c.args.slots) c.args.bytes.now) (Slotted c.shift_down.result) c.shift_down.new.bytes c.shift_down.ensures.sound c.shift_down.ensures.content

pub returns-in-Up-clause-keeps : goal.returns-in-Up-clause-keeps
returns-in-Up-clause-keeps c =
    keeps_whole c.args.codec (content_of (Slotted c.args.slots) c.args.bytes.now) (Slotted c.shift_up.result) c.shift_up.new.bytes c.shift_up.ensures.sound c.shift_up.ensures.content

pub returns-in-Hoist-clause-keeps : goal.returns-in-Hoist-clause-keeps
returns-in-Hoist-clause-keeps c =
    keeps_whole c.args.codec (content_of (Slotted c.args.slots) c.args.bytes.now) (Slotted c.args.slots) c.hoist.new.bytes (c.hoist.ensures.sound c.args.codec c.requires.sound) c.hoist.ensures.content
