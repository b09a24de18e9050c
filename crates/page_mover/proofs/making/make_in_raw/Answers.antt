use Rattle.std.proofs.Common.{sym, refl, ◌∙◌}
use Rattle.page_slots.specs.declared.desc.Shape.TheVariants.{Raw}
use Rattle.page_slots.specs.Descs.{content_of}
use Rattle.page_mover.proofs.KeepLemmas.{keeps_whole, keeps_zeros}
use Rattle.page_mover.proofs.NeedLemmas.{raw_rewrite_needs, raw_zero_needs, raw_else}
use Rattle.page_mover.proofs.making.make_in_raw.Goals as goal

pub rewrite-requires-clause-order_in : goal.rewrite-requires-clause-order_in
rewrite-requires-clause-order_in c = (raw_rewrite_needs c.args.codec c.args.bytes.now c.in-Rewrite.order c.in-Rewrite.target (sym c.in-Rewrite.is ∙ c.requires.turn)).order_in

pub rewrite-requires-clause-is_target : goal.rewrite-requires-clause-is_target
rewrite-requires-clause-is_target c = (raw_rewrite_needs c.args.codec c.args.bytes.now c.in-Rewrite.order c.in-Rewrite.target (sym c.in-Rewrite.is ∙ c.requires.turn)).is_target

pub rewrite-requires-clause-room : goal.rewrite-requires-clause-room
rewrite-requires-clause-room c = (raw_rewrite_needs c.args.codec c.args.bytes.now c.in-Rewrite.order c.in-Rewrite.target (sym c.in-Rewrite.is ∙ c.requires.turn)).room

pub returns-in-Zero-clause-keeps : goal.returns-in-Zero-clause-keeps
returns-in-Zero-clause-keeps c = keeps_zeros c.args.codec Raw c.args.bytes.now c.args.bytes.now (raw_zero_needs c.args.codec c.args.bytes.now (sym c.in-Zero.is ∙ c.requires.turn))

pub returns-in_default : goal.returns-in_default
returns-in_default c =
    let next = raw_else c.args.codec c.args.bytes.now c.args.turn c.requires.turn c.in_default.not-Zero c.in_default.not-Rewrite in
    record { makes = rw next (refl, refl); keeps = keeps_whole c.args.codec (content_of Raw c.args.bytes.now) Raw c.args.bytes.now c.requires.sound refl }
