use Rattle.std.proofs.Common.{◌≡◌, ◌∙◌, ℕ, get_or, subst}
use Rattle.std.proofs.lemmas.List.{get_or_default}
use Rattle.buddy_frames.specs.FrameByte.{AreStarts}
use Rattle.buddy_frames.specs.Indexes.{IsFirstFrame}
use Rattle.buddy_frames.proofs.ChoiceLemmas.{no_block, lowest_at}
use Rattle.buddy_frames.proofs.frames.Frames.lowest_block.Goals as goal

pub returns-in_default : goal.returns-in_default
returns-in_default c = no_block c.args.self.now c.args.order c.in_default.ensures

pub returns : goal.returns
returns c =
    let first : IsFirstFrame c.self.inside.bytes.items c.args.order c.in-Some.frame = rw c.self.view_is c.in-Some.ensures in
    let byte : c.index.result.now ≡ get_or c.self.inside.bytes.items c.in-Some.frame 0 = c.index.ensures ∙ get_or_default _ _ _ 0 first.within in
    let starts : AreStarts (get_or c.self.inside.bytes.items c.in-Some.frame 0) c.args.order c.block_starts-bits.result = subst (λ (b : ℕ). AreStarts b c.args.order c.block_starts-bits.result) byte c.block_starts-bits.ensures in
    rw (← c.self.view_is) (lowest_at c.self.inside.bytes.items c.args.order c.in-Some.frame c.block_starts-bits.result c.requires first starts)
