use Rattle.std.proofs.Common.{◌≡◌, ◌<◌, ◌≤◌, ◌∙◌, length, get_or, arith}
use Rattle.std.proofs.lemmas.List.{get_or_default}
use Rattle.buddy_frames.proofs.IndexLemmas.{index_change, index_most, frames_change}
use Rattle.buddy_frames.proofs.frames.Frames.set_byte.Goals as goal

pub update-requires-clause-most : goal.update-requires-clause-most
update-requires-clause-most c = index_most _ _ _ _ c.self.invariant.singles_are c.self.invariant.frames_are.most

pub update-requires-2-clause-most : goal.update-requires-2-clause-most
update-requires-2-clause-most c = index_most _ _ _ _ c.self.invariant.pairs_are c.self.invariant.frames_are.most

pub update-requires-3-clause-most : goal.update-requires-3-clause-most
update-requires-3-clause-most c = index_most _ _ _ _ c.self.invariant.fours_are c.self.invariant.frames_are.most

pub update-requires-4-clause-most : goal.update-requires-4-clause-most
update-requires-4-clause-most c = index_most _ _ _ _ c.self.invariant.wholes_are c.self.invariant.frames_are.most

pub invariant_of-self : goal.invariant_of-self
invariant_of-self c =
    let within : c.args.frame < length c.self.inside.bytes.items = rw c.self.view_is c.requires in
    let byte : c.args.byte < 256 = omega arith in
    let before : c.index-before.result.now ≡ get_or c.self.inside.bytes.items c.args.frame 0 = c.index-before.ensures ∙ get_or_default _ _ _ 0 within in
    let most : length c.self.inside.bytes.items ≤ 65536 = c.self.invariant.frames_are.most in
    record {
      frames_are = frames_change _ _ _ c.self.invariant.frames_are byte within;
      singles_are = index_change _ 0 _ _ _ _ _ _ _ before c.self.invariant.singles_are within most c.update.ensures.frames c.update.ensures.count;
      pairs_are = index_change _ 1 _ _ _ _ _ _ _ before c.self.invariant.pairs_are within most c.update-2.ensures.frames c.update-2.ensures.count;
      fours_are = index_change _ 2 _ _ _ _ _ _ _ before c.self.invariant.fours_are within most c.update-3.ensures.frames c.update-3.ensures.count;
      wholes_are = index_change _ 3 _ _ _ _ _ _ _ before c.self.invariant.wholes_are within most c.update-4.ensures.frames c.update-4.ensures.count;
    }
