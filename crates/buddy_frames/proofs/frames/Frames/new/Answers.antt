use Rattle.std.proofs.Common.{◌≡◌, ℕ, List, replicate, rules, sym, subst, arith}
use Rattle.buddy_frames.specs.Kept.{IsKept}
use Rattle.buddy_frames.specs.Units.{in_use}
use Rattle.buddy_frames.proofs.IndexLemmas.{frames_new, units_new, index_empty, index_full}
use Rattle.buddy_frames.proofs.frames.Frames.new.Goals as goal

pub invariant_of-result : goal.invariant_of-result
invariant_of-result c =
    let items : c.in_ok-bytes.bytes.items ≡ replicate {A = ℕ} c.args.frames 0 = search rules in
    let kept : IsKept (replicate {A = ℕ} c.args.frames 0) c.in_ok-singles.singles c.in_ok-pairs.pairs c.in_ok-fours.fours c.in_ok-wholes.wholes = record {
      frames_are = frames_new c.args.frames c.requires.some c.requires.most;
      singles_are = index_empty c.args.frames 0 _ _ (omega arith) c.in_ok-singles.ensures.count c.in_ok-singles.ensures.frames;
      pairs_are = index_empty c.args.frames 1 _ _ (omega arith) c.in_ok-pairs.ensures.count c.in_ok-pairs.ensures.frames;
      fours_are = index_empty c.args.frames 2 _ _ (omega arith) c.in_ok-fours.ensures.count c.in_ok-fours.ensures.frames;
      wholes_are = index_full c.args.frames _ _ c.in_ok-wholes.ensures.count c.in_ok-wholes.ensures.frames;
    } in
    subst (λ (l : List ℕ). IsKept l c.in_ok-singles.singles c.in_ok-pairs.pairs c.in_ok-fours.fours c.in_ok-wholes.wholes) (sym items) kept

pub returns-clause-free : goal.returns-clause-free
returns-clause-free c = λ unit.
    let items : c.in_ok-bytes.bytes.items ≡ replicate {A = ℕ} c.args.frames 0 = search rules in
    subst (λ (l : List ℕ). in_use l unit ≡ 0) (sym items) (units_new c.args.frames unit)
