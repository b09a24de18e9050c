use Rattle.std.proofs.Common.{◌≡◌, ◌<◌, ◌≤◌, ◌+◌, ◌*◌, ◌%◌, ◌^◌, arith, refl, eqb, true}
use Rattle.std.proofs.lemmas.Bool.{eqb-true}
use Rattle.buddy_frames.specs.Units.{run_bits}
use Rattle.buddy_frames.specs.FrameByte.{all_below}
use Rattle.buddy_frames.proofs.TableLemmas.{all_at}
use Rattle.buddy_frames.proofs.frame_byte.run_bits_at.Goals as goal

threes : all_below 7 (λ at. eqb (3 * 2 ^ at % 256) (run_bits 1 at)) ≡ true
threes = refl

fifteens : all_below 5 (λ at. eqb (15 * 2 ^ at % 256) (run_bits 2 at)) ≡ true
fifteens = refl

pub returns-in-1 : goal.returns-in-1
returns-in-1 c =
    let within : c.args.at + 2 ^ 1 ≤ 8 = rw c.in-1.is at c.requires.within in
    let lt : c.args.at < 7 = omega arith in
    rw c.in-1.is (eqb-true _ _ (all_at 7 (λ at. eqb (3 * 2 ^ at % 256) (run_bits 1 at)) threes c.args.at lt))

pub returns-in-2 : goal.returns-in-2
returns-in-2 c =
    let within : c.args.at + 2 ^ 2 ≤ 8 = rw c.in-2.is at c.requires.within in
    let lt : c.args.at < 5 = omega arith in
    rw c.in-2.is (eqb-true _ _ (all_at 5 (λ at. eqb (15 * 2 ^ at % 256) (run_bits 2 at)) fifteens c.args.at lt))
