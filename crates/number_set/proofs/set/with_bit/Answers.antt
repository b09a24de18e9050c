use Rattle.std.proofs.Common.{◌≡◌, ◌*◌, ◌-◌, ◌%◌, ◌^◌, ℕ, sym, subst, bit_and, bit_or, w64}
use Rattle.std.proofs.lemmas.Nat.Bits.{bit_at_set_same, bit_at_set_other, bit_at_clear_same, bit_at_clear_other}
use Rattle.std.specs.Int.{bit_at}
use Rattle.number_set.proofs.SetLemmas.{pick}
use Rattle.number_set.proofs.set.with_bit.Goals as goal

pub returns-then-on : goal.returns-then-on
returns-then-on c = λ i h.
    rw c.if-on.true
    (pick i c.args.at 1 _ _
    (λ e. subst (λ (j : ℕ). bit_at (bit_or c.args.word (1 * 2 ^ c.args.at % 18446744073709551616)) j ≡ 1) (sym e) (bit_at_set_same w64 c.args.word c.args.at c.requires))
    (λ n. bit_at_set_other w64 c.args.word c.args.at c.requires i n))

pub returns : goal.returns
returns c = λ i h.
    rw c.if-on.false
    (pick i c.args.at 0 _ _
    (λ e. subst (λ (j : ℕ). bit_at (bit_and c.args.word (18446744073709551615 - 1 * 2 ^ c.args.at % 18446744073709551616)) j ≡ 0) (sym e) (bit_at_clear_same w64 c.args.word c.args.at c.requires))
    (λ n. bit_at_clear_other w64 c.args.word c.args.at c.requires i h n))
