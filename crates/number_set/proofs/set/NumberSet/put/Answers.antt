use Rattle.std.proofs.Common.{◌≡◌, ◌<◌, ◌/◌, ◌%◌, ◌∙◌, ℕ, cond, eqb, get_or, length, subst, arith}
use Rattle.std.proofs.lemmas.List.{get_or_default}
use Rattle.std.specs.Int.{bit_at}
use Rattle.number_set.specs.Numbers.{bit_of}
use Rattle.number_set.proofs.SetLemmas.{has_put}
use Rattle.number_set.proofs.set.NumberSet.put.Goals as goal

pub returns : goal.returns
returns c = λ m h.
    let within : c.args.number / 64 < length c.self.inside.words.items = omega arith in
    let word : c.index.result.now ≡ get_or c.self.inside.words.items (c.args.number / 64) 0 = c.index.ensures ∙ get_or_default _ _ _ 0 within in
    let bits : (i : ℕ) → i < 64 → bit_at c.with_bit-next.result i ≡ cond (eqb i (c.args.number % 64)) (bit_of c.args.on) (bit_at (get_or c.self.inside.words.items (c.args.number / 64) 0) i) =
    subst (λ (w : ℕ). (i : ℕ) → i < 64 → bit_at c.with_bit-next.result i ≡ cond (eqb i (c.args.number % 64)) (bit_of c.args.on) (bit_at w i)) word c.with_bit-next.ensures in
    rw (← c.self.view_is) (has_put _ c.args.number c.with_bit-next.result (bit_of c.args.on) within bits m)
