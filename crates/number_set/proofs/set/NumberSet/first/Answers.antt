use Rattle.std.proofs.Common.{◌≡◌, ◌<◌, ◌+◌, ◌*◌, ◌∙◌, ℕ, get_or, length, sym, subst, arith, List, refl}
use Rattle.std.proofs.lemmas.List.{get_or_default}
use Rattle.number_set.specs.Numbers.{IsSummed}
use Rattle.number_set.proofs.SetLemmas.{first_at}
use Rattle.number_set.proofs.set.NumberSet.first.Goals as goal

pub returns-then-word-ne0 : goal.returns-then-word-ne0
returns-then-word-ne0 c =
    let s : IsSummed c.self.inside.words.items c.deref-word-items.result.now = subst (λ (u : List ℕ). IsSummed c.self.inside.words.items u) (sym c.deref-word-items.ensures.value) c.self.invariant in
    let i_lt : c.loop-i.i < 16 = omega arith in
    let a_lt : c.lowest_bit.result < 64 = c.lowest_bit.ensures.within in
    let w_lt : c.loop-i.i * 64 + c.lowest_bit.result < length c.self.inside.words.items = omega arith in
    let word : c.index.result.now ≡ get_or c.self.inside.words.items (c.loop-i.i * 64 + c.lowest_bit.result) 0 =
    c.index.ensures ∙ get_or_default _ _ _ 0 w_lt in
    rw (← c.self.view_is)
    (first_at _ _ c.loop-i.i c.lowest_bit.result c.lowest_bit-then-word-ne0.result _ _ s i_lt c.loop-i.invariant refl c.lowest_bit.ensures word c.lowest_bit-then-word-ne0.ensures)
