-- The order of a page's block, by the chunks that it needs.
use Rattle.std.specs.Prelude.{ℕ, ◌≤◌, [], ◌∷◌, find, nat_le, Option}
use Rattle.line_codec.specs.Layout.{cap}

-- k is the least order from 0 to 2 that has room for n chunks
pub record IsOrderFor (n k : ℕ) : Type 0 where
  pub known : k ≤ 2
  pub room : n ≤ cap k
  pub least : (j : ℕ) → j ≤ 2 → n ≤ cap j → k ≤ j

-- the same, computed: None where no order has room
abbrev pub order_for : ℕ → Option ℕ
order_for n = find (λ k. nat_le n (cap k)) (0 ∷ 1 ∷ 2 ∷ [])
