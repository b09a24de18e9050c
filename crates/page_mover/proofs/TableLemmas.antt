-- The rows of the table of turns, over numbers.
use Rattle.std.proofs.Common.{◌≡◌, ℕ, ◌+◌, ◌-◌, ◌<◌, ◌≤◌, ◌≢◌, true, false, refl, arith, inl, inr}
use Rattle.std.proofs.lemmas.Bool.{cases_lt, cases_eq, cases_order, cases_Bool}
use Rattle.std.proofs.lemmas.Bool.Decides.{nat_tests}
use Rattle.line_codec.specs.Layout.{cap}
use Rattle.page_mover.specs.declared.turning.Turn.{Turn}
use Rattle.page_mover.specs.declared.turning.Turn.TheVariants.{Next, Rewrite, Down, Up, Hoist, Halve}
use Rattle.page_mover.specs.Turns.{packed_turn, goes_down, mid_turn}
use Rattle.page_mover.specs.Far.{packed_far, rest, mid_far}

-- each row with what it says of a packed page
pub data PackedRow (order target plan_order goal need outside below : ℕ) (turn : Turn) (far : ℕ) : Type 0 where
  next_row : target ≡ goal → order ≡ plan_order → turn ≡ Next → far ≡ 0 → PackedRow order target plan_order goal need outside below turn far
  outer_row : target ≡ goal → 0 < outside → turn ≡ Hoist (cap plan_order) (cap order) target → far ≡ outside + (order - plan_order) → PackedRow order target plan_order goal need outside below turn far
  halve_row : target ≡ goal → outside ≡ 0 → plan_order < order → turn ≡ Halve → far ≡ order - plan_order → PackedRow order target plan_order goal need outside below turn far
  rewrite_row : target ≢ goal → turn ≡ Rewrite plan_order goal → far ≡ 1 → PackedRow order target plan_order goal need outside below turn far
  inner_row : target < goal → need ≤ cap order → 0 < below → turn ≡ Hoist 0 (1 + goal) goal → far ≡ 93 + below → PackedRow order target plan_order goal need outside below turn far
  up_row : target < goal → need ≤ cap order → below ≡ 0 → turn ≡ Up goal → far ≡ 93 → PackedRow order target plan_order goal need outside below turn far
  down_row : goal < target → need ≤ cap order → turn ≡ Down goal → far ≡ 93 → PackedRow order target plan_order goal need outside below turn far

-- where the plan's order is not above the page's, and the page as it is fits its block
pub packed_row : (order target plan_order goal need outside below : ℕ) → plan_order ≤ order → (target ≡ goal → need ≤ cap order)
    → PackedRow order target plan_order goal need outside below (packed_turn order target plan_order goal need outside below)
    (packed_far order target plan_order goal (packed_turn order target plan_order goal need outside below) outside below)
packed_row order target plan_order goal need outside below le fit =
    elim (cases_order target goal) [
      | inl same ↦ elim (cases_eq order plan_order) [
        | inl at_plan ↦ next_row same at_plan (grind (arith, nat_tests)) (grind (arith, nat_tests))
        | inr off ↦ elim (cases_lt 0 outside) [
          | inl some ↦
              let turn : packed_turn order target plan_order goal need outside below ≡ Hoist (cap plan_order) (cap order) target = grind (arith, nat_tests) in
              outer_row same some turn (rw turn (grind (arith, nat_tests)))
          | inr none ↦
              let turn : packed_turn order target plan_order goal need outside below ≡ Halve = grind (arith, nat_tests) in
              halve_row same (omega arith) (omega arith) turn (rw turn (grind (arith, nat_tests)))
        ]
      ]
      | inr other ↦ elim (cases_lt (cap order) need) [
        | inl over ↦
            let turn : packed_turn order target plan_order goal need outside below ≡ Rewrite plan_order goal = grind (arith, nat_tests) in
            rewrite_row (λ same. elim other [ inl a ↦ omega arith | inr b ↦ omega arith ]) turn (rw turn (grind (arith, nat_tests)))
        | inr within ↦ elim other [
          | inl less ↦ elim (cases_lt 0 below) [
            | inl some ↦
                let turn : packed_turn order target plan_order goal need outside below ≡ Hoist 0 (1 + goal) goal = grind (arith, nat_tests) in
                inner_row less within some turn (rw turn (grind (arith, nat_tests)))
            | inr none ↦
                let turn : packed_turn order target plan_order goal need outside below ≡ Up goal = grind (arith, nat_tests) in
                up_row less within (omega arith) turn (rw turn (grind (arith, nat_tests)))
          ]
          | inr more ↦
              let turn : packed_turn order target plan_order goal need outside below ≡ Down goal = grind (arith, nat_tests) in
              down_row more within turn (rw turn (grind (arith, nat_tests)))
        ]
      ]
    ]

-- each row with what it says of a half-moved page
pub data MidRow (order small large at outgrown goal : ℕ) (turn : Turn) (far : ℕ) : Type 0 where
  mid_down : goal ≤ small → 1 + large + outgrown ≤ cap order → turn ≡ Down small → far ≡ 64 - at + rest goal small → MidRow order small large at outgrown goal turn far
  mid_up : goes_down order small large outgrown goal ≡ false → turn ≡ Up large → far ≡ at + rest goal large → MidRow order small large at outgrown goal turn far

down_parts : (order small large outgrown goal : ℕ) → goes_down order small large outgrown goal ≡ true → (goal ≤ small) × (1 + large + outgrown ≤ cap order)
down_parts order small large outgrown goal e = (grind (arith, nat_tests), grind (arith, nat_tests))

pub mid_row : (order small large at outgrown goal : ℕ)
    → MidRow order small large at outgrown goal (mid_turn order small large outgrown goal) (mid_far order small large at outgrown goal)
mid_row order small large at outgrown goal = elim (cases_Bool (goes_down order small large outgrown goal)) [
  | inl e ↦ let parts = down_parts order small large outgrown goal e in mid_down parts.0 parts.1 (rw e refl) (rw e refl)
  | inr e ↦ mid_up e (rw e refl) (rw e refl)
]
