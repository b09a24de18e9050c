-- The totals of some pages go together.
use Rattle.std.proofs.Common.{◌≡◌, ◌+◌, ◌*◌, ℕ, ◌≤◌, zero, suc, List, [], ◌∷◌, Option, Some, None, All, IfSome, length, refl, arith}
use Rattle.std.proofs.lemmas.List.Sums.{sum_by-cons}
use Rattle.std.proofs.lemmas.List.Elements.{All-head, All-tail}
use Rattle.size_ledger.specs.declared.row.SizeRow.{SizeRow}
use Rattle.size_ledger.specs.Ranges.{HasKnownOrder}
use Rattle.size_ledger.specs.Shares.{has_none, has_order, block_bytes, one_if, share, totals_of}

-- the bytes of some blocks, by their classes
abbrev pub by_class : ℕ → ℕ → ℕ → ℕ → ℕ
by_class c512 c1024 c2048 c4096 = 512 * c512 + 1024 * c1024 + 2048 * c2048 + 4096 * c4096

-- A page is of one class, and its block has the bytes of that class.
record IsOfOneClass (order : Option ℕ) : Type 0 where
  bytes : block_bytes order ≡ by_class (one_if (has_order 0 order)) (one_if (has_order 1 order)) (one_if (has_order 2 order)) (one_if (has_order 3 order))
  one : one_if (has_none order) + (one_if (has_order 0 order) + one_if (has_order 1 order) + one_if (has_order 2 order) + one_if (has_order 3 order)) ≡ 1

class_of : (order : Option ℕ) → IfSome order (λ k. k ≤ 3) → IsOfOneClass order
class_of None known = record { bytes = refl; one = refl }
class_of (Some zero) known = record { bytes = refl; one = refl }
class_of (Some (suc zero)) known = record { bytes = refl; one = refl }
class_of (Some (suc (suc zero))) known = record { bytes = refl; one = refl }
class_of (Some (suc (suc (suc zero)))) known = record { bytes = refl; one = refl }
class_of (Some (suc (suc (suc (suc k))))) known = absurd (omega arith)

-- the bytes of all blocks, by their classes
pub blocks_of_rows : (rows : List SizeRow) → All HasKnownOrder rows → let t = totals_of rows in t.blocks ≡ by_class t.c512 t.c1024 t.c2048 t.c4096
blocks_of_rows [] known = refl
blocks_of_rows (row ∷ rows) known =
    let first = (class_of row.order (All-head HasKnownOrder row rows known)).bytes in
    let rest = blocks_of_rows rows (All-tail HasKnownOrder row rows known) in
    omega (
      arith,
      first,
      rest,
      sum_by-cons (λ (r : SizeRow). (share r).blocks) row rows,
      sum_by-cons (λ (r : SizeRow). (share r).c512) row rows,
      sum_by-cons (λ (r : SizeRow). (share r).c1024) row rows,
      sum_by-cons (λ (r : SizeRow). (share r).c2048) row rows,
      sum_by-cons (λ (r : SizeRow). (share r).c4096) row rows,
    )

-- each page has no block, or one of a class
pub pages_of_rows : (rows : List SizeRow) → All HasKnownOrder rows → let t = totals_of rows in t.zero + (t.c512 + t.c1024 + t.c2048 + t.c4096) ≡ length rows
pages_of_rows [] known = refl
pages_of_rows (row ∷ rows) known =
    let first = (class_of row.order (All-head HasKnownOrder row rows known)).one in
    let rest = pages_of_rows rows (All-tail HasKnownOrder row rows known) in
    omega (
      arith,
      first,
      rest,
      sum_by-cons (λ (r : SizeRow). (share r).zero) row rows,
      sum_by-cons (λ (r : SizeRow). (share r).c512) row rows,
      sum_by-cons (λ (r : SizeRow). (share r).c1024) row rows,
      sum_by-cons (λ (r : SizeRow). (share r).c2048) row rows,
      sum_by-cons (λ (r : SizeRow). (share r).c4096) row rows,
    )
