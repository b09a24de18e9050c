-- What some pages take at most, whatever is in them.
use Rattle.std.specs.Prelude.{ℕ, ◌*◌, ◌≤◌, IfSome}
use Rattle.hier_types.specs.declared.counts.Totals.{Totals}
use Rattle.size_ledger.specs.declared.row.SizeRow.{SizeRow}

-- a page has no block, or one of order 0 to 3
abbrev pub HasKnownOrder : SizeRow → Type 0
HasKnownOrder row = IfSome row.order (λ k. k ≤ 3)

-- so many pages take no more
pub record AreWithinPages (pages : ℕ) (totals : Totals) : Type 0 where
  pub zero_most : totals.zero ≤ pages
  pub c512_most : totals.c512 ≤ pages
  pub c1024_most : totals.c1024 ≤ pages
  pub c2048_most : totals.c2048 ≤ pages
  pub c4096_most : totals.c4096 ≤ pages
  pub exceptions_most : totals.exceptions ≤ 255 * pages
  pub encoded_most : totals.encoded ≤ 65535 * pages
  pub blocks_most : totals.blocks ≤ 4096 * pages
