-- What one page adds to the totals of a memory, by the order of its block, which is None where it has none.
use Rattle.std.specs.Prelude.{ℕ, ◌+◌, ◌*◌, ◌^◌, ◌<◌, ◌≤◌, ◌==◌, Bool, true, false, if◌then◌else◌, List, Option}
use Rattle.std.specs.List.{sum_by}
use Rattle.std.specs.Option.{option_map_or}
use Rattle.hier_types.specs.declared.counts.Totals.{Totals}
use Rattle.size_ledger.specs.declared.row.SizeRow.{SizeRow}

-- a page has no block
abbrev pub has_none : Option ℕ → Bool
has_none order = option_map_or (λ k. false) order true

-- its block is of this order
abbrev pub has_order : ℕ → Option ℕ → Bool
has_order k order = option_map_or (λ o. o == k) order false

-- the bytes of its block
abbrev pub block_bytes : Option ℕ → ℕ
block_bytes order = option_map_or (λ k. 512 * 2 ^ k) order 0

abbrev pub one_if : Bool → ℕ
one_if holds = if holds then 1 else 0

-- one page of its class, its exceptions, the bytes of its lines and of its block
abbrev pub share : SizeRow → Totals
share row = record {
  zero = one_if (has_none row.order);
  c512 = one_if (has_order 0 row.order);
  c1024 = one_if (has_order 1 row.order);
  c2048 = one_if (has_order 2 row.order);
  c4096 = one_if (has_order 3 row.order);
  exceptions = row.exceptions;
  encoded = row.encoded;
  blocks = block_bytes row.order;
}

-- the totals of no pages
abbrev pub no_pages : Totals
no_pages = record { zero = 0; c512 = 0; c1024 = 0; c2048 = 0; c4096 = 0; exceptions = 0; encoded = 0; blocks = 0 }

-- each total of the one with that of the other
abbrev pub plus : Totals → Totals → Totals
plus a b = record {
  zero = a.zero + b.zero;
  c512 = a.c512 + b.c512;
  c1024 = a.c1024 + b.c1024;
  c2048 = a.c2048 + b.c2048;
  c4096 = a.c4096 + b.c4096;
  exceptions = a.exceptions + b.exceptions;
  encoded = a.encoded + b.encoded;
  blocks = a.blocks + b.blocks;
}

-- the shares of all these pages
abbrev pub totals_of : List SizeRow → Totals
totals_of rows = record {
  zero = sum_by (λ row. (share row).zero) rows;
  c512 = sum_by (λ row. (share row).c512) rows;
  c1024 = sum_by (λ row. (share row).c1024) rows;
  c2048 = sum_by (λ row. (share row).c2048) rows;
  c4096 = sum_by (λ row. (share row).c4096) rows;
  exceptions = sum_by (λ row. (share row).exceptions) rows;
  encoded = sum_by (λ row. (share row).encoded) rows;
  blocks = sum_by (λ row. (share row).blocks) rows;
}

-- the pages of each class are below 2^32, and the other totals below 2^64
pub record AreInRange (totals : Totals) : Type 0 where
  pub zero_is : totals.zero < 2 ^ 32
  pub c512_is : totals.c512 < 2 ^ 32
  pub c1024_is : totals.c1024 < 2 ^ 32
  pub c2048_is : totals.c2048 < 2 ^ 32
  pub c4096_is : totals.c4096 < 2 ^ 32
  pub exceptions_are : totals.exceptions < 2 ^ 64
  pub encoded_is : totals.encoded < 2 ^ 64
  pub blocks_are : totals.blocks < 2 ^ 64

-- no total of the part is above that of the whole
pub record AreWithin (part whole : Totals) : Type 0 where
  pub zero_is : part.zero ≤ whole.zero
  pub c512_is : part.c512 ≤ whole.c512
  pub c1024_is : part.c1024 ≤ whole.c1024
  pub c2048_is : part.c2048 ≤ whole.c2048
  pub c4096_is : part.c4096 ≤ whole.c4096
  pub exceptions_are : part.exceptions ≤ whole.exceptions
  pub encoded_is : part.encoded ≤ whole.encoded
  pub blocks_are : part.blocks ≤ whole.blocks
