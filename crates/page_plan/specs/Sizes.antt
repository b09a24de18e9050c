-- What the pages of a memory take at their plans.
use Rattle.std.specs.Prelude.{ℕ, ◌+◌, List, Option, Some, None, if◌then◌else◌, map, take, drop, unwrap_or}
use Rattle.std.specs.List.{sum_by}
use Rattle.hier_types.specs.declared.counts.Totals.{Totals}
use Rattle.hier_types.specs.declared.settings.Codec.{Codec}
use Rattle.line_codec.specs.Layout.{exceptions_of, is_exception, stored_sizes}
use Rattle.size_ledger.specs.declared.row.SizeRow.{SizeRow}
use Rattle.size_ledger.specs.Shares.{totals_of}
use Rattle.page_plan.specs.declared.least.PagePlan.{PagePlan}
use Rattle.page_plan.specs.declared.least.PagePlan.TheVariants.{Zero, Packed, Raw}
use Rattle.page_plan.specs.PagePlan.{plan_of}
use Rattle.page_plan.specs.Pages.{pages_of}

-- the order of the block that a plan asks for; None where it asks for none
abbrev pub order_of : PagePlan → Option ℕ
order_of Zero = None
order_of (Packed order target exceptions) = Some order
order_of Raw = Some 3

-- the lines that the plan's slots do not hold
abbrev pub exceptions_in : PagePlan → ℕ
exceptions_in Zero = 0
exceptions_in (Packed order target exceptions) = exceptions
exceptions_in Raw = 0

-- the bytes that a line takes in a packed page
abbrev pub bytes_at : ℕ → Option ℕ → ℕ
bytes_at target size = if is_exception target size then 64 else unwrap_or size 64

-- and all lines of a page, under its plan
abbrev pub encoded_by : List (Option ℕ) → PagePlan → ℕ
encoded_by sizes Zero = 0
encoded_by sizes (Packed order target exceptions) = sum_by (bytes_at target) sizes
encoded_by sizes Raw = 4096

-- what a page takes at a plan, by the sizes of its lines
abbrev pub row_by : PagePlan → List (Option ℕ) → SizeRow
row_by plan sizes = record { order = order_of plan; exceptions = exceptions_in plan; encoded = encoded_by sizes plan }

-- what it takes at its own plan
abbrev pub row_of : Codec → List (List ℕ) → SizeRow
row_of codec page = row_by (plan_of codec page) (stored_sizes codec page)

-- what a page takes in a block of an order, where the slots of the lines below `at` have `small` bytes and the others `large`
abbrev pub row_in_slots : ℕ → ℕ → ℕ → ℕ → List (Option ℕ) → SizeRow
row_in_slots order small large at sizes = record {
  order = Some order;
  exceptions = exceptions_of (take at sizes) small + exceptions_of (drop at sizes) large;
  encoded = sum_by (bytes_at small) (take at sizes) + sum_by (bytes_at large) (drop at sizes);
}

-- the totals of a memory, by its lines alone
unfoldable pub sizes_of_memory : Codec → List (List ℕ) → Totals
sizes_of_memory codec lines = totals_of (map (row_of codec) (pages_of lines))
