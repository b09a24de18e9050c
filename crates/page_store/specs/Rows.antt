-- What the pages take as they lie.
use Rattle.std.specs.Prelude.{◌≡◌, ℕ, List, Option, length}
use Rattle.hier_types.specs.Tabulate.{tabulate}
use Rattle.hier_types.specs.declared.counts.Totals.{Totals}
use Rattle.hier_types.specs.declared.settings.Codec.{Codec}
use Rattle.line_codec.specs.Layout.{stored_sizes}
use Rattle.page_plan.specs.declared.least.PagePlan.TheVariants as plan
use Rattle.page_plan.specs.Pages.{page_of}
use Rattle.page_plan.specs.Sizes.{row_by, row_in_slots}
use Rattle.page_slots.specs.declared.desc.Desc.{Desc}
use Rattle.page_slots.specs.declared.desc.Shape.{Shape}
use Rattle.page_slots.specs.declared.desc.Shape.TheVariants.{Zero, Raw, Slotted}
use Rattle.page_slots.specs.Forms.{form_of, order_of}
use Rattle.page_store.specs.Rooms.{held_at, helds}
use Rattle.page_store.specs.Store.{AreStrays, IsKept, Store, shape_at}
use Rattle.size_ledger.specs.declared.row.SizeRow.{SizeRow}
use Rattle.size_ledger.specs.Shares.{totals_of}

-- what a page of this shape takes, by the sizes of its lines, whether it is at its plan or not
abbrev pub row_of_shape : Shape → List (Option ℕ) → SizeRow
row_of_shape Zero sizes = row_by plan.Zero sizes
row_of_shape Raw sizes = row_by plan.Raw sizes
row_of_shape (Slotted slots) sizes = row_in_slots (order_of slots) (form_of slots).small (form_of slots).large (form_of slots).at sizes

-- what a page takes as it lies
abbrev pub row_at : Store → ℕ → SizeRow
row_at s page = row_of_shape (shape_at s page) (stored_sizes s.codec (page_of s.lines page))

-- and all pages that are kept so and have these lines
unfoldable pub totals_in : Codec → List Desc → List (List ℕ) → Totals
totals_in codec descriptors lines =
    totals_of (tabulate (λ page. row_of_shape (held_at (helds descriptors) page).shape (stored_sizes codec (page_of lines page))) (length descriptors))

abbrev pub totals_at : Store → Totals
totals_at s = totals_in s.codec s.descriptors s.lines

-- the store as it is kept, with the pages that may be off their plan, and with what all pages take
pub record IsKeptWhole (s : Store) (memory : List ℕ) (sizes : List (List ℕ)) (strays : List ℕ) (totals : Totals) : Type 0 where
  pub kept : IsKept s memory sizes
  pub strays_are : AreStrays s strays
  pub totals_are : totals ≡ totals_at s
