-- The totals of a memory go together.
use Rattle.std.proofs.Common.{◌≡◌, ◌+◌, ◌≤◌, ℕ, List, All, IfSome, length, map, get_or, ◌∙◌, arith}
use Rattle.std.proofs.lemmas.List.{length-map}
use Rattle.std.proofs.lemmas.List.Elements.{All-map}
use Rattle.hier_types.specs.declared.settings.Codec.{Codec}
use Rattle.size_ledger.specs.Ranges.{HasKnownOrder}
use Rattle.size_ledger.proofs.ClassLemmas.{by_class, blocks_of_rows, pages_of_rows}
use Rattle.page_plan.specs.declared.least.PagePlan.{PagePlan}
use Rattle.page_plan.specs.declared.least.PagePlan.TheVariants as plan
use Rattle.page_plan.specs.PagePlan.{IsPlan, plan_of}
use Rattle.page_plan.specs.Pages.{pages_of}
use Rattle.page_plan.specs.Sizes.{order_of, row_of, sizes_of_memory}
use Rattle.page_plan.proofs.PlanLemmas.{IsPlan-plan_of}

-- a plan asks for a block of order 0 to 3
order_known : (codec : Codec) (page : List (List ℕ)) (p : PagePlan) → IsPlan codec page p → IfSome (order_of p) (λ k. k ≤ 3)
order_known codec page plan.Zero is = tt
order_known codec page (plan.Packed order target exceptions) is = let most : order ≤ 2 = is.1.is_order.known in omega arith
order_known codec page plan.Raw is = omega arith

pub rows_known : (codec : Codec) (pages : List (List (List ℕ))) → All HasKnownOrder (map (row_of codec) pages)
rows_known codec pages =
    All-map HasKnownOrder (row_of codec) pages (λ k d lt. order_known codec (get_or pages k d) (plan_of codec (get_or pages k d)) (IsPlan-plan_of codec (get_or pages k d)))

-- the block bytes of a memory are those of its classes
pub blocks_of_memory : (codec : Codec) (lines : List (List ℕ)) → let t = sizes_of_memory codec lines in t.blocks ≡ by_class t.c512 t.c1024 t.c2048 t.c4096
unfolding sizes_of_memory
blocks_of_memory codec lines = blocks_of_rows (map (row_of codec) (pages_of lines)) (rows_known codec (pages_of lines))

-- and its pages are those that are zero and those of its classes
pub pages_of_memory : (codec : Codec) (lines : List (List ℕ)) → let t = sizes_of_memory codec lines in t.zero + (t.c512 + t.c1024 + t.c2048 + t.c4096) ≡ length (pages_of lines)
unfolding sizes_of_memory
pages_of_memory codec lines = pages_of_rows (map (row_of codec) (pages_of lines)) (rows_known codec (pages_of lines)) ∙ length-map (pages_of lines) (row_of codec)
