-- The pages of a memory: 64 lines each, one page after another, and their plans.
use Rattle.std.specs.Prelude.{ℕ, ◌+◌, ◌*◌, ◌/◌, List, ◌++◌, take, drop, length, map}
use Rattle.hier_types.specs.Tabulate.{tabulate}
use Rattle.hier_types.specs.declared.settings.Codec.{Codec}
use Rattle.page_plan.specs.declared.least.PagePlan.{PagePlan}
use Rattle.page_plan.specs.PagePlan.{plan_of}

-- the lines of one page
abbrev pub page_of : List (List ℕ) → ℕ → List (List ℕ)
page_of lines page = take 64 (drop (64 * page) lines)

-- all pages
abbrev pub pages_of : List (List ℕ) → List (List (List ℕ))
pages_of lines = tabulate (page_of lines) (length lines / 64)

-- their plans
abbrev pub plans_of : Codec → List (List ℕ) → List PagePlan
plans_of codec lines = map (plan_of codec) (pages_of lines)

-- the memory with the lines of one page changed for others
abbrev pub with_page : List (List ℕ) → ℕ → List (List ℕ) → List (List ℕ)
with_page lines page others = take (64 * page) lines ++ others ++ drop (64 * page + 64) lines

-- the bytes of a page as its 64 lines
abbrev pub lines_of_page : List ℕ → List (List ℕ)
lines_of_page bytes = tabulate (λ line. take 64 (drop (64 * line) bytes)) 64
