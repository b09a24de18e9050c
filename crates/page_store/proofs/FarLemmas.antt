-- How far a page of a sound store is from its plan.
use Rattle.std.proofs.Common.{◌≡◌, ◌<◌, ◌≤◌, ◌↔◌, ℕ, length, ap}
use Rattle.page_mover.specs.Turns.{IsMeasured}
use Rattle.page_mover.specs.declared.turning.Turn.TheVariants.{Next}
use Rattle.page_mover.proofs.FallLemmas.{near, next_far}
use Rattle.page_plan.specs.KeptSizes.{kept_sizes}
use Rattle.page_plan.specs.PagePlan.{plan_of}
use Rattle.page_plan.specs.Pages.{page_of}
use Rattle.page_store.specs.Lays.{plan_at}
use Rattle.page_store.specs.PageBlocks.{IsAtPlan}
use Rattle.page_store.specs.Rooms.{bytes_at}
use Rattle.page_store.specs.Store.{IsSound, Store, desc_at, shape_at}
use Rattle.page_store.specs.Turns.{far_at, turn_at}
use Rattle.page_store.proofs.TurnLemmas.{lines_are, next_at_plan}

-- one page of a sound store
module _ (s : Store) (page : ℕ) (sound : IsSound s) (within : page < length s.descriptors) where
  -- it is measured by the lines that it says
  pub measured_at : IsMeasured s.codec (shape_at s page) (bytes_at s.bytes page) (plan_at s page) (kept_sizes s.codec (page_of s.lines page))
  measured_at = record {
    sound = sound.pages_are page within;
    plan_is = ap (plan_of s.codec) (lines_are s page sound within);
    sizes_are = ap (kept_sizes s.codec) (lines_are s page sound within);
  }

  -- it has no turn left exactly where it is 0 far from its plan
  pub next_is_far : turn_at s page ≡ Next ↔ (far_at s page ≡ 0)
  next_is_far = next_far s.codec (shape_at s page) (bytes_at s.bytes page) (sound.pages_are page within)

  -- which is exactly at its plan
  pub far_at_plan : far_at s page ≡ 0 ↔ IsAtPlan (plan_at s page) (desc_at s.descriptors page)
  far_at_plan = let next = next_at_plan s page sound within in (λ e. next.0 (next_is_far.1 e), λ at. next_is_far.0 (next.1 at))

  pub far_most : far_at s page ≤ 183
  far_most = near s.codec (shape_at s page) (bytes_at s.bytes page) (sound.pages_are page within)
