-- Slots in the order of their use, the most recent first.
use Rattle.std.specs.Prelude.{◌≡◌, ◌<◌, ◌==◌, ℕ, Bool, true, false, List, [], ◌∷◌, Option, Some, None, if◌then◌else◌}

-- what is seen of an order: the number of slots, and those in use
pub record Used : Type 0 where
  pub ways : ℕ
  pub slots : List ℕ

-- the test that a slot is in use
abbrev pub has : List ℕ → ℕ → Bool
has [] slot = false
has (s ∷ slots) slot = if s == slot then true else has slots slot

-- the others, in the same order
abbrev pub removed : List ℕ → ℕ → List ℕ
removed [] slot = []
removed (s ∷ slots) slot = if s == slot then slots else s ∷ removed slots slot

-- the least recent
abbrev pub last_of : {A : Type 0} → List A → Option A
last_of [] = None
last_of (x ∷ []) = Some x
last_of (x ∷ y ∷ xs) = last_of (y ∷ xs)

-- all but the least recent
abbrev pub but_last : {A : Type 0} → List A → List A
but_last [] = []
but_last (x ∷ []) = []
but_last (x ∷ y ∷ xs) = x ∷ but_last (y ∷ xs)

-- the slot that was used next after this one
abbrev pub more_recent : List ℕ → ℕ → Option ℕ
more_recent [] slot = None
more_recent (s ∷ []) slot = None
more_recent (s ∷ t ∷ slots) slot = if t == slot then Some s else more_recent (t ∷ slots) slot

-- no slot stands twice
abbrev pub IsDistinct : List ℕ → Type 0
IsDistinct [] = Unit {0}
IsDistinct (s ∷ slots) = (has slots s ≡ false) × IsDistinct slots

-- each slot is below the number of slots
abbrev pub AllBelow : List ℕ → ℕ → Type 0
AllBelow [] ways = Unit {0}
AllBelow (s ∷ slots) ways = (s < ways) × AllBelow slots ways
