-- Words of beats.
use Rattle.std.specs.Prelude.{◌≡◌, ◌≤◌, ◌+◌, ◌%◌, ℕ, zero, suc, Bool, true, false, if◌then◌else◌, List, length, IsTrue, Option, Some, slice_get}
use Rattle.std.specs.List.{list_any}
use Rattle.std.specs.Option.{option_map_or}
use Rattle.hier_types.specs.declared.beats.Beat.{Beat}
use Rattle.hier_types.specs.declared.beats.Beat.TheVariants.{Hart, Mover, Cleaner}

-- the tests that a beat is the hart's, the mover's and the cleaner's
abbrev pub is_hart : Beat → Bool
is_hart Hart = true
is_hart Mover = false
is_hart Cleaner = false

abbrev pub is_mover : Beat → Bool
is_mover Hart = false
is_mover Mover = true
is_mover Cleaner = false

abbrev pub is_cleaner : Beat → Bool
is_cleaner Hart = false
is_cleaner Mover = false
is_cleaner Cleaner = true

-- at most 64 beats, with one of the hart's among them
pub record IsBeatWord (beats : List Beat) : Type 0 where
  pub short : length beats ≤ 64
  pub acts : IsTrue (list_any is_hart beats)

-- the beat of this number, from 0 on: the word's, which begins again behind its last one
abbrev pub beat_at : List Beat → ℕ → Option Beat
beat_at beats number = slice_get beats (number % length beats)

abbrev pub IsBeat : List Beat → ℕ → Beat → Type 0
IsBeat beats number beat = beat_at beats number ≡ Some beat

-- how many of the first beats, so many of them, are of this kind
abbrev pub turns_among : (Beat → Bool) → List Beat → ℕ → ℕ
turns_among kind beats zero = 0
turns_among kind beats (suc count) = if option_map_or kind (beat_at beats count) false then suc (turns_among kind beats count) else turns_among kind beats count
