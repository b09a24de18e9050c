-- The rules of the settings, and their defaults.
use Rattle.std.specs.Prelude.{◌≡◌, ℕ, ◌≤◌, ◌^◌, false, [], ◌∷◌}
use Rattle.hier_types.specs.declared.beats.Beat.TheVariants.{Hart, Mover, Cleaner}
use Rattle.hier_types.specs.declared.settings.Codec.TheVariants.{Bdi}
use Rattle.hier_types.specs.declared.settings.Settings.{Settings}

-- the number is from the first to the second
abbrev pub IsWithin : ℕ → ℕ → ℕ → Type 0
IsWithin low high number = (low ≤ number) × (number ≤ high)

-- a power of two, at most the given one
abbrev pub IsPowerOfTwo : ℕ → ℕ → Type 0
IsPowerOfTwo most number = (exponent : ℕ) × (number ≡ 2 ^ exponent) × (number ≤ most)

-- Each setting is within its rule. That the span ends within 32 bits, and that the beats are a word of beats, their types say.
pub record AreWithinRules (settings : Settings) : Type 0 where
  pub pages : IsWithin 1 65536 settings.geometry.pages
  pub frames : IsWithin 1 65536 settings.frames
  pub l1_sets : IsPowerOfTwo 1024 settings.l1_sets
  pub l1_ways : IsWithin 1 16 settings.l1_ways
  pub l2_sets : IsPowerOfTwo 4096 settings.l2_sets
  pub l2_ways : IsWithin 1 16 settings.l2_ways
  pub meta : IsWithin 1 1024 settings.meta
  pub budget : settings.budget ≤ 10 ^ 15

-- the settings where a user gives none
abbrev pub default_settings : Settings
default_settings = record {
  geometry = record { base = 16; pages = 4096 };
  frames = 4096;
  codec = Bdi;
  l1_sets = 64;
  l1_ways = 8;
  l2_sets = 512;
  l2_ways = 8;
  meta = 64;
  budget = 1000000000000;
  beats = Hart ∷ Hart ∷ Hart ∷ Hart ∷ Hart ∷ Hart ∷ Hart ∷ Mover ∷ Hart ∷ Hart ∷ Hart ∷ Hart ∷ Hart ∷ Hart ∷ Hart ∷ Cleaner ∷ [];
  json = false;
}
