-- Lines, one by one and as one list of bytes.
use Rattle.std.specs.Prelude.{◌≡◌, ℕ, List, All, length, replicate}
use Rattle.std.specs.List.{flat_map}

-- each has 64 bytes
abbrev pub AreLines : List (List ℕ) → Type 0
AreLines lines = All (λ line. length line ≡ 64) lines

-- the lines one after another
abbrev pub flatten : List (List ℕ) → List ℕ
flatten lines = flat_map (λ line. line) lines

-- the line of zeros
abbrev pub zero_line : List ℕ
zero_line = replicate 64 0
