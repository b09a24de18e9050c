-- The numbers of a packed page (linearly compressed pages: Pekhimenko et al., MICRO 2013). Its block is parted into
-- chunks of 64 bytes: one of metadata, then 64 slots of one length, then exceptions, each of which has a chunk.
use Rattle.std.specs.Prelude.{ℕ, ◌≡◌, ◌+◌, ◌*◌, ◌%◌, ◌<◌, ◌≤◌, Bool, true, List, [], ◌∷◌, map, count_by, nat_lt, ◌==◌, if◌then◌else◌, Option, Some, None}
use Rattle.hier_types.specs.declared.settings.Codec.{Codec}
use Rattle.line_codec.specs.Slots.{stored}

-- a multiple of 4 from 4 on and below the limit
abbrev pub IsTargetBelow : ℕ → ℕ → Type 0
IsTargetBelow limit t = (t % 4 ≡ 0) × (4 ≤ t) × (t < limit)

-- the bytes that a slot may have: 4, 8, 12, 16, 20, 24 or 28
abbrev pub IsTarget : ℕ → Type 0
IsTarget t = IsTargetBelow 32 t

-- the same as a list
abbrev pub targets : List ℕ
targets = 4 ∷ 8 ∷ 12 ∷ 16 ∷ 20 ∷ 24 ∷ 28 ∷ []

-- the first byte of a line's slot, counted from the block's first byte
abbrev pub slot_at : ℕ → ℕ → ℕ
slot_at t line = 64 + t * line

-- what each line takes in a slot
abbrev pub stored_sizes : Codec → List (List ℕ) → List (Option ℕ)
stored_sizes codec lines = map (λ line. stored codec line) lines

-- a slot of t bytes does not hold a line of this stored size
abbrev pub is_exception : ℕ → Option ℕ → Bool
is_exception t None = true
is_exception t (Some bytes) = nat_lt t bytes

-- how many lines a slot of t bytes does not hold
unfoldable pub exceptions_of : List (Option ℕ) → ℕ → ℕ
exceptions_of sizes t = count_by (λ size. is_exception t size) sizes

-- the chunks of a packed page: 64 slots of t bytes are t of them
abbrev pub chunks_of : List (Option ℕ) → ℕ → ℕ
chunks_of sizes t = 1 + t + exceptions_of sizes t

-- the chunks of a block of order 0, 1 or 2
abbrev pub cap : ℕ → ℕ
cap k = if k == 0 then 8 else if k == 1 then 16 else 32
