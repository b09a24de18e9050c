-- What lies within one frame, by tests on its byte, which are computed once for each of the 256 bytes.
use Rattle.std.specs.Prelude.{◌≡◌, ◌<◌, ◌+◌, ◌^◌, ◌%◌, ◌==◌, ◌&&◌, ◌||◌, not, cond, ℕ, zero, suc, Bool, true, count_ones}
use Rattle.std.specs.Int.{bit_at}
use Rattle.buddy_frames.specs.Units.{enclosing_unit}

-- a test passes at each number below a limit
abbrev pub all_below : ℕ → (ℕ → Bool) → Bool
all_below zero p = true
all_below (suc n) p = p n && all_below n p

-- at how many numbers below a limit a test passes
abbrev pub count_below : ℕ → (ℕ → Bool) → ℕ
count_below zero p = 0
count_below (suc n) p = cond (p n) 1 0 + count_below n p

-- an aligned run whose units all have a state
abbrev pub run_is : ℕ → ℕ → ℕ → ℕ → Bool
run_is byte order at state = at % 2 ^ order == 0 && all_below (2 ^ order) (λ i. bit_at byte (at + i) == state)

-- a place of the frame is free
abbrev pub place_free : ℕ → ℕ → ℕ → Bool
place_free byte order at = run_is byte order at 0

-- a free block begins here
abbrev pub block_free : ℕ → ℕ → ℕ → Bool
block_free byte order at = place_free byte order at && (order == 3 || not (place_free byte (order + 1) (enclosing_unit order at)))

-- the number of free blocks of an order in the frame
unfoldable pub blocks_of : ℕ → ℕ → ℕ
blocks_of order byte = count_below 8 (block_free byte order)

-- the bits at which the free blocks of an order begin
pub record AreStarts (byte order bits : ℕ) : Type 0 where
  pub small : bits < 256
  pub begins : (at : ℕ) → at < 8 → bit_at bits at ≡ 1 → block_free byte order at ≡ true
  pub only : (at : ℕ) → at < 8 → block_free byte order at ≡ true → bit_at bits at ≡ 1
  pub counts : count_ones bits ≡ blocks_of order byte
