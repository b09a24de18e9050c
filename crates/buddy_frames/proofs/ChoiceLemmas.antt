-- The lowest free block of an order, and what there is where none is found.
use Rattle.std.proofs.Common.{◌≡◌, ◌<◌, ◌≤◌, ◌+◌, ◌-◌, ◌*◌, ◌/◌, ◌%◌, ℕ, zero, suc, true, List, length, get_or, subst, inl, inr, w8, arith}
use Rattle.std.specs.Int.{bit_at, trailing_zeros}
use Rattle.std.proofs.lemmas.Bool.{cases_eq, cases_lt, cases_Bool, both_ways}
use Rattle.std.proofs.lemmas.Nat.Bits.{bit_at-zero, bit_at-trailing_zeros}
use Rattle.buddy_frames.specs.Units.{Place, place_at, enclosing, IsFreePlace, IsFreeBlock, HasNone}
use Rattle.buddy_frames.specs.FrameByte.{block_free, AreStarts}
use Rattle.buddy_frames.specs.Indexes.{HasNoFrame, HasNoBlock, IsFirstFrame, IsLowestBlock}
use Rattle.buddy_frames.proofs.PlaceLemmas.{wider_free, to_wider, from_wider, place_frame, to_block, from_block}

-- the lowest free block of an order in a frame
record IsLowestStart (byte order at : ℕ) : Type 0 where
  pub at_lt : at < 8
  pub block : block_free byte order at ≡ true
  pub below : (a : ℕ) → a < at → block_free byte order a ≡ true → ⊥

lowest_start : (byte order bits : ℕ) → AreStarts byte order bits → (bits ≡ 0 → ⊥) → IsLowestStart byte order (trailing_zeros w8 bits)
lowest_start byte order bits s ne =
    let some : 0 < bits = omega arith in
    let z = bit_at-trailing_zeros w8 bits some s.small in
    let lt : trailing_zeros w8 bits < 8 = z.0 in
    record {
      at_lt = lt;
      block = s.begins (trailing_zeros w8 bits) lt z.1;
      below = λ a l h.
          let one : bit_at bits a ≡ 1 = s.only a (omega arith) h in
          let none : bit_at bits a ≡ 0 = z.2 a l in
          absurd (omega arith);
    }

no_start : (byte order : ℕ) → AreStarts byte order 0 → (a : ℕ) → a < 8 → block_free byte order a ≡ true → ⊥
no_start byte order s a lt h =
    let one : bit_at 0 a ≡ 1 = s.only a lt h in
    let none : bit_at 0 a ≡ 0 = bit_at-zero a in
    absurd (omega arith)

pub no_block : (used : List ℕ) (order : ℕ) → HasNoFrame used order → HasNoBlock used order
no_block used order none u b = none (u / 8) (u % 8) (place_frame used (place_at order u) b.place_free.lies) (omega arith) (to_block used order u b)

pub lowest_at : (used : List ℕ) (order frame bits : ℕ) → order ≤ 3 → IsFirstFrame used order frame → AreStarts (get_or used frame 0) order bits
    → IsLowestBlock used order (frame * 8 + trailing_zeros w8 bits)
lowest_at used order frame bits known first s =
    let ne : bits ≡ 0 → ⊥ = λ e.
    let empty : AreStarts (get_or used frame 0) order 0 = subst (λ (b : ℕ). AreStarts (get_or used frame 0) order b) e s in
    no_start (get_or used frame 0) order empty first.at first.at_lt first.block in
    let low : IsLowestStart (get_or used frame 0) order (trailing_zeros w8 bits) = lowest_start (get_or used frame 0) order bits s ne in
    let lt : trailing_zeros w8 bits < 8 = low.at_lt in
    let q : (frame * 8 + trailing_zeros w8 bits) / 8 ≡ frame = omega arith in
    let r : (frame * 8 + trailing_zeros w8 bits) % 8 ≡ trailing_zeros w8 bits = omega arith in
    let within : (frame * 8 + trailing_zeros w8 bits) / 8 < length used = rw q first.within in
    let here : block_free (get_or used ((frame * 8 + trailing_zeros w8 bits) / 8) 0) order ((frame * 8 + trailing_zeros w8 bits) % 8) ≡ true = rw (q, r) low.block in
    record {
      block = from_block used order (frame * 8 + trailing_zeros w8 bits) known within here;
      lowest = λ u b.
          let there : block_free (get_or used (u / 8) 0) order (u % 8) ≡ true = to_block used order u b in
          elim (cases_lt (u / 8) frame) [
            | inl l ↦ absurd (first.before (u / 8) (u % 8) l (omega arith) there)
            | inr ge ↦
                elim (cases_eq (u / 8) frame) [
                  | inl e ↦
                      let there2 : block_free (get_or used frame 0) order (u % 8) ≡ true = rw e at there in
                      elim (cases_lt (u % 8) (trailing_zeros w8 bits)) [
                        | inl l ↦ absurd (low.below (u % 8) l there2)
                        | inr ge2 ↦ omega arith
                      ]
                  | inr ne2 ↦ omega arith
                ]
          ];
    }

-- a free block of a place's order or a higher one
record HasBlock (used : List ℕ) (order : ℕ) : Type 0 where
  pub block : Place
  pub enough : order ≤ block.order
  pub is_free : IsFreeBlock used block

-- a free place lies in a free block: it is one, or its enclosing place is free
grow : (rest : ℕ) (used : List ℕ) (o u : ℕ) → o + rest ≡ 3 → IsFreePlace used (place_at o u) → HasBlock used o
grow zero used o u e free = record {
  block = place_at o u;
  enough = omega arith;
  is_free = record {
    place_free = free;
    alone = λ wider.
        let more : o + 1 ≤ 3 = wider.lies.known in
        absurd (omega arith);
  };
}
grow (suc rest) used o u e free =
    elim (cases_Bool (wider_free used o u)) [
      | inl h ↦
          let wider : IsFreePlace used (enclosing (place_at o u)) = from_wider used o u (omega arith) (place_frame used (place_at o u) free.lies) h in
          let found : HasBlock used (o + 1) = grow rest used (o + 1) _ (omega arith) wider in
          let more : o + 1 ≤ found.block.order = found.enough in
          record { block = found.block; enough = omega arith; is_free = found.is_free }
      | inr h ↦ record {
        block = place_at o u;
        enough = omega arith;
        is_free = record {
          place_free = free;
          alone = λ wider. both_ways (wider_free used o u) h (to_wider used o u wider);
        };
      }
    ]

-- where no order from one on has a free block, no place of that order is free
pub no_place : (used : List ℕ) (order : ℕ) → ((k u : ℕ) → order ≤ k → k < 4 → IsFreeBlock used (place_at k u) → ⊥) → HasNone used order
no_place used order none u free =
    let known : order ≤ 3 = free.lies.known in
    let found : HasBlock used order = grow (3 - order) used order u (omega arith) free in
    let low : found.block.order ≤ 3 = found.is_free.place_free.lies.known in
    none found.block.order found.block.unit found.enough (omega arith) found.is_free
