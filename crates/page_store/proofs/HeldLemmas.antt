-- The bytes of a block as a slice of the memory.
use Rattle.std.proofs.Common.{◌≡◌, ℕ, ◌+◌, ◌-◌, ◌≤◌, refl, ap, ◌∙◌, sym, arith, List, length, take, drop}
use borrow.Rule.Slice.PartMut.{put_mid}
use Rattle.std.proofs.lemmas.List.{take-take}
use Rattle.byte_parts.specs.Parts.{part}
use Rattle.byte_parts.proofs.PartLemmas.{put_mid_there, length-part}
use Rattle.page_slots.specs.Descs.{size_of}
use Rattle.page_store.specs.declared.room.Held.{Held}
use Rattle.page_store.specs.Rooms.{start_of, bytes_of, IsWithin}

part_take : (at n : ℕ) (bytes : List ℕ) → part at n bytes ≡ take n (drop at bytes)
unfolding part
part_take at n bytes = refl

-- the slice that a call is passed
pub block_part : (held : Held) (at n : ℕ) (memory : List ℕ) → at ≡ start_of held → n ≡ size_of held.shape → take (at + n - at) (drop at memory) ≡ bytes_of memory held
block_part held at n memory at_is n_is =
    let size : at + n - at ≡ size_of held.shape = omega arith in
    ap (λ (k : ℕ). take k (drop at memory)) size ∙ ap (λ (i : ℕ). take (size_of held.shape) (drop i memory)) at_is ∙ sym (part_take (start_of held) (size_of held.shape) memory)

-- what stands there after the call
pub block_there : (held : Held) (at n : ℕ) (memory ys : List ℕ) → at ≡ start_of held → n ≡ size_of held.shape → IsWithin memory held
    → length ys ≡ length (take (at + n - at) (drop at memory)) → bytes_of (put_mid at (at + n - at) memory ys) held ≡ ys
block_there held at n memory ys at_is n_is within same =
    let size : length (take (at + n - at) (drop at memory)) ≡ n = ap length (block_part held at n memory at_is n_is) ∙ length-part (start_of held) (size_of held.shape) memory within ∙ sym n_is in
    ap (λ (i : ℕ). part i (size_of held.shape) (put_mid at (at + n - at) memory ys)) (sym at_is)
    ∙ ap (λ (k : ℕ). part at k (put_mid at (at + n - at) memory ys)) (sym n_is)
    ∙ put_mid_there at (at + n - at) n memory ys (omega arith) (omega arith) (same ∙ size)

-- the first bytes of a block
pub first_bytes : (held : Held) (n : ℕ) (memory : List ℕ) → n ≤ size_of held.shape → part (start_of held) n memory ≡ take n (bytes_of memory held)
first_bytes held n memory few =
    part_take (start_of held) n memory ∙ sym (take-take n (size_of held.shape) (drop (start_of held) memory) few)
    ∙ ap (take n) (sym (part_take (start_of held) (size_of held.shape) memory))
