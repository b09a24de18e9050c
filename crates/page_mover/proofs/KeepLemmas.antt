-- Pages that keep their lines.
use Rattle.std.proofs.Common.{◌≡◌, ℕ, ◌-◌, ◌*◌, ◌≤◌, All, ap, ◌∙◌, sym, subst, arith, List, [], ◌++◌, length, get_or, take, drop}
use Rattle.std.proofs.lemmas.List.{same_lists, length-take, take-append-le, take_all}
use Rattle.hier_types.specs.declared.settings.Codec.{Codec}
use Rattle.hier_types.specs.Lines.{zero_line}
use Rattle.hier_types.proofs.TableLemmas.{length-tabulate, tabulate-by_index}
use Rattle.byte_parts.specs.Parts.{part}
use Rattle.byte_parts.proofs.PartLemmas.{length-part, get_or-part}
use Rattle.line_codec.specs.Layout.{cap}
use Rattle.page_slots.specs.declared.desc.Shape.{Shape}
use Rattle.page_slots.specs.declared.desc.Shape.TheVariants.{Zero, Slotted}
use Rattle.page_slots.specs.declared.desc.Slots.{Slots}
use Rattle.page_slots.specs.declared.desc.Slots.TheVariants.{Packed}
use Rattle.page_slots.specs.Descs.{content_of, line_of, size_of}
use Rattle.page_slots.specs.Laid.{IsLaid, IsPackedSize}
use Rattle.page_slots.specs.Sound.{IsSlotted, IsSound}
use Rattle.page_slots.proofs.ContentLemmas.{size_sound}
use Rattle.page_slots.proofs.FrontLemmas.{halved}
use Rattle.page_mover.specs.Moves.{body, CanHalve, Keeps}

pub part_all : (n : ℕ) (bytes : List ℕ) → length bytes ≡ n → part 0 n bytes ≡ bytes
part_all n bytes e = same_lists (part 0 n bytes) bytes (length-part 0 n bytes (omega arith) ∙ sym e)
    (λ k d within. get_or-part 0 n bytes k d (omega (arith, length-part 0 n bytes (omega arith))) ∙ ap (λ (j : ℕ). get_or bytes j d) (omega arith))

-- a sound page has all of its bytes
pub body_all : (codec : Codec) (shape : Shape) (bytes : List ℕ) → IsSound codec shape bytes → body shape bytes ≡ bytes
body_all codec shape bytes sound = part_all (size_of shape) bytes (size_sound codec shape bytes sound)

-- the whole block is kept
pub keeps_whole : (codec : Codec) (lines : List (List ℕ)) (next : Shape) (new : List ℕ) → IsSound codec next new → content_of next new ≡ lines → Keeps codec lines next new
keeps_whole codec lines next new sound same =
    let all = body_all codec next new sound in
    record { sound = subst (IsSound codec next) (sym all) sound; content = ap (content_of next) all ∙ same }

-- a page of zeros needs no block
pub keeps_zeros : (codec : Codec) (shape : Shape) (old new : List ℕ) → All (λ line. line ≡ zero_line) (content_of shape old) → Keeps codec (content_of shape old) Zero new
keeps_zeros codec shape old new zeros = record {
  sound = length-part 0 0 new (omega arith);
  content = sym (tabulate-by_index [] (λ i. zero_line) 64 (content_of shape old) (length-tabulate (line_of shape old) 64)
      (λ k lt. zeros k [] (omega (arith, length-tabulate (line_of shape old) 64))));
}

pub halved_at : (codec : Codec) (slots : Slots) (k t : ℕ) (bytes : List ℕ) → slots ≡ Packed k t → IsSlotted codec slots bytes → CanHalve slots bytes
    → Keeps codec (content_of (Slotted slots) bytes) (Slotted (Packed (k - 1) t)) bytes
halved_at codec slots k t bytes e sound can =
    let can' : CanHalve (Packed k t) bytes = subst (λ (s : Slots). CanHalve s bytes) e can in
    let half = halved codec k t bytes (subst (λ (s : Slots). IsSlotted codec s bytes) e sound) can'.0 can'.1.0 can'.1.1 in
    rw e (record { sound = half.sound; content = half.content })

front_put : (n : ℕ) (ys zs : List ℕ) → length ys ≡ n → part 0 n (ys ++ zs) ≡ ys
unfolding part
front_put n ys zs e = take-append-le n ys zs (omega arith) ∙ take_all n ys (omega arith)

-- a page that is laid in the front of a block
pub laid_front : (codec : Codec) (k t n : ℕ) (lines : List (List ℕ)) (bytes new : List ℕ) → n ≡ 64 * cap k → k ≤ 2 → n ≤ length bytes → length new ≡ length (take n bytes)
    → (IsPackedSize k (length (take n bytes)) → IsLaid codec k t lines new) → IsLaid codec k t lines (part 0 (64 * cap k) (new ++ drop n bytes))
laid_front codec k t n lines bytes new is order_in within same laid =
    let size : length (take n bytes) ≡ n = omega (arith, length-take n bytes) in
    subst (IsLaid codec k t lines) (sym (front_put (64 * cap k) new (drop n bytes) (same ∙ size ∙ is))) (laid (order_in, size ∙ is))
