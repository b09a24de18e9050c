-- Pages that are written whole.
use Rattle.std.specs.Prelude.{ℕ, zero, suc, All, ◌≡◌, ◌<◌, ◌≤◌, ◌*◌, ◌/◌, ◌%◌, List, [], take, replicate, slice_index, slice_index_or, if◌then◌else◌}
use Rattle.hier_types.specs.Lines.{zero_line}
use Rattle.hier_types.specs.Tabulate.{tabulate}
use Rattle.hier_types.specs.declared.settings.Codec.{Codec}
use Rattle.line_codec.specs.Layout.{IsTarget, cap, stored_sizes, chunks_of}
use Rattle.line_codec.specs.Slots.{fits}
use Rattle.page_slots.specs.declared.desc.Shape.{Shape}
use Rattle.page_slots.specs.declared.desc.Shape.TheVariants.{Zero, Raw, Slotted}
use Rattle.page_slots.specs.declared.desc.Slots.{Slots}
use Rattle.page_slots.specs.declared.desc.Slots.TheVariants.{Packed, Mid}
use Rattle.page_slots.specs.declared.form.Form.{Form}
use Rattle.page_slots.specs.Descs.{content_of}
use Rattle.page_slots.specs.Forms.{form_of, order_of, room}
use Rattle.page_slots.specs.Lines.{meta, chunk_of, HasLine}
use Rattle.page_slots.specs.Puts.{in_slot, in_chunk}
use Rattle.page_slots.specs.Sound.{IsSound}

-- a packed page's block of this order has so many bytes
abbrev pub IsPackedSize : ℕ → ℕ → Type 0
IsPackedSize order size = (order ≤ 2) × (size ≡ 64 * cap order)

-- the chunk after the slots and the exceptions among the first n lines
abbrev pub next_chunk : Codec → ℕ → List (List ℕ) → ℕ → ℕ
next_chunk codec target lines n = chunks_of (take n (stored_sizes codec lines)) target

-- a block of zeros into which the first n lines were put, the exceptions among them in line order behind the slots
unfoldable pub laid : Codec → Form → List (List ℕ) → ℕ → List ℕ
laid codec form lines zero = replicate (64 * form.chunks) 0
laid codec form lines (suc n) =
    if fits codec (room form n) (slice_index_or lines n [])
    then in_slot codec form n (slice_index_or lines n []) (laid codec form lines n)
    else in_chunk n (slice_index_or lines n []) (next_chunk codec form.large lines n) (laid codec form lines n)

-- the first n lines are laid, with the exceptions in line order
pub record LaidUpTo (codec : Codec) (form : Form) (lines : List (List ℕ)) (n : ℕ) (bytes : List ℕ) : Type 0 where
  pub is : bytes ≡ laid codec form lines n
  pub has : (i : ℕ) → i < n → HasLine codec form bytes i (slice_index_or lines i [])
  pub in_order : (i : ℕ) → i < n → 128 ≤ meta bytes i → chunk_of (meta bytes i) ≡ next_chunk codec form.large lines i
  pub used : (i : ℕ) → i < n → 128 ≤ meta bytes i → chunk_of (meta bytes i) < next_chunk codec form.large lines n
  pub rising : (i j : ℕ) → i < j → j < n → 128 ≤ meta bytes i → 128 ≤ meta bytes j → chunk_of (meta bytes i) < chunk_of (meta bytes j)

-- the bytes of a page whose lines are new: nothing but zeros stands where no line does
abbrev pub bytes_for : Codec → Shape → List (List ℕ) → List ℕ
bytes_for codec Zero lines = []
bytes_for codec Raw lines = tabulate (λ i. slice_index (slice_index_or lines (i / 64) []) (i % 64)) 4096
bytes_for codec (Slotted slots) lines = laid codec (form_of slots) lines 64

-- a block of so many bytes is one for a page of this shape with these lines; no half-moved page is laid
abbrev pub HasRoomFor : Codec → Shape → List (List ℕ) → ℕ → Type 0
HasRoomFor codec Zero lines size = (size ≡ 0) × All (λ line. line ≡ zero_line) lines
HasRoomFor codec Raw lines size = size ≡ 4096
HasRoomFor codec (Slotted (Packed order target)) lines size = IsPackedSize order size × (IsTarget target × (chunks_of (stored_sizes codec lines) target ≤ cap order))
HasRoomFor codec (Slotted (Mid order small large at)) lines size = ⊥

-- the packed page has the lines, with the exceptions in line order in the chunks behind the slots
pub record IsLaid (codec : Codec) (order target : ℕ) (lines : List (List ℕ)) (bytes : List ℕ) : Type 0 where
  pub sound : IsSound codec (Slotted (Packed order target)) bytes
  pub content : content_of (Slotted (Packed order target)) bytes ≡ lines
  pub in_order : (i : ℕ) → i < 64 → 128 ≤ meta bytes i → chunk_of (meta bytes i) ≡ next_chunk codec target lines i
  pub bytes_are : bytes ≡ bytes_for codec (Slotted (Packed order target)) lines

-- the block of a sound page in slots has chunks enough for its lines to be laid in it with the larger slots
abbrev pub SlottedPagesHaveRoom : Type 0
SlottedPagesHaveRoom = (codec : Codec) (slots : Slots) (bytes : List ℕ) → IsSound codec (Slotted slots) bytes
    → chunks_of (stored_sizes codec (content_of (Slotted slots) bytes)) (form_of slots).large ≤ cap (order_of slots)
