-- The lines that a sound page says.
use Rattle.std.proofs.Common.{◌≡◌, ℕ, ◌*◌, ◌<◌, ◌∙◌, ap, sym, arith, List, length}
use Rattle.std.proofs.lemmas.List.{length-replicate}
use Rattle.hier_types.specs.declared.settings.Codec.{Codec}
use Rattle.hier_types.specs.Lines.{AreLines}
use Rattle.hier_types.proofs.TableLemmas.{length-tabulate, get_or-tabulate}
use Rattle.byte_parts.proofs.PartLemmas.{length-part}
use Rattle.page_slots.specs.declared.desc.Shape.{Shape}
use Rattle.page_slots.specs.declared.desc.Shape.TheVariants.{Zero, Raw, Slotted}
use Rattle.page_slots.specs.Descs.{content_of, line_of, size_of}
use Rattle.page_slots.specs.Sound.{IsSound}
use Rattle.page_slots.proofs.FormLemmas.{chunks_are}

content_line : (codec : Codec) (shape : Shape) (bytes : List ℕ) (i : ℕ) → i < 64 → IsSound codec shape bytes → length (line_of shape bytes i) ≡ 64
content_line codec Zero bytes i i_in sound = length-replicate {A = ℕ} 64 0
content_line codec Raw bytes i i_in sound = length-part (64 * i) 64 bytes (omega (arith, sound))
content_line codec (Slotted slots) bytes i i_in sound = (sound.lines.has i i_in).whole

-- each has 64 bytes
pub content_lines : (codec : Codec) (shape : Shape) (bytes : List ℕ) → IsSound codec shape bytes → AreLines (content_of shape bytes)
content_lines codec shape bytes sound k d lt =
    let below : k < 64 = omega (arith, length-tabulate (line_of shape bytes) 64) in
    ap length (get_or-tabulate d (line_of shape bytes) 64 k below) ∙ content_line codec shape bytes k below sound

-- the bytes of a sound page are as many as its shape has
pub size_sound : (codec : Codec) (shape : Shape) (bytes : List ℕ) → IsSound codec shape bytes → length bytes ≡ size_of shape
size_sound codec Zero bytes sound = sound
size_sound codec Raw bytes sound = sound
size_sound codec (Slotted slots) bytes sound = sound.holds.is_size ∙ ap (λ (n : ℕ). 64 * n) (sym (chunks_are slots))
