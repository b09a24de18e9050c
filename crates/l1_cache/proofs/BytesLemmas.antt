-- The bytes of a level, and the held line among them.
use Rattle.std.proofs.Common.{◌≡◌, ◌<◌, ◌-◌, ◌*◌, ◌%◌, ℕ, List, [], Some, length, length-set, set, get_or, sym, ap, ◌∙◌, subst, arith, Option}
use Rattle.std.specs.List.{slice_get}
use Rattle.std.specs.Option.{IfSome}
use Rattle.std.proofs.lemmas.Option.{get_or_from_slice_get, slice_get_within}
use Rattle.hier_types.specs.Lines.{flatten}
use Rattle.hier_types.specs.PortCalls.{IsHeld}
use Rattle.hier_types.specs.Span.{Span, first, Has, line_at}
use Rattle.hier_types.proofs.LineLemmas.{length-flatten, byte_of_line, flatten-set, line_of_lines}
use Rattle.recency.specs.Kept.{Kept, overwritten, poked}
use Rattle.recency.specs.Levels.{set_of, with_set, kept_of, overlay, IsFirst, FirstHas}
use Rattle.recency.proofs.LevelLemmas.{length-overlay, whole_overlay}
use Rattle.recency.proofs.FirstLemmas.{by_first, first_kept, first_shown, poked_over, over_sound, over_written, over_first}
use Rattle.l1_cache.specs.FirstLevel.{IsFirstLevel}
use Rattle.l1_cache.proofs.StepLemmas.{only_held}

-- one byte for each address of the span
pub sized : {lines : List (List ℕ)} {sets : List Kept} {held : Option ℕ} {span : Span} (level : IsFirstLevel lines sets held span) → length (flatten (overlay lines sets)) ≡ 4096 * span.pages
sized {lines} {sets} level =
    let size = level.size in
    omega (arith, length-flatten (overlay lines sets) (whole_overlay lines sets level.sound), length-overlay lines sets)

-- the held line
module _ {lines : List (List ℕ)} {sets : List Kept} {held : Option ℕ} {span : Span} (level : IsFirstLevel lines sets held span) (line : ℕ) (is : IsHeld held line) where
  pub held_first : IsFirst sets line
  held_first = level.first line is

  held_kept : kept_of sets line ≡ Some held_first.first
  held_kept = first_kept (set_of sets line).lines held_first.first line held_first.here held_first.line_is

  pub held_shown : line < length lines → slice_get (overlay lines sets) line ≡ Some held_first.first.bytes
  held_shown inside = first_shown lines sets line held_first.first inside held_first.here held_first.line_is

  pub held_full : line < length lines → length held_first.first.bytes ≡ 64
  held_full inside = line_of_lines (overlay lines sets) line held_first.first.bytes (whole_overlay lines sets level.sound) (held_shown inside)

  pub held_some : 0 < length (set_of sets line).lines
  held_some = slice_get_within (set_of sets line).lines 0 held_first.first held_first.here

  -- the most recent line of the set was changed, which is this one
  pub over_here : (bytes : List ℕ) (new : List Kept) → IfSome (slice_get (set_of sets line).lines 0) (λ e. new ≡ with_set sets line (overwritten (set_of sets line).lines e.line bytes))
      → new ≡ with_set sets line (overwritten (set_of sets line).lines line bytes)
  over_here bytes new is = by_first sets new line (λ l. overwritten (set_of sets line).lines l bytes) held_first is

  pub over_level : (bytes : List ℕ) → length bytes ≡ 64 → IsFirstLevel lines (with_set sets line (overwritten (set_of sets line).lines line bytes)) held span
  over_level bytes full = record {
    sound = over_sound lines sets line bytes level.sound full;
    first = only_held held line is (over_first lines sets line bytes level.sound held_first);
    size = level.size;
  }

  pub over_lines : (bytes : List ℕ) → line < length lines → overlay lines (with_set sets line (overwritten (set_of sets line).lines line bytes)) ≡ set (overlay lines sets) line bytes
  over_lines bytes inside = over_written lines sets line bytes level.sound held_first.first held_kept inside

  pub copied : (bytes : List ℕ) → line < length lines → IfSome (slice_get (set_of sets line).lines 0) (λ e. bytes ≡ e.bytes) → slice_get (overlay lines sets) line ≡ Some bytes
  copied bytes inside is = held_shown inside ∙ ap Some (sym (rw held_first.here at is))

  pub copied_first : (bytes : List ℕ) → IfSome (slice_get (set_of sets line).lines 0) (λ e. bytes ≡ e.bytes) → FirstHas sets line bytes
  copied_first bytes is = record { first = held_first.first; here = held_first.here; line_is = held_first.line_is; has = sym (rw held_first.here at is) }

-- an address of the held line
module _ {lines : List (List ℕ)} {sets : List Kept} {held : Option ℕ} {span : Span} (level : IsFirstLevel lines sets held span) (at : ℕ) (has : Has span at) (is : IsHeld held (line_at span at)) where
  at_inside : line_at span at < length lines
  at_inside = let size = level.size in let low = has.0 in let high = has.1 in omega arith

  bytes_at : get_or (overlay lines sets) (line_at span at) [] ≡ (held_first level (line_at span at) is).first.bytes
  bytes_at = get_or_from_slice_get (overlay lines sets) (line_at span at) _ [] (held_shown level (line_at span at) is at_inside)

  pub peeked : (byte : ℕ) → IfSome (slice_get (set_of sets (line_at span at)).lines 0) (λ e. byte ≡ get_or e.bytes ((at - first span) % 64) 0) → byte ≡ get_or (flatten (overlay lines sets)) (at - first span) 0
  peeked byte h =
      let here = (held_first level (line_at span at) is).here in
      (rw here at h) ∙ sym (byte_of_line (overlay lines sets) (line_at span at) ((at - first span) % 64) (at - first span) (whole_overlay lines sets level.sound)
      (omega (arith, at_inside, length-overlay lines sets)) (omega arith) (omega arith) ∙ ap (λ bytes. get_or bytes ((at - first span) % 64) 0) bytes_at)

  pub poked_here : (byte : ℕ) (new : List Kept) → IfSome (slice_get (set_of sets (line_at span at)).lines 0) (λ e. new ≡ with_set sets (line_at span at) (poked (set_of sets (line_at span at)).lines e.line ((at - first span) % 64) byte))
      → new ≡ with_set sets (line_at span at) (poked (set_of sets (line_at span at)).lines (line_at span at) ((at - first span) % 64) byte)
  poked_here byte new h = by_first sets new (line_at span at) (λ l. poked (set_of sets (line_at span at)).lines l ((at - first span) % 64) byte) (held_first level (line_at span at) is) h

  poked_as : (byte : ℕ) → poked (set_of sets (line_at span at)).lines (line_at span at) ((at - first span) % 64) byte ≡ overwritten (set_of sets (line_at span at)).lines (line_at span at) (set (get_or (overlay lines sets) (line_at span at) []) ((at - first span) % 64) byte)
  poked_as byte =
      poked_over (set_of sets (line_at span at)).lines (line_at span at) ((at - first span) % 64) byte (held_first level (line_at span at) is).first (held_kept level (line_at span at) is)
      ∙ ap (λ bytes. overwritten (set_of sets (line_at span at)).lines (line_at span at) (set bytes ((at - first span) % 64) byte)) (sym bytes_at)

  pub poked_bytes : (byte : ℕ) → flatten (overlay lines (with_set sets (line_at span at) (poked (set_of sets (line_at span at)).lines (line_at span at) ((at - first span) % 64) byte))) ≡ set (flatten (overlay lines sets)) (at - first span) byte
  poked_bytes byte =
      ap (λ es. flatten (overlay lines (with_set sets (line_at span at) es))) (poked_as byte)
      ∙ ap flatten (over_lines level (line_at span at) is (set (get_or (overlay lines sets) (line_at span at) []) ((at - first span) % 64) byte) at_inside)
      ∙ flatten-set (overlay lines sets) (line_at span at) ((at - first span) % 64) (at - first span) byte (whole_overlay lines sets level.sound)
      (omega (arith, at_inside, length-overlay lines sets)) (omega arith) (omega arith)

  pub poked_level : (byte : ℕ) → IsFirstLevel lines (with_set sets (line_at span at) (poked (set_of sets (line_at span at)).lines (line_at span at) ((at - first span) % 64) byte)) held span
  poked_level byte =
      subst (λ es. IsFirstLevel lines (with_set sets (line_at span at) es) held span) (sym (poked_as byte))
      (over_level level (line_at span at) is (set (get_or (overlay lines sets) (line_at span at) []) ((at - first span) % 64) byte)
      (rw (length-set, bytes_at) (held_full level (line_at span at) is at_inside)))
