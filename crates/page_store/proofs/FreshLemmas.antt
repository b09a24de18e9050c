-- The store at its start.
use Rattle.std.proofs.Common.{◌≡◌, ◌<◌, ◌≤◌, ◌*◌, ◌/◌, ◌%◌, ◌∙◌, ℕ, zero, suc, Some, List, [], ◌∷◌, length, replicate, refl, sym, ap, subst, arith}
use Rattle.std.proofs.lemmas.List.{get_or-replicate, length-replicate}
use Rattle.std.proofs.lemmas.List.Elements.{All-replicate}
use Rattle.std.proofs.lemmas.Option.{none-some, slice_get-get_or}
use Rattle.byte_parts.specs.Parts.{part}
use Rattle.hier_types.specs.Lines.{zero_line}
use Rattle.hier_types.specs.Tabulate.{tabulate}
use Rattle.hier_types.specs.declared.counts.PageCounts.{PageCounts}
use Rattle.hier_types.specs.declared.settings.Codec.{Codec}
use Rattle.hier_types.proofs.TableLemmas.{tabulate-by_index}
use Rattle.page_plan.specs.KeptSizes.{kept_sizes}
use Rattle.page_slots.specs.declared.desc.Desc.TheVariants as descs
use Rattle.page_slots.specs.declared.desc.Shape.TheVariants.{Zero}
use Rattle.page_slots.specs.Descs.{line_of}
use Rattle.page_slots.specs.Sound.{IsSound as IsSoundPage}
use Rattle.page_store.specs.declared.room.Held.{Held}
use Rattle.page_store.specs.PageBlocks.{AreSound}
use Rattle.page_store.specs.Rooms.{IsShaped, all_bytes, all_lines, bytes_at, bytes_of, held_at, helds}
use Rattle.page_store.specs.Store.{IsKept, Store, desc_at, store_in}
use Rattle.page_store.proofs.StoreLemmas.{zero_page}

abbrev zero_held : Held
zero_held = record { shape = Zero; unit = 0 }

helds_zeros : (n : ℕ) → helds (replicate n descs.Zero) ≡ replicate n zero_held
helds_zeros zero = refl
helds_zeros (suc n) = ap (λ (pages : List Held). zero_held ∷ pages) (helds_zeros n)

zero_lines : (n : ℕ) → all_lines (replicate n zero_held) (replicate n []) ≡ replicate (64 * n) zero_line
zero_lines n =
    let pages : List Held = replicate n zero_held in
    let bytes : List (List ℕ) = replicate n [] in
    let many : 64 * length (replicate n zero_held) ≡ 64 * n = ap (λ (k : ℕ). 64 * k) (length-replicate n zero_held) in
    ap (tabulate (λ k. line_of (held_at (replicate n zero_held) (k / 64)).shape (bytes_at (replicate n []) (k / 64)) (k % 64))) many
    ∙ sym (tabulate-by_index [] (λ k. line_of (held_at (replicate n zero_held) (k / 64)).shape (bytes_at (replicate n []) (k / 64)) (k % 64)) (64 * n) (replicate (64 * n) zero_line) (length-replicate (64 * n) zero_line)
    (λ k k_in. get_or-replicate (64 * n) k zero_line [] k_in
    ∙ sym (ap (λ (h : Held). line_of h.shape (bytes_at (replicate n []) (k / 64)) (k % 64)) (get_or-replicate n (k / 64) zero_held zero_held (omega arith)))))

zero_bytes : (memory : List ℕ) (n : ℕ) → all_bytes memory (replicate n zero_held) ≡ replicate n []
zero_bytes memory zero = refl
zero_bytes memory (suc n) =
    let none : bytes_of memory zero_held ≡ [] = unfold part in refl in
    ap (λ (b : List ℕ). b ∷ all_bytes memory (replicate n zero_held)) none ∙ ap (λ (bs : List (List ℕ)). [] ∷ bs) (zero_bytes memory n)

module _ (codec : Codec) (memory : List ℕ) (pages : ℕ) (used : List ℕ) (ways : ℕ) (counts : PageCounts) where
  abbrev pub start : Store
  start = record {
    codec = codec;
    lines = replicate (64 * pages) zero_line;
    descriptors = replicate pages descs.Zero;
    bytes = replicate pages [];
    used = used;
    meta = record { ways = ways; lines = [] };
    counts = counts;
    stops = 0;
    cursor = 0;
  }

  bytes_are : all_bytes memory (helds (replicate pages descs.Zero)) ≡ replicate pages []
  bytes_are = ap (all_bytes memory) (helds_zeros pages) ∙ zero_bytes memory pages

  lines_are : all_lines (helds (replicate pages descs.Zero)) (replicate pages []) ≡ replicate (64 * pages) zero_line
  lines_are = ap (λ (hs : List Held). all_lines hs (replicate pages [])) (helds_zeros pages) ∙ zero_lines pages

  pub fresh_seen : store_in codec memory (replicate pages descs.Zero) used (record { ways = ways; lines = [] }) counts 0 0 ≡ start
  fresh_seen =
      let lines : all_lines (helds (replicate pages descs.Zero)) (all_bytes memory (helds (replicate pages descs.Zero))) ≡ replicate (64 * pages) zero_line =
      ap (all_lines (helds (replicate pages descs.Zero))) bytes_are ∙ lines_are in
      rw (lines, bytes_are) refl

  zero_desc : (page : ℕ) → page < pages → desc_at (replicate pages descs.Zero) page ≡ descs.Zero
  zero_desc page lt = get_or-replicate pages page descs.Zero descs.Zero lt

  zero_shape : (page : ℕ) → page < pages → held_at (helds (replicate pages descs.Zero)) page ≡ zero_held
  zero_shape page lt = ap (λ (hs : List Held). held_at hs page) (helds_zeros pages) ∙ get_or-replicate pages page zero_held zero_held lt

  pub kept_fresh : 1 ≤ pages → pages ≤ 65536 → AreSound (replicate pages descs.Zero) used → length memory ≡ 4096 * length used
      → IsKept (store_in codec memory (replicate pages descs.Zero) used (record { ways = ways; lines = [] }) counts 0 0) memory (replicate pages (kept_sizes codec (replicate 64 zero_line)))
  kept_fresh some most sound long =
      let counted : length (replicate pages descs.Zero) ≡ pages = length-replicate pages descs.Zero in
      let made : IsKept start memory (replicate pages (kept_sizes codec (replicate 64 zero_line))) = record {
        sound = record {
          some = omega arith;
          most = omega arith;
          whole = length-replicate (64 * pages) zero_line ∙ ap (λ n. 64 * n) (sym counted);
          lines_are = All-replicate (λ line. length line ≡ 64) (64 * pages) zero_line refl;
          blocks_are = sound;
          shaped = λ page lt. subst IsShaped (sym (zero_desc page (omega arith))) tt;
          paged = length-replicate pages [] ∙ sym counted;
          pages_are = λ page lt. subst (λ (h : Held). IsSoundPage codec h.shape (bytes_at (replicate pages []) page)) (sym (zero_shape page (omega arith)))
              (let none : bytes_at (replicate pages []) page ≡ [] = get_or-replicate pages page [] [] (omega arith) in ap length none);
          says = sym lines_are;
          copies = λ page e is. absurd (none-some e is);
          distinct = tt;
          cursor_in = omega (arith, counted);
        };
        stands = sym bytes_are;
        in_memory = long;
        counted = length-replicate pages (kept_sizes codec (replicate 64 zero_line)) ∙ sym counted;
        sized = λ page lt.
            let sizes = kept_sizes codec (replicate 64 zero_line) in
            let below : page < pages = omega (arith, length-replicate pages sizes) in
            slice_get-get_or (replicate pages sizes) page [] lt ∙ ap Some (get_or-replicate pages page sizes [] below)
            ∙ ap (λ lines. Some (kept_sizes codec lines)) (sym (zero_page pages page below));
      } in
      subst (λ (t : Store). IsKept t memory (replicate pages (kept_sizes codec (replicate 64 zero_line)))) (sym fresh_seen) made
