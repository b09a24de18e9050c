-- The room of a set after a step, and a set among the others.
use Rattle.std.proofs.Common.{◌≡◌, ◌<◌, ◌+◌, ◌-◌, ◌*◌, ◌%◌, ◌==◌, ℕ, suc, true, false, List, [], ◌∷◌, Option, Some, None, length, set, get_or, drop, nat_lt, nat_le, ◌&&◌, replicate, zero, refl, sym, ap, ◌∙◌, subst, arith, if◌then◌else◌}
use Rattle.std.specs.Option.{IfNone}
use Rattle.std.proofs.lemmas.List.{length-map, get_or-map, map-set, get_or_default, drop_more}
use Rattle.std.proofs.lemmas.List.Elements.{All-get_or, All-replicate}
use Rattle.std.proofs.lemmas.Option.{unwrap_or-slice_get}
use Rattle.hier_types.specs.declared.settings.Codec.{Codec}
use Rattle.hier_types.specs.Settings.{IsWithin, IsPowerOfTwo}
use Rattle.recency.specs.declared.entry.Entry.{Entry}
use Rattle.recency.specs.Uses.{last_of}
use Rattle.recency.specs.Kept.{Kept, with_lines, entry_of, without, touched, touched_by, cleaned, clean_in, last_dirty}
use Rattle.recency.specs.Levels.{set_at, set_of, with_set}
use Rattle.recency.specs.Steps.{next_dirty, next_dirty_or}
use Rattle.recency.proofs.LevelLemmas.{masked_sets}
use Rattle.l2_cache.specs.PackedSet.{KeptUnder, holding, kept_sets}
use Rattle.l2_cache.specs.Room.{segments, segments_sum, has_space}
use Rattle.l2_cache.specs.SecondLevel.{AreRooms}

module _ (size : List ℕ → ℕ) where
  pub sum-split : (es : List Entry) (line : ℕ) (e : Entry) → entry_of es line ≡ Some e → segments size e.bytes + segments_sum size (without es line) ≡ segments_sum size es
  sum-split [] line e is = absurd (let h = is in cc)
  sum-split (f ∷ es) line e is = elim (f.line == line) as (λ t. (if t then Some f else entry_of es line) ≡ Some e → segments size e.bytes + segments_sum size (if t then es else f ∷ without es line) ≡ segments_sum size (f ∷ es)) [
    | true ↦ λ h. (let same : f ≡ e = cc in ap (λ (z : Entry). segments size z.bytes + segments_sum size es) (sym same))
    | false ↦ λ h. (let rest = sum-split es line e h in omega arith)
  ] is

  pub sum-absent : (es : List Entry) (line : ℕ) → entry_of es line ≡ None → segments_sum size (without es line) ≡ segments_sum size es
  sum-absent [] line is = refl
  sum-absent (f ∷ es) line is = elim (f.line == line) as (λ t. (if t then Some f else entry_of es line) ≡ None → segments_sum size (if t then es else f ∷ without es line) ≡ segments_sum size (f ∷ es)) [
    | true ↦ λ h. absurd (let k = h in cc)
    | false ↦ λ h. ap (λ n. segments size f.bytes + n) (sum-absent es line h)
  ] is

  pub sum_clean : (es : List Entry) (line : ℕ) → segments_sum size (clean_in es line) ≡ segments_sum size es
  sum_clean [] line = refl
  sum_clean (e ∷ es) line = let rest = sum_clean es line in elim (e.line == line) as (λ t. segments_sum size ((if t then cleaned e else e) ∷ clean_in es line) ≡ segments_sum size (e ∷ es)) [ true ↦ omega arith | false ↦ omega arith ]

  pub sum_touched : (es : List Entry) (line : ℕ) → segments_sum size (touched es line) ≡ segments_sum size es
  sum_touched es line = elim (entry_of es line) as (λ o. entry_of es line ≡ o → segments_sum size (touched_by o es line) ≡ segments_sum size es) [ None ↦ λ h. refl | Some e ↦ λ h. sum-split es line e h ] refl

pub length-split : (es : List Entry) (line : ℕ) (e : Entry) → entry_of es line ≡ Some e → suc (length (without es line)) ≡ length es
length-split [] line e is = absurd (let h = is in cc)
length-split (f ∷ es) line e is = elim (f.line == line) as (λ t. (if t then Some f else entry_of es line) ≡ Some e → suc (length (if t then es else f ∷ without es line)) ≡ length (f ∷ es)) [
  | true ↦ λ h. refl
  | false ↦ λ h. (let rest = length-split es line e h in omega arith)
] is

pub length-absent : (es : List Entry) (line : ℕ) → entry_of es line ≡ None → length (without es line) ≡ length es
length-absent [] line is = refl
length-absent (f ∷ es) line is = elim (f.line == line) as (λ t. (if t then Some f else entry_of es line) ≡ None → length (if t then es else f ∷ without es line) ≡ length (f ∷ es)) [
  | true ↦ λ h. absurd (let k = h in cc)
  | false ↦ λ h. ap suc (length-absent es line h)
] is

-- the test of room, by numbers that are known
pub space_test : (size : List ℕ → ℕ) (tags : ℕ) {ways count needed taken : ℕ} (bytes : List ℕ) (es : List Entry) → ways ≡ tags → count ≡ length es → needed ≡ segments size bytes → taken ≡ segments_sum size es
    → (nat_lt count tags && nat_le (needed + taken) (4 * tags)) ≡ has_space size ways bytes es
space_test size tags bytes es same many own others = cc

pub last_none : (es : List Entry) → last_of es ≡ None → es ≡ []
last_none [] is = refl
last_none (e ∷ []) is = absurd (let k = is in cc)
last_none (e ∷ f ∷ es) is = absurd (let k : f ∷ es ≡ [] = last_none (f ∷ es) is in cc)

pub if_some : (found : Option Entry) (P : Type 0) → (found ≡ None → ⊥) → IfNone found P
if_some None P some = absurd (some refl)
if_some (Some e) P some = tt

-- a set among the others, as its index gives it
module _ (sets : List KeptUnder) (line index : ℕ) (found : KeptUnder) (at : index ≡ line % length sets) (inside : index < length sets) (is : found ≡ get_or sets index found) where
  same_index : line % length (kept_sets sets) ≡ index
  same_index = ap (λ n. line % n) (length-map sets (λ (k : KeptUnder). k.kept)) ∙ sym at

  pub set_of-kept : set_of (kept_sets sets) line ≡ found.kept
  set_of-kept =
      ap (set_at (kept_sets sets)) same_index ∙ unwrap_or-slice_get (kept_sets sets) index (record { ways = 0; lines = [] })
      ∙ get_or-map (λ (k : KeptUnder). k.kept) sets index found (record { ways = 0; lines = [] }) inside ∙ ap (λ (k : KeptUnder). k.kept) (sym is)

  with_set-kept : (lines : List Entry) → kept_sets (set sets index (holding found lines)) ≡ with_set (kept_sets sets) line lines
  with_set-kept lines =
      map-set (λ (k : KeptUnder). k.kept) sets index (holding found lines)
      ∙ ap (λ i. set (kept_sets sets) i (with_lines found.kept lines)) (sym same_index)
      ∙ ap (λ k. set (kept_sets sets) (line % length (kept_sets sets)) (with_lines k lines)) (sym set_of-kept)

  -- the set takes a step
  pub stepped : (step : List Entry → List Entry) (new : KeptUnder) → new ≡ holding found (step found.kept.lines) → kept_sets (set sets index new) ≡ with_set (kept_sets sets) line (step (set_of (kept_sets sets) line).lines)
  stepped step new did =
      ap (λ n. kept_sets (set sets index n)) did ∙ with_set-kept (step found.kept.lines)
      ∙ ap (λ (k : Kept). with_set (kept_sets sets) line (step k.lines)) (sym set_of-kept)

-- a flush passes a set by, or stops at it
pub next_at : (sets : List KeptUnder) (index : ℕ) (found : KeptUnder) → index < length sets → found ≡ get_or sets index found
    → next_dirty (drop index (kept_sets sets)) ≡ next_dirty_or (last_dirty found.kept.lines) (drop (index + 1) (kept_sets sets))
next_at sets index found inside is =
    let count = length-map sets (λ (k : KeptUnder). k.kept) in
    let within : index < length (kept_sets sets) = omega arith in
    ap next_dirty (drop_more (kept_sets sets) index found.kept within)
    ∙ ap (λ (k : Kept). next_dirty_or (last_dirty k.lines) (drop (index + 1) (kept_sets sets))) (get_or-map (λ (k : KeptUnder). k.kept) sets index found found.kept inside ∙ ap (λ (k : KeptUnder). k.kept) (sym is))

kept_sets-replicate : (n : ℕ) (k : KeptUnder) → kept_sets (replicate n k) ≡ replicate n k.kept
kept_sets-replicate zero k = refl
kept_sets-replicate (suc n) k = ap (λ ks. k.kept ∷ ks) (kept_sets-replicate n k)

-- sets that were just made
pub rooms_made : (made : List KeptUnder) (codec : Codec) (sets ways : ℕ) → made ≡ replicate sets (record { codec = codec; kept = record { ways = 2 * ways; lines = [] } }) → IsPowerOfTwo 4096 sets → IsWithin 1 16 ways
    → AreRooms codec (2 * ways) (sets - 1) made
rooms_made made codec sets ways are power within =
    let k : KeptUnder = record { codec = codec; kept = record { ways = 2 * ways; lines = [] } } in
    record {
      two = omega arith;
      few = omega arith;
      masked = masked_sets (kept_sets made) sets k.kept (ap kept_sets are ∙ kept_sets-replicate sets k) power;
      alike = rw are (All-replicate (λ (s : KeptUnder). (s.codec ≡ codec) × (s.kept.ways ≡ 2 * ways)) sets k (refl, refl));
    }

pub kept_made : (made : List KeptUnder) (codec : Codec) (sets ways : ℕ) → made ≡ replicate sets (record { codec = codec; kept = record { ways = ways; lines = [] } }) → kept_sets made ≡ replicate sets (record { ways = ways; lines = [] })
kept_made made codec sets ways are = ap kept_sets are ∙ kept_sets-replicate sets (record { codec = codec; kept = record { ways = ways; lines = [] } })

module _ {codec : Codec} {tags mask : ℕ} {sets : List KeptUnder} (rooms : AreRooms codec tags mask sets) where
  pub alike_at : (index : ℕ) (found : KeptUnder) → index < length sets → found ≡ get_or sets index found → (found.codec ≡ codec) × (found.kept.ways ≡ tags)
  alike_at index found inside is = subst (λ (k : KeptUnder). (k.codec ≡ codec) × (k.kept.ways ≡ tags)) (sym is) (All-get_or (λ (k : KeptUnder). (k.codec ≡ codec) × (k.kept.ways ≡ tags)) sets index found inside rooms.alike)

  pub ways_are : (line : ℕ) → (set_of (kept_sets sets) line).ways ≡ tags
  ways_are line =
      let count = length-map sets (λ (k : KeptUnder). k.kept) in
      let size = rooms.masked.size in
      let inside : line % length sets < length sets = omega arith in
      let unseen : KeptUnder = record { codec = codec; kept = record { ways = 0; lines = [] } } in
      let here = get_or_default sets (line % length sets) unseen (get_or sets (line % length sets) unseen) inside in
      ap (λ (k : Kept). k.ways) (set_of-kept sets line (line % length sets) (get_or sets (line % length sets) unseen) refl inside here)
      ∙ (alike_at (line % length sets) (get_or sets (line % length sets) unseen) inside here).1

  pub within : (index : ℕ) → index < mask + 1 → index < length sets
  within index below = let count = length-map sets (λ (k : KeptUnder). k.kept) in let size = rooms.masked.size in omega arith
