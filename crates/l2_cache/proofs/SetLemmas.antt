-- What a set of packed lines keeps, when a slot is used, filled, emptied or marked.
use Rattle.std.proofs.Common.{◌≡◌, ◌≢◌, ◌<◌, ◌+◌, ◌*◌, ℕ, Bool, true, false, List, [], ◌∷◌, Option, Some, None, length, length-set, set, get_or, refl, sym, ap, ◌∙◌, subst, arith, if◌then◌else◌, nat_lt, get_or-set_same, get_or-set_other}
use Rattle.std.specs.Option.{IfSome}
use Rattle.std.proofs.lemmas.Bool.{lt-ltb}
use Rattle.hier_types.specs.declared.settings.Codec.{Codec}
use Rattle.line_codec.specs.Slots.{size_under}
use Rattle.recency.specs.declared.entry.Entry.{Entry}
use Rattle.recency.specs.declared.entry.Tag.{Tag}
use Rattle.recency.specs.Uses.{Used, has, removed, but_last}
use Rattle.recency.specs.Kept.{entry_of, last_dirty_from}
use Rattle.recency.specs.Slots.{tag_at, entry_at, entries_of}
use Rattle.recency.proofs.UseLemmas.{by_eq, has_front, has_past, has_apart, has-removed, has-removed_other}
use Rattle.recency.proofs.SlotLemmas.{entries_same}
use Rattle.recency.proofs.StoreLemmas.{after_use, clean_tag, bytes_within, tag_within, found_entry, found_touched, found_without, stored_used, stored_dropped, stored_filled, filled_is, cleaned_slot, entries_count}
use Rattle.l2_cache.specs.Packed.{Packed, line_at}
use Rattle.l2_cache.specs.PackedSet.{KeptUnder, IsPacked}
use Rattle.l2_cache.specs.Room.{segments, segments_sum}
use Rattle.l2_cache.proofs.RoomLemmas.{sum_touched, sum_clean, sum-split}

-- a set by its parts
abbrev pub under : Codec → ℕ → List Entry → KeptUnder
under codec ways lines = record { codec = codec; kept = record { ways = ways; lines = lines } }

pub same_set : {codec old : Codec} {ways : ℕ} {lines es : List Entry} → codec ≡ old → lines ≡ es → under codec ways lines ≡ under old ways es
same_set same is = cc

-- a slot in use is used again
has_again : (ss : List ℕ) (s x : ℕ) → has ss s ≡ true → has (s ∷ removed ss s) x ≡ has ss x
has_again ss s x h = by_eq s x
    (λ e. has_front s (removed ss s) x e ∙ sym (sym (ap (has ss) e) ∙ h))
    (λ apart. has_past s (removed ss s) x apart ∙ has-removed_other ss s x apart)

-- the least recent dirty entry is whole where each is
pub dirty_whole : (tags : List Tag) (lines : List (List ℕ)) (ss : List ℕ) (found : Option Entry) (e : Entry) → IfSome found (λ f. length f.bytes ≡ 64) → ((s : ℕ) → has ss s ≡ true → length (line_at lines s) ≡ 64)
    → last_dirty_from found (entries_of tags lines ss) ≡ Some e → length e.bytes ≡ 64
dirty_whole tags lines [] found e whole all is = subst (λ o. IfSome o (λ f. length f.bytes ≡ 64)) is whole
dirty_whole tags lines (s ∷ ss) found e whole all is =
    dirty_whole tags lines ss (if (tag_at tags s).dirty then Some (entry_at tags lines s) else found) e
    (elim (tag_at tags s).dirty as (λ b. IfSome (if b then Some (entry_at tags lines s) else found) (λ f. length f.bytes ≡ 64)) [ true ↦ all s (has_front s ss s refl) | false ↦ whole ])
    (λ x h. all x (by_eq s x (λ k. has_front s ss x k) (λ ne. has_past s ss x ne ∙ h))) is

module _ {ways : ℕ} {order : Used} {tags : List Tag} {packed : Packed} (is : IsPacked ways order tags packed) where
  abbrev entries : List Entry
  entries = entries_of tags packed.lines order.slots

  pub packed_used : (s : ℕ) → has order.slots s ≡ true → IsPacked ways (after_use order s) tags packed
  packed_used s h = record {
    stored = stored_used is.stored s h;
    whole = λ x k. is.whole x (sym (has_again order.slots s x h) ∙ k);
    bare = λ x k. is.bare x (sym (has_again order.slots s x h) ∙ k);
    room = ap (λ es. packed.room + segments_sum (size_under packed.codec) es) (found_touched is.stored s (tag_at tags s).line h refl)
        ∙ ap (λ n. packed.room + n) (sum_touched (size_under packed.codec) entries (tag_at tags s).line) ∙ is.room;
  }

  line_same : (s x : ℕ) → has order.slots s ≡ true → (tag_at (set tags s (clean_tag tags s)) x).line ≡ (tag_at tags x).line
  line_same s x h = by_eq x s
      (λ e. subst (λ z. (tag_at (set tags s (clean_tag tags s)) z).line ≡ (tag_at tags z).line) (sym e)
      (ap (λ (t : Tag). t.line) (get_or-set_same tags s (clean_tag tags s) (record { line = 0; dirty = false }) (tag_within is.stored s h))))
      (λ ne. ap (λ (t : Tag). t.line) (get_or-set_other tags s x (clean_tag tags s) (record { line = 0; dirty = false }) ne))

  pub packed_cleaned : (s : ℕ) → has order.slots s ≡ true → IsPacked ways order (set tags s (clean_tag tags s)) packed
  packed_cleaned s h = record {
    stored = record {
      some = is.stored.some;
      ways_are = is.stored.ways_are;
      tagged = record {
        len = rw length-set is.stored.tagged.len;
        distinct = is.stored.tagged.distinct;
        below = is.stored.tagged.below;
        unique = λ x y hx hy same. is.stored.tagged.unique x y hx hy (sym (line_same s x h) ∙ same ∙ line_same s y h);
      };
      full = is.stored.full;
    };
    whole = is.whole;
    bare = is.bare;
    room = ap (λ es. packed.room + segments_sum (size_under packed.codec) es) (cleaned_slot is.stored s (tag_at tags s).line h refl)
        ∙ ap (λ n. packed.room + n) (sum_clean (size_under packed.codec) entries (tag_at tags s).line) ∙ is.room;
  }

  -- the other slots, once one is emptied
  pub others_left : (s : ℕ) → entries_of tags (set packed.lines s []) (removed order.slots s) ≡ entries_of tags packed.lines (removed order.slots s)
  others_left s = entries_same tags tags packed.lines (set packed.lines s []) (removed order.slots s) (λ x k.
      ap (λ (bytes : List ℕ). record { line = (tag_at tags x).line; bytes = bytes; dirty = (tag_at tags x).dirty })
      (get_or-set_other packed.lines s x [] [] (has_apart (removed order.slots s) x s k (has-removed order.slots s is.stored.tagged.distinct))))

  pub packed_dropped : (s : ℕ) (after : Packed) → has order.slots s ≡ true → after.codec ≡ packed.codec → after.lines ≡ set packed.lines s []
      → after.room ≡ packed.room + segments (size_under packed.codec) (line_at packed.lines s) → IsPacked ways (record { ways = order.ways; slots = removed order.slots s }) tags after
  packed_dropped s after h codec lines more = record {
    stored = record {
      some = is.stored.some;
      ways_are = is.stored.ways_are;
      tagged = (stored_dropped is.stored s).tagged;
      full = rw (lines, length-set) is.stored.full;
    };
    whole = λ x k.
        let apart : x ≢ s = has_apart (removed order.slots s) x s k (has-removed order.slots s is.stored.tagged.distinct) in
        rw lines (ap length (get_or-set_other packed.lines s x [] [] apart) ∙ is.whole x (sym (has-removed_other order.slots s x (λ e. apart (sym e))) ∙ k));
    bare = λ x k. rw lines (by_eq x s
        (λ e. subst (λ z. get_or (set packed.lines s []) z [] ≡ []) (sym e) (get_or-set_same packed.lines s [] [] (bytes_within is.stored s h)))
        (λ ne. get_or-set_other packed.lines s x [] [] ne ∙ is.bare x (sym (has-removed_other order.slots s x (λ e. ne (sym e))) ∙ k)));
    room =
        let kept = found_entry is.stored s (tag_at tags s).line h refl in
        let split = sum-split (size_under packed.codec) entries (tag_at tags s).line (entry_at tags packed.lines s) kept in
        let before = is.room in
        let left = ap (segments_sum (size_under packed.codec)) (others_left s ∙ found_without is.stored s (tag_at tags s).line h refl) in
        rw (codec, lines, more) (omega arith);
  }

  -- a slot that is to be filled, in a set with a tag to spare
  module _ (s : ℕ) (short : length (entries_of tags packed.lines order.slots) < ways) (others : removed order.slots s ≡ (if nat_lt (length order.slots) ways then order.slots else but_last order.slots)) where
    pub unused : has order.slots s ≡ false
    unused =
        let count = entries_count tags packed.lines order.slots in
        let few : nat_lt (length order.slots) ways ≡ true = lt-ltb (length order.slots) ways (omega arith) in
        sym (ap (λ l. has l s) (others ∙ ap (λ b. if b then order.slots else but_last order.slots) few)) ∙ has-removed order.slots s is.stored.tagged.distinct

    pub bare_slot : line_at packed.lines s ≡ []
    bare_slot = is.bare s unused

    pub filled_entries : (line : ℕ) (bytes : List ℕ) (dirty : Bool) → s < ways
        → entries_of (set tags s (record { line = line; dirty = dirty })) (set packed.lines s bytes) (s ∷ removed order.slots s) ≡ record { line = line; bytes = bytes; dirty = dirty } ∷ entries
    filled_entries line bytes dirty inside =
        filled_is is.stored s line bytes dirty inside others
        ∙ ap (λ b. record { line = line; bytes = bytes; dirty = dirty } ∷ (if b then entries else but_last entries)) (lt-ltb (length entries) ways short)

    pub packed_filled : (line : ℕ) (bytes : List ℕ) (dirty : Bool) (after : Packed) → s < ways → entry_of entries line ≡ None → length bytes ≡ 64
        → after.codec ≡ packed.codec → after.lines ≡ set packed.lines s bytes → after.room + segments (size_under packed.codec) bytes ≡ packed.room
        → IsPacked ways (after_use order s) (set tags s (record { line = line; dirty = dirty })) after
    packed_filled line bytes dirty after inside none full codec lines less =
        let filled = set tags s (record { line = line; dirty = dirty }) in
        let here : get_or (set packed.lines s bytes) s [] ≡ bytes = let n = is.stored.full in get_or-set_same packed.lines s bytes [] (omega arith) in
        record {
          stored = rw lines (stored_filled is.stored s line bytes dirty inside none);
          whole = λ x k. rw lines (by_eq x s
              (λ e. subst (λ z. length (get_or (set packed.lines s bytes) z []) ≡ 64) (sym e) (ap length here ∙ full))
              (λ ne. ap length (get_or-set_other packed.lines s x bytes [] ne) ∙ is.whole x (was x ne ∙ k)));
          bare = λ x k.
              let ne : x ≢ s = λ e. absurd (let t = has_front s (removed order.slots s) x (sym e) in let both : true ≡ false = sym t ∙ k in cc) in
              rw lines (get_or-set_other packed.lines s x bytes [] ne ∙ is.bare x (was x ne ∙ k));
          room =
              let sum = ap (segments_sum (size_under packed.codec)) (filled_entries line bytes dirty inside) in
              let before = is.room in
              let total : after.room + (segments (size_under packed.codec) bytes + segments_sum (size_under packed.codec) entries) ≡ 4 * ways = omega arith in
              ap (λ under_codec. after.room + segments_sum (size_under under_codec) (entries_of filled after.lines (s ∷ removed order.slots s))) codec
              ∙ ap (λ slots. after.room + segments_sum (size_under packed.codec) (entries_of filled slots (s ∷ removed order.slots s))) lines
              ∙ ap (λ n. after.room + n) sum ∙ total;
        }
      where
        was : (x : ℕ) → x ≢ s → has order.slots x ≡ has (s ∷ removed order.slots s) x
        was x ne = sym (has_past s (removed order.slots s) x (λ e. ne (sym e)) ∙ has-removed_other order.slots s x (λ e. ne (sym e)))
