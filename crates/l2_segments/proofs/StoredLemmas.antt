-- Strings as they stand in the bytes.
use Rattle.std.proofs.Common.{◌≡◌, ◌<◌, ◌≤◌, ◌+◌, ◌-◌, ◌*◌, ℕ, zero, suc, true, List, [], ◌∷◌, ◌++◌, Some, None, length, refl, sym, ap, ◌∙◌, subst, inl, inr, arith, length-append}
use Rattle.std.specs.Option.{is_some, IfSome}
use Rattle.std.specs.List.{remove}
use Rattle.std.proofs.lemmas.List.{map-append}
use Rattle.std.proofs.lemmas.List.Sums.{sum_by-cons}
use Rattle.std.proofs.lemmas.Bool.{cases_eq}
use Rattle.l2_segments.specs.declared.held.Held.{Held}
use Rattle.byte_parts.specs.Parts.{part, ChangesWithin}
use Rattle.l2_segments.specs.Strings.{Text, segments_of, segments_sum, string_of, without, with_one_more, AreDistinct, IsString, AreStrings, IsSound}
use Rattle.l2_segments.specs.Held.{text_at, texts_of, held_at, segments_in, IsLaid, HasTag, IsStored}
use Rattle.byte_parts.proofs.PartLemmas.{length-part}
use Rattle.l2_segments.proofs.LaidLemmas.{segments_in-cons, laid_fits, laid_more, laid-remove}
use Rattle.l2_segments.proofs.SlideLemmas.{texts_stay}
use Rattle.l2_segments.proofs.TextLemmas.{string_of-here, string_of-past, without-here, without-past, without_none, distinct_more, strings_more, distinct-without, strings-without, segments_sum-without, few}

-- the strings take the segments of their places
pub segments_sum-texts : (from size : ℕ) (store : List ℕ) (hs : List Held) → IsLaid from size hs → size ≤ length store → segments_sum (texts_of store hs) ≡ segments_in hs
segments_sum-texts from size store [] laid within = refl
segments_sum-texts from size store (h ∷ hs) laid within =
    let fits = laid_fits (h.start + segments_of h.len) size hs laid.1 in
    let here = length-part (8 * h.start) h.len store (omega arith) in
    let rest = segments_sum-texts (h.start + segments_of h.len) size store hs laid.1 within in
    sum_by-cons (λ (t : Text). segments_of (length t.bytes)) (text_at store h) (texts_of store hs)
    ∙ ap (λ n. segments_of n + segments_sum (texts_of store hs)) here ∙ ap (λ n. segments_of h.len + n) rest ∙ sym (segments_in-cons h hs)

pub stored_sound : {ways : ℕ} {store : List ℕ} {hs : List Held} → IsStored ways store hs → IsSound (record { ways = ways; texts = texts_of store hs })
stored_sound {ways} {store} {hs} is =
    let fits = laid_fits 0 (length store) hs is.laid in
    let sum = segments_sum-texts 0 (length store) store hs is.laid (omega arith) in
    record { ways = is.within; strings = is.strings; once = is.once; fits = omega (arith, is.size) }

-- a tag that is used is that of some place
pub used : (store : List ℕ) (hs : List Held) (tag : ℕ) → is_some (string_of (texts_of store hs) tag) ≡ true → (i : ℕ) × HasTag hs tag i
used store [] tag some = absurd (let k = some in cc)
used store (h ∷ hs) tag some =
    elim (cases_eq h.tag tag) [
      | inl e ↦ (zero, record { inside = omega arith; tagged = e })
      | inr ne ↦
          let rest = used store hs tag (sym (ap is_some (string_of-past (text_at store h) (texts_of store hs) tag ne)) ∙ some) in
          let is = rest.1 in
          (suc rest.0, record { inside = omega (arith, is.inside); tagged = is.tagged })
    ]

behind : (h : Held) (hs : List Held) (tag i : ℕ) → HasTag (h ∷ hs) tag (suc i) → HasTag hs tag i
behind h hs tag i is = record { inside = omega (arith, is.inside); tagged = is.tagged }

-- the string under a tag is the one that stands at its place
pub string_at : (store : List ℕ) (hs : List Held) (tag i : ℕ) → AreDistinct (texts_of store hs) → HasTag hs tag i
    → string_of (texts_of store hs) tag ≡ Some (part (8 * (held_at hs i).start) (held_at hs i).len store)
string_at store [] tag i once is = absurd (omega (arith, is.inside))
string_at store (h ∷ hs) tag zero once is = string_of-here (text_at store h) (texts_of store hs) tag is.tagged
string_at store (h ∷ hs) tag (suc i) once is =
    let found = string_at store hs tag i once.1 (behind h hs tag i is) in
    string_of-past (text_at store h) (texts_of store hs) tag
    (λ e. let k : Some (part (8 * (held_at hs i).start) (held_at hs i).len store) ≡ None = sym found ∙ ap (string_of (texts_of store hs)) (sym e) ∙ once.0 in cc) ∙ found

-- the others are those that stand elsewhere
pub without_at : (store : List ℕ) (hs : List Held) (tag i : ℕ) → AreDistinct (texts_of store hs) → HasTag hs tag i → without (texts_of store hs) tag ≡ texts_of store (remove hs i)
without_at store [] tag i once is = absurd (omega (arith, is.inside))
without_at store (h ∷ hs) tag zero once is =
    without-here (text_at store h) (texts_of store hs) tag is.tagged
    ∙ without_none (texts_of store hs) tag (ap (string_of (texts_of store hs)) (sym is.tagged) ∙ once.0)
without_at store (h ∷ hs) tag (suc i) once is =
    let found = string_at store hs tag i once.1 (behind h hs tag i is) in
    without-past (text_at store h) (texts_of store hs) tag
    (λ e. let k : Some (part (8 * (held_at hs i).start) (held_at hs i).len store) ≡ None = sym found ∙ ap (string_of (texts_of store hs)) (sym e) ∙ once.0 in cc)
    ∙ ap (λ ts. text_at store h ∷ ts) (without_at store hs tag i once.1 (behind h hs tag i is))

pub stored_removed : {ways : ℕ} {store : List ℕ} {hs : List Held} → IsStored ways store hs → (tag i : ℕ) → HasTag hs tag i → IsStored ways store (remove hs i)
stored_removed {ways} {store} {hs} is tag i at =
    let same = without_at store hs tag i is.once at in
    record {
      within = is.within;
      size = is.size;
      laid = laid-remove 0 (length store) i hs at.inside is.laid;
      strings = subst (AreStrings (2 * ways)) same (strings-without (2 * ways) (texts_of store hs) tag is.strings);
      once = subst AreDistinct same (distinct-without (texts_of store hs) tag is.once);
    }

inside_at : (from size : ℕ) (hs : List Held) (i : ℕ) → i < length hs → IsLaid from size hs → 8 * ((held_at hs i).start + segments_of (held_at hs i).len) ≤ size
inside_at from size [] i within laid = absurd (omega arith)
inside_at from size (h ∷ hs) zero within laid = let fits = laid_fits (h.start + segments_of h.len) size hs laid.1 in omega arith
inside_at from size (h ∷ hs) (suc i) within laid = inside_at (h.start + segments_of h.len) size hs i (omega arith) laid.1

-- the bytes of a string lie within the bytes of the lines
pub bytes_inside : {ways : ℕ} {store : List ℕ} {hs : List Held} → IsStored ways store hs → (i : ℕ) → i < length hs → 8 * (held_at hs i).start + (held_at hs i).len ≤ length store
bytes_inside {ways} {store} {hs} is i within = let fits = inside_at 0 (length store) hs i within is.laid in omega arith

pub length-string : {ways : ℕ} {store : List ℕ} {hs : List Held} → IsStored ways store hs → (i : ℕ) → i < length hs → length (part (8 * (held_at hs i).start) (held_at hs i).len store) ≡ (held_at hs i).len
length-string {ways} {store} {hs} is i within = length-part (8 * (held_at hs i).start) (held_at hs i).len store (bytes_inside is i within)

text_is : (limit : ℕ) (store : List ℕ) (hs : List Held) (i : ℕ) → i < length hs → AreStrings limit (texts_of store hs) → IsString limit (text_at store (held_at hs i))
text_is limit store [] i within are = absurd (omega arith)
text_is limit store (h ∷ hs) zero within are = are.0
text_is limit store (h ∷ hs) (suc i) within are = text_is limit store hs i (omega arith) are.1

pub len_most : {ways : ℕ} {store : List ℕ} {hs : List Held} → IsStored ways store hs → (i : ℕ) → i < length hs → (held_at hs i).len ≤ 64
len_most {ways} {store} {hs} is i within =
    let most = (text_is (2 * ways) store hs i within is.strings).most in
    omega (arith, length-string is i within)

-- a string behind the others
pub texts_placed : (start : ℕ) (old new : List ℕ) (hs : List Held) (tag : ℕ) (bytes : List ℕ) → IsLaid 0 (8 * start) hs → 8 * start ≤ length old
    → ChangesWithin (8 * start) (length bytes) old new → part (8 * start) (length bytes) new ≡ bytes
    → texts_of new (hs ++ (record { tag = tag; start = start; len = length bytes }) ∷ []) ≡ texts_of old hs ++ (record { tag = tag; bytes = bytes }) ∷ []
texts_placed start old new hs tag bytes laid within change there =
    map-append (text_at new) hs ((record { tag = tag; start = start; len = length bytes }) ∷ [])
    ∙ ap (λ ts. ts ++ text_at new (record { tag = tag; start = start; len = length bytes }) ∷ []) (texts_stay (8 * start) (length bytes) 0 (8 * start) old new hs change laid within (inl (omega arith)))
    ∙ ap (λ (b : List ℕ). texts_of old hs ++ (let t : Text = record { tag = tag; bytes = b } in t) ∷ []) there

text_more : (limit tag : ℕ) (bytes : List ℕ) → tag < limit → 1 ≤ length bytes → length bytes ≤ 64 → IsString limit (record { tag = tag; bytes = bytes })
text_more limit tag bytes below some most = record { tag = below; some = some; most = most }

length-texts : (store : List ℕ) (hs : List Held) → length (texts_of store hs) ≡ length hs
length-texts store [] = refl
length-texts store (h ∷ hs) = let rest = length-texts store hs in omega arith

-- where a tag is not used, there are fewer strings than tags
pub few_places : {ways : ℕ} {store : List ℕ} {hs : List Held} → IsStored ways store hs → (tag : ℕ) → tag < 2 * ways → string_of (texts_of store hs) tag ≡ None → length hs < 32
few_places {ways} {store} {hs} is tag below none =
    let t : Text = record { tag = tag; bytes = 0 ∷ [] } in
    let count = few (2 * ways) (texts_of store hs ++ t ∷ []) (strings_more (2 * ways) (texts_of store hs) t is.strings (text_more (2 * ways) tag (0 ∷ []) below (omega arith) (omega arith)))
    (distinct_more (texts_of store hs) t is.once none) in
    let most = is.within.1 in
    omega (arith, length-append (texts_of store hs) (t ∷ []), length-texts store hs)

-- after the string was written behind the others
pub stored_placed : {ways : ℕ} {store : List ℕ} {hs : List Held} → IsStored ways store hs → (mid new : List ℕ) (places : List Held) (start tag : ℕ) (bytes : List ℕ)
    → texts_of mid places ≡ texts_of store hs → IsLaid 0 (8 * start) places → 8 * (start + segments_of (length bytes)) ≤ length store → length mid ≡ length store
    → ChangesWithin (8 * start) (length bytes) mid new → part (8 * start) (length bytes) new ≡ bytes
    → tag < 2 * ways → string_of (texts_of store hs) tag ≡ None → 1 ≤ length bytes → length bytes ≤ 64
    → IsStored ways new (places ++ (record { tag = tag; start = start; len = length bytes }) ∷ [])
    × (texts_of new (places ++ (record { tag = tag; start = start; len = length bytes }) ∷ []) ≡ with_one_more (texts_of store hs) tag bytes)
stored_placed {ways} {store} {hs} is mid new places start tag bytes texts laid fits same change there below none some most =
    let h : Held = record { tag = tag; start = start; len = length bytes } in
    let t : Text = record { tag = tag; bytes = bytes } in
    let all : texts_of new (places ++ h ∷ []) ≡ with_one_more (texts_of store hs) tag bytes =
    texts_placed start mid new places tag bytes laid (omega arith) change there ∙ ap (λ ts. with_one_more ts tag bytes) texts in
    let size : length new ≡ length store = change.same_length ∙ same in (
      record {
        within = is.within;
        size = size ∙ is.size;
        laid = laid_more 0 start (length new) places h laid (omega arith) (omega arith);
        strings = subst (AreStrings (2 * ways)) (sym all) (strings_more (2 * ways) (texts_of store hs) t is.strings (text_more (2 * ways) tag bytes below some most));
        once = subst AreDistinct (sym all) (distinct_more (texts_of store hs) t is.once none);
      },
      all,
    )

-- the room when the string under a tag is given up
pub room_freed : {ways : ℕ} {store : List ℕ} {hs : List Held} → IsStored ways store hs → (tag : ℕ)
    → IfSome (string_of (texts_of store hs) tag) (λ bytes. 8 * ways - segments_sum (without (texts_of store hs) tag) ≡ 8 * ways - segments_sum (texts_of store hs) + segments_of (length bytes))
room_freed {ways} {store} {hs} is tag =
    let fits = (stored_sound is).fits in
    elim (string_of (texts_of store hs) tag) as (λ o. string_of (texts_of store hs) tag ≡ o → IfSome o (λ bytes. 8 * ways - segments_sum (without (texts_of store hs) tag) ≡ 8 * ways - segments_sum (texts_of store hs) + segments_of (length bytes))) [
      | None ↦ λ none. tt
      | Some bytes ↦ λ some. let sum = segments_sum-without (texts_of store hs) tag bytes is.once some in omega arith
    ] refl
