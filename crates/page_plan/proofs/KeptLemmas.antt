-- What the bytes of a page's lines say: the stored sizes of the lines, and whether the page is zero.
use Rattle.std.proofs.Common.{◌≡◌, ◌≤◌, ◌+◌, ◌∙◌, ℕ, suc, zero, false, cond, List, [], ◌∷◌, Option, Some, None, length, take, drop, inl, inr, refl, sym, ap, arith}
use Rattle.std.specs.Prelude.{replicate, unwrap_or}
use Rattle.std.specs.Str.{bytes_eq}
use Rattle.std.proofs.lemmas.Bool.{cases_Bool}
use Rattle.std.proofs.lemmas.Bool.Decides.{nat_tests}
use Rattle.std.proofs.lemmas.List.{take-map, drop-map}
use Rattle.std.proofs.lemmas.List.Elements.{All-head, All-tail, All-nil, All-cons, All-take, All-drop}
use Rattle.std.proofs.lemmas.List.Sums.{sum_by-cons}
use Rattle.std.proofs.lemmas.Slice.Eq.{bytes_eq-Decides}
use Rattle.hier_types.specs.Lines.{AreLines, zero_line}
use Rattle.hier_types.specs.declared.settings.Codec.{Codec}
use Rattle.line_codec.specs.Layout.{IsTarget, is_exception, exceptions_of, stored_sizes}
use Rattle.line_codec.specs.Slots.{stored}
use Rattle.line_codec.proofs.SizeLemmas.{stored-low, stored-zero}
use Rattle.page_plan.specs.KeptSizes.{kept_size, kept_sizes, size_told, sizes_told}
use Rattle.page_plan.specs.PagePlan.{IsZeroPage}

-- the byte of a line of zeros
pub kept_size-zero : (codec : Codec) → kept_size codec zero_line ≡ 1
unfolding kept_size
kept_size-zero codec = refl

-- the byte of another line
kept_size-other : (codec : Codec) (line : List ℕ) → bytes_eq line zero_line ≡ false → kept_size codec line ≡ unwrap_or (stored codec line) 0
unfolding kept_size
kept_size-other codec line other = rw other refl

-- a byte of a stored size of 2 or more says that size
told-stored : (size zeros : Option ℕ) → ((n : ℕ) → size ≡ Some n → 2 ≤ n) → size_told zeros (unwrap_or size 0) ≡ size
told-stored None zeros low = refl
told-stored (Some n) zeros low = let least : 2 ≤ n = low n refl in grind (arith, nat_tests)

-- only the byte of a line of zeros is 1
kept_size-one : (codec : Codec) (line : List ℕ) → length line ≡ 64 → kept_size codec line ≡ 1 → line ≡ zero_line
kept_size-one codec line len one = elim (cases_Bool (bytes_eq line zero_line)) [
  | inl same ↦ (bytes_eq-Decides line zero_line).0 same
  | inr other ↦
      let told = told-stored (stored codec line) (Some 1) (λ n short. stored-low codec line n len short) in
      let size : stored codec line ≡ Some 1 = sym told ∙ ap (size_told (Some 1)) (sym (kept_size-other codec line other) ∙ one) in
      absurd (omega (arith, stored-low codec line 1 len size))
]

-- a byte says its line's stored size
told-kept : (codec : Codec) (line : List ℕ) → length line ≡ 64 → size_told (stored codec zero_line) (kept_size codec line) ≡ stored codec line
told-kept codec line len = elim (cases_Bool (bytes_eq line zero_line)) [
  | inl same ↦
      let zeros = (bytes_eq-Decides line zero_line).0 same in
      ap (λ l. size_told (stored codec zero_line) (kept_size codec l)) zeros ∙ ap (size_told (stored codec zero_line)) (kept_size-zero codec)
      ∙ ap (stored codec) (sym zeros)
  | inr other ↦
      ap (size_told (stored codec zero_line)) (kept_size-other codec line other)
      ∙ told-stored (stored codec line) (stored codec zero_line) (λ n short. stored-low codec line n len short)
]

-- and whether a slot holds the line, a line of zeros being in its slot
exception-kept : (codec : Codec) (line : List ℕ) (t : ℕ) → length line ≡ 64 → IsTarget t
    → is_exception t (size_told (Some 1) (kept_size codec line)) ≡ is_exception t (stored codec line)
exception-kept codec line t len target = elim (cases_Bool (bytes_eq line zero_line)) [
  | inl same ↦
      let zeros = (bytes_eq-Decides line zero_line).0 same in
      let size = stored-zero codec in
      ap (λ l. is_exception t (size_told (Some 1) (kept_size codec l))) zeros ∙ ap (λ b. is_exception t (size_told (Some 1) b)) (kept_size-zero codec)
      ∙ held size.0 size.1 target ∙ ap (is_exception t) (sym size.2) ∙ ap (λ l. is_exception t (stored codec l)) (sym zeros)
  | inr other ↦
      ap (λ b. is_exception t (size_told (Some 1) b)) (kept_size-other codec line other)
      ∙ ap (is_exception t) (told-stored (stored codec line) (Some 1) (λ n short. stored-low codec line n len short))
]
  where
    held : (n : ℕ) → n ≤ 4 → IsTarget t → is_exception t (Some 1) ≡ is_exception t (Some n)
    held n few target = grind (arith, nat_tests)

-- the bytes of a page say the stored sizes of its lines
pub sizes_told-stored : (codec : Codec) (lines : List (List ℕ)) → AreLines lines → sizes_told (stored codec zero_line) (kept_sizes codec lines) ≡ stored_sizes codec lines
sizes_told-stored codec [] whole = refl
sizes_told-stored codec (line ∷ lines) whole =
    let first : size_told (stored codec zero_line) (kept_size codec line) ≡ stored codec line = told-kept codec line (All-head (λ l. length l ≡ 64) line lines whole) in
    let rest = sizes_told-stored codec lines (All-tail (λ l. length l ≡ 64) line lines whole) in
    rw (first, rest) refl

-- and how many of them a slot does not hold
pub exceptions_of-kept : (codec : Codec) (lines : List (List ℕ)) (t : ℕ) → AreLines lines → IsTarget t
    → exceptions_of (sizes_told (Some 1) (kept_sizes codec lines)) t ≡ exceptions_of (stored_sizes codec lines) t
unfolding exceptions_of
exceptions_of-kept codec [] t whole target = refl
exceptions_of-kept codec (line ∷ lines) t whole target =
    let counts : (size : Option ℕ) → ℕ = λ size. cond (is_exception t size) 1 0 in
    let first = exception-kept codec line t (All-head (λ l. length l ≡ 64) line lines whole) target in
    let rest = exceptions_of-kept codec lines t (All-tail (λ l. length l ≡ 64) line lines whole) target in
    sum_by-cons counts (size_told (Some 1) (kept_size codec line)) (sizes_told (Some 1) (kept_sizes codec lines))
    ∙ ap (λ b. cond b 1 0 + exceptions_of (sizes_told (Some 1) (kept_sizes codec lines)) t) first
    ∙ ap (λ n. cond (is_exception t (stored codec line)) 1 0 + n) rest
    ∙ sym (sum_by-cons counts (stored codec line) (stored_sizes codec lines))

-- the same of the lines below one, and of those from it on
pub told-front : (codec : Codec) (lines : List (List ℕ)) (at : ℕ) → AreLines lines → sizes_told (stored codec zero_line) (take at (kept_sizes codec lines)) ≡ take at (stored_sizes codec lines)
told-front codec lines at whole =
    ap (sizes_told (stored codec zero_line)) (take-map (kept_size codec) at lines) ∙ sizes_told-stored codec (take at lines) (All-take (λ l. length l ≡ 64) at lines whole)
    ∙ sym (take-map (λ line. stored codec line) at lines)

pub told-back : (codec : Codec) (lines : List (List ℕ)) (at : ℕ) → AreLines lines → sizes_told (stored codec zero_line) (drop at (kept_sizes codec lines)) ≡ drop at (stored_sizes codec lines)
told-back codec lines at whole =
    ap (sizes_told (stored codec zero_line)) (drop-map (kept_size codec) at lines) ∙ sizes_told-stored codec (drop at lines) (All-drop (λ l. length l ≡ 64) at lines whole)
    ∙ sym (drop-map (λ line. stored codec line) at lines)

pub exceptions-front : (codec : Codec) (lines : List (List ℕ)) (at t : ℕ) → AreLines lines → IsTarget t
    → exceptions_of (sizes_told (Some 1) (take at (kept_sizes codec lines))) t ≡ exceptions_of (take at (stored_sizes codec lines)) t
exceptions-front codec lines at t whole target =
    ap (λ (bytes : List ℕ). exceptions_of (sizes_told (Some 1) bytes) t) (take-map (kept_size codec) at lines)
    ∙ exceptions_of-kept codec (take at lines) t (All-take (λ l. length l ≡ 64) at lines whole) target
    ∙ ap (λ (sizes : List (Option ℕ)). exceptions_of sizes t) (sym (take-map (λ line. stored codec line) at lines))

pub exceptions-back : (codec : Codec) (lines : List (List ℕ)) (at t : ℕ) → AreLines lines → IsTarget t
    → exceptions_of (sizes_told (Some 1) (drop at (kept_sizes codec lines))) t ≡ exceptions_of (drop at (stored_sizes codec lines)) t
exceptions-back codec lines at t whole target =
    ap (λ (bytes : List ℕ). exceptions_of (sizes_told (Some 1) bytes) t) (drop-map (kept_size codec) at lines)
    ∙ exceptions_of-kept codec (drop at lines) t (All-drop (λ l. length l ≡ 64) at lines whole) target
    ∙ ap (λ (sizes : List (Option ℕ)). exceptions_of sizes t) (sym (drop-map (λ line. stored codec line) at lines))

-- a page is zero where each of its bytes is 1
pub zero_page-ones : (codec : Codec) (lines : List (List ℕ)) (n : ℕ) → AreLines lines → kept_sizes codec lines ≡ replicate n 1 → IsZeroPage lines
zero_page-ones codec [] n whole ones = All-nil (λ line. line ≡ zero_line)
zero_page-ones codec (line ∷ lines) zero whole ones = absurd (cc)
zero_page-ones codec (line ∷ lines) (suc n) whole ones =
    let first : kept_size codec line ≡ 1 = cc in
    let rest : kept_sizes codec lines ≡ replicate n 1 = cc in
    All-cons (λ l. l ≡ zero_line) line lines (kept_size-one codec line (All-head (λ l. length l ≡ 64) line lines whole) first)
    (zero_page-ones codec lines n (All-tail (λ l. length l ≡ 64) line lines whole) rest)

-- and only there
pub ones-zero_page : (codec : Codec) (lines : List (List ℕ)) → IsZeroPage lines → kept_sizes codec lines ≡ replicate (length lines) 1
ones-zero_page codec [] zeros = refl
ones-zero_page codec (line ∷ lines) zeros =
    let first : kept_size codec line ≡ 1 = ap (kept_size codec) (All-head (λ l. l ≡ zero_line) line lines zeros) ∙ kept_size-zero codec in
    let rest = ones-zero_page codec lines (All-tail (λ l. l ≡ zero_line) line lines zeros) in
    rw (first, rest) refl

-- a page of so many lines of zeros
pub zero_page-zeros : (n : ℕ) → IsZeroPage (replicate n zero_line)
zero_page-zeros zero = All-nil (λ line. line ≡ zero_line)
zero_page-zeros (suc n) = All-cons (λ line. line ≡ zero_line) zero_line (replicate n zero_line) refl (zero_page-zeros n)
