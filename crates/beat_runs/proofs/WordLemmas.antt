-- A run of beats comes to the hart again.
use Rattle.std.proofs.Common.{◌≡◌, ℕ, zero, suc, ◌+◌, ◌-◌, ◌*◌, ◌%◌, ◌<◌, ◌≤◌, Bool, true, false, cond, if◌then◌else◌, List, [], ◌∷◌, ◌++◌, length, take, drop, slice_get, Option, Some, refl, sym, ◌∙◌, ap, subst, arith, length-append, inl, inr}
use Rattle.std.proofs.Math.Nat.{mod-eq_of_lt, mod_self, mod-lt, suc-mod}
use Rattle.std.proofs.lemmas.Bool.{cases_lt}
use Rattle.std.proofs.lemmas.List.{take-append-drop}
use Rattle.std.specs.List.{list_any}
use Rattle.std.specs.Option.{option_map_or}
use Rattle.hier_types.specs.declared.beats.Beat.{Beat}
use Rattle.hier_types.specs.declared.beats.Beat.TheVariants.{Hart, Mover, Cleaner}
use Rattle.hier_types.specs.Causes.{raised, raised_by}
use Rattle.hier_types.specs.Beats.{IsBeat, IsBeatWord, is_hart, turns_among}
use Rattle.beat_runs.specs.Points.{retired_by}

-- the beats before the first of the hart's
abbrev pub before_hart : List Beat → ℕ
before_hart [] = 0
before_hart (beat ∷ beats) = if is_hart beat then 0 else before_hart beats + 1

-- the same from a place of the word on, which then begins again
abbrev pub gap : List Beat → ℕ → ℕ
gap beats place = before_hart (drop place beats ++ beats)

-- a list with a beat of the hart's has fewer before it than there are
before_hart-lt : (beats : List Beat) → list_any is_hart beats ≡ true → before_hart beats < length beats
before_hart-lt [] has = absurd (let no = has in cc)
before_hart-lt (Hart ∷ beats) has = omega arith
before_hart-lt (Mover ∷ beats) has = omega (arith, before_hart-lt beats has)
before_hart-lt (Cleaner ∷ beats) has = omega (arith, before_hart-lt beats has)

-- the hart's first beat is found in a front that has one
before_hart-append : (front back : List Beat) → list_any is_hart front ≡ true → before_hart (front ++ back) ≡ before_hart front
before_hart-append [] back has = cc
before_hart-append (Hart ∷ front) back has = refl
before_hart-append (Mover ∷ front) back has = ap (λ n. n + 1) (before_hart-append front back has)
before_hart-append (Cleaner ∷ front) back has = ap (λ n. n + 1) (before_hart-append front back has)

-- and behind a front that has none
before_hart-behind : (front back : List Beat) → list_any is_hart front ≡ false → before_hart (front ++ back) ≡ length front + before_hart back
before_hart-behind [] back none = omega arith
before_hart-behind (Hart ∷ front) back none = absurd (let no = none in cc)
before_hart-behind (Mover ∷ front) back none = omega (arith, before_hart-behind front back none)
before_hart-behind (Cleaner ∷ front) back none = omega (arith, before_hart-behind front back none)

-- a hart that is not behind is in front
acts_in_front : (front back : List Beat) → list_any is_hart (front ++ back) ≡ true → list_any is_hart back ≡ false → list_any is_hart front ≡ true
acts_in_front [] back has none = absurd (let no = has in let is = none in cc)
acts_in_front (Hart ∷ front) back has none = refl
acts_in_front (Mover ∷ front) back has none = acts_in_front front back has none
acts_in_front (Cleaner ∷ front) back has none = acts_in_front front back has none

gap_in : (front back : List Beat) (here : Bool) → list_any is_hart back ≡ here → list_any is_hart (front ++ back) ≡ true → before_hart (back ++ (front ++ back)) < length (front ++ back)
gap_in front back true here has = omega (arith, before_hart-append back (front ++ back) here, before_hart-lt back here, length-append front back)
gap_in front back false here has =
    let acts = acts_in_front front back has here in
    omega (arith, before_hart-behind back (front ++ back) here, before_hart-append front back acts, before_hart-lt front acts, length-append front back)

-- from any place the hart's next beat is less than a word away
pub gap-lt : (beats : List Beat) (place : ℕ) → list_any is_hart beats ≡ true → gap beats place < length beats
gap-lt beats place has =
    let all = take-append-drop place beats in
    let Near : List Beat → Type 0 = λ word. before_hart (drop place beats ++ word) < length word in
    subst Near all (gap_in (take place beats) (drop place beats) (list_any is_hart (drop place beats)) refl (rw all has))

drop_at : (beats : List Beat) (place : ℕ) (beat : Beat) → slice_get beats place ≡ Some beat → drop place beats ≡ beat ∷ drop (suc place) beats
drop_at [] place beat e = cc
drop_at (b ∷ beats) zero beat e = let same : b ≡ beat = cc in rw same refl
drop_at (b ∷ beats) (suc place) beat e = drop_at beats place beat e

drop_all : (beats : List Beat) (place : ℕ) → length beats ≤ place → drop place beats ≡ []
drop_all [] zero over = refl
drop_all [] (suc place) over = refl
drop_all (b ∷ beats) zero over = absurd (omega arith)
drop_all (b ∷ beats) (suc place) over = drop_all beats place (omega arith)

suc_is : (n : ℕ) → n + 1 ≡ suc n
suc_is n = omega arith

-- a word has beats
pub some_beats : (beats : List Beat) → IsBeatWord beats → 0 < length beats
some_beats [] word = absurd (let no = word.acts in cc)
some_beats (beat ∷ beats) word = omega arith

-- a beat of another's brings the hart's nearer
gap_falls : (beats : List Beat) (place : ℕ) (beat : Beat) → list_any is_hart beats ≡ true → slice_get beats place ≡ Some beat → is_hart beat ≡ false → place < length beats → gap beats ((place + 1) % length beats) + 1 ≡ gap beats place
gap_falls beats place beat has at other inside =
    let here : gap beats place ≡ before_hart (drop (suc place) beats ++ beats) + 1 =
    ap (λ rest. before_hart (rest ++ beats)) (drop_at beats place beat at) ∙ ap (λ b. cond b 0 (before_hart (drop (suc place) beats ++ beats) + 1)) other in
    elim (cases_lt (place + 1) (length beats)) [
      | inl more ↦
          (let next : (place + 1) % length beats ≡ suc place = mod-eq_of_lt more ∙ suc_is place in
          ap (λ n. gap beats n + 1) next ∙ sym here)
      | inr last ↦
          (let all : place + 1 ≡ length beats = omega arith in
          let next : (place + 1) % length beats ≡ 0 = ap (λ n. n % length beats) all ∙ mod_self (length beats) in
          let none : drop (suc place) beats ≡ [] = drop_all beats (suc place) (omega arith) in
          ap (λ n. gap beats n + 1) next ∙ ap (λ n. n + 1) (before_hart-append beats beats has) ∙ sym (here ∙ ap (λ rest. before_hart (rest ++ beats) + 1) none))
    ]

-- the place of the next beat in the word
pub next_place : (place count size : ℕ) → place ≡ count % size → (place + 1) % size ≡ suc count % size
next_place place count size e = ap (λ n. n % size) (suc_is place) ∙ ap (λ n. suc n % size) e ∙ sym (suc-mod count size)

-- how far a run still is from its end: 64 beats for each instruction that the budget leaves, and those before the
-- hart's next
abbrev pub work : List Beat → ℕ → ℕ → ℕ → ℕ
work beats budget retired place = 64 * (budget - retired) + gap beats place

-- each beat brings the end nearer
pub work_falls : (beats : List Beat) (budget retired now place : ℕ) (beat : Beat) → IsBeatWord beats → slice_get beats place ≡ Some beat → place < length beats → retired < budget → now ≡ retired_by beat retired
    → work beats budget now ((place + 1) % length beats) + 1 ≤ work beats budget retired place
work_falls beats budget retired now place Hart word is inside lt did =
    let near = gap-lt beats ((place + 1) % length beats) word.acts in
    omega (arith, near, word.short)
work_falls beats budget retired now place Mover word is inside lt did = omega (arith, gap_falls beats place Mover word.acts is refl inside)
work_falls beats budget retired now place Cleaner word is inside lt did = omega (arith, gap_falls beats place Cleaner word.acts is refl inside)

-- the place of the beat of each number is within the word
pub inside_word : (beats : List Beat) (number : ℕ) → IsBeatWord beats → number % length beats < length beats
inside_word beats number word = mod-lt number (some_beats beats word)

-- the turns among the beats up to the next one
turns_more : (kind : Beat → Bool) (beats : List Beat) (count : ℕ) (beat : Beat) → IsBeat beats count beat → turns_among kind beats (suc count) ≡ cond (kind beat) (suc (turns_among kind beats count)) (turns_among kind beats count)
turns_more kind beats count beat is =
    ap (λ (at : Option Beat). cond (option_map_or kind at false) (suc (turns_among kind beats count)) (turns_among kind beats count)) is

raised_if : (own : Bool) (start turns : ℕ) → cond own (raised (raised_by start turns)) (raised_by start turns) ≡ raised_by start (cond own (suc turns) turns)
raised_if true start turns = refl
raised_if false start turns = refl

-- a count that each beat of a kind raises, after one more beat
pub turn_counted : (kind : Beat → Bool) (beats : List Beat) (count : ℕ) (beat : Beat) (start mid now : ℕ) → IsBeat beats count beat → mid ≡ raised_by start (turns_among kind beats count)
    → now ≡ cond (kind beat) (raised mid) mid → now ≡ raised_by start (turns_among kind beats (suc count))
turn_counted kind beats count beat start mid now is so does =
    does ∙ ap (λ n. cond (kind beat) (raised n) n) so ∙ raised_if (kind beat) start (turns_among kind beats count) ∙ ap (raised_by start) (sym (turns_more kind beats count beat is))
