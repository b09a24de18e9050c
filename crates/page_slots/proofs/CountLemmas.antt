-- As many exceptions as lines that the slots do not hold.
use Rattle.std.proofs.Common.{◌≡◌, ℕ, zero, suc, ◌+◌, ◌-◌, ◌<◌, ◌≤◌, false, true≢false, refl, ap, ◌∙◌, sym, subst, arith, cond, List, [], length, get_or, inl, inr, add-one, Option}
use Rattle.std.proofs.lemmas.Bool.{cases_lt, cases_eq, cases_Bool}
use Rattle.std.proofs.lemmas.Bool.Decides.{nat_tests}
use Rattle.std.proofs.lemmas.List.{length-map, take_all}
use Rattle.hier_types.specs.declared.settings.Codec.{Codec}
use Rattle.hier_types.specs.Tabulate.{tabulate}
use Rattle.hier_types.proofs.TableLemmas.{length-tabulate, get_or-tabulate}
use Rattle.line_codec.specs.Slots.{stored, fits}
use Rattle.line_codec.specs.Layout.{stored_sizes, exceptions_of, chunks_of}
use Rattle.page_slots.specs.declared.form.Form.{Form}
use Rattle.page_slots.specs.Chunks.{count_in}
use Rattle.page_slots.specs.Forms.{IsForm, form_of, room}
use Rattle.page_slots.specs.Lines.{meta, content_at, HasLine, HasLines, HasOthers}
use Rattle.page_slots.specs.Laid.{next_chunk, SlottedPagesHaveRoom}
use Rattle.page_slots.specs.Puts.{HasNoPlace}
use Rattle.page_slots.proofs.ChunkLemmas.{tally, tally_yes, tally_no, count_in-suc, count_in-zero, count_few, count_full}
use Rattle.page_slots.proofs.FormLemmas.{form_is, room_le, chunks_are}
use Rattle.page_slots.proofs.LaidLemmas.{next_none, exceptions_same, exceptions_more}
use Rattle.page_slots.proofs.LineLemmas.{exception_of, fits-rises, slot_fits, exception_unfit}

abbrev misses : Codec → ℕ → List ℕ → ℕ
misses codec t line = cond (fits codec t line) 0 1

-- the chunk after one line more
next_by : (codec : Codec) (t n : ℕ) (lines : List (List ℕ)) → n < length lines → next_chunk codec t lines (suc n) ≡ next_chunk codec t lines n + misses codec t (get_or lines n [])
next_by codec t n lines within =
    let more : next_chunk codec t lines (n + 1) ≡ next_chunk codec t lines n + misses codec t (get_or lines n []) = elim (cases_Bool (fits codec t (get_or lines n []))) [
      | inl fit ↦ rw fit (omega (arith, exceptions_same codec t n lines within fit))
      | inr unfit ↦ rw unfit (exceptions_more codec t n lines within unfit)
    ] in
    subst (λ (k : ℕ). next_chunk codec t lines k ≡ next_chunk codec t lines n + misses codec t (get_or lines n [])) (add-one n) more

-- the exceptions of a form
abbrev All : Form → List ℕ → ℕ → ℕ
All form bytes n = count_in (1 + form.large) form.chunks bytes n

tally_here : (codec : Codec) (form : Form) (bytes : List ℕ) (i : ℕ) (line : List ℕ) → HasLine codec form bytes i line → 128 ≤ meta bytes i → tally (1 + form.large) form.chunks (meta bytes i) ≡ 1
tally_here codec form bytes i line has high =
    let own = exception_of codec form bytes i line has high in
    tally_yes (1 + form.large) form.chunks (meta bytes i) high (omega (arith, own.0)) own.1

-- slots of at least these lengths hold all lines but as many as there are exceptions
outgrown_most : (codec : Codec) (form : Form) (t : ℕ) (bytes : List ℕ) (lines : List (List ℕ)) (n : ℕ) → n ≤ 64 → length lines ≡ 64 → ((i : ℕ) → room form i ≤ t)
    → HasLines codec form bytes (λ i. get_or lines i []) → next_chunk codec t lines n ≤ 1 + t + All form bytes n
outgrown_most codec form t bytes lines zero n_in count large has = omega (arith, next_none codec t lines)
outgrown_most codec form t bytes lines (suc n) n_in count large has =
    let before = outgrown_most codec form t bytes lines n (omega arith) count large has in
    let next = next_by codec t n lines (omega arith) in
    let own = has.has n (omega arith) in
    let more = count_in-suc (1 + form.large) form.chunks bytes n in
    elim (cases_lt (meta bytes n) 128) [
      | inl low ↦
          let fit : misses codec t (get_or lines n []) ≡ 0 = rw (fits-rises codec (room form n) t (get_or lines n []) (large n) (slot_fits codec form bytes n (get_or lines n []) own low)) refl in
          omega (arith, before, next, more, fit)
      | inr high ↦
          let most : misses codec t (get_or lines n []) ≤ 1 = grind (arith, nat_tests) in
          omega (arith, before, next, more, most, tally_here codec form bytes n (get_or lines n []) own high)
    ]

-- a line that outgrows a slot outgrows smaller ones
unfit_below : (codec : Codec) (t r : ℕ) (line : List ℕ) → t ≤ r → fits codec r line ≡ false → fits codec t line ≡ false
unfit_below codec t r line le unfit = elim (cases_Bool (fits codec t line)) [
  | inl fit ↦ absurd (true≢false (sym (fits-rises codec t r line le fit) ∙ unfit))
  | inr outgrew ↦ outgrew
]

-- slots of at most these lengths do not hold the exceptions, nor a line that outgrew its slot
outgrown_least : (codec : Codec) (form : Form) (t : ℕ) (bytes : List ℕ) (lines : List (List ℕ)) (line n : ℕ) → n ≤ 64 → length lines ≡ 64 → ((i : ℕ) → t ≤ room form i)
    → HasOthers codec form bytes line (λ i. get_or lines i []) → (line < 64 → (meta bytes line < 128) × (fits codec t (get_or lines line []) ≡ false))
    → (n ≤ line → 1 + t + All form bytes n ≤ next_chunk codec t lines n) × (line < n → 2 + t + All form bytes n ≤ next_chunk codec t lines n)
outgrown_least codec form t bytes lines line zero n_in count small has grown =
    (λ l. omega (arith, next_none codec t lines, count_in-zero (1 + form.large) form.chunks bytes), λ l. absurd (omega arith))
outgrown_least codec form t bytes lines line (suc n) n_in count small has grown =
    let before = outgrown_least codec form t bytes lines line n (omega arith) count small has grown in
    let next = next_by codec t n lines (omega arith) in
    let more = count_in-suc (1 + form.large) form.chunks bytes n in
    elim (cases_eq n line) [
      | inl e ↦
          let own = grown (omega arith) in
          let none : tally (1 + form.large) form.chunks (meta bytes n) ≡ 0 = tally_no (1 + form.large) form.chunks (meta bytes n) (λ high from below. absurd (omega (arith, rw (sym e) at own.0))) in
          let one : misses codec t (get_or lines n []) ≡ 1 = rw (rw (sym e) at own.1) refl in
          (λ l. absurd (omega arith), λ l. omega (arith, before.0 (omega arith), next, more, none, one))
      | inr ne ↦ elim (cases_lt (meta bytes n) 128) [
        | inl low ↦
            let none : tally (1 + form.large) form.chunks (meta bytes n) ≡ 0 = tally_no (1 + form.large) form.chunks (meta bytes n) (λ high from below. absurd (omega arith)) in
            (λ l. omega (arith, before.0 (omega arith), next, more, none), λ l. omega (arith, before.1 (omega arith), next, more, none))
        | inr high ↦
            let own = has.has n (omega arith) ne in
            let one : misses codec t (get_or lines n []) ≡ 1 = rw (unfit_below codec t (room form n) (get_or lines n []) (small n) (exception_unfit codec form bytes n (get_or lines n []) own high)) refl in
            let here = tally_here codec form bytes n (get_or lines n []) own high in
            (λ l. omega (arith, before.0 (omega arith), next, more, one, here), λ l. omega (arith, before.1 (omega arith), next, more, one, here))
      ]
    ]

-- all lines
next_all : (codec : Codec) (t : ℕ) (lines : List (List ℕ)) → length lines ≡ 64 → next_chunk codec t lines 64 ≡ chunks_of (stored_sizes codec lines) t
next_all codec t lines count =
    ap (λ (sizes : List (Option ℕ)). chunks_of sizes t) (take_all 64 (stored_sizes codec lines) (omega (arith, count, length-map lines (stored codec))))

-- the lines of a page as a list
listed : (codec : Codec) (form : Form) (bytes : List ℕ) (lines : ℕ → List ℕ) → HasLines codec form bytes lines → HasLines codec form bytes (λ i. get_or (tabulate lines 64) i [])
listed codec form bytes lines has = record {
  has = λ i i_in. subst (HasLine codec form bytes i) (sym (get_or-tabulate [] lines 64 i i_in)) (has.has i i_in);
  apart = has.apart;
}

-- the exceptions of a page have room in the block
large_room : (codec : Codec) (form : Form) (size : ℕ) (bytes : List ℕ) (lines : ℕ → List ℕ) → IsForm form size → HasLines codec form bytes lines
    → chunks_of (stored_sizes codec (tabulate lines 64)) form.large ≤ form.chunks
large_room codec form size bytes lines is has =
    let count = length-tabulate lines 64 in
    let most = outgrown_most codec form form.large bytes (tabulate lines 64) 64 (omega arith) count (λ i. room_le form size i is) (listed codec form bytes lines has) in
    let few = count_few (form.chunks - (1 + form.large)) (1 + form.large) form.chunks bytes (omega (arith, is.slots_in)) has.apart in
    omega (arith, most, few, is.slots_in, next_all codec form.large (tabulate lines 64) count)

pub slotted_room : SlottedPagesHaveRoom
slotted_room codec slots bytes sound =
    let room = large_room codec (form_of slots) (length bytes) bytes (content_at (form_of slots) bytes) (form_is slots (length bytes) sound.holds) sound.lines in
    omega (arith, room, chunks_are slots)

-- the exceptions of a page whose slots all have this length are the lines that they do not hold
pub count_all : (codec : Codec) (form : Form) (t : ℕ) (bytes : List ℕ) (lines : ℕ → List ℕ) → ((i : ℕ) → room form i ≡ t) → HasLines codec form bytes lines
    → All form bytes 64 ≡ exceptions_of (stored_sizes codec (tabulate lines 64)) t
count_all codec form t bytes lines rooms has =
    let count = length-tabulate lines 64 in
    let has' = listed codec form bytes lines has in
    let most = outgrown_most codec form t bytes (tabulate lines 64) 64 (omega arith) count (λ i. omega (arith, rooms i)) has' in
    let least = outgrown_least codec form t bytes (tabulate lines 64) 64 64 (omega arith) count (λ i. omega (arith, rooms i))
    (record { has = λ i i_in ne. has'.has i i_in; apart = has'.apart }) (λ l. absurd (omega arith)) in
    omega (arith, most, least.0 (omega arith), next_all codec t (tabulate lines 64) count)

-- where there is room for all lines that slots of this length do not hold, a line has a place
pub has_place_by : (codec : Codec) (form : Form) (t : ℕ) (bytes : List ℕ) (lines : ℕ → List ℕ) (line : ℕ) → line < 64 → ((i : ℕ) → t ≤ room form i)
    → HasOthers codec form bytes line lines → 1 + form.large + exceptions_of (stored_sizes codec (tabulate lines 64)) t ≤ form.chunks
    → HasNoPlace codec form bytes line (lines line) → ⊥
has_place_by codec form t bytes lines line line_in small has rooms over =
    let count = length-tabulate lines 64 in
    let here = get_or-tabulate [] lines 64 line line_in in
    let least = outgrown_least codec form t bytes (tabulate lines 64) line 64 (omega arith) count small
    (record { has = λ i i_in ne. subst (HasLine codec form bytes i) (sym (get_or-tabulate [] lines 64 i i_in)) (has.has i i_in ne); apart = has.apart })
    (λ l. (over.has_none, ap (fits codec t) here ∙ unfit_below codec t (room form line) (lines line) (small line) over.outgrows)) in
    let full = count_full (form.chunks - (1 + form.large)) (1 + form.large) form.chunks bytes (omega arith) (λ c from below. over.full c (omega arith) below) in
    omega (arith, least.1 line_in, full, rooms, next_all codec t (tabulate lines 64) count)
