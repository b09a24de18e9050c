-- What holds of the loads of a file that is accepted.
use Rattle.std.proofs.Common.{◌≡◌, ◌∙◌, ◌<◌, ◌≤◌, ◌&&◌, ℕ, zero, suc, Bool, true, false, List, [], ◌∷◌, length, get_or, take, find, Option, Some, None, AllPairs, Contains, cond, drop, option_map, unwrap_or, nat_lt, refl, sym, ap, arith}
use Rattle.std.specs.List.{list_any}
use Rattle.std.specs.Option.{option_or}
use Rattle.std.proofs.Math.Seq.{drop-cons}
use Rattle.std.proofs.lemmas.Bool.{false≢true, lt-ltb}
use Rattle.std.proofs.lemmas.List.{get_or-take, length-take, take-append-drop}
use Rattle.std.proofs.lemmas.List.Folds.{find-append, list_any_at}
use Rattle.std.proofs.lemmas.List.Kept.{AllPairs-filter}
use Rattle.hier_types.specs.Span.{Span, past}
use Rattle.hier_types.proofs.TableLemmas.{get_or-tabulate, length-tabulate}
use Rattle.elf_image.specs.Accepted.{end_address, exceeds_memory, fault_of, leaves_span, load_rows, overlaps_earlier, passes_file, shares_byte}
use Rattle.elf_image.specs.Headers.{header_count, header_of, headers_of, is_load, loads_of}
use Rattle.elf_image.specs.Image.{HoldsLoads, byte_of, covers, loaded_byte}
use Rattle.elf_image.specs.Pages.{IsWithin}
use Rattle.elf_image.specs.Rows.{first_row}
use Rattle.elf_image.specs.declared.headers.Header.{Header}
use Rattle.elf_image.proofs.AcceptedLemmas.{no_load_row}
use Rattle.elf_image.proofs.RowLemmas.{no_row, not_at_header}

by_test : {A : Type 0} (b : Bool) (x : A) (found : Option A) → cond b (Some x) found ≡ None → b ≡ false
by_test true x found none = cc
by_test false x found none = refl

passed : {A : Type 0} (test : A → Bool) (x : A) (xs : List A) → find test (x ∷ xs) ≡ None → test x ≡ false
passed test x xs none = by_test (test x) x (find test xs) none

rest : {A : Type 0} (test : A → Bool) (x : A) (xs : List A) → find test (x ∷ xs) ≡ None → find test xs ≡ None
rest test x xs none = sym (ap (λ b. cond b (Some x) (find test xs)) (passed test x xs none)) ∙ none

-- what is not found is nowhere
pub find-nowhere : {A : Type 0} (test : A → Bool) (xs : List A) (k : ℕ) (d : A) → find test xs ≡ None → k < length xs → test (get_or xs k d) ≡ false
find-nowhere test [] k d none inside = absurd (omega arith)
find-nowhere test (x ∷ xs) zero d none inside = passed test x xs none
find-nowhere test (x ∷ xs) (suc k) d none inside = find-nowhere test xs k d (rest test x xs none) (omega arith)

-- what is nowhere is not found
pub find-none : {A : Type 0} (test : A → Bool) (xs : List A) (d : A) → ((k : ℕ) → k < length xs → test (get_or xs k d) ≡ false) → find test xs ≡ None
find-none test [] d nowhere = refl
find-none test (x ∷ xs) d nowhere =
    rw (nowhere 0 (omega arith)) (find-none test xs d (λ k inside. nowhere (suc k) (omega arith)))

ascending : (file : List ℕ) (i j : ℕ) (d : Header) → i < j → j < length (headers_of file) → (get_or (headers_of file) i d).number < (get_or (headers_of file) j d).number
ascending file i j d before inside =
    let all : length (headers_of file) ≡ header_count file = length-tabulate (header_of file) (header_count file) in
    let a = ap (λ (h : Header). h.number) (get_or-tabulate d (header_of file) (header_count file) i (omega arith)) in
    let b = ap (λ (h : Header). h.number) (get_or-tabulate d (header_of file) (header_count file) j (omega arith)) in
    omega (arith, a, b)

-- loads stand in the order of their numbers
pub loads_ascend : (file : List ℕ) → AllPairs (λ (a b : Header). a.number < b.number) (loads_of file)
unfolding loads_of
loads_ascend file = AllPairs-filter (λ (a b : Header). a.number < b.number) is_load (headers_of file) (ascending file)

-- the rows of loads, of which none holds
no_file_range : (span : Span) (bytes : ℕ) (loads : List Header) → first_row (load_rows span bytes loads) ≡ None → find (passes_file bytes) loads ≡ None
unfolding load_rows
no_file_range span bytes loads none = not_at_header _ _ (no_row _ _ none).0

no_size_order : (span : Span) (bytes : ℕ) (loads : List Header) → first_row (load_rows span bytes loads) ≡ None → find exceeds_memory loads ≡ None
unfolding load_rows
no_size_order span bytes loads none = let a = no_row _ _ none in not_at_header _ _ (no_row _ _ a.1).0

no_address_range : (span : Span) (bytes : ℕ) (loads : List Header) → first_row (load_rows span bytes loads) ≡ None → find (leaves_span span) loads ≡ None
unfolding load_rows
no_address_range span bytes loads none = let a = no_row _ _ none in let b = no_row _ _ a.1 in not_at_header _ _ (no_row _ _ b.1).0

no_overlap : (span : Span) (bytes : ℕ) (loads : List Header) → first_row (load_rows span bytes loads) ≡ None → find (overlaps_earlier loads) loads ≡ None
unfolding load_rows
no_overlap span bytes loads none = let a = no_row _ _ none in let b = no_row _ _ a.1 in let d = no_row _ _ b.1 in not_at_header _ _ (no_row _ _ d.1).0

-- its bytes lie in the file
pub load_within : (span : Span) (file : List ℕ) (k : ℕ) (d : Header) → fault_of span file ≡ None → k < length (loads_of file) → IsWithin (length file) (get_or (loads_of file) k d)
load_within span file k d accepted inside =
    let good = find-nowhere (passes_file (length file)) (loads_of file) k d (no_file_range span (length file) (loads_of file) (no_load_row span file accepted)) inside in
    λ some. grind arith

-- its memory has room for its bytes
pub load_sized : (span : Span) (file : List ℕ) (k : ℕ) (d : Header) → fault_of span file ≡ None → k < length (loads_of file)
    → (get_or (loads_of file) k d).file_size ≤ (get_or (loads_of file) k d).memory_size
load_sized span file k d accepted inside =
    let good = find-nowhere exceeds_memory (loads_of file) k d (no_size_order span (length file) (loads_of file) (no_load_row span file accepted)) inside in
    grind arith

-- its memory ends in the span
pub load_inside : (span : Span) (file : List ℕ) (k : ℕ) (d : Header) → fault_of span file ≡ None → k < length (loads_of file)
    → 0 < (get_or (loads_of file) k d).memory_size → end_address (get_or (loads_of file) k d) ≤ past span
load_inside span file k d accepted inside some =
    let good = find-nowhere (leaves_span span) (loads_of file) k d (no_address_range span (length file) (loads_of file) (no_load_row span file accepted)) inside in
    grind arith

of_test : (b : Bool) → (b ≡ true → ⊥) → b ≡ false
of_test true none = absurd (none refl)
of_test false none = refl

not_both : (a b : Bool) → (a && b) ≡ false → a ≡ true → b ≡ false
not_both true b none e = none
not_both false b none e = absurd (false≢true e)

no_other : (test : Header → Bool) (loads : List Header) (k : ℕ) (d : Header) → list_any test loads ≡ false → k < length loads → test (get_or loads k d) ≡ false
no_other test loads k d none inside = of_test (test (get_or loads k d)) (λ e. false≢true (sym none ∙ list_any_at test loads k d inside e))

-- no two have the same byte
pub loads_apart : (span : Span) (file : List ℕ) (i j : ℕ) (d : Header) → fault_of span file ≡ None → i < j → j < length (loads_of file)
    → shares_byte (get_or (loads_of file) i d) (get_or (loads_of file) j d) ≡ false
loads_apart span file i j d accepted before inside =
    let loads = loads_of file in
    let later = get_or loads j d in
    let alone = find-nowhere (overlaps_earlier loads) loads j d (no_overlap span (length file) loads (no_load_row span file accepted)) inside in
    let apart = no_other (λ (other : Header). nat_lt other.number later.number && shares_byte other later) loads i d alone (omega arith) in
    let order = loads_ascend file i j d before inside in
    not_both (nat_lt (get_or loads i d).number later.number) (shares_byte (get_or loads i d) later) apart (lt-ltb (get_or loads i d).number later.number order)

both_cover : (at : ℕ) (a b : Header) → a.file_size ≤ a.memory_size → b.file_size ≤ b.memory_size → covers at a ≡ true → covers at b ≡ true → shares_byte a b ≡ true
both_cover at a b fits other_fits here there = grind arith

-- where a load covers an address, none before it does
pub covers_alone : (span : Span) (file : List ℕ) (at k : ℕ) (d : Header) → fault_of span file ≡ None → k < length (loads_of file) → covers at (get_or (loads_of file) k d) ≡ true
    → find (covers at) (take k (loads_of file)) ≡ None
covers_alone span file at k d accepted inside here =
    let loads = loads_of file in
    find-none (covers at) (take k loads) d (λ i before.
    let below : i < k = omega (arith, length-take k loads) in
    let same = get_or-take k loads i d below in
    rw same (of_test (covers at (get_or loads i d)) (λ there.
    false≢true (sym (loads_apart span file i k d accepted below inside)
    ∙ both_cover at (get_or loads i d) (get_or loads k d) (load_sized span file i d accepted (omega arith)) (load_sized span file k d accepted inside) there here))))

load_found : (span : Span) (file : List ℕ) (at : ℕ) (load : Header) → fault_of span file ≡ None → Contains (loads_of file) load → covers at load ≡ true → find (covers at) (loads_of file) ≡ Some load
load_found span file at load accepted here covering =
    let loads = loads_of file in
    let k = here.0 in
    let none = covers_alone span file at k load accepted here.1 (ap (covers at) here.2 ∙ covering) in
    let behind : drop k loads ≡ load ∷ drop (suc k) loads = drop-cons loads k load here.1 ∙ ap (λ (x : Header). x ∷ drop (suc k) loads) here.2 in
    ap (find (covers at)) (sym (take-append-drop k loads)) ∙ find-append (covers at) (take k loads) (drop k loads)
    ∙ ap (λ found. option_or found (find (covers at) (drop k loads))) none ∙ ap (find (covers at)) behind
    ∙ ap (λ b. cond b (Some load) (find (covers at) (drop (suc k) loads))) covering

pub holds_loads : (span : Span) (file : List ℕ) → fault_of span file ≡ None → HoldsLoads file
unfolding loaded_byte
holds_loads span file accepted = λ load at here covering.
    ap (λ found. unwrap_or (option_map (byte_of file at) found) 0) (load_found span file at load accepted here covering)
