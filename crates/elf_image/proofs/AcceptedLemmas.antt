-- What it says of a file that rows hold or do not hold.
use Rattle.std.proofs.Common.{◌≡◌, ◌∙◌, ◌≤◌, ◌++◌, ℕ, false, List, length, Option, Some, None, ap, sym, refl, arith}
use Rattle.std.specs.Option.{option_or}
use Rattle.hier_types.specs.Span.{Span}
use Rattle.elf_image.specs.declared.fault.ImageFault.{ImageFault}
use Rattle.elf_image.specs.declared.headers.Header.{Header}
use Rattle.elf_image.specs.declared.fault.ImageKind.TheVariants.{Short, Magic, Class, Order, Version, Kind, Machine, Compressed, HeaderTable, Interpreter, NoLoad, ManyLoads, FileRange, SizeOrder, AddressRange, Overlap}
use Rattle.elf_image.specs.Accepted.{fault_of, file_header_rows, has_bad_table, header_rows, load_rows}
use Rattle.elf_image.specs.Headers.{HasHeaders, loads_of}
use Rattle.elf_image.specs.Rows.{first_row}
use Rattle.elf_image.proofs.RowLemmas.{OfFile, at_header-of_file, first_row-append, first_row-of_file, no_row, no_rows-of_file, not_whole, whole-of_file}

-- the three parts of the table
pub by_parts : (span : Span) (file : List ℕ)
    → fault_of span file ≡ option_or (first_row (file_header_rows file)) (option_or (first_row (header_rows file)) (first_row (load_rows span (length file) (loads_of file))))
unfolding fault_of
by_parts span file =
    first_row-append (file_header_rows file) (header_rows file ++ load_rows span (length file) (loads_of file))
    ∙ ap (option_or (first_row (file_header_rows file))) (first_row-append (header_rows file) (load_rows span (length file) (loads_of file)))

pub has_file_header : (file : List ℕ) → first_row (file_header_rows file) ≡ None → 52 ≤ length file
unfolding file_header_rows
has_file_header file none = let long = not_whole _ _ (no_row _ _ none).0 in grind arith

pub has_headers : (file : List ℕ) → first_row (file_header_rows file) ≡ None → HasHeaders file
unfolding file_header_rows
has_headers file none =
    let a = no_row _ _ none in
    let b = no_row _ _ a.1 in
    let d = no_row _ _ b.1 in
    let e = no_row _ _ d.1 in
    let f = no_row _ _ e.1 in
    let g = no_row _ _ f.1 in
    let h = no_row _ _ g.1 in
    let i = no_row _ _ h.1 in
    let j = no_row _ _ i.1 in
    let good : has_bad_table file ≡ false = not_whole _ _ j.0 in
    λ some. grind arith

pub file_header-of_file : (file : List ℕ) → OfFile (first_row (file_header_rows file))
unfolding file_header_rows
file_header-of_file file =
    first_row-of_file _ _ (whole-of_file Short _ (λ e. cc)) (first_row-of_file _ _ (whole-of_file Magic _ (λ e. cc))
    (first_row-of_file _ _ (whole-of_file Class _ (λ e. cc)) (first_row-of_file _ _ (whole-of_file Order _ (λ e. cc))
    (first_row-of_file _ _ (whole-of_file Version _ (λ e. cc)) (first_row-of_file _ _ (whole-of_file Kind _ (λ e. cc))
    (first_row-of_file _ _ (whole-of_file Machine _ (λ e. cc)) (first_row-of_file _ _ (whole-of_file Compressed _ (λ e. cc))
    (first_row-of_file _ _ (whole-of_file HeaderTable _ (λ e. cc)) no_rows-of_file))))))))

pub headers-of_file : (file : List ℕ) → OfFile (first_row (header_rows file))
unfolding header_rows
headers-of_file file =
    first_row-of_file _ _ (at_header-of_file Interpreter _ (λ e. cc)) (first_row-of_file _ _ (whole-of_file NoLoad _ (λ e. cc))
    (first_row-of_file _ _ (whole-of_file ManyLoads _ (λ e. cc)) no_rows-of_file))

pub loads-of_file : (span : Span) (bytes : ℕ) (loads : List Header) → OfFile (first_row (load_rows span bytes loads))
unfolding load_rows
loads-of_file span bytes loads =
    first_row-of_file _ _ (at_header-of_file FileRange _ (λ e. cc)) (first_row-of_file _ _ (at_header-of_file SizeOrder _ (λ e. cc))
    (first_row-of_file _ _ (at_header-of_file AddressRange _ (λ e. cc)) (first_row-of_file _ _ (at_header-of_file Overlap _ (λ e. cc)) no_rows-of_file)))

pub fault-file_header : (span : Span) (file : List ℕ) (fault : ImageFault) → first_row (file_header_rows file) ≡ Some fault → fault_of span file ≡ Some fault
fault-file_header span file fault found =
    by_parts span file ∙ ap (λ row. option_or row (option_or (first_row (header_rows file)) (first_row (load_rows span (length file) (loads_of file))))) found

-- where no row of the file header holds, the others decide
later : (span : Span) (file : List ℕ) → first_row (file_header_rows file) ≡ None
    → fault_of span file ≡ option_or (first_row (header_rows file)) (first_row (load_rows span (length file) (loads_of file)))
later span file none =
    by_parts span file ∙ ap (λ row. option_or row (option_or (first_row (header_rows file)) (first_row (load_rows span (length file) (loads_of file))))) none

pub fault-headers : (span : Span) (file : List ℕ) (fault : ImageFault) → first_row (file_header_rows file) ≡ None → first_row (header_rows file) ≡ Some fault → fault_of span file ≡ Some fault
fault-headers span file fault none found = later span file none ∙ ap (λ row. option_or row (first_row (load_rows span (length file) (loads_of file)))) found

-- where no row of the headers holds either, those of the loads decide
pub fault-loads : (span : Span) (file : List ℕ) → first_row (file_header_rows file) ≡ None → first_row (header_rows file) ≡ None
    → fault_of span file ≡ first_row (load_rows span (length file) (loads_of file))
fault-loads span file none no_header = later span file none ∙ ap (λ row. option_or row (first_row (load_rows span (length file) (loads_of file)))) no_header

both_none : (a b : Option ImageFault) → option_or a b ≡ None → (a ≡ None) × (b ≡ None)
both_none None b none = (refl, none)
both_none (Some fault) b none = cc

pub no_file_header_row : (span : Span) (file : List ℕ) → fault_of span file ≡ None → first_row (file_header_rows file) ≡ None
no_file_header_row span file accepted = (both_none _ _ (sym (by_parts span file) ∙ accepted)).0

pub no_load_row : (span : Span) (file : List ℕ) → fault_of span file ≡ None → first_row (load_rows span (length file) (loads_of file)) ≡ None
no_load_row span file accepted =
    let others = both_none _ _ (sym (by_parts span file) ∙ accepted) in
    (both_none _ _ others.1).1

pub accepted_long : (span : Span) (file : List ℕ) → fault_of span file ≡ None → 52 ≤ length file
accepted_long span file accepted = has_file_header file (no_file_header_row span file accepted)
