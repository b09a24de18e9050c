use Rattle.std.proofs.lemmas.Result.{err_from_is_err_and}
use Rattle.elf_image.specs.Accepted.{file_header_rows}
use Rattle.elf_image.specs.Rows.{first_row}
use Rattle.elf_image.proofs.RowLemmas.{last_row}
use Rattle.elf_image.proofs.file_header.check_file_header.Goals as goal

pub returns-in_err-refuse_if : goal.returns-in_err-refuse_if
unfolding file_header_rows first_row
returns-in_err-refuse_if c =
    let p = err_from_is_err_and c.from_residual.result c.from_residual.ensures.1 in
    rw (p.1, p.2, c.in_err-refuse_if.ensures)

pub returns-in_err-refuse_if-2 : goal.returns-in_err-refuse_if-2
unfolding file_header_rows first_row
returns-in_err-refuse_if-2 c =
    let p = err_from_is_err_and c.from_residual-in_err-refuse_if-2.result c.from_residual-in_err-refuse_if-2.ensures.1 in
    rw (p.1, p.2, c.in_ok-refuse_if.ensures, ← c.word_at.ensures, c.in_err-refuse_if-2.ensures)

pub returns-in_err-refuse_if-3 : goal.returns-in_err-refuse_if-3
unfolding file_header_rows first_row
returns-in_err-refuse_if-3 c =
    let p = err_from_is_err_and c.from_residual-in_err-refuse_if-3.result c.from_residual-in_err-refuse_if-3.ensures.1 in
    rw (p.1, p.2, c.in_ok-refuse_if.ensures, ← c.word_at.ensures, c.in_ok-refuse_if-2.ensures, c.in_err-refuse_if-3.ensures)

pub returns-in_err-refuse_if-4 : goal.returns-in_err-refuse_if-4
unfolding file_header_rows first_row
returns-in_err-refuse_if-4 c =
    let p = err_from_is_err_and c.from_residual-in_err-refuse_if-4.result c.from_residual-in_err-refuse_if-4.ensures.1 in
    rw (p.1, p.2, c.in_ok-refuse_if.ensures, ← c.word_at.ensures, c.in_ok-refuse_if-2.ensures, c.in_ok-refuse_if-3.ensures, c.in_err-refuse_if-4.ensures)

pub returns-in_err-refuse_if-5 : goal.returns-in_err-refuse_if-5
unfolding file_header_rows first_row
returns-in_err-refuse_if-5 c =
    let p = err_from_is_err_and c.from_residual-in_err-refuse_if-5.result c.from_residual-in_err-refuse_if-5.ensures.1 in
    rw (p.1, p.2, c.in_ok-refuse_if.ensures, ← c.word_at.ensures, c.in_ok-refuse_if-2.ensures, c.in_ok-refuse_if-3.ensures, c.in_ok-refuse_if-4.ensures, ← c.has_other_version.ensures, c.in_err-refuse_if-5.ensures)

pub returns-in_err-refuse_if-6 : goal.returns-in_err-refuse_if-6
unfolding file_header_rows first_row
returns-in_err-refuse_if-6 c =
    let p = err_from_is_err_and c.from_residual-in_err-refuse_if-6.result c.from_residual-in_err-refuse_if-6.ensures.1 in
    rw (p.1, p.2, c.in_ok-refuse_if.ensures, ← c.word_at.ensures, c.in_ok-refuse_if-2.ensures, c.in_ok-refuse_if-3.ensures, c.in_ok-refuse_if-4.ensures, ← c.has_other_version.ensures, c.in_ok-refuse_if-5.ensures, ← c.half_at.ensures, c.in_err-refuse_if-6.ensures)

pub returns-in_err-refuse_if-7 : goal.returns-in_err-refuse_if-7
unfolding file_header_rows first_row
returns-in_err-refuse_if-7 c =
    let p = err_from_is_err_and c.from_residual-in_err-refuse_if-7.result c.from_residual-in_err-refuse_if-7.ensures.1 in
    rw (p.1, p.2, c.in_ok-refuse_if.ensures, ← c.word_at.ensures, c.in_ok-refuse_if-2.ensures, c.in_ok-refuse_if-3.ensures, c.in_ok-refuse_if-4.ensures, ← c.has_other_version.ensures, c.in_ok-refuse_if-5.ensures, ← c.half_at.ensures, c.in_ok-refuse_if-6.ensures, ← c.half_at-2.ensures, c.in_err-refuse_if-7.ensures)

pub returns-in_err-refuse_if-8 : goal.returns-in_err-refuse_if-8
unfolding file_header_rows first_row
returns-in_err-refuse_if-8 c =
    let p = err_from_is_err_and c.from_residual-in_err-refuse_if-8.result c.from_residual-in_err-refuse_if-8.ensures.1 in
    rw (p.1, p.2, c.in_ok-refuse_if.ensures, ← c.word_at.ensures, c.in_ok-refuse_if-2.ensures, c.in_ok-refuse_if-3.ensures, c.in_ok-refuse_if-4.ensures, ← c.has_other_version.ensures, c.in_ok-refuse_if-5.ensures, ← c.half_at.ensures, c.in_ok-refuse_if-6.ensures, ← c.half_at-2.ensures, c.in_ok-refuse_if-7.ensures, ← c.word_at-2.ensures, c.in_err-refuse_if-8.ensures)

pub returns : goal.returns
unfolding file_header_rows first_row
returns c = rw (c.in_ok-refuse_if.ensures, ← c.word_at.ensures, c.in_ok-refuse_if-2.ensures, c.in_ok-refuse_if-3.ensures, c.in_ok-refuse_if-4.ensures, ← c.has_other_version.ensures, c.in_ok-refuse_if-5.ensures, ← c.half_at.ensures, c.in_ok-refuse_if-6.ensures, ← c.half_at-2.ensures, c.in_ok-refuse_if-7.ensures, ← c.word_at-2.ensures, c.in_ok-refuse_if-8.ensures, ← c.has_bad_table.ensures, last_row) c.refuse_if-9.ensures
