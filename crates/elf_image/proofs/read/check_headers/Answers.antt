use Rattle.std.proofs.lemmas.Result.{err_from_is_err_and}
use Rattle.elf_image.specs.Accepted.{header_rows}
use Rattle.elf_image.specs.Rows.{first_row}
use Rattle.elf_image.proofs.RowLemmas.{last_row}
use Rattle.elf_image.proofs.read.check_headers.Goals as goal

pub returns-in_err-refuse_at : goal.returns-in_err-refuse_at
unfolding header_rows first_row
returns-in_err-refuse_at c =
    let p = err_from_is_err_and c.from_residual.result c.from_residual.ensures.1 in
    rw (p.1, p.2, ← c.first_of_kind.ensures, c.in_err-refuse_at.ensures)

pub returns-in_err-refuse_if : goal.returns-in_err-refuse_if
unfolding header_rows first_row
returns-in_err-refuse_if c =
    let p = err_from_is_err_and c.from_residual-in_err-refuse_if.result c.from_residual-in_err-refuse_if.ensures.1 in
    rw (p.1, p.2, ← c.first_of_kind.ensures, c.in_ok-refuse_at.ensures, ← c.count_loads-loads.ensures, c.in_err-refuse_if.ensures)

pub returns : goal.returns
unfolding header_rows first_row
returns c =
    rw (← c.first_of_kind.ensures, c.in_ok-refuse_at.ensures, ← c.count_loads-loads.ensures, c.in_ok-refuse_if.ensures, last_row) c.refuse_if-2.ensures
