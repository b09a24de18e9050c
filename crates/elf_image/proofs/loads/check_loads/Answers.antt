use Rattle.std.proofs.lemmas.Result.{err_from_is_err_and}
use Rattle.elf_image.specs.Accepted.{load_rows}
use Rattle.elf_image.specs.Rows.{first_row}
use Rattle.elf_image.proofs.RowLemmas.{last_row}
use Rattle.elf_image.proofs.loads.check_loads.Goals as goal

pub returns-in_err-refuse_at : goal.returns-in_err-refuse_at
unfolding load_rows first_row
returns-in_err-refuse_at c =
    let p = err_from_is_err_and c.from_residual.result c.from_residual.ensures.1 in
    rw (p.1, p.2, ← c.first_past_file.ensures, c.in_err-refuse_at.ensures)

pub returns-in_err-refuse_at-2 : goal.returns-in_err-refuse_at-2
unfolding load_rows first_row
returns-in_err-refuse_at-2 c =
    let p = err_from_is_err_and c.from_residual-in_err-refuse_at-2.result c.from_residual-in_err-refuse_at-2.ensures.1 in
    rw (p.1, p.2, ← c.first_past_file.ensures, c.in_ok-refuse_at.ensures, ← c.first_above_memory.ensures, c.in_err-refuse_at-2.ensures)

pub returns-in_err-refuse_at-3 : goal.returns-in_err-refuse_at-3
unfolding load_rows first_row
returns-in_err-refuse_at-3 c =
    let p = err_from_is_err_and c.from_residual-in_err-refuse_at-3.result c.from_residual-in_err-refuse_at-3.ensures.1 in
    rw (p.1, p.2, ← c.first_past_file.ensures, c.in_ok-refuse_at.ensures, ← c.first_above_memory.ensures, c.in_ok-refuse_at-2.ensures, ← c.first_outside.ensures, c.in_err-refuse_at-3.ensures)

pub returns : goal.returns
unfolding load_rows first_row
returns c = rw (← c.first_past_file.ensures, c.in_ok-refuse_at.ensures, ← c.first_above_memory.ensures, c.in_ok-refuse_at-2.ensures, ← c.first_outside.ensures, c.in_ok-refuse_at-3.ensures, ← c.first_overlap.ensures, last_row) c.refuse_at-4.ensures
