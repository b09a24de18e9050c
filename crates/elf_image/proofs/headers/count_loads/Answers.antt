use Rattle.std.proofs.Common.{◌≡◌, ◌∙◌, [], ◌∷◌, filter, length, ap, sym, arith, length-append}
use Rattle.hier_types.specs.Tabulate.{tabulate}
use Rattle.hier_types.proofs.TableLemmas.{tabulate-none}
use Rattle.elf_image.specs.Headers.{header_of, is_load, loads_of}
use Rattle.elf_image.proofs.HeaderLemmas.{filter-skips, filter-takes, kind-is, kind-other}
use Rattle.elf_image.proofs.headers.count_loads.Goals as goal
use Rattle.elf_image.proofs.headers.count_loads.Goals.{then-header_at-eq-LOAD, else-header_at-eq-LOAD}

pub loop-number-init : goal.loop-number-init
loop-number-init c = record { few = omega arith; counted = sym (ap (λ xs. length (filter is_load xs)) (tabulate-none (header_of c.args.file.now))) }

pub loop-number-preserved : goal.loop-number-preserved
loop-number-preserved c =
    let f = header_of c.args.file.now in
    let n = c.loop-number.number in
    let read = c.header_at in
    elim c.if-header_at-eq-LOAD.branch [
      | then-header_at-eq-LOAD w ↦
          let more = ap length (filter-takes is_load f n (kind-is read.result (f n) 1 read.ensures w.if-header_at-eq-LOAD.true)) ∙ length-append (filter is_load (tabulate f n)) (f n ∷ []) in
          record { few = omega arith; counted = omega (arith, more) }
      | else-header_at-eq-LOAD w ↦
          let more = ap length (filter-skips is_load f n (kind-other read.result (f n) 1 read.ensures w.if-header_at-eq-LOAD.false)) in
          record { few = omega arith; counted = omega (arith, more) }
    ]

pub returns : goal.returns
unfolding loads_of
returns c =
    let end : c.loop-number.number ≡ c.half_at-number-end.result = omega (arith, c.loop-number.auto.number-end, c.loop-number-test.false) in
    c.loop-number.invariant.counted ∙ ap (λ n. length (filter is_load (tabulate (header_of c.args.file.now) n))) (end ∙ c.half_at-number-end.ensures)
