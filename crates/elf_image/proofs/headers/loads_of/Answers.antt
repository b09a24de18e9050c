use Rattle.std.proofs.Common.{◌≡◌, ◌∙◌, ◌++◌, List, [], ◌∷◌, filter, ap, sym, arith}
use Rattle.hier_types.specs.Tabulate.{tabulate}
use Rattle.hier_types.proofs.TableLemmas.{tabulate-none}
use Rattle.elf_image.specs.Headers.{header_of, is_load, loads_of}
use Rattle.elf_image.specs.declared.headers.Header.{Header}
use Rattle.elf_image.proofs.HeaderLemmas.{filter-skips, filter-takes, kind-is, kind-other}
use Rattle.elf_image.proofs.headers.loads_of.Goals as goal
use Rattle.elf_image.proofs.headers.loads_of.Goals.{then-header-eq-LOAD+in_ok-push, else-header-eq-LOAD}

pub loop-number-init : goal.loop-number-init
loop-number-init c = c.new-loads.ensures.items ∙ sym (ap (filter is_load) (tabulate-none (header_of c.args.file.now)))

pub loop-number-preserved : goal.loop-number-preserved
loop-number-preserved c =
    let f = header_of c.args.file.now in
    let n = c.loop-number.number in
    let read = c.header_at-header in
    elim c.if-header-eq-LOAD.branch [
      | then-header-eq-LOAD+in_ok-push w ↦
          let more = filter-takes is_load f n (kind-is read.result (f n) 1 read.ensures w.if-header-eq-LOAD.true) in
          rw w.loads-is (w.in_ok-push.ensures.items ∙ ap (λ (loads : List Header). loads ++ read.result ∷ []) c.loop-number.invariant
          ∙ ap (λ (header : Header). filter is_load (tabulate f n) ++ header ∷ []) read.ensures ∙ sym more)
      | else-header-eq-LOAD w ↦
          rw w.loads-is (c.loop-number.invariant ∙ sym (filter-skips is_load f n (kind-other read.result (f n) 1 read.ensures w.if-header-eq-LOAD.false)))
    ]

pub returns : goal.returns
unfolding loads_of
returns c =
    let end : c.loop-number.number ≡ c.half_at-number-end.result = omega (arith, c.loop-number.auto.number-end, c.loop-number-test.false) in
    c.loop-number.invariant ∙ ap (λ n. filter is_load (tabulate (header_of c.args.file.now) n)) (end ∙ c.half_at-number-end.ensures)
