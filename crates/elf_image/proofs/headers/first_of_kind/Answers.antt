use Rattle.std.proofs.Common.{◌∙◌, ◌==◌, find, Some, ap, sym, arith}
use Rattle.hier_types.proofs.TableLemmas.{tabulate-none}
use Rattle.elf_image.specs.Headers.{header_of}
use Rattle.elf_image.specs.declared.headers.Header.{Header}
use Rattle.elf_image.proofs.HeaderLemmas.{find-ends, find-skips, kind-is, kind-other}
use Rattle.elf_image.proofs.headers.first_of_kind.Goals as goal

pub loop-number-init : goal.loop-number-init
loop-number-init c = ap (find (λ (header : Header). header.kind == c.args.kind)) (tabulate-none (header_of c.args.file.now))

pub loop-number-preserved : goal.loop-number-preserved
loop-number-preserved c =
    let f = header_of c.args.file.now in
    let n = c.loop-number.number in
    find-skips (λ (header : Header). header.kind == c.args.kind) f n c.loop-number.invariant
    (kind-other c.header_at-header.result (f n) c.args.kind c.header_at-header.ensures c.if-header-kind.false)

pub returns-then-header-kind : goal.returns-then-header-kind
returns-then-header-kind c =
    let f = header_of c.args.file.now in
    let n = c.loop-number.number in
    let found = find-ends (λ (header : Header). header.kind == c.args.kind) f n c.half_at-number-end.result c.loop-number.invariant
    (kind-is c.header_at-header.result (f n) c.args.kind c.header_at-header.ensures c.if-header-kind.true) (omega arith) in
    rw (← c.half_at-number-end.ensures) (ap Some c.header_at-header.ensures ∙ sym found)
