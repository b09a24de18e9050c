use Rattle.std.proofs.Common.{◌≡◌, ◌∙◌, ◌+◌, ◌*◌, ◌++◌, take, sym, ap, arith}
use Rattle.std.proofs.Math.Seq.{take-length}
use Rattle.hier_types.specs.Tabulate.{tabulate}
use Rattle.hier_types.proofs.TableLemmas.{tabulate-add, tabulate-none}
use Rattle.elf_image.specs.Image.{byte_at}
use Rattle.rv_flat.proofs.memory.fill.Goals as goal

pub loop-number-init : goal.loop-number-init
loop-number-init c = record {
  len = c.requires.sized;
  front = sym (tabulate-none (byte_at c.args.image.now.span c.args.image.now.file));
}

pub loop-number-preserved : goal.loop-number-preserved
loop-number-preserved c =
    let f = byte_at c.args.image.now.span c.args.image.now.file in
    let n = c.loop-number.number in
    let next : 4096 * n + 4096 ≡ 4096 * (n + 1) = omega arith in
    record {
      len = c.put_page.ensures.len ∙ c.loop-number.invariant.len;
      front = c.put_page.ensures.front ∙ ap (λ front. front ++ c.page.new.into) c.loop-number.invariant.front
          ∙ ap (λ page. tabulate f (4096 * n) ++ page) c.page.ensures ∙ sym (tabulate-add f (4096 * n) 4096) ∙ ap (tabulate f) next;
    }

pub returns : goal.returns
returns c =
    let bytes = c.loop-number.bytes in
    let end : c.loop-number.number ≡ c.args.pages = omega (arith, c.loop-number.auto.number-end, c.loop-number-test.false) in
    let f = byte_at c.args.image.now.span c.args.image.now.file in
    sym (take-length bytes) ∙ ap (λ n. take n bytes) c.loop-number.invariant.len ∙ ap (λ n. take (4096 * n) bytes) (sym end)
    ∙ c.loop-number.invariant.front ∙ ap (λ n. tabulate f (4096 * n)) (end ∙ sym c.requires.same)
