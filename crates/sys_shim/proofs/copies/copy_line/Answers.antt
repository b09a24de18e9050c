use Rattle.std.proofs.Common.{◌≡◌, ◌∙◌, ◌+◌, ◌-◌, ◌*◌, Bool, max, min, cond, get_or, length, ap, arith}
use Rattle.hier_types.specs.Span.{first}
use Rattle.sys_shim.proofs.CopyLemmas.{same_bytes}
use Rattle.sys_shim.proofs.copies.copy_line.Goals as goal

pub returns : goal.returns
returns g c =
    let span = g.P.Port.span c.args.port.now in
    let bytes = g.P.Port.bytes c.args.port.now in
    let old = c.args.into.now in
    let so = c.loop-place.invariant in
    let start : c.first.result ≡ first span = c.first.ensures.first ∙ ap first c.span.ensures.span in
    let from : c.max-from.result ≡ max c.args.at (first span + c.args.line.0 * 64) = rw (← start) c.max-from.ensures in
    let to : c.min-to.result ≡ min (c.args.at + length old) (first span + c.args.line.0 * 64 + 64) = rw (← start) c.min-to.ensures in
    record {
      len = c.loop-place.auto.into;
      each = λ k inside. let at = c.args.at + k - first span in
          so.each k (omega (arith, c.loop-place.auto.into))
          ∙ ap (λ (b : Bool). cond b (get_or bytes at 0) (get_or old k 0))
          (same_bytes span c.args.at (length old) c.args.line.0 k c.max-from.result c.min-to.result c.loop-place.place c.requires.low from to so.within c.loop-place-test.false inside);
    }
