use Rattle.std.proofs.Common.{◌≡◌, ◌∙◌, ◌+◌, ◌-◌, ◌<◌, [], None, Some, length, get_or, refl, ap, arith}
use Rattle.hier_types.specs.Span.{first, line_at}
use Rattle.hier_types.proofs.PortCallLemmas.{made_pokes, made_refused, made_touch}
use Rattle.sys_shim.specs.CallLines.{lines_from}
use Rattle.sys_shim.proofs.CopyLemmas.{copied_more, lines_more, lines_none, lines_of_buffer, part_by_index}
use Rattle.sys_shim.proofs.copies.gather.Goals as goal

pub returns-in-Err-clause-made : goal.returns-in-Err-clause-made
returns-in-Err-clause-made g c =
    let span = g.P.Port.span c.args.port.now in
    let line = c.loop-line.line in
    let last = c.line_of-last.result.0 in
    let from : c.line_of-line.result.0 ≡ line_at span c.args.at = c.line_of-line.ensures ∙ ap (λ s. line_at s c.args.at) c.span-geometry.ensures.span in
    let to : last ≡ line_at span (c.args.at + (length c.args.into.now - 1)) = c.line_of-last.ensures ∙ ap (λ s. line_at s (c.args.at + (length c.args.into.now - 1))) c.span-geometry.ensures.span in
    rw (← lines_of_buffer span c.args.at (length c.args.into.now) c.line_of-line.result.0 last c.requires.some from to)
    (c.loop-line.invariant.rest c.touch.new.self (Some c.in-Err.refusal)
    (rw (lines_more line last c.loop-line-test.true)
    (made_refused g.P.Port.did_touch g.P.Port.did_poke c.loop-line.port line (lines_from (line + 1) (last + 1 - (line + 1))) [] c.in-Err.refusal c.touch.new.self c.in-Err.ensures.did)))

pub loop-line-preserved : goal.loop-line-preserved
loop-line-preserved g c =
    let so = c.loop-line.invariant in
    let line = c.loop-line.line in
    let last = c.line_of-last.result.0 in
    let span = c.in_default.ensures.span ∙ so.span in
    let bytes = c.in_default.ensures.bytes ∙ so.bytes in
    record {
      bytes = bytes;
      span = span;
      later = omega (arith, so.later, c.in_default.ensures.cause.later);
      copied = copied_more (g.P.Port.span c.args.port.now) (g.P.Port.bytes c.args.port.now) line c.args.at c.loop-line.into c.copy_line.new.into (rw (span, bytes) at c.copy_line.ensures) so.copied;
      rest = λ after stop made. so.rest after stop
          (rw (lines_more line last c.loop-line-test.true)
          (made_touch g.P.Port.did_touch g.P.Port.did_poke c.loop-line.port c.touch.new.self line (lines_from (line + 1) (last + 1 - (line + 1))) [] stop after c.in_default.ensures.did made));
    }

pub returns-clause-ok : goal.returns-clause-ok
returns-clause-ok g c =
    let span = g.P.Port.span c.args.port.now in
    let bytes = g.P.Port.bytes c.args.port.now in
    let at = c.args.at in
    let count = length c.args.into.now in
    let last = c.line_of-last.result.0 in
    let to : last ≡ line_at span (at + (count - 1)) = c.line_of-last.ensures ∙ ap (λ s. line_at s (at + (count - 1))) c.span-geometry.ensures.span in
    let sized = c.span-geometry.ensures.sized in
    let low = c.requires.low in
    part_by_index bytes c.loop-line.into (at - first span) count c.loop-line.auto.into (omega (arith, c.requires.high))
    (λ k lt.
    let place : at + k - first span ≡ at - first span + k = omega arith in
    let before : line_at span (at + k) < c.loop-line.line = omega (arith, c.loop-line-test.false) in
    c.loop-line.invariant.copied k (omega (arith, c.loop-line.auto.into)) before ∙ ap (λ p. get_or bytes p 0) place)

pub returns-clause-made : goal.returns-clause-made
returns-clause-made g c =
    let span = g.P.Port.span c.args.port.now in
    let line = c.loop-line.line in
    let last = c.line_of-last.result.0 in
    let from : c.line_of-line.result.0 ≡ line_at span c.args.at = c.line_of-line.ensures ∙ ap (λ s. line_at s c.args.at) c.span-geometry.ensures.span in
    let to : last ≡ line_at span (c.args.at + (length c.args.into.now - 1)) = c.line_of-last.ensures ∙ ap (λ s. line_at s (c.args.at + (length c.args.into.now - 1))) c.span-geometry.ensures.span in
    rw (← lines_of_buffer span c.args.at (length c.args.into.now) c.line_of-line.result.0 last c.requires.some from to)
    (c.loop-line.invariant.rest c.loop-line.port None
    (rw (lines_none line last c.loop-line-test.false) (made_pokes g.P.Port.did_touch g.P.Port.did_poke c.loop-line.port [] c.loop-line.port refl)))
