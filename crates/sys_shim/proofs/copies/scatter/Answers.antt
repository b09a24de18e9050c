use Rattle.std.proofs.Common.{◌≡◌, ◌∙◌, ◌+◌, ◌-◌, ◌∷◌, Some, length, slice_index, drop, ap, arith, refl, sym}
use Rattle.std.proofs.lemmas.List.{drop_all}
use Rattle.hier_types.specs.Span.{first}
use Rattle.sys_shim.proofs.CopyLemmas.{drop_next, in_line, same_line}
use Rattle.sys_shim.proofs.copies.scatter.Goals as goal

pub poke-requires-clause-has : goal.poke-requires-clause-has
poke-requires-clause-has g c =
    rw c.loop-index.invariant.span (in_line (g.P.Port.span c.args.port.now) c.args.at c.loop-index.index (length c.args.bytes.now) c.requires.has c.requires.within c.loop-index-test.true)

pub poke-requires-clause-held : goal.poke-requires-clause-held
poke-requires-clause-held g c =
    rw c.loop-index.invariant.span (c.loop-index.invariant.held
    ∙ ap Some (sym (same_line (g.P.Port.span c.args.port.now) c.args.at c.loop-index.index (length c.args.bytes.now) c.requires.has c.requires.within c.loop-index-test.true)))

pub loop-index-preserved : goal.loop-index-preserved
loop-index-preserved g c =
    let so = c.loop-index.invariant in
    let span = g.P.Port.span c.args.port.now in
    let i = c.loop-index.index in
    let bytes = c.args.bytes.now in
    let next : drop i bytes ≡ slice_index bytes i ∷ drop (i + 1) bytes = drop_next bytes i c.loop-index-test.true in
    let place : c.args.at + i - first span + 1 ≡ c.args.at + (i + 1) - first span = omega (arith, c.requires.has) in
    let more : c.args.at + i + 1 ≡ c.args.at + (i + 1) = omega arith in
    record {
      span = c.poke.ensures.span ∙ so.span;
      held = c.poke.ensures.held ∙ so.held;
      stops = c.poke.ensures.stops ∙ so.stops;
      bytes = rw (c.poke.ensures.bytes, so.span, ← place) (rw next at so.bytes);
      rest = λ after made. so.rest after (rw next (c.poke.new.self, c.poke.ensures.did, rw more made));
    }

pub returns-clause-bytes : goal.returns-clause-bytes
returns-clause-bytes g c = rw (drop_all c.loop-index.index c.args.bytes.now c.loop-index-test.false) at c.loop-index.invariant.bytes

pub returns-clause-did : goal.returns-clause-did
returns-clause-did g c = c.loop-index.invariant.rest c.loop-index.port (rw (drop_all c.loop-index.index c.args.bytes.now c.loop-index-test.false) refl)
