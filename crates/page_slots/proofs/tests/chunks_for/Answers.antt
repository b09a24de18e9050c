use Rattle.std.proofs.Common.{rules, ◌≡◌, ◌<◌, ◌≤◌, ◌+◌, ℕ, Bool, true, false, List, [], get_or, length, sym, refl, arith}
use Rattle.std.specs.Prelude.{if◌then◌else◌}
use Rattle.hier_types.specs.declared.settings.Codec.{Codec}
use Rattle.line_codec.specs.Slots.{fits}
use Rattle.page_slots.specs.Laid.{next_chunk}
use Rattle.page_slots.proofs.LaidLemmas.{next_none, exceptions_same, exceptions_more}
use Rattle.page_slots.proofs.tests.chunks_for.Goals as goal

-- one line more
step : (codec : Codec) (t n chunks more : ℕ) (lines : List (List ℕ)) (fit : Bool) → n < length lines → fits codec t (get_or lines n []) ≡ fit
    → chunks ≡ next_chunk codec t lines n → more ≡ (if fit then 0 else 1) → (chunks + more ≡ next_chunk codec t lines (n + 1)) × (more ≤ 1)
step codec t n chunks more lines true within fit count e = let same = exceptions_same codec t n lines within fit in (omega (arith, same, count, e), omega (arith, e))
step codec t n chunks more lines false within fit count e = let next = exceptions_more codec t n lines within fit in (omega (arith, next, count, e), omega (arith, e))

pub loop-index-init : goal.loop-index-init
loop-index-init c = record {
  count = sym (next_none c.args.codec c.args.target c.args.lines.now);
  most = omega arith;
}

pub loop-index-preserved : goal.loop-index-preserved
loop-index-preserved c =
    let whole : length c.args.lines.now ≡ 64 = search rules in
    let next = step c.args.codec c.args.target c.loop-index.index c.loop-index.chunks c.chunks_beside-chunks.result c.args.lines.now _ (omega (arith, c.loop-index-test.true)) refl
    c.loop-index.invariant.count c.chunks_beside-chunks.ensures in
    record { count = next.0; most = omega (arith, next.1, c.loop-index.invariant.most) }
