use Rattle.std.proofs.Common.{◌*◌, [], take, drop, arith}
use Rattle.hier_types.proofs.TableLemmas.{tabulate-by_index}
use Rattle.page_store.proofs.page_lines.lines_in.Goals as goal

pub returns : goal.returns
returns c =
    let kept = c.loop-index.invariant in
    tabulate-by_index [] (λ line. take 64 (drop (64 * line) c.args.bytes.now)) 64 c.loop-index.page kept.whole (λ k lt. kept.copied k (omega arith))
