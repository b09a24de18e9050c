use Rattle.std.proofs.Common.{sym, arith}
use Rattle.l2_segments.proofs.LaidLemmas.{laid_last}
use Rattle.l2_segments.proofs.slide.end_of.Goals as goal

pub end-requires : goal.end-requires
end-requires c =
    let last = laid_last 0 c.requires.0 c.args.held.now c.in-Some.last.now (sym c.in-Some.ensures.value) c.requires.2 in
    let fits = last.1 in
    let small = c.requires.1 in
    omega arith

pub returns-in-Some-clause-behind : goal.returns-in-Some-clause-behind
returns-in-Some-clause-behind c =
    rw c.end.ensures (laid_last 0 c.requires.0 c.args.held.now c.in-Some.last.now (sym c.in-Some.ensures.value) c.requires.2).0

pub returns-in-Some-clause-least : goal.returns-in-Some-clause-least
returns-in-Some-clause-least c = λ size laid.
    let last = laid_last 0 size c.args.held.now c.in-Some.last.now (sym c.in-Some.ensures.value) laid in
    rw c.end.ensures last.1
