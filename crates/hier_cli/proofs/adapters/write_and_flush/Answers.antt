use Rattle.std.proofs.Common.{◌≡◌, ◌∙◌, ◌+◌, length, take, ap, arith, subst}
use Rattle.std.proofs.KnownBytes.{Appends-kept, Appends-nil}
use Rattle.std.proofs.Math.Seq.{take-length}
use Rattle.std.specs.Io.KnownBytes.{Appends}
use Rattle.hier_cli.proofs.StreamLemmas.{part_within, went_on}
use Rattle.hier_cli.proofs.adapters.write_and_flush.Goals as goal

pub loop-count-init : goal.loop-count-init
loop-count-init g c = record { within = omega arith; went = Appends-nil (g.W.Write.contents c.args.stream.now) }

pub returns-in-Ok-eq0-clause-err : goal.returns-in-Ok-eq0-clause-err
returns-in-Ok-eq0-clause-err g c =
    let contents = g.W.Write.contents in
    (c.loop-count.count + c.in-Ok-eq0.field-0, went_on (contents c.args.stream.now) (contents c.loop-count.stream) (contents c.write.new.self) c.args.bytes.now c.loop-count.count c.in-Ok-eq0.field-0 c.loop-count.invariant.went c.in-Ok-eq0.ensures.bytes)

pub loop-count-preserved : goal.loop-count-preserved
loop-count-preserved g c =
    let contents = g.W.Write.contents in
    let bytes = c.args.bytes.now in
    let count = c.loop-count.count in
    record {
      within = part_within bytes count c.in-Ok.more c.loop-count.invariant.within c.in-Ok.ensures.bound;
      went = went_on (contents c.args.stream.now) (contents c.loop-count.stream) (contents c.write.new.self) bytes count c.in-Ok.more c.loop-count.invariant.went c.in-Ok.ensures.bytes;
    }

pub returns-in-Err-clause-err : goal.returns-in-Err-clause-err
returns-in-Err-clause-err g c =
    let contents = g.W.Write.contents in
    (c.loop-count.count, Appends-kept (contents c.args.stream.now) (contents c.loop-count.stream) (contents c.write.new.self) (take c.loop-count.count c.args.bytes.now) c.loop-count.invariant.went c.in-Err.ensures.bytes)

pub returns-in-Ok-flush-clause-ok : goal.returns-in-Ok-flush-clause-ok
returns-in-Ok-flush-clause-ok g c =
    let contents = g.W.Write.contents in
    let bytes = c.args.bytes.now in
    let end : c.loop-count.count ≡ length bytes = omega (arith, c.loop-count.invariant.within, c.loop-count-test.false) in
    let all : take c.loop-count.count bytes ≡ bytes = ap (λ n. take n bytes) end ∙ take-length bytes in
    let went : Appends (contents c.args.stream.now) (contents c.loop-count.stream) bytes = subst (λ xs. Appends (contents c.args.stream.now) (contents c.loop-count.stream) xs) all c.loop-count.invariant.went in
    Appends-kept (contents c.args.stream.now) (contents c.loop-count.stream) (contents c.flush.new.self) bytes went c.flush.ensures.bytes

pub returns-in-Err-flush-clause-err : goal.returns-in-Err-flush-clause-err
returns-in-Err-flush-clause-err g c =
    let contents = g.W.Write.contents in
    (c.loop-count.count, Appends-kept (contents c.args.stream.now) (contents c.loop-count.stream) (contents c.flush.new.self) (take c.loop-count.count c.args.bytes.now) c.loop-count.invariant.went c.flush.ensures.bytes)
