use Rattle.std.proofs.Common.{OnErr, rules}
use Rattle.std.proofs.lemmas.Result.{on_err_weaker}
use Rattle.std.specs.Int.{w32, to_le_bytes}
use Rattle.std.specs.Io.KnownBytes.{Appends}
use Rattle.hier_types.specs.Outside.{AppendsFront}
use Rattle.run_report.proofs.FrontLemmas.{front_of_both, front_of_first}
use Rattle.hier_cli.proofs.images.print_at.Goals as goal

pub returns-in-Err-clause-err : goal.returns-in-Err-clause-err
returns-in-Err-clause-err g c =
    let written = g.O.Sink.written in
    let at = to_le_bytes w32 c.args.at in
    let front : AppendsFront (written c.args.out.now) (written c.write.new.self) at = search rules in
    front_of_first (written c.args.out.now) (written c.write.new.self) at c.args.bytes.now front

pub returns-clause-err : goal.returns-clause-err
returns-clause-err g c =
    let written = g.O.Sink.written in
    let at = to_le_bytes w32 c.args.at in
    let mid = written c.write.new.self in
    let after = written c.write-2.new.self in
    let whole : Appends (written c.args.out.now) mid at = search rules in
    let front : OnErr c.write-2.result (AppendsFront mid after c.args.bytes.now) = search rules in
    on_err_weaker c.write-2.result (front_of_both (written c.args.out.now) mid after at c.args.bytes.now whole) front
