use Rattle.std.proofs.Common.{refl}
use Rattle.hier_types.specs.Streams.{use_of}
use Rattle.hier_cli.proofs.TraceLemmas.{access_goes_on}
use Rattle.hier_cli.proofs.traces.TraceRunner.beat.Goals as goal

pub returns-in-Hart-clause-goes_on : goal.returns-in-Hart-clause-goes_on
returns-in-Hart-clause-goes_on g c =
    let untouched = use_of g.I.Source.left g.I.Source.faults c.args.input.now c.args.input.now in
    rw c.in-Hart.is (access_goes_on _ c.args.self.now c.make_access.new.self c.make_access.result _ (c.make_access.ensures.makes untouched refl) c.make_access.ensures.running)
