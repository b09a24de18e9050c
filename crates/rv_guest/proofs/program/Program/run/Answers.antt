use Rattle.std.proofs.Common.{◌≡◌, refl}
use Rattle.hier_types.specs.Streams.{at_first, went}
use Rattle.hier_types.proofs.StreamLemmas.{faults_first}
use Rattle.beat_runs.specs.Points.{point}
use Rattle.beat_runs.proofs.PointLemmas.{run_faults}
use Rattle.rv_guest.specs.Beside.{guest_beside}
use Rattle.rv_guest.specs.Programs.{ProgramDoes, guest_of, stands_at}
use Rattle.rv_guest.specs.State.{code_at}
use Rattle.rv_guest.proofs.FollowsLemmas.{follows}
use Rattle.rv_guest.proofs.ProgramLemmas.{carries, run_cause, run_keeps}
use Rattle.rv_guest.proofs.program.Program.run.Goals as goal

pub returns-clause-follows : goal.returns-clause-follows
returns-clause-follows g c =
    let p = g.P.Port in
    let code = code_at (p.span c.args.self.now.port) (guest_of p.bytes c.args.self.now) in
    follows (guest_beside code) (guest_of p.bytes) (λ s. code_at (p.span s.port) (guest_of p.bytes s) ≡ code) stands_at (ProgramDoes p.span p.bytes p.stops p.crowded) (carries p.span p.bytes p.stops p.crowded code)
    _ c.args.budget c.args.self.now c.run.result c.run.new.runner _ refl c.requires.within c.run.ensures.runs

pub returns-clause-span : goal.returns-clause-span
returns-clause-span g c = (run_keeps g.P.Port.span g.P.Port.bytes g.P.Port.stops g.P.Port.crowded _ c.args.budget c.args.self.now c.run.result c.run.new.runner _ c.run.ensures.runs).stays

pub returns-clause-stops : goal.returns-clause-stops
returns-clause-stops g c = (run_keeps g.P.Port.span g.P.Port.bytes g.P.Port.stops g.P.Port.crowded _ c.args.budget c.args.self.now c.run.result c.run.new.runner _ c.run.ensures.runs).later

pub returns-clause-cause : goal.returns-clause-cause
returns-clause-cause g c = run_cause g.P.Port.span g.P.Port.bytes g.P.Port.stops g.P.Port.crowded _ c.args.budget c.args.self.now c.run.result c.run.new.runner _ c.run.ensures.runs

pub returns-clause-faults : goal.returns-clause-faults
returns-clause-faults g c =
    let p = g.P.Port in
    let all = went g.I.Source.left g.I.Source.faults g.O.Sink.written g.O.Sink.faults c.args.input.now c.run.new.input c.args.out.now c.run.new.out in
    run_faults stands_at (ProgramDoes p.span p.bytes p.stops p.crowded) c.unwrap-word.result c.args.budget (point c.args.self.now (at_first all)) c.run.result (point c.run.new.runner all) (faults_first all) c.run.ensures.runs
