use Rattle.std.proofs.Common.{◌≡◌, ◌<◌, ◌%◌, ℕ, length}
use Rattle.hier_types.specs.Streams.{at_first, went}
use Rattle.hier_types.specs.Beats.{IsBeatWord}
use Rattle.beat_runs.proofs.WordLemmas.{work}
use Rattle.beat_runs.specs.Points.{point}
use Rattle.beat_runs.proofs.PointLemmas.{RunsSoFar}
use Rattle.beat_runs.proofs.runner.run.Given as goal

abbrev pub invariant-beats : goal.invariant-beats
invariant-beats g l =
    let so_far = went g.I.Source.left g.I.Source.faults g.O.Sink.written g.O.Sink.faults l.fn.input l.input l.fn.out l.out in
    record {
      count : ℕ;
      runs : RunsSoFar g.M.Runner.retired g.M.Runner.stands g.M.Runner.does l.word l.budget (point l.fn.runner (at_first so_far)) count (point l.runner so_far);
      ready : g.M.Runner.ready l.runner;
      place_is : l.place ≡ count % length l.word;
      inside : l.place < length l.word;
      len : l.length ≡ length l.word;
      word : IsBeatWord l.word;
    }

abbrev pub decreases-beats : goal.decreases-beats
decreases-beats g l = work l.word l.budget (g.M.Runner.retired l.runner) l.place
