use Rattle.std.proofs.Common.{◌∙◌, suc, refl, sym, ap, arith}
use Rattle.std.proofs.Math.Nat.{zero-mod}
use Rattle.hier_types.specs.Beats.{IsBeat}
use Rattle.beat_runs.proofs.WordLemmas.{gap, inside_word, next_place, some_beats, work_falls}
use Rattle.beat_runs.proofs.PointLemmas.{runs_end, runs_none, runs_on, runs_stop}
use Rattle.beat_runs.proofs.runner.run.Goals as goal

pub beats-init : goal.beats-init
beats-init g c = record {
  count = 0;
  runs = runs_none _ _ _ _ _ _;
  ready = c.requires.ready;
  place_is = sym (zero-mod _);
  inside = some_beats c.args.word.now c.len-length.ensures.word;
  len = c.len-length.ensures.len;
  word = c.len-length.ensures.word;
}

pub returns-in-Some : goal.returns-in-Some
returns-in-Some g c =
    let so = c.beats.invariant in
    record { runs = runs_stop _ _ _ _ _ _ _ _ so.count _ so.runs so.word c.in-Some.ensures.some }

pub returns-in-Some-beat : goal.returns-in-Some-beat
returns-in-Some-beat g c =
    let so = c.beats.invariant in
    let none = c.in_default.ensures.none in
    let is : IsBeat c.args.word.now so.count c.beat_at-beat.result = rw so.place_is at c.beat_at-beat.ensures in
    record { runs = runs_end _ _ _ _ _ _ _ _ so.count c.beat_at-beat.result _ _ so.runs so.word is none.0 (record { input = refl; output = refl; in_faults = refl; out_faults = refl }) c.beat.ensures.faults (rw none.1 at c.in-Some-beat.ensures.does) }

pub beats-smaller : goal.beats-smaller
beats-smaller g c =
    let so = c.beats.invariant in
    let none = c.in_default.ensures.none in
    let counts = ap g.M.Runner.retired none.1 in
    let falls = work_falls c.args.word.now c.args.budget (g.M.Runner.retired c.beats.runner) (g.M.Runner.retired c.beat.new.self) c.beats.place c.beat_at-beat.result so.word c.beat_at-beat.ensures so.inside none.2
    (rw none.1 at c.in_default-beat.ensures.goes_on.1) in
    omega (arith, falls, ap (gap c.args.word.now) (rw so.len at c.place_after-place.ensures))

pub beats-preserved : goal.beats-preserved
beats-preserved g c =
    let so = c.beats.invariant in
    let none = c.in_default.ensures.none in
    let is : IsBeat c.args.word.now so.count c.beat_at-beat.result = rw so.place_is at c.beat_at-beat.ensures in
    let place = (rw so.len at c.place_after-place.ensures) ∙ next_place c.beats.place so.count _ so.place_is in
    record {
      count = suc so.count;
      runs = runs_on _ _ _ _ _ _ _ _ so.count c.beat_at-beat.result _ so.runs so.word is none.0 none.2 (record { input = refl; output = refl; in_faults = refl; out_faults = refl }) c.beat.ensures.faults (rw none.1 at c.in_default-beat.ensures.does) (rw none.1 at c.in_default-beat.ensures.goes_on.1);
      ready = c.in_default-beat.ensures.goes_on.0;
      place_is = place;
      inside = omega (arith, place, inside_word c.args.word.now (suc so.count) so.word);
      len = so.len;
      word = so.word;
    }
