use Rattle.std.proofs.Common.{◌≡◌, rules, subst, map, List, SomeIff}
use Rattle.hier_types.specs.Beats.{IsBeatWord}
use Rattle.hier_types.specs.declared.beats.Beat.{Beat}
use Rattle.sim_words.specs.Values.{beat_of}
use Rattle.sim_words.proofs.BeatLemmas.{beats_read}
use Rattle.sim_words.proofs.values.beats_of.Goals as goal

pub returns : goal.returns
returns c =
    let text = c.args.text.now in
    let beats : c.as_slice.result.now ≡ map beat_of text = search rules in
    beats_read text c.new.result (search rules) (search rules)
    (subst (λ (bs : List Beat). SomeIff c.new.result (IsBeatWord bs) bs) beats c.new.ensures)
