use Rattle.std.proofs.Common.{◌≡◌, sym, true, arith}
use Rattle.sim_words.specs.Values.{is_number}
use Rattle.sim_words.proofs.ValueLemmas.{number_beyond}
use Rattle.sim_words.proofs.values.number_within.Goals as goal

pub returns-in-Err-clause-rule : goal.returns-in-Err-clause-rule
returns-in-Err-clause-rule c =
    let digits : is_number c.args.text.now ≡ true = sym c.if-not-is_number.ensures in
    rw digits (sym (number_beyond c.args.text.now c.args.low c.args.high digits (omega (arith, c.ranges.high.fits)) c.in-Err.ensures.value.0))
