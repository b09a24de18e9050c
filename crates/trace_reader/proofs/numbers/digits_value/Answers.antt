use Rattle.std.proofs.Common.{◌∙◌, ◌+◌, ◌*◌, ℕ, take, ap, sym, arith}
use Rattle.std.specs.Str.Parse.{digits_value}
use Rattle.std.proofs.lemmas.Int.Digits.{digits_value_more}
use Rattle.trace_reader.proofs.NumberLemmas.{digit-fits, digit-below}
use Rattle.trace_reader.proofs.numbers.digits_value.Goals as goal

pub overflow_mul-value : goal.overflow_mul-value
overflow_mul-value c = omega (arith, digit-fits c.loop-digit.digit-index c.loop-digit.value 0 (omega arith) c.loop-digit.invariant.fits (omega arith))

pub overflow_add-value : goal.overflow_add-value
overflow_add-value c =
    omega (arith, digit-fits c.loop-digit.digit-index c.loop-digit.value c.digit_value.result (omega arith) c.loop-digit.invariant.fits c.digit_value.ensures.small)

pub loop-digit-preserved : goal.loop-digit-preserved
loop-digit-preserved c = record {
  written =
      let more = digits_value_more 16 c.args.digits.now c.loop-digit.digit-index c.loop-digit-test.true in
      ap (λ (n : ℕ). n * 16 + c.digit_value.result) c.loop-digit.invariant.written ∙ ap (λ (d : ℕ). digits_value 16 (take c.loop-digit.digit-index c.args.digits.now) * 16 + d) c.digit_value.ensures.value ∙ sym more;
  fits = digit-below c.loop-digit.digit-index c.loop-digit.value c.digit_value.result c.loop-digit.invariant.fits c.digit_value.ensures.small;
}
