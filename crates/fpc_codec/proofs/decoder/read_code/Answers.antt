use Rattle.std.proofs.Common.{arith}
use Rattle.fpc_codec.proofs.FrontLemmas.{begins_ended, begins_cut}
use Rattle.fpc_codec.proofs.decoder.read_code.Goals as goal

pub returns-in_default-clause-none : goal.returns-in_default-clause-none
returns-in_default-clause-none c = λ words some begins. begins_ended _ _ words c.in_default.ensures.none some begins

pub returns-in_default-take-clause-none : goal.returns-in_default-take-clause-none
returns-in_default-take-clause-none c =
    let first = c.in-Some.ensures in
    λ words some begins.
    begins_cut _ _ c.in-Some.prefix _ c.from_prefix-pattern.result words c.from_prefix-pattern.ensures first.value
    (omega (arith, c.in_default-take.ensures.none, c.payload_bits.ensures.value, first.bits)) some begins
