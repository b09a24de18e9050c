use Rattle.std.proofs.Common.{◌<◌, ◌^◌, w64, arith}
use Rattle.std.proofs.lemmas.Nat.Bits.{bit_at-trailing_zeros}
use Rattle.number_set.proofs.set.lowest_bit.Goals as goal

pub returns : goal.returns
returns c =
    let small : c.args.word < 2 ^ 64 = omega arith in
    let f = bit_at-trailing_zeros w64 c.args.word c.requires small in
    record { within = f.0; there = f.1; below = f.2 }
