use Rattle.std.proofs.Common.{◌∙◌, ap}
use Rattle.rv_core.specs.Operations.{high_half}
use Rattle.rv_core.proofs.Products.{signed_product}
use Rattle.rv_core.proofs.alu.with_register.Goals as goal

pub returns-in-Mulh : goal.returns-in-Mulh
returns-in-Mulh c =
    rw c.in-Mulh.is
    (c.high_bits.ensures
    ∙ ap high_half
    (signed_product c.args.a c.args.b c.cast_signed-in-Mulh.result c.cast_signed-in-Mulh-2.result c.from-in-Mulh.result c.from-in-Mulh-2.result c.ranges.a c.ranges.b c.cast_signed-in-Mulh.ensures
    c.cast_signed-in-Mulh-2.ensures c.from-in-Mulh.ensures c.from-in-Mulh-2.ensures))
