use Rattle.std.proofs.Common.{replicate, sym}
use Rattle.hier_types.specs.Lines.{zero_line}
use Rattle.page_plan.proofs.KeptLemmas.{ones-zero_page, zero_page-zeros}
use Rattle.page_plan.proofs.page_sizes.PageSizes.of_zeros.Goals as goal

pub returns-clause-zeros : goal.returns-clause-zeros
returns-clause-zeros c codec = sym (ones-zero_page codec (replicate 64 zero_line) (zero_page-zeros 64))
