use Rattle.std.proofs.Common.{◌≡◌, replicate}
use Rattle.page_slots.specs.declared.desc.Desc.TheVariants as desc
use Rattle.page_store.proofs.blocks.zero_pages.Given as goal

abbrev pub invariant-loop-count : goal.invariant-loop-count
invariant-loop-count l = l.made.items ≡ replicate l.count desc.Zero
