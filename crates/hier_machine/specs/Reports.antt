-- The report of a machine that settles.
use Rattle.std.specs.Prelude.{◌≡◌, ℕ, List, Ok, Err}
use Rattle.hier_types.specs.Calls.{Answer}
use Rattle.hier_types.specs.declared.counts.L1Counts.{L1Counts}
use Rattle.hier_types.specs.declared.settings.Codec.{Codec}
use Rattle.l2_cache.specs.SecondLevel.{SecondLevel}
use Rattle.page_plan.specs.Sizes.{sizes_of_memory}
use Rattle.page_store.specs.Store.{IsSound, Store, sizing_of}
use Rattle.run_report.specs.declared.end.End.{End}
use Rattle.run_report.specs.declared.report.Counts.{Counts}
use Rattle.run_report.specs.declared.report.Report.{Report}
use Rattle.run_report.specs.declared.report.Settled.{Settled}
use Rattle.run_report.specs.declared.report.Settled.TheVariants.{Done, Space}
use Rattle.hier_machine.specs.Lists.{lists_of}
use Rattle.hier_machine.specs.Memory.{guest_lines, store_of}
use Rattle.hier_machine.specs.Settles.{ListsSettle, SettlesMachine}
use Rattle.hier_machine.specs.State.{MachineState}

-- what the levels, the store and the turns of the cleaner have counted
abbrev pub counts_by : L1Counts → SecondLevel Store → ℕ → Counts
counts_by first second cleaner = record {
  l1 = first;
  l2 = second.counts;
  pages = second.below.counts;
  cleaner_turns = cleaner;
}

abbrev pub counts_of : MachineState → Counts
counts_of s = counts_by s.memory.counts s.memory.below s.cleaner_turns

-- the totals of these lines at their plans, or the refusal
abbrev pub SettledAs : Codec → List (List ℕ) → Answer → Settled → Type 0
SettledAs codec lines (Ok u) settled = settled ≡ Done (sizes_of_memory codec lines)
SettledAs codec lines (Err refusal) settled = settled ≡ Space refusal

-- The report has the counts as they stood, and what the settling came to. The store is sound before it.
pub record Reports (old : MachineState) (end : End) (report : Report) (new : MachineState) : Type 0 where
  pub sound : IsSound (store_of old.memory)
  pub answer : Answer
  pub settles : SettlesMachine old answer new
  pub lists : ListsSettle (sizing_of (store_of old.memory)) (lists_of old) answer (lists_of new)
  pub settled : SettledAs (store_of old.memory).codec (guest_lines old.memory) answer report.settled
  pub end_is : report.end ≡ end
  pub retired : report.retired ≡ old.guest.retired
  pub counts : report.counts ≡ counts_of old
