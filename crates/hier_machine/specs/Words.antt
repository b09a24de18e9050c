-- Runs from one state under different words of beats.
use Rattle.std.specs.Prelude.{◌≡◌, ℕ, List, Some}
use Rattle.hier_types.specs.declared.beats.Beat.{Beat}
use Rattle.hier_types.specs.declared.faults.NoSpace.{NoSpace}
use Rattle.hier_types.specs.Streams.{Streams}
use Rattle.recency.specs.Marks.{undirtied_sets}
use Rattle.recency.specs.Placed.{IsPlaced}
use Rattle.rv_guest.specs.declared.ends.MachineEnd.{MachineEnd}
use Rattle.rv_guest.specs.declared.ends.MachineEnd.TheVariants.{Space}
use Rattle.hier_machine.specs.Memory.{Memory}
use Rattle.hier_machine.specs.Runs.{RunsMachine}
use Rattle.hier_machine.specs.State.{MachineState}

-- Both levels have the same counts, and keep the same lines with the same bytes in the same order; only the dirty marks of
-- the second level may differ.
pub record CountsAlike (one other : Memory) : Type 0 where
  pub first_counts : other.counts ≡ one.counts
  pub second_counts : other.below.counts ≡ one.below.counts
  pub first_sets : other.sets ≡ one.sets
  pub second_sets : undirtied_sets other.below.sets ≡ undirtied_sets one.below.sets

-- Two runs from one state under different words, over the same told input, that end alike with as many instructions
-- retired, and not for want of room, have the same counts of both levels and the same lists.
abbrev pub CountsAreAlike : Type 0
CountsAreAlike = (old : MachineState) (word : List Beat) (end : MachineEnd) (new other : MachineState) (s t : Streams) (bytes : List ℕ) → IsPlaced old.memory.below.sets → s.input.before ≡ Some bytes → t.input.before ≡ Some bytes
    → RunsMachine old end new s → RunsMachine (record old { beats = word }) end other t → ((refusal : NoSpace) → end ≡ Space refusal → ⊥) → new.guest.retired ≡ other.guest.retired
    → CountsAlike new.memory other.memory
