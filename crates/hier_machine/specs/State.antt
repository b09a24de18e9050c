-- What contracts see of a machine.
use Rattle.std.specs.Prelude.{ℕ, List, Bool}
use Rattle.hier_types.specs.declared.beats.Beat.{Beat}
use Rattle.rv_core.specs.Code.{Code}
use Rattle.rv_guest.specs.Beside.{Beside, guest_beside}
use Rattle.rv_guest.specs.Flat.{Flat}
use Rattle.rv_guest.specs.State.{GuestState, code_at}
use Rattle.hier_machine.specs.Memory.{Memory, store_of}

-- the memory with both cache levels; the guest's state, with the bytes that the memory has; how many instructions may
-- retire; the word of beats; how often the cleaner had a turn; and whether the run has ended
pub record MachineState : Type 0 where
  pub memory : Memory
  pub guest : GuestState
  pub budget : ℕ
  pub beats : List Beat
  pub cleaner_turns : ℕ
  pub ended : Bool

-- how the code of its guest is read
abbrev pub code_of_machine : MachineState → Code
code_of_machine s = code_at s.memory.span s.guest

-- its guest beside the flat machine
abbrev pub guest_of_machine : MachineState → Beside GuestState Flat
guest_of_machine s = guest_beside (code_of_machine s)

-- how often its mover had a turn, which its store counts
abbrev pub mover_turns_of : MachineState → ℕ
mover_turns_of s = (store_of s.memory).counts.mover_turns
