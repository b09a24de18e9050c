-- The lines that an instruction of the guest touches, calls among them, and the bytes that it pokes.
use Rattle.std.specs.Prelude.{ℕ, List, [], ◌++◌, Option, Some, None}
use Rattle.hier_types.specs.declared.faults.NoSpace.{NoSpace}
use Rattle.rv_core.specs.Code.{Code}
use Rattle.rv_core.specs.Effect.{Effect, Goes, Calls, Faults}
use Rattle.rv_core.specs.Hart.{Hart}
use Rattle.sys_shim.specs.Calls.{request_of}
use Rattle.sys_shim.specs.CallLines.{lines_of_request, pokes_of_request}
use Rattle.sys_shim.specs.declared.calls.Called.TheVariants.{Done}
use Rattle.rv_guest.specs.declared.ends.MachineEnd.{MachineEnd}
use Rattle.rv_guest.specs.declared.ends.MachineEnd.TheVariants.{Exit, Trap, Budget, Space, InFault, OutFault}
use Rattle.rv_guest.specs.State.{GuestState}

abbrev pub lines_of_effect : Code → GuestState → Effect → List ℕ
lines_of_effect code s Calls = lines_of_request code.span s.hart (request_of code.span s.brk s.hart)
lines_of_effect code s (Goes hart) = []
lines_of_effect code s (Faults cause value) = []

-- the lines that the next instruction touches: its own, then that of its data or those of its call
abbrev pub lines_at : Code → GuestState → List ℕ
lines_at code s = code.touched s.hart ++ lines_of_effect code s (code.effect s.hart)

-- the pokes of a call that was answered, by the memory after it; any other instruction pokes what it stores
abbrev pub pokes_of_effect : Code → GuestState → Effect → Option MachineEnd → Hart → List (ℕ × ℕ)
pokes_of_effect code s Calls None after = pokes_of_request code.span (request_of code.span s.brk s.hart) Done after
pokes_of_effect code s Calls (Some end) after = []
pokes_of_effect code s (Goes hart) end after = code.poked s.hart
pokes_of_effect code s (Faults cause value) end after = code.poked s.hart

-- the bytes that the next instruction pokes, by how it ended and the hart after it
abbrev pub pokes_at : Code → GuestState → Option MachineEnd → Hart → List (ℕ × ℕ)
pokes_at code s end after = pokes_of_effect code s (code.effect s.hart) end after

-- the refusal, if that is the end
abbrev pub stop_of_beat : Option MachineEnd → Option NoSpace
stop_of_beat (Some (Space refusal)) = Some refusal
stop_of_beat None = None
stop_of_beat (Some (Exit status)) = None
stop_of_beat (Some (Trap trap)) = None
stop_of_beat (Some Budget) = None
stop_of_beat (Some InFault) = None
stop_of_beat (Some OutFault) = None
