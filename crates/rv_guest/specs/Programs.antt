-- What a program over a port of its own does in a beat.
use Rattle.std.specs.Prelude.{◌≡◌, ◌≤◌, ℕ, List, Option, Some, None, if◌then◌else◌, nat_lt}
use Rattle.hier_types.specs.declared.beats.Beat.{Beat}
use Rattle.hier_types.specs.declared.beats.Beat.TheVariants.{Hart, Mover, Cleaner}
use Rattle.hier_types.specs.declared.faults.NoSpace.{NoSpace}
use Rattle.hier_types.specs.Span.{Span}
use Rattle.hier_types.specs.Streams.{Streams}
use Rattle.rv_guest.specs.declared.ends.MachineEnd.{MachineEnd}
use Rattle.rv_guest.specs.declared.ends.MachineEnd.TheVariants.{Budget}
use Rattle.rv_guest.specs.declared.program.Program.{Program}
use Rattle.rv_guest.specs.Beside.{guest_at}
use Rattle.rv_guest.specs.FollowsFlat.{Idles}
use Rattle.rv_guest.specs.State.{GuestState, code_at, state_of}
use Rattle.rv_guest.specs.Steps.{DoesBeat, IsJustified}

-- the guest over the bytes that the port shows
abbrev pub guest_of : {P : Type 0} → (P → List ℕ) → Program P → GuestState
guest_of bytes s = state_of s.guest (bytes s.port)

-- where a run with this budget ends before a beat: where it is used up
abbrev pub stands_at : {P : Type 0} → ℕ → Program P → Option (MachineEnd × Program P)
stands_at budget s = if nat_lt s.guest.retired budget then None else Some (Budget, s)

-- A beat of the hart is one instruction of the guest over the port, whose span stays.
pub record ProgramBeats {P : Type 0} (span : P → Span) (bytes : P → List ℕ) (stops : P → ℕ) (crowded : P → NoSpace → Type 0) (old : Program P) (result : Option MachineEnd) (new : Program P) (streams : Streams) : Type 0 where
  pub does : DoesBeat (guest_at (span old.port) (guest_of bytes old)) (guest_of bytes old) result (guest_of bytes new) streams
  pub stays : span new.port ≡ span old.port
  pub code : code_at (span new.port) (guest_of bytes new) ≡ code_at (span old.port) (guest_of bytes old)
  pub later : stops old.port ≤ stops new.port
  pub cause : IsJustified (stops old.port) (stops new.port) (crowded new.port) result

-- no one else has a turn that does anything
abbrev pub ProgramDoes : {P : Type 0} → (P → Span) → (P → List ℕ) → (P → ℕ) → (P → NoSpace → Type 0) → Beat → Program P → Option MachineEnd → Program P → Streams → Type 0
ProgramDoes span bytes stops crowded Hart old result new streams = ProgramBeats span bytes stops crowded old result new streams
ProgramDoes span bytes stops crowded Mover old result new streams = Idles old result new streams
ProgramDoes span bytes stops crowded Cleaner old result new streams = Idles old result new streams
