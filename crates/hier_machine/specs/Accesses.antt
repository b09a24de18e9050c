-- What one access of a trace does to the machine.
use Rattle.std.specs.Prelude.{◌≡◌, ◌+◌, ℕ, [], ◌∷◌, Result, Ok, Err}
use Rattle.hier_types.specs.Causes.{Refuses, refusal_of}
use Rattle.hier_types.specs.PortCalls.{MadeInOrder}
use Rattle.hier_types.specs.Span.{Span, line_at}
use Rattle.hier_types.specs.declared.access.Access.{Access}
use Rattle.hier_types.specs.declared.faults.NoSpace.{NoSpace}
use Rattle.l1_cache.specs.FirstCalls.{FirstPoke}
use Rattle.page_store.specs.Crowds.{Crowded}
use Rattle.rv_core.specs.Accesses.{accessed, address_of, pokes_of_access, value_of}
use Rattle.rv_guest.specs.State.{GuestState}
use Rattle.hier_machine.specs.Beats.{KeepsSettings, TurnsStay}
use Rattle.hier_machine.specs.Memory.{TouchMemory, store_of}
use Rattle.hier_machine.specs.State.{MachineState}

-- the guest's bytes after an access that was made, which is counted like an instruction
abbrev pub after_access : Span → Access → GuestState → GuestState
after_access span access g = record g { hart = record g.hart { bytes = accessed span access g.hart.bytes }; retired = g.retired + 1 }

-- an access gives its value; one that is refused leaves the guest as it was
abbrev pub DoesAccess : Span → Access → GuestState → Result ℕ NoSpace → GuestState → Type 0
DoesAccess span access old (Ok value) new = (value ≡ value_of span access old.hart.bytes) × (new ≡ after_access span access old)
DoesAccess span access old (Err refusal) new = new ≡ old

-- An access touches its one line and then pokes what it stores, through both levels and the store; where the touch is
-- refused, the store is crowded.
pub record AccessBeats (old : MachineState) (access : Access) (result : Result ℕ NoSpace) (new : MachineState) : Type 0 where
  pub does : DoesAccess old.memory.span access old.guest result new.guest
  pub made : MadeInOrder TouchMemory FirstPoke old.memory (line_at old.memory.span (address_of access) ∷ []) (pokes_of_access access) (refusal_of result) new.memory
  pub cause : Refuses (store_of old.memory).stops (store_of new.memory).stops (Crowded (store_of new.memory)) result
  pub stays : KeepsSettings old new
  pub turns : TurnsStay old new
  pub ended : new.ended ≡ old.ended
