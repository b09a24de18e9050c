-- From a call of the guest to what its instruction does.
use Rattle.std.proofs.Common.{◌≡◌, ℕ, refl, ap}
use Rattle.hier_types.specs.declared.faults.NoSpace.{NoSpace}
use Rattle.hier_types.specs.Streams.{AreUntouched, Streams}
use Rattle.rv_core.specs.Code.{Code}
use Rattle.rv_core.specs.Effect.{Goes, Calls}
use Rattle.rv_core.specs.Hart.{Hart}
use Rattle.sys_shim.specs.declared.calls.Called.TheVariants as called
use Rattle.sys_shim.specs.Called.{DoesCall, Task, task}
use Rattle.sys_shim.specs.Calls.{Request, Exit, Answer, Read, Write, SetBreak, request_of}
use Rattle.rv_guest.specs.Beside.{guest_beside}
use Rattle.rv_guest.specs.State.{GuestState, counted}
use Rattle.rv_guest.specs.Steps.{FailsAtRead, FailsAtWrite, MakesExit, MakesStep}
use Rattle.rv_guest.proofs.StepLemmas.{makes_quiet, makes_read, makes_write}

-- an instruction that goes on is a step
pub step_retires : (code : Code) (old : GuestState) (hart : Hart) (streams : Streams) → code.effect old.hart ≡ Goes hart → AreUntouched streams → MakesStep (guest_beside code) old (counted (record old { hart = hart })) streams
step_retires code old hart streams goes quiet = makes_quiet (guest_beside code) old (counted (record old { hart = hart })) streams refl quiet (λ input output. rw goes refl)

-- the guest after a call, of which so many instructions had retired
abbrev pub after_call : GuestState → Task → GuestState
after_call old new = record old { hart = new.hart; brk = new.brk }

module _ (code : Code) (old : GuestState) (call : code.effect old.hart ≡ Calls) where
  -- a call that was answered is a step
  pub call_steps : (request : Request) (new : Task) (streams : Streams) → request_of code.span old.brk old.hart ≡ request
      → DoesCall code.span request (task old.hart old.brk) called.Done new streams → MakesStep (guest_beside code) old (counted (after_call old new)) streams
  call_steps (Exit status) new streams asks did = absurd did
  call_steps (Answer value) new streams asks did = makes_quiet (guest_beside code) old (counted (after_call old new)) streams refl did.1 (λ input output. rw (call, asks, did.0) refl)
  call_steps (SetBreak top) new streams asks did = makes_quiet (guest_beside code) old (counted (after_call old new)) streams refl did.1 (λ input output. rw (call, asks, did.0) refl)
  call_steps (Write bytes) new streams asks did = makes_write (guest_beside code) old (counted (after_call old new)) streams refl bytes did.2 did.1 (λ input output. rw (call, asks, did.0) refl)
  call_steps (Read at count) new streams asks did =
      makes_read (guest_beside code) old (counted (after_call old new)) streams refl count did.got did.gives did.output (λ input output first. rw (call, asks, did.new_is, first) refl)

  pub call_exits : (request : Request) (status : ℕ) (new : Task) (streams : Streams) → request_of code.span old.brk old.hart ≡ request
      → DoesCall code.span request (task old.hart old.brk) (called.Exit status) new streams → MakesExit (guest_beside code) old status (counted (after_call old new)) streams
  call_exits (Exit asked) status new streams asks did = record { quiet = did.2; retired = refl; step = λ input output. rw (call, asks, did.0, did.1) refl }
  call_exits (Answer value) status new streams asks did = absurd did
  call_exits (Read at count) status new streams asks did = absurd did
  call_exits (Write bytes) status new streams asks did = absurd did
  call_exits (SetBreak top) status new streams asks did = absurd did

  pub call_fails_at_read : (request : Request) (new : Task) (streams : Streams) → request_of code.span old.brk old.hart ≡ request
      → DoesCall code.span request (task old.hart old.brk) called.InFault new streams → FailsAtRead (guest_beside code) old (after_call old new) streams
  call_fails_at_read (Read at count) new streams asks did =
      record { same = ap (after_call old) did.0; at = at; count = count; call = rw (call, asks) refl; fails = did.1; output = did.2 }
  call_fails_at_read (Exit asked) new streams asks did = absurd did
  call_fails_at_read (Answer value) new streams asks did = absurd did
  call_fails_at_read (Write bytes) new streams asks did = absurd did
  call_fails_at_read (SetBreak top) new streams asks did = absurd did

  pub call_fails_at_write : (request : Request) (new : Task) (streams : Streams) → request_of code.span old.brk old.hart ≡ request
      → DoesCall code.span request (task old.hart old.brk) called.OutFault new streams → FailsAtWrite (guest_beside code) old (after_call old new) streams
  call_fails_at_write (Write bytes) new streams asks did = record { same = ap (after_call old) did.0; bytes = bytes; call = rw (call, asks) refl; fails = did.1; input = did.2 }
  call_fails_at_write (Exit asked) new streams asks did = absurd did
  call_fails_at_write (Answer value) new streams asks did = absurd did
  call_fails_at_write (Read at count) new streams asks did = absurd did
  call_fails_at_write (SetBreak top) new streams asks did = absurd did

-- a touch of its buffer that was refused
pub call_stops : (code : Code) (old : GuestState) (request : Request) (refusal : NoSpace) (new : Task) (streams : Streams)
    → DoesCall code.span request (task old.hart old.brk) (called.Stop refusal) new streams → (after_call old new ≡ old) × AreUntouched streams
call_stops code old (Exit asked) refusal new streams did = (ap (after_call old) did.0, did.1)
call_stops code old (Answer value) refusal new streams did = (ap (after_call old) did.0, did.1)
call_stops code old (Read at count) refusal new streams did = (ap (after_call old) did.0, did.1)
call_stops code old (Write bytes) refusal new streams did = (ap (after_call old) did.0, did.1)
call_stops code old (SetBreak top) refusal new streams did = (ap (after_call old) did.0, did.1)
