-- A guest beside its flat machine.
use Rattle.std.specs.Prelude.{ℕ, List, Option, Some, None}
use Rattle.hier_types.specs.Span.{Span}
use Rattle.rv_core.specs.Code.{Code}
use Rattle.rv_core.specs.Effect.{Effect, Goes, Calls, Faults}
use Rattle.sys_shim.specs.Calls.{Request, request_of}
use Rattle.rv_guest.specs.Flat.{Flat, flat_step}
use Rattle.rv_guest.specs.FlatRun.{Outcome}
use Rattle.rv_guest.specs.State.{GuestState, code_at, flat_of}

-- The flat state that a state stands for, with this input left and this output so far; one flat step; how many
-- instructions retired; what the call asks for that stands next; and the program counter.
pub record Beside (G F : Type 0) : Type 0 where
  pub told : G → List ℕ → List ℕ → F
  pub step : F → Outcome F
  pub retired : G → ℕ
  pub call : G → Option Request
  pub pc : G → ℕ

-- what a call asks for, where the effect is a call
abbrev pub request_by : Span → GuestState → Effect → Option Request
request_by span s Calls = Some (request_of span s.brk s.hart)
request_by span s (Goes hart) = None
request_by span s (Faults cause value) = None

-- what the call asks for that stands next
abbrev pub call_next : Code → GuestState → Option Request
call_next code s = request_by code.span s (code.effect s.hart)

-- a guest whose code is read so
abbrev pub guest_beside : Code → Beside GuestState Flat
guest_beside code = record {
  told = flat_of;
  step = flat_step code;
  retired = λ s. s.retired;
  call = call_next code;
  pc = λ s. s.hart.pc;
}

-- the guest of a state
abbrev pub guest_at : Span → GuestState → Beside GuestState Flat
guest_at span s = guest_beside (code_at span s)
