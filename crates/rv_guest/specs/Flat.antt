-- The reference machine: the same instructions and calls over one flat list of bytes. It has no cache, no page that moves, and no fault of the outside.
use Rattle.std.specs.Prelude.{ℕ, ◌+◌, List, ◌++◌, length, take, drop}
use Rattle.hier_types.specs.Span.{Span}
use Rattle.rv_core.specs.Code.{Code}
use Rattle.rv_core.specs.Effect.{Effect, Goes, Calls, Faults}
use Rattle.rv_core.specs.Hart.{Hart}
use Rattle.sys_shim.specs.declared.brk.Brk.{Brk}
use Rattle.sys_shim.specs.Calls.{Request, Exit, Answer, Read, Write, SetBreak, answered, filled, request_of}
use Rattle.rv_guest.specs.FlatRun.{FlatEnd, Outcome, Next, Exits, Traps, run_by}

-- registers and memory, the break, the input left, the output so far, and how many instructions retired
pub record Flat : Type 0 where
  pub hart : Hart
  pub brk : Brk
  pub input : List ℕ
  pub output : List ℕ
  pub retired : ℕ

-- one more instruction retired, and left this hart
abbrev pub retires : Flat → Hart → Flat
retires s hart = record s { hart = hart; retired = s.retired + 1 }

-- a read got these bytes, and this is what it left of the input
abbrev pub reads : Span → Flat → ℕ → List ℕ → List ℕ → Flat
reads span s at got left = record (retires s (answered (filled span s.hart at got) (length got))) { input = left }

abbrev pub writes : Flat → List ℕ → Flat
writes s bytes = record (retires s (answered s.hart (length bytes))) { output = s.output ++ bytes }

abbrev pub moves_break : Flat → ℕ → Flat
moves_break s top = record (retires s (answered s.hart top)) { brk = record s.brk { top = top } }

-- an exit retires, and changes nothing else
abbrev pub outcome_of_call : Span → Flat → Request → Outcome Flat
outcome_of_call span s (Exit status) = Exits status (retires s s.hart)
outcome_of_call span s (Answer value) = Next (retires s (answered s.hart value))
outcome_of_call span s (Read at count) = Next (reads span s at (take count s.input) (drop count s.input))
outcome_of_call span s (Write bytes) = Next (writes s bytes)
outcome_of_call span s (SetBreak top) = Next (moves_break s top)

abbrev pub outcome_of : Span → Flat → Effect → Outcome Flat
outcome_of span s (Goes hart) = Next (retires s hart)
outcome_of span s Calls = outcome_of_call span s (request_of span s.brk s.hart)
outcome_of span s (Faults cause value) = Traps cause value

-- one step
abbrev pub flat_step : Code → Flat → Outcome Flat
flat_step code s = outcome_of code.span s (code.effect s.hart)

-- a run of at most so many steps
abbrev pub flat_run : Code → ℕ → Flat → FlatEnd × Flat
flat_run code budget s = run_by (flat_step code) budget s
