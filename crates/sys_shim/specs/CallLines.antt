-- The lines that a call touches after its instruction's own, and the bytes that it pokes.
use Rattle.std.specs.Prelude.{ℕ, zero, suc, ◌+◌, ◌-◌, List, [], ◌∷◌, length, take, drop}
use Rattle.hier_types.specs.Span.{Span, first, line_at}
use Rattle.rv_core.specs.Hart.{Hart, register}
use Rattle.rv_core.specs.Touched.{addressed}
use Rattle.sys_shim.specs.declared.calls.Called.{Called}
use Rattle.sys_shim.specs.declared.calls.Called.TheVariants as called
use Rattle.sys_shim.specs.Calls.{Request, Exit, Answer, Read, Write, SetBreak}

-- so many lines, one after another
abbrev pub lines_from : ℕ → ℕ → List ℕ
lines_from line zero = []
lines_from line (suc count) = line ∷ lines_from (line + 1) count

-- the line of the last of so many bytes from an address on
abbrev pub last_line : Span → ℕ → ℕ → ℕ
last_line span at count = line_at span (at + count - 1)

-- the lines of so many bytes from an address on, in rising order
abbrev pub buffer_lines : Span → ℕ → ℕ → List ℕ
buffer_lines span at count = lines_from (line_at span at) (last_line span at count + 1 - line_at span at)

-- a read touches the one line of its buffer, a write the lines of its bytes
abbrev pub lines_of_request : Span → Hart → Request → List ℕ
lines_of_request span h (Read at count) = line_at span at ∷ []
lines_of_request span h (Write bytes) = buffer_lines span (register h 11) (length bytes)
lines_of_request span h (Exit status) = []
lines_of_request span h (Answer value) = []
lines_of_request span h (SetBreak top) = []

-- a read that was answered poked the bytes that it got, which stand in the memory after it, and whose number is its result
abbrev pub pokes_of_request : Span → Request → Called → Hart → List (ℕ × ℕ)
pokes_of_request span (Read at count) called.Done after = addressed at (take (register after 10) (drop (at - first span) after.bytes))
pokes_of_request span request answer after = []
