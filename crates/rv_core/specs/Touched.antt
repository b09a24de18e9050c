-- The lines that an instruction touches, in order, and the bytes that it pokes.
use Rattle.std.specs.Prelude.{ℕ, ◌+◌, ◌%◌, ◌==◌, ◌&&◌, Bool, if◌then◌else◌, List, [], ◌∷◌, Option, Some, None, Result, Ok, Err}
use Rattle.hier_types.specs.declared.faults.NoSpace.{NoSpace}
use Rattle.hier_types.specs.Span.{Span, has, line_at}
use Rattle.rv_decode.specs.declared.instruction.Instr.{Instr}
use Rattle.rv_decode.specs.declared.instruction.Instr.TheVariants.{Lui, Auipc, Jal, Jalr, Branch, Load, Store, Imm, Shift, Reg, Fence, FenceI, Ecall, Ebreak}
use Rattle.rv_decode.specs.Table.{decoded}
use Rattle.rv_core.specs.declared.hart.Ended.{Ended}
use Rattle.rv_core.specs.declared.hart.Ended.TheVariants.{Trap, Stop}
use Rattle.rv_core.specs.Effect.{fetched}
use Rattle.rv_core.specs.Hart.{Hart, bits_of, register, sum}
use Rattle.rv_core.specs.Operations.{load_width, store_bytes, store_width}

-- the line of data of so many bytes at an address, where the access does not trap
abbrev pub data_line : Span → ℕ → ℕ → List ℕ
data_line span width at = if (at % width == 0) && has span at then line_at span at ∷ [] else []

-- the lines of the data that an instruction loads or stores
abbrev pub data_lines : Span → Instr → Hart → List ℕ
data_lines span (Load op rd rs1 imm) h = data_line span (load_width op) (sum (register h rs1) (bits_of imm))
data_lines span (Store op rs1 rs2 imm) h = data_line span (store_width op) (sum (register h rs1) (bits_of imm))
data_lines span (Lui rd imm) h = []
data_lines span (Auipc rd imm) h = []
data_lines span (Jal rd off) h = []
data_lines span (Jalr rd rs1 imm) h = []
data_lines span (Branch op rs1 rs2 off) h = []
data_lines span (Imm op rd rs1 imm) h = []
data_lines span (Shift op rd rs1 by) h = []
data_lines span (Reg op rd rs1 rs2) h = []
data_lines span Fence h = []
data_lines span FenceI h = []
data_lines span Ecall h = []
data_lines span Ebreak h = []

-- bytes with their addresses, from an address on
abbrev pub addressed : ℕ → List ℕ → List (ℕ × ℕ)
addressed at [] = []
addressed at (b ∷ bytes) = (at, b) ∷ addressed (at + 1) bytes

abbrev pub data_pokes : Span → ℕ → ℕ → List ℕ → List (ℕ × ℕ)
data_pokes span width at bytes = if (at % width == 0) && has span at then addressed at bytes else []

-- the bytes that an instruction stores, with their addresses
abbrev pub pokes_of : Span → Instr → Hart → List (ℕ × ℕ)
pokes_of span (Store op rs1 rs2 imm) h = data_pokes span (store_width op) (sum (register h rs1) (bits_of imm)) (store_bytes op (register h rs2))
pokes_of span (Load op rd rs1 imm) h = []
pokes_of span (Lui rd imm) h = []
pokes_of span (Auipc rd imm) h = []
pokes_of span (Jal rd off) h = []
pokes_of span (Jalr rd rs1 imm) h = []
pokes_of span (Branch op rs1 rs2 off) h = []
pokes_of span (Imm op rd rs1 imm) h = []
pokes_of span (Shift op rd rs1 by) h = []
pokes_of span (Reg op rd rs1 rs2) h = []
pokes_of span Fence h = []
pokes_of span FenceI h = []
pokes_of span Ecall h = []
pokes_of span Ebreak h = []

abbrev pub lines_of_word : Span → Option Instr → Hart → List ℕ
lines_of_word span (Some instr) h = data_lines span instr h
lines_of_word span None h = []

abbrev pub pokes_of_word : Span → Option Instr → Hart → List (ℕ × ℕ)
pokes_of_word span (Some instr) h = pokes_of span instr h
pokes_of_word span None h = []

-- the test that an instruction is fetched
abbrev pub fetches : Span → Hart → Bool
fetches span h = (h.pc % 4 == 0) && has span h.pc

-- the lines that the instruction at pc touches: its own, then that of its data
unfoldable pub touched : Span → Hart → List ℕ
touched span h = if fetches span h then line_at span h.pc ∷ lines_of_word span (decoded (fetched span h)) h else []

-- the bytes that the instruction at pc pokes
unfoldable pub poked : Span → Hart → List (ℕ × ℕ)
poked span h = if fetches span h then pokes_of_word span (decoded (fetched span h)) h else []

-- the refusal, if that is the answer
abbrev pub stop_of : {T : Type 0} → Result T Ended → Option NoSpace
stop_of (Err (Stop refusal)) = Some refusal
stop_of (Err (Trap trap)) = None
stop_of (Ok t) = None
