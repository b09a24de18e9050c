-- What each instruction does to the registers and the memory (RISC-V unprivileged manual, RV32I, M and Zifencei). Causes of traps are those of the privileged manual, table "mcause".
use Rattle.std.specs.Prelude.{ℕ, ◌-◌, ◌%◌, ◌==◌, if◌then◌else◌, List, Option, Some, None}
use Rattle.hier_types.specs.Span.{Span, first, has}
use Rattle.rv_decode.specs.declared.instruction.Instr.{Instr}
use Rattle.rv_decode.specs.declared.instruction.Instr.TheVariants.{Lui, Auipc, Jal, Jalr, Branch, Load, Store, Imm, Shift, Reg, Fence, FenceI, Ecall, Ebreak}
use Rattle.rv_decode.specs.declared.instruction.LoadOp.{LoadOp}
use Rattle.rv_decode.specs.declared.instruction.StoreOp.{StoreOp}
use Rattle.rv_decode.specs.Table.{decoded}
use Rattle.rv_core.specs.Hart.{Hart, bits_of, put, register, sum, word_at, written}
use Rattle.rv_core.specs.Operations.{imm_value, is_taken, load_value, load_width, reg_value, shift_value, store_bytes, store_width}

-- what one instruction does: it goes on from a next state, asks for a call, or traps
pub data Effect : Type 0 where
  Goes : (next : Hart) → Effect
  Calls : Effect
  Faults : (cause value : ℕ) → Effect

-- on to the next instruction with these registers
abbrev pub goes_with : Hart → List ℕ → Effect
goes_with h x = Goes (record { pc = sum h.pc 4; x = x; bytes = h.bytes })

-- on to the target with these registers
abbrev pub jumps : Hart → ℕ → List ℕ → Effect
jumps h target x = if target % 4 == 0 then Goes (record { pc = target; x = x; bytes = h.bytes }) else Faults 0 target

abbrev pub loads : Span → LoadOp → ℕ → ℕ → Hart → Effect
loads span op rd at h =
    if at % load_width op == 0 then
    (if has span at then goes_with h (written h.x rd (load_value op h.bytes (at - first span))) else Faults 5 at)
    else Faults 4 at

abbrev pub stores : Span → StoreOp → ℕ → ℕ → Hart → Effect
stores span op value at h =
    if at % store_width op == 0 then
    (if has span at then Goes (record { pc = sum h.pc 4; x = h.x; bytes = put h.bytes (at - first span) (store_bytes op value) }) else Faults 7 at)
    else Faults 6 at

-- a row for each instruction
abbrev pub effect_of : Span → Instr → Hart → Effect
effect_of span (Lui rd imm) h = goes_with h (written h.x rd imm)
effect_of span (Auipc rd imm) h = goes_with h (written h.x rd (sum h.pc imm))
effect_of span (Jal rd off) h = jumps h (sum h.pc (bits_of off)) (written h.x rd (sum h.pc 4))
effect_of span (Jalr rd rs1 imm) h = let target = sum (register h rs1) (bits_of imm) in jumps h (target - target % 2) (written h.x rd (sum h.pc 4))
effect_of span (Branch op rs1 rs2 off) h = if is_taken op (register h rs1) (register h rs2) then jumps h (sum h.pc (bits_of off)) h.x else goes_with h h.x
effect_of span (Load op rd rs1 imm) h = loads span op rd (sum (register h rs1) (bits_of imm)) h
effect_of span (Store op rs1 rs2 imm) h = stores span op (register h rs2) (sum (register h rs1) (bits_of imm)) h
effect_of span (Imm op rd rs1 imm) h = goes_with h (written h.x rd (imm_value op (register h rs1) (bits_of imm)))
effect_of span (Shift op rd rs1 by) h = goes_with h (written h.x rd (shift_value op (register h rs1) by))
effect_of span (Reg op rd rs1 rs2) h = goes_with h (written h.x rd (reg_value op (register h rs1) (register h rs2)))
effect_of span Fence h = goes_with h h.x
effect_of span FenceI h = goes_with h h.x
effect_of span Ecall h = Calls
effect_of span Ebreak h = Faults 3 h.pc

-- the word at pc
abbrev pub fetched : Span → Hart → ℕ
fetched span h = word_at h.bytes (h.pc - first span)

-- a word that is no instruction traps
abbrev pub effect_of_word : Span → Option Instr → ℕ → Hart → Effect
effect_of_word span (Some instr) word h = effect_of span instr h
effect_of_word span None word h = Faults 2 word

-- one instruction: the one whose word stands at pc
unfoldable pub effect_at : Span → Hart → Effect
effect_at span h =
    if h.pc % 4 == 0 then
    (if has span h.pc then effect_of_word span (decoded (fetched span h)) (fetched span h) h else Faults 1 h.pc)
    else Faults 0 h.pc
