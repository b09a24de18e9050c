-- The ranges in which a word has room for the fields of an instruction.
use Rattle.std.specs.Prelude.{ℕ, ℤ, pos, neg_ℤ, ◌≡◌, ◌<◌, ◌%◌, ◌^◌, ◌≤ℤ◌, ◌<ℤ◌, unsigned_abs}
use Rattle.rv_decode.specs.declared.instruction.Instr.{Instr}
use Rattle.rv_decode.specs.declared.instruction.Instr.TheVariants.{Lui, Auipc, Jal, Jalr, Branch, Load, Store, Imm, Shift, Reg, Fence, FenceI, Ecall, Ebreak}

-- a signed number, at least `- bound` and below `bound`
abbrev pub IsWithin : ℕ → ℤ → Type 0
IsWithin bound z = (neg_ℤ (pos bound) ≤ℤ z) × (z <ℤ pos bound)

-- the same, of even numbers
abbrev pub IsOffset : ℕ → ℤ → Type 0
IsOffset bound z = IsWithin bound z × (unsigned_abs z % 2 ≡ 0)

-- every field of the instruction is in its range
abbrev pub Fits : Instr → Type 0
Fits (Lui rd imm) = (rd < 32) × (imm % 2 ^ 12 ≡ 0)
Fits (Auipc rd imm) = (rd < 32) × (imm % 2 ^ 12 ≡ 0)
Fits (Jal rd off) = (rd < 32) × IsOffset (2 ^ 20) off
Fits (Jalr rd rs1 imm) = (rd < 32) × (rs1 < 32) × IsWithin (2 ^ 11) imm
Fits (Branch op rs1 rs2 off) = (rs1 < 32) × (rs2 < 32) × IsOffset (2 ^ 12) off
Fits (Load op rd rs1 imm) = (rd < 32) × (rs1 < 32) × IsWithin (2 ^ 11) imm
Fits (Store op rs1 rs2 imm) = (rs1 < 32) × (rs2 < 32) × IsWithin (2 ^ 11) imm
Fits (Imm op rd rs1 imm) = (rd < 32) × (rs1 < 32) × IsWithin (2 ^ 11) imm
Fits (Shift op rd rs1 by) = (rd < 32) × (rs1 < 32) × (by < 32)
Fits (Reg op rd rs1 rs2) = (rd < 32) × (rs1 < 32) × (rs2 < 32)
Fits Fence = Unit {0}
Fits FenceI = Unit {0}
Fits Ecall = Unit {0}
Fits Ebreak = Unit {0}
