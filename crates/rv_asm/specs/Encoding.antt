-- The word of an instruction: the bits of its row in the listing, and its fields at the numbers of their bits
-- (RISC-V unprivileged manual, RV32I, "Base Instruction Formats" and "Immediate Encoding Variants").
use Rattle.std.specs.Prelude.{ℕ, ℤ, ◌+◌, ◌*◌, ◌^◌}
use Rattle.std.specs.Int.{w32, cast_unsigned}
use Rattle.rv_decode.specs.declared.instruction.Instr.{Instr}
use Rattle.rv_decode.specs.declared.instruction.Instr.TheVariants.{Lui, Auipc, Jal, Jalr, Branch, Load, Store, Imm, Shift, Reg, Fence, FenceI, Ecall, Ebreak}
use Rattle.rv_decode.specs.Word.{bits}
use Rattle.rv_decode.specs.Table.{Row, Opcode, Funct3, Funct7, Whole, row_of}

-- the bits that a row gives
abbrev pub row_bits : Row → ℕ
row_bits (Opcode opcode) = opcode
row_bits (Funct3 opcode funct3) = opcode + funct3 * 2 ^ 12
row_bits (Funct7 opcode funct3 funct7) = opcode + funct3 * 2 ^ 12 + funct7 * 2 ^ 25
row_bits (Whole word) = word

-- the bits `high` down to `low` of a signed number in two's complement
abbrev pub cut : ℤ → ℕ → ℕ → ℕ
cut number high low = bits (cast_unsigned w32 number) high low

-- the fields of format R: rd, rs1, rs2
abbrev pub r_fields : ℕ → ℕ → ℕ → ℕ
r_fields rd rs1 rs2 = rd * 2 ^ 7 + rs1 * 2 ^ 15 + rs2 * 2 ^ 20

-- the fields of format I: rd, rs1, imm[11:0]
abbrev pub i_fields : ℕ → ℕ → ℤ → ℕ
i_fields rd rs1 imm = rd * 2 ^ 7 + rs1 * 2 ^ 15 + cut imm 11 0 * 2 ^ 20

-- the fields of format S: imm[4:0], rs1, rs2, imm[11:5]
abbrev pub s_fields : ℕ → ℕ → ℤ → ℕ
s_fields rs1 rs2 imm = cut imm 4 0 * 2 ^ 7 + rs1 * 2 ^ 15 + rs2 * 2 ^ 20 + cut imm 11 5 * 2 ^ 25

-- the fields of format B: imm[11], imm[4:1], rs1, rs2, imm[10:5], imm[12]
abbrev pub b_fields : ℕ → ℕ → ℤ → ℕ
b_fields rs1 rs2 off =
    cut off 11 11 * 2 ^ 7 + cut off 4 1 * 2 ^ 8 + rs1 * 2 ^ 15 + rs2 * 2 ^ 20 + cut off 10 5 * 2 ^ 25 + cut off 12 12 * 2 ^ 31

-- the fields of format U: rd, imm[31:12]
abbrev pub u_fields : ℕ → ℕ → ℕ
u_fields rd imm = rd * 2 ^ 7 + bits imm 31 12 * 2 ^ 12

-- the fields of format J: rd, imm[19:12], imm[11], imm[10:1], imm[20]
abbrev pub j_fields : ℕ → ℤ → ℕ
j_fields rd off =
    rd * 2 ^ 7 + cut off 19 12 * 2 ^ 12 + cut off 11 11 * 2 ^ 20 + cut off 10 1 * 2 ^ 21 + cut off 20 20 * 2 ^ 31

-- the fields of an instruction; those of FENCE name all accesses, in the bits 27 to 24 for before it and 23 to 20 for after it
abbrev pub fields_of : Instr → ℕ
fields_of (Lui rd imm) = u_fields rd imm
fields_of (Auipc rd imm) = u_fields rd imm
fields_of (Jal rd off) = j_fields rd off
fields_of (Jalr rd rs1 imm) = i_fields rd rs1 imm
fields_of (Branch op rs1 rs2 off) = b_fields rs1 rs2 off
fields_of (Load op rd rs1 imm) = i_fields rd rs1 imm
fields_of (Store op rs1 rs2 imm) = s_fields rs1 rs2 imm
fields_of (Imm op rd rs1 imm) = i_fields rd rs1 imm
fields_of (Shift op rd rs1 by) = r_fields rd rs1 by
fields_of (Reg op rd rs1 rs2) = r_fields rd rs1 rs2
fields_of Fence = 0xf * 2 ^ 24 + 0xf * 2 ^ 20
fields_of FenceI = 0
fields_of Ecall = 0
fields_of Ebreak = 0

-- the word of an instruction
unfoldable pub word_of : Instr → ℕ
word_of instr = row_bits (row_of instr) + fields_of instr
