-- The listing of the instructions, a row for each, and what it says of a word
-- (RISC-V unprivileged manual, "RV32/64G Instruction Set Listings").
use Rattle.std.specs.Prelude.{ℕ, pos, Bool, ◌≡◌, ◌==◌, ◌&&◌, IsTrue, List, [], ◌∷◌, ◌++◌, map, Option, option_map, find}
use Rattle.rv_decode.specs.declared.instruction.Instr.{Instr}
use Rattle.rv_decode.specs.declared.instruction.Instr.TheVariants.{Lui, Auipc, Jal, Jalr, Branch, Load, Store, Imm, Shift, Reg, Fence, FenceI, Ecall, Ebreak}
use Rattle.rv_decode.specs.declared.instruction.BranchOp.TheVariants.{Beq, Bne, Blt, Bge, Bltu, Bgeu}
use Rattle.rv_decode.specs.declared.instruction.LoadOp.TheVariants.{Lb, Lh, Lw, Lbu, Lhu}
use Rattle.rv_decode.specs.declared.instruction.StoreOp.TheVariants.{Sb, Sh, Sw}
use Rattle.rv_decode.specs.declared.instruction.ImmOp.TheVariants.{Addi, Slti, Sltiu, Xori, Ori, Andi}
use Rattle.rv_decode.specs.declared.instruction.ShiftOp.TheVariants.{Slli, Srli, Srai}
use Rattle.rv_decode.specs.declared.instruction.RegOp.TheVariants.{Add, Sub, Sll, Slt, Sltu, Xor, Srl, Sra, Or, And, Mul, Mulh, Mulhsu, Mulhu, Div, Divu, Rem, Remu}
use Rattle.rv_decode.specs.Word.{opcode_of, rd_of, funct3_of, rs1_of, rs2_of, funct7_of, imm_i_of, imm_s_of, imm_b_of, imm_u_of, imm_j_of}

-- the bits that a row of the listing gives: those of the opcode, of funct3 and of funct7, or the word
pub data Row : Type 0 where
  Opcode : (opcode : ℕ) → Row
  Funct3 : (opcode funct3 : ℕ) → Row
  Funct7 : (opcode funct3 funct7 : ℕ) → Row
  Whole : (word : ℕ) → Row

-- the row of each instruction: RV32I, Zifencei, RV32M
abbrev pub row_of : Instr → Row
row_of (Lui rd imm) = Opcode 0x37
row_of (Auipc rd imm) = Opcode 0x17
row_of (Jal rd off) = Opcode 0x6f
row_of (Jalr rd rs1 imm) = Funct3 0x67 0
row_of (Branch Beq rs1 rs2 off) = Funct3 0x63 0
row_of (Branch Bne rs1 rs2 off) = Funct3 0x63 1
row_of (Branch Blt rs1 rs2 off) = Funct3 0x63 4
row_of (Branch Bge rs1 rs2 off) = Funct3 0x63 5
row_of (Branch Bltu rs1 rs2 off) = Funct3 0x63 6
row_of (Branch Bgeu rs1 rs2 off) = Funct3 0x63 7
row_of (Load Lb rd rs1 imm) = Funct3 0x03 0
row_of (Load Lh rd rs1 imm) = Funct3 0x03 1
row_of (Load Lw rd rs1 imm) = Funct3 0x03 2
row_of (Load Lbu rd rs1 imm) = Funct3 0x03 4
row_of (Load Lhu rd rs1 imm) = Funct3 0x03 5
row_of (Store Sb rs1 rs2 imm) = Funct3 0x23 0
row_of (Store Sh rs1 rs2 imm) = Funct3 0x23 1
row_of (Store Sw rs1 rs2 imm) = Funct3 0x23 2
row_of (Imm Addi rd rs1 imm) = Funct3 0x13 0
row_of (Imm Slti rd rs1 imm) = Funct3 0x13 2
row_of (Imm Sltiu rd rs1 imm) = Funct3 0x13 3
row_of (Imm Xori rd rs1 imm) = Funct3 0x13 4
row_of (Imm Ori rd rs1 imm) = Funct3 0x13 6
row_of (Imm Andi rd rs1 imm) = Funct3 0x13 7
row_of (Shift Slli rd rs1 by) = Funct7 0x13 1 0x00
row_of (Shift Srli rd rs1 by) = Funct7 0x13 5 0x00
row_of (Shift Srai rd rs1 by) = Funct7 0x13 5 0x20
row_of (Reg Add rd rs1 rs2) = Funct7 0x33 0 0x00
row_of (Reg Sub rd rs1 rs2) = Funct7 0x33 0 0x20
row_of (Reg Sll rd rs1 rs2) = Funct7 0x33 1 0x00
row_of (Reg Slt rd rs1 rs2) = Funct7 0x33 2 0x00
row_of (Reg Sltu rd rs1 rs2) = Funct7 0x33 3 0x00
row_of (Reg Xor rd rs1 rs2) = Funct7 0x33 4 0x00
row_of (Reg Srl rd rs1 rs2) = Funct7 0x33 5 0x00
row_of (Reg Sra rd rs1 rs2) = Funct7 0x33 5 0x20
row_of (Reg Or rd rs1 rs2) = Funct7 0x33 6 0x00
row_of (Reg And rd rs1 rs2) = Funct7 0x33 7 0x00
row_of Fence = Funct3 0x0f 0
row_of Ecall = Whole 0x00000073
row_of Ebreak = Whole 0x00100073
row_of FenceI = Funct3 0x0f 1
row_of (Reg Mul rd rs1 rs2) = Funct7 0x33 0 0x01
row_of (Reg Mulh rd rs1 rs2) = Funct7 0x33 1 0x01
row_of (Reg Mulhsu rd rs1 rs2) = Funct7 0x33 2 0x01
row_of (Reg Mulhu rd rs1 rs2) = Funct7 0x33 3 0x01
row_of (Reg Div rd rs1 rs2) = Funct7 0x33 4 0x01
row_of (Reg Divu rd rs1 rs2) = Funct7 0x33 5 0x01
row_of (Reg Rem rd rs1 rs2) = Funct7 0x33 6 0x01
row_of (Reg Remu rd rs1 rs2) = Funct7 0x33 7 0x01

-- whether the word has the bits that the row gives
abbrev pub has_row : ℕ → Row → Bool
has_row word (Opcode opcode) = opcode_of word == opcode
has_row word (Funct3 opcode funct3) = opcode_of word == opcode && funct3_of word == funct3
has_row word (Funct7 opcode funct3 funct7) =
    opcode_of word == opcode && funct3_of word == funct3 && funct7_of word == funct7
has_row word (Whole whole) = word == whole

-- the instruction of the same operation with the fields that its format reads in the word
abbrev pub with_fields : ℕ → Instr → Instr
with_fields word (Lui rd imm) = Lui (rd_of word) (imm_u_of word)
with_fields word (Auipc rd imm) = Auipc (rd_of word) (imm_u_of word)
with_fields word (Jal rd off) = Jal (rd_of word) (imm_j_of word)
with_fields word (Jalr rd rs1 imm) = Jalr (rd_of word) (rs1_of word) (imm_i_of word)
with_fields word (Branch op rs1 rs2 off) = Branch op (rs1_of word) (rs2_of word) (imm_b_of word)
with_fields word (Load op rd rs1 imm) = Load op (rd_of word) (rs1_of word) (imm_i_of word)
with_fields word (Store op rs1 rs2 imm) = Store op (rs1_of word) (rs2_of word) (imm_s_of word)
with_fields word (Imm op rd rs1 imm) = Imm op (rd_of word) (rs1_of word) (imm_i_of word)
with_fields word (Shift op rd rs1 by) = Shift op (rd_of word) (rs1_of word) (rs2_of word)
with_fields word (Reg op rd rs1 rs2) = Reg op (rd_of word) (rs1_of word) (rs2_of word)
with_fields word Fence = Fence
with_fields word FenceI = FenceI
with_fields word Ecall = Ecall
with_fields word Ebreak = Ebreak

-- the word is in the row of the instruction, and has its fields
abbrev pub Encodes : ℕ → Instr → Type 0
Encodes word instr = IsTrue (has_row word (row_of instr)) × (instr ≡ with_fields word instr)

-- an instruction of each row, in the order of the listing, with fields of no account
abbrev pub instructions : List Instr
instructions =
    Lui 0 0
    ∷ Auipc 0 0
    ∷ Jal 0 (pos 0)
    ∷ Jalr 0 0 (pos 0)
    ∷ (map (λ op. Branch op 0 0 (pos 0)) (Beq ∷ Bne ∷ Blt ∷ Bge ∷ Bltu ∷ Bgeu ∷ [])
    ++ map (λ op. Load op 0 0 (pos 0)) (Lb ∷ Lh ∷ Lw ∷ Lbu ∷ Lhu ∷ [])
    ++ map (λ op. Store op 0 0 (pos 0)) (Sb ∷ Sh ∷ Sw ∷ [])
    ++ map (λ op. Imm op 0 0 (pos 0)) (Addi ∷ Slti ∷ Sltiu ∷ Xori ∷ Ori ∷ Andi ∷ [])
    ++ map (λ op. Shift op 0 0 0) (Slli ∷ Srli ∷ Srai ∷ [])
    ++ map (λ op. Reg op 0 0 0) (Add ∷ Sub ∷ Sll ∷ Slt ∷ Sltu ∷ Xor ∷ Srl ∷ Sra ∷ Or ∷ And ∷ [])
    ++ (Fence ∷ Ecall ∷ Ebreak ∷ FenceI ∷ [])
    ++ map (λ op. Reg op 0 0 0) (Mul ∷ Mulh ∷ Mulhsu ∷ Mulhu ∷ Div ∷ Divu ∷ Rem ∷ Remu ∷ []))

-- the instruction of the first row that has the word, with the fields of the word; no second row has it
unfoldable pub decoded : ℕ → Option Instr
decoded word =
    option_map (with_fields word) (find (λ instr. has_row word (row_of instr)) instructions)
