-- A word that is made of the bits of an operation's row and of fields has that row and those fields.
use Rattle.std.proofs.Common.{ℕ, ℤ, unsigned_abs, ◌≡◌, ◌+◌, ◌*◌, ◌^◌, ◌<◌, ◌%◌, IsTrue, ap, sym, ◌∙◌, arith, lit<}
use Rattle.std.proofs.lemmas.Bool.Decides.{nat_tests}
use Rattle.std.proofs.lemmas.Int.{ints}
use Rattle.rv_decode.specs.declared.instruction.Instr.TheVariants.{Branch, Load, Store, Imm, Shift, Reg}
use Rattle.rv_decode.specs.declared.instruction.BranchOp.{BranchOp}
use Rattle.rv_decode.specs.declared.instruction.BranchOp.TheVariants.{Beq}
use Rattle.rv_decode.specs.declared.instruction.LoadOp.{LoadOp}
use Rattle.rv_decode.specs.declared.instruction.LoadOp.TheVariants.{Lb}
use Rattle.rv_decode.specs.declared.instruction.StoreOp.{StoreOp}
use Rattle.rv_decode.specs.declared.instruction.StoreOp.TheVariants.{Sb}
use Rattle.rv_decode.specs.declared.instruction.ImmOp.{ImmOp}
use Rattle.rv_decode.specs.declared.instruction.ImmOp.TheVariants.{Addi}
use Rattle.rv_decode.specs.declared.instruction.ShiftOp.{ShiftOp}
use Rattle.rv_decode.specs.declared.instruction.ShiftOp.TheVariants.{Slli}
use Rattle.rv_decode.specs.declared.instruction.RegOp.{RegOp}
use Rattle.rv_decode.specs.declared.instruction.RegOp.TheVariants.{Add}
use Rattle.rv_decode.specs.Word.{bits, signed, opcode_of, rd_of, funct3_of, rs1_of, rs2_of, funct7_of, imm_i_of, imm_s_of, imm_b_of}
use Rattle.rv_decode.specs.Ranges.{Fits, IsWithin, IsOffset}
use Rattle.rv_decode.specs.Table.{Funct3, Funct7, row_of, has_row, Encodes}
use Rattle.rv_asm.specs.Encoding.{row_bits, r_fields, i_fields, s_fields, b_fields, cut}

-- a number in its range is what its low bits say
signed-12 : (imm : ℤ) → IsWithin (2 ^ 11) imm → signed 12 (cut imm 11 0) ≡ imm
signed-12 imm within = grind (arith, ints)

signed-13 : (off : ℤ) → IsWithin (2 ^ 12) off → signed 13 (cut off 12 0) ≡ off
signed-13 off within = grind (arith, ints)

-- the lowest bit of an even number is 0
even : (off : ℤ) → unsigned_abs off % 2 ≡ 0 → cut off 0 0 ≡ 0
even off whole = grind (arith, ints)

-- what is read of an immediate whose bits stand in the word
i_immediate : (word : ℕ) (imm : ℤ) → IsWithin (2 ^ 11) imm → bits word 31 20 ≡ cut imm 11 0 → imm ≡ imm_i_of word
i_immediate word imm within is = sym (signed-12 imm within) ∙ sym (ap (signed 12) is)

s_immediate : (word : ℕ) (imm : ℤ) → IsWithin (2 ^ 11) imm → bits word 31 25 * 2 ^ 5 + bits word 11 7 ≡ cut imm 11 0 → imm ≡ imm_s_of word
s_immediate word imm within is = sym (signed-12 imm within) ∙ sym (ap (signed 12) is)

b_immediate : (word : ℕ) (off : ℤ) → IsWithin (2 ^ 12) off
    → bits word 31 31 * 2 ^ 12 + bits word 7 7 * 2 ^ 11 + bits word 30 25 * 2 ^ 5 + bits word 11 8 * 2 ≡ cut off 12 0 → off ≡ imm_b_of word
b_immediate word off within is = sym (signed-13 off within) ∙ sym (ap (signed 13) is)

-- a word with the bits of a row is in it
in_funct3 : (word opcode funct3 : ℕ) → opcode_of word ≡ opcode → funct3_of word ≡ funct3 → IsTrue (has_row word (Funct3 opcode funct3))
in_funct3 word opcode funct3 e f = grind (arith, nat_tests)

in_funct7 : (word opcode funct3 funct7 : ℕ) → opcode_of word ≡ opcode → funct3_of word ≡ funct3 → funct7_of word ≡ funct7 → IsTrue (has_row word (Funct7 opcode funct3 funct7))
in_funct7 word opcode funct3 funct7 e f g = grind (arith, nat_tests)

-- the fields of a word of a format are those that it was made of
r_read : (word opcode funct3 funct7 rd rs1 rs2 : ℕ) → word ≡ row_bits (Funct7 opcode funct3 funct7) + r_fields rd rs1 rs2
    → opcode < 128 → funct3 < 8 → funct7 < 128 → rd < 32 → rs1 < 32 → rs2 < 32
    → IsTrue (has_row word (Funct7 opcode funct3 funct7)) × (rd ≡ rd_of word) × (rs1 ≡ rs1_of word) × (rs2 ≡ rs2_of word)
r_read word opcode funct3 funct7 rd rs1 rs2 is o f g a b c =
    (in_funct7 word opcode funct3 funct7 (omega arith) (omega arith) (omega arith), omega arith, omega arith, omega arith)

i_read : (word opcode funct3 rd rs1 : ℕ) (imm : ℤ) → word ≡ row_bits (Funct3 opcode funct3) + i_fields rd rs1 imm
    → opcode < 128 → funct3 < 8 → rd < 32 → rs1 < 32 → IsWithin (2 ^ 11) imm
    → IsTrue (has_row word (Funct3 opcode funct3)) × (rd ≡ rd_of word) × (rs1 ≡ rs1_of word) × (imm ≡ imm_i_of word)
i_read word opcode funct3 rd rs1 imm is o f a b within =
    (in_funct3 word opcode funct3 (omega arith) (omega arith), omega arith, omega arith, i_immediate word imm within (omega arith))

s_read : (word opcode funct3 rs1 rs2 : ℕ) (imm : ℤ) → word ≡ row_bits (Funct3 opcode funct3) + s_fields rs1 rs2 imm
    → opcode < 128 → funct3 < 8 → rs1 < 32 → rs2 < 32 → IsWithin (2 ^ 11) imm
    → IsTrue (has_row word (Funct3 opcode funct3)) × (rs1 ≡ rs1_of word) × (rs2 ≡ rs2_of word) × (imm ≡ imm_s_of word)
s_read word opcode funct3 rs1 rs2 imm is o f a b within =
    (in_funct3 word opcode funct3 (omega arith) (omega arith), omega arith, omega arith, s_immediate word imm within (omega arith))

b_read : (word opcode funct3 rs1 rs2 : ℕ) (off : ℤ) → word ≡ row_bits (Funct3 opcode funct3) + b_fields rs1 rs2 off
    → opcode < 128 → funct3 < 8 → rs1 < 32 → rs2 < 32 → IsOffset (2 ^ 12) off
    → IsTrue (has_row word (Funct3 opcode funct3)) × (rs1 ≡ rs1_of word) × (rs2 ≡ rs2_of word) × (off ≡ imm_b_of word)
b_read word opcode funct3 rs1 rs2 off is o f a b (within, whole) =
    let zero_bit = even off whole in
    (in_funct3 word opcode funct3 (omega arith) (omega arith), omega arith, omega arith, b_immediate word off within (omega arith))

-- an instruction of each operation is what its word has; the first operation is named, so that the last line is a case for each other
pub branch_encodes : (word row : ℕ) (op : BranchOp) (rs1 rs2 : ℕ) (off : ℤ) → word ≡ row + b_fields rs1 rs2 off → row_bits (row_of (Branch op rs1 rs2 off)) ≡ row
    → Fits (Branch op rs1 rs2 off) → Encodes word (Branch op rs1 rs2 off)
branch_encodes word row Beq rs1 rs2 off is of_row (a, b, c) =
    let (in_row, one, two, three) = b_read word 0x63 _ rs1 rs2 off (is ∙ ap (λ n. n + b_fields rs1 rs2 off) (sym of_row)) (lit< tt) (lit< tt) a b c in
    (in_row, cc)
branch_encodes word row op rs1 rs2 off is of_row (a, b, c) =
    let (in_row, one, two, three) = b_read word 0x63 _ rs1 rs2 off (is ∙ ap (λ n. n + b_fields rs1 rs2 off) (sym of_row)) (lit< tt) (lit< tt) a b c in
    (in_row, cc)

pub load_encodes : (word row : ℕ) (op : LoadOp) (rd rs1 : ℕ) (imm : ℤ) → word ≡ row + i_fields rd rs1 imm → row_bits (row_of (Load op rd rs1 imm)) ≡ row
    → Fits (Load op rd rs1 imm) → Encodes word (Load op rd rs1 imm)
load_encodes word row Lb rd rs1 imm is of_row (a, b, c) =
    let (in_row, one, two, three) = i_read word 0x03 _ rd rs1 imm (is ∙ ap (λ n. n + i_fields rd rs1 imm) (sym of_row)) (lit< tt) (lit< tt) a b c in
    (in_row, cc)
load_encodes word row op rd rs1 imm is of_row (a, b, c) =
    let (in_row, one, two, three) = i_read word 0x03 _ rd rs1 imm (is ∙ ap (λ n. n + i_fields rd rs1 imm) (sym of_row)) (lit< tt) (lit< tt) a b c in
    (in_row, cc)

pub store_encodes : (word row : ℕ) (op : StoreOp) (rs1 rs2 : ℕ) (imm : ℤ) → word ≡ row + s_fields rs1 rs2 imm → row_bits (row_of (Store op rs1 rs2 imm)) ≡ row
    → Fits (Store op rs1 rs2 imm) → Encodes word (Store op rs1 rs2 imm)
store_encodes word row Sb rs1 rs2 imm is of_row (a, b, c) =
    let (in_row, one, two, three) = s_read word 0x23 _ rs1 rs2 imm (is ∙ ap (λ n. n + s_fields rs1 rs2 imm) (sym of_row)) (lit< tt) (lit< tt) a b c in
    (in_row, cc)
store_encodes word row op rs1 rs2 imm is of_row (a, b, c) =
    let (in_row, one, two, three) = s_read word 0x23 _ rs1 rs2 imm (is ∙ ap (λ n. n + s_fields rs1 rs2 imm) (sym of_row)) (lit< tt) (lit< tt) a b c in
    (in_row, cc)

pub imm_encodes : (word row : ℕ) (op : ImmOp) (rd rs1 : ℕ) (imm : ℤ) → word ≡ row + i_fields rd rs1 imm → row_bits (row_of (Imm op rd rs1 imm)) ≡ row
    → Fits (Imm op rd rs1 imm) → Encodes word (Imm op rd rs1 imm)
imm_encodes word row Addi rd rs1 imm is of_row (a, b, c) =
    let (in_row, one, two, three) = i_read word 0x13 _ rd rs1 imm (is ∙ ap (λ n. n + i_fields rd rs1 imm) (sym of_row)) (lit< tt) (lit< tt) a b c in
    (in_row, cc)
imm_encodes word row op rd rs1 imm is of_row (a, b, c) =
    let (in_row, one, two, three) = i_read word 0x13 _ rd rs1 imm (is ∙ ap (λ n. n + i_fields rd rs1 imm) (sym of_row)) (lit< tt) (lit< tt) a b c in
    (in_row, cc)

pub shift_encodes : (word row : ℕ) (op : ShiftOp) (rd rs1 by : ℕ) → word ≡ row + r_fields rd rs1 by → row_bits (row_of (Shift op rd rs1 by)) ≡ row
    → Fits (Shift op rd rs1 by) → Encodes word (Shift op rd rs1 by)
shift_encodes word row Slli rd rs1 by is of_row (a, b, c) =
    let (in_row, one, two, three) = r_read word 0x13 _ _ rd rs1 by (is ∙ ap (λ n. n + r_fields rd rs1 by) (sym of_row)) (lit< tt) (lit< tt) (lit< tt) a b c in
    (in_row, cc)
shift_encodes word row op rd rs1 by is of_row (a, b, c) =
    let (in_row, one, two, three) = r_read word 0x13 _ _ rd rs1 by (is ∙ ap (λ n. n + r_fields rd rs1 by) (sym of_row)) (lit< tt) (lit< tt) (lit< tt) a b c in
    (in_row, cc)

pub reg_encodes : (word row : ℕ) (op : RegOp) (rd rs1 rs2 : ℕ) → word ≡ row + r_fields rd rs1 rs2 → row_bits (row_of (Reg op rd rs1 rs2)) ≡ row
    → Fits (Reg op rd rs1 rs2) → Encodes word (Reg op rd rs1 rs2)
reg_encodes word row Add rd rs1 rs2 is of_row (a, b, c) =
    let (in_row, one, two, three) = r_read word 0x33 _ _ rd rs1 rs2 (is ∙ ap (λ n. n + r_fields rd rs1 rs2) (sym of_row)) (lit< tt) (lit< tt) (lit< tt) a b c in
    (in_row, cc)
reg_encodes word row op rd rs1 rs2 is of_row (a, b, c) =
    let (in_row, one, two, three) = r_read word 0x33 _ _ rd rs1 rs2 (is ∙ ap (λ n. n + r_fields rd rs1 rs2) (sym of_row)) (lit< tt) (lit< tt) (lit< tt) a b c in
    (in_row, cc)
