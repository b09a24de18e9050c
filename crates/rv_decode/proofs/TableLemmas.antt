-- The two readings of the listing agree: from an instruction to its words, and from a word to its instruction.
use Rattle.std.proofs.Common.{ℕ, Bool, true, false, ◌≡◌, ◌≢◌, ◌==◌, ◌&&◌, IsTrue, cond, List, [], ◌∷◌, map, Option, Some, None, MatchOption, IfSome, refl, ap, sym, ◌∙◌, subst, inl, inr, arith, rules}
use Rattle.std.specs.List.{find}
use Rattle.std.specs.Option.{option_map}
use Rattle.std.proofs.lemmas.Bool.{eqb-true, ne_eqb, and_parts, cases_Bool}
use Rattle.rv_decode.specs.declared.instruction.Instr.{Instr}
use Rattle.rv_decode.specs.declared.instruction.Instr.TheVariants.{Lui, Auipc, Jal, Jalr, Branch, Load, Store, Imm, Shift, Reg, Fence, FenceI, Ecall, Ebreak}
use Rattle.rv_decode.specs.declared.instruction.BranchOp.TheVariants.{Beq, Bne, Blt, Bge, Bltu, Bgeu}
use Rattle.rv_decode.specs.declared.instruction.LoadOp.TheVariants.{Lb, Lh, Lw, Lbu, Lhu}
use Rattle.rv_decode.specs.declared.instruction.StoreOp.TheVariants.{Sb, Sh, Sw}
use Rattle.rv_decode.specs.declared.instruction.ImmOp.TheVariants.{Addi, Slti, Sltiu, Xori, Ori, Andi}
use Rattle.rv_decode.specs.declared.instruction.ShiftOp.TheVariants.{Slli, Srli, Srai}
use Rattle.rv_decode.specs.declared.instruction.RegOp.TheVariants.{Add, Sub, Sll, Slt, Sltu, Xor, Srl, Sra, Or, And, Mul, Mulh, Mulhsu, Mulhu, Div, Divu, Rem, Remu}
use Rattle.rv_decode.specs.Word.{opcode_of, funct3_of, funct7_of}
use Rattle.rv_decode.specs.Ranges.{Fits}
use Rattle.rv_decode.specs.Table.{Row, Opcode, Funct3, Funct7, Whole, row_of, has_row, with_fields, Encodes, instructions, decoded}

-- the word has the bits that the row gives, as equations
abbrev HasRow : ℕ → Row → Type 0
HasRow word (Opcode opcode) = opcode_of word ≡ opcode
HasRow word (Funct3 opcode funct3) = (opcode_of word ≡ opcode) × (funct3_of word ≡ funct3)
HasRow word (Funct7 opcode funct3 funct7) =
    (opcode_of word ≡ opcode) × (funct3_of word ≡ funct3) × (funct7_of word ≡ funct7)
HasRow word (Whole whole) = word ≡ whole

HasRow-tested : (word : ℕ) (row : Row) → IsTrue (has_row word row) → HasRow word row
HasRow-tested word (Opcode opcode) h = eqb-true _ _ h
HasRow-tested word (Funct3 opcode funct3) h =
    let both = and_parts (opcode_of word == opcode) (funct3_of word == funct3) h in
    (eqb-true _ _ both.0, eqb-true _ _ both.1)
HasRow-tested word (Funct7 opcode funct3 funct7) h =
    let both = and_parts (opcode_of word == opcode && funct3_of word == funct3) (funct7_of word == funct7) h in
    let first = and_parts (opcode_of word == opcode) (funct3_of word == funct3) both.0 in
    (eqb-true _ _ first.0, eqb-true _ _ first.1, eqb-true _ _ both.1)
HasRow-tested word (Whole whole) h = eqb-true _ _ h

-- a word of another opcode is another word
other_word : (word whole : ℕ) → opcode_of word ≢ opcode_of whole → (word == whole) ≡ false
other_word word whole h = ne_eqb word whole (λ e. h (ap opcode_of e))

-- the first row that has the word is the row of the instruction
listed : (word : ℕ) (instr : Instr) → HasRow word (row_of instr) → decoded word ≡ Some (with_fields word instr)
unfolding decoded
listed word (Lui rd imm) opcode = rw opcode refl
listed word (Auipc rd imm) opcode = rw opcode refl
listed word (Jal rd off) opcode = rw opcode refl
listed word (Jalr rd rs1 imm) (opcode, funct3) = rw (opcode, funct3) refl
listed word (Branch Beq rs1 rs2 off) (opcode, funct3) = rw (opcode, funct3) refl
listed word (Branch Bne rs1 rs2 off) (opcode, funct3) = rw (opcode, funct3) refl
listed word (Branch Blt rs1 rs2 off) (opcode, funct3) = rw (opcode, funct3) refl
listed word (Branch Bge rs1 rs2 off) (opcode, funct3) = rw (opcode, funct3) refl
listed word (Branch Bltu rs1 rs2 off) (opcode, funct3) = rw (opcode, funct3) refl
listed word (Branch Bgeu rs1 rs2 off) (opcode, funct3) = rw (opcode, funct3) refl
listed word (Load Lb rd rs1 imm) (opcode, funct3) = rw (opcode, funct3) refl
listed word (Load Lh rd rs1 imm) (opcode, funct3) = rw (opcode, funct3) refl
listed word (Load Lw rd rs1 imm) (opcode, funct3) = rw (opcode, funct3) refl
listed word (Load Lbu rd rs1 imm) (opcode, funct3) = rw (opcode, funct3) refl
listed word (Load Lhu rd rs1 imm) (opcode, funct3) = rw (opcode, funct3) refl
listed word (Store Sb rs1 rs2 imm) (opcode, funct3) = rw (opcode, funct3) refl
listed word (Store Sh rs1 rs2 imm) (opcode, funct3) = rw (opcode, funct3) refl
listed word (Store Sw rs1 rs2 imm) (opcode, funct3) = rw (opcode, funct3) refl
listed word (Imm Addi rd rs1 imm) (opcode, funct3) = rw (opcode, funct3) refl
listed word (Imm Slti rd rs1 imm) (opcode, funct3) = rw (opcode, funct3) refl
listed word (Imm Sltiu rd rs1 imm) (opcode, funct3) = rw (opcode, funct3) refl
listed word (Imm Xori rd rs1 imm) (opcode, funct3) = rw (opcode, funct3) refl
listed word (Imm Ori rd rs1 imm) (opcode, funct3) = rw (opcode, funct3) refl
listed word (Imm Andi rd rs1 imm) (opcode, funct3) = rw (opcode, funct3) refl
listed word (Shift Slli rd rs1 by) (opcode, funct3, funct7) = rw (opcode, funct3, funct7) refl
listed word (Shift Srli rd rs1 by) (opcode, funct3, funct7) = rw (opcode, funct3, funct7) refl
listed word (Shift Srai rd rs1 by) (opcode, funct3, funct7) = rw (opcode, funct3, funct7) refl
listed word (Reg Add rd rs1 rs2) (opcode, funct3, funct7) = rw (opcode, funct3, funct7) refl
listed word (Reg Sub rd rs1 rs2) (opcode, funct3, funct7) = rw (opcode, funct3, funct7) refl
listed word (Reg Sll rd rs1 rs2) (opcode, funct3, funct7) = rw (opcode, funct3, funct7) refl
listed word (Reg Slt rd rs1 rs2) (opcode, funct3, funct7) = rw (opcode, funct3, funct7) refl
listed word (Reg Sltu rd rs1 rs2) (opcode, funct3, funct7) = rw (opcode, funct3, funct7) refl
listed word (Reg Xor rd rs1 rs2) (opcode, funct3, funct7) = rw (opcode, funct3, funct7) refl
listed word (Reg Srl rd rs1 rs2) (opcode, funct3, funct7) = rw (opcode, funct3, funct7) refl
listed word (Reg Sra rd rs1 rs2) (opcode, funct3, funct7) = rw (opcode, funct3, funct7) refl
listed word (Reg Or rd rs1 rs2) (opcode, funct3, funct7) = rw (opcode, funct3, funct7) refl
listed word (Reg And rd rs1 rs2) (opcode, funct3, funct7) = rw (opcode, funct3, funct7) refl
listed word (Reg Mul rd rs1 rs2) (opcode, funct3, funct7) =
    let ecall = other_word word 0x00000073 (λ e. absurd (omega (arith, opcode, e))) in
    let ebreak = other_word word 0x00100073 (λ e. absurd (omega (arith, opcode, e))) in
    rw (ecall, ebreak, opcode, funct3, funct7) refl
listed word (Reg Mulh rd rs1 rs2) (opcode, funct3, funct7) =
    let ecall = other_word word 0x00000073 (λ e. absurd (omega (arith, opcode, e))) in
    let ebreak = other_word word 0x00100073 (λ e. absurd (omega (arith, opcode, e))) in
    rw (ecall, ebreak, opcode, funct3, funct7) refl
listed word (Reg Mulhsu rd rs1 rs2) (opcode, funct3, funct7) =
    let ecall = other_word word 0x00000073 (λ e. absurd (omega (arith, opcode, e))) in
    let ebreak = other_word word 0x00100073 (λ e. absurd (omega (arith, opcode, e))) in
    rw (ecall, ebreak, opcode, funct3, funct7) refl
listed word (Reg Mulhu rd rs1 rs2) (opcode, funct3, funct7) =
    let ecall = other_word word 0x00000073 (λ e. absurd (omega (arith, opcode, e))) in
    let ebreak = other_word word 0x00100073 (λ e. absurd (omega (arith, opcode, e))) in
    rw (ecall, ebreak, opcode, funct3, funct7) refl
listed word (Reg Div rd rs1 rs2) (opcode, funct3, funct7) =
    let ecall = other_word word 0x00000073 (λ e. absurd (omega (arith, opcode, e))) in
    let ebreak = other_word word 0x00100073 (λ e. absurd (omega (arith, opcode, e))) in
    rw (ecall, ebreak, opcode, funct3, funct7) refl
listed word (Reg Divu rd rs1 rs2) (opcode, funct3, funct7) =
    let ecall = other_word word 0x00000073 (λ e. absurd (omega (arith, opcode, e))) in
    let ebreak = other_word word 0x00100073 (λ e. absurd (omega (arith, opcode, e))) in
    rw (ecall, ebreak, opcode, funct3, funct7) refl
listed word (Reg Rem rd rs1 rs2) (opcode, funct3, funct7) =
    let ecall = other_word word 0x00000073 (λ e. absurd (omega (arith, opcode, e))) in
    let ebreak = other_word word 0x00100073 (λ e. absurd (omega (arith, opcode, e))) in
    rw (ecall, ebreak, opcode, funct3, funct7) refl
listed word (Reg Remu rd rs1 rs2) (opcode, funct3, funct7) =
    let ecall = other_word word 0x00000073 (λ e. absurd (omega (arith, opcode, e))) in
    let ebreak = other_word word 0x00100073 (λ e. absurd (omega (arith, opcode, e))) in
    rw (ecall, ebreak, opcode, funct3, funct7) refl
listed word Fence (opcode, funct3) = rw (opcode, funct3) refl
listed word FenceI (opcode, funct3) =
    let ecall = other_word word 0x00000073 (λ e. absurd (omega (arith, opcode, e))) in
    let ebreak = other_word word 0x00100073 (λ e. absurd (omega (arith, opcode, e))) in
    rw (ecall, ebreak, opcode, funct3) refl
listed word Ecall whole = rw whole refl
listed word Ebreak whole = rw whole refl

-- what a word encodes is what is decoded
pub decoded-encodes : (word : ℕ) (instr : Instr) → Encodes word instr → decoded word ≡ Some instr
decoded-encodes word instr h = listed word instr (HasRow-tested word (row_of instr) h.0) ∙ ap Some (sym h.1)

-- two functions that agree on a list agree on what is found in it, and that passes the test
find-agrees : {A B : Type 0} (test : A → Bool) (f g : A → B) (xs : List A) (x : A) → map f xs ≡ map g xs → find test xs ≡ Some x → (test x ≡ true) × (f x ≡ g x)
find-agrees test f g [] x same found = absurd cc
find-agrees test f g (y ∷ xs) x same found = elim (cases_Bool (test y)) [
  | inl passes ↦
      let at_once : y ≡ x = (let e : cond (test y) (Some y) (find test xs) ≡ Some x = found in cc) in
      (cc, cc)
  | inr fails ↦
      let later : find test xs ≡ Some x = (rw fails at found) in
      let rest : map f xs ≡ map g xs = cc in
      find-agrees test f g xs x rest later
]

-- to take the fields of a word twice is to take them once
with_fields-twice : (word : ℕ) (instr : Instr) → with_fields word (with_fields word instr) ≡ with_fields word instr
with_fields-twice word (Lui rd imm) = refl
with_fields-twice word instr = refl

-- a value that is made of an option is made of the value there
option_map-some : {A B : Type 0} (f : A → B) (o : Option A) (y : B) → option_map f o ≡ Some y → (x : A) × (o ≡ Some x) × (f x ≡ y)
option_map-some f None y h = absurd cc
option_map-some f (Some x) y h = (x, refl, cc)

-- the rows of the listing do not depend on fields
rows_stay : (word : ℕ) → map (λ instr. row_of (with_fields word instr)) instructions ≡ map row_of instructions
rows_stay word = refl

-- what is decoded is what the word encodes
pub Encodes-decoded : (word : ℕ) (instr : Instr) → decoded word ≡ Some instr → Encodes word instr
unfolding decoded
Encodes-decoded word instr h =
    let (found, is_found, fields) = option_map-some (with_fields word) _ instr h in
    let both = find-agrees (λ i. has_row word (row_of i)) (λ i. row_of (with_fields word i)) row_of instructions found (rows_stay word) is_found in (
      subst (λ (i : Instr). IsTrue (has_row word (row_of i))) fields (ap (has_row word) both.1 ∙ both.0),
      sym fields ∙ sym (with_fields-twice word found) ∙ ap (with_fields word) fields,
    )

-- a word encodes one instruction at most
pub encodes_once : (word : ℕ) (a b : Instr) → Encodes word a → Encodes word b → a ≡ b
encodes_once word a b of_a of_b =
    let first = decoded-encodes word a of_a in
    let second = decoded-encodes word b of_b in
    cc

-- the fields of a word are in their ranges
Fits-with_fields : (word : ℕ) (instr : Instr) → Fits (with_fields word instr)
Fits-with_fields word (Lui rd imm) = search rules
Fits-with_fields word instr = search rules

-- the clauses of an answer that is what is decoded
pub row-decoded : (word : ℕ) (answer : Option Instr) → answer ≡ decoded word → MatchOption answer ((instr : Instr) → ¬ Encodes word instr) (λ instr. Encodes word instr)
row-decoded word None is = λ instr encodes. let e = decoded-encodes word instr encodes in cc
row-decoded word (Some instr) is = Encodes-decoded word instr (sym is)

pub only-decoded : (word : ℕ) (answer : Option Instr) → answer ≡ decoded word → (instr : Instr) → Encodes word instr → answer ≡ Some instr
only-decoded word answer is instr encodes = is ∙ decoded-encodes word instr encodes

pub fits-decoded : (word : ℕ) (answer : Option Instr) → answer ≡ decoded word → IfSome answer Fits
fits-decoded word None is = tt
fits-decoded word (Some instr) is =
    subst Fits (sym (Encodes-decoded word instr (sym is)).1) (Fits-with_fields word instr)
