-- A program that fills 256 KiB with numbers made from one number, and writes a sum over them. Registers: x5 the number,
-- x6 and x7 the factor and the summand by which it goes on, x8 an address, x9 the end, x28 and x29 for values, x30 the sum.
use Rattle.std.specs.Prelude.{ℕ, ℤ, pos, neg_ℤ, ◌+◌, ◌-◌, ◌*◌, ◌/◌, ◌%◌, ◌^◌, List, [], ◌∷◌, ◌++◌}
use Rattle.rv_decode.specs.Word.{signed}
use Rattle.rv_decode.specs.declared.instruction.Instr.{Instr}
use Rattle.rv_decode.specs.declared.instruction.Instr.TheVariants.{Lui, Branch, Load, Store, Imm, Shift, Reg, Ecall}
use Rattle.rv_decode.specs.declared.instruction.BranchOp.TheVariants.{Bne}
use Rattle.rv_decode.specs.declared.instruction.LoadOp.TheVariants.{Lw}
use Rattle.rv_decode.specs.declared.instruction.StoreOp.TheVariants.{Sw}
use Rattle.rv_decode.specs.declared.instruction.ImmOp.TheVariants.{Addi, Andi}
use Rattle.rv_decode.specs.declared.instruction.ShiftOp.TheVariants.{Srli}
use Rattle.rv_decode.specs.declared.instruction.RegOp.TheVariants.{Add, Srl, Mul}

-- the upper 20 bits by which LUI begins a number that ADDI completes, rounded to the nearest
abbrev pub hi : ℕ → ℕ
hi number = (number + 2048) / 4096 % 2 ^ 20

-- what ADDI adds to them
abbrev pub lo : ℕ → ℤ
lo number = signed 32 ((number + 2 ^ 32 - 4096 * hi number) % 2 ^ 32)

-- LUI by the upper 20 bits
abbrev pub lui : ℕ → ℕ → Instr
lui rd upper = Lui rd (upper * 2 ^ 12)

-- the bounds of the memory, the number, and how it goes on
unfoldable pub start : ℕ → List Instr
start number =
    lui 8 0x00100
    ∷ lui 9 0x00140
    ∷ lui 5 (hi number)
    ∷ Imm Addi 5 5 (lo number)
    ∷ lui 6 0x00196
    ∷ Imm Addi 6 6 (pos 1549)
    ∷ lui 7 0x3c6ef
    ∷ Imm Addi 7 7 (pos 863)
    ∷ []

-- each word becomes the next number, shifted right by the low five bits of its page's number
unfoldable pub fill : List Instr
fill =
    Reg Mul 5 5 6
    ∷ Reg Add 5 5 7
    ∷ Shift Srli 28 8 12
    ∷ Imm Andi 28 28 (pos 31)
    ∷ Reg Srl 29 5 28
    ∷ Store Sw 8 29 (pos 0)
    ∷ Imm Addi 8 8 (pos 4)
    ∷ Branch Bne 8 9 (neg_ℤ (pos 28))
    ∷ []

-- back to the first word, with the sum 0
unfoldable pub middle : List Instr
middle =
    lui 8 0x00100
    ∷ Imm Addi 30 0 (pos 0)
    ∷ []

-- the sum is multiplied by the factor, and a word added
unfoldable pub sum : List Instr
sum =
    Load Lw 28 8 (pos 0)
    ∷ Reg Mul 30 30 6
    ∷ Reg Add 30 30 28
    ∷ Imm Addi 8 8 (pos 4)
    ∷ Branch Bne 8 9 (neg_ℤ (pos 16))
    ∷ []

-- the sum stands behind the words, and its four bytes are written to output 1; then exit with status 0
unfoldable pub end : List Instr
end =
    Store Sw 9 30 (pos 0)
    ∷ Imm Addi 10 0 (pos 1)
    ∷ Imm Addi 11 9 (pos 0)
    ∷ Imm Addi 12 0 (pos 4)
    ∷ Imm Addi 17 0 (pos 64)
    ∷ Ecall
    ∷ Imm Addi 10 0 (pos 0)
    ∷ Imm Addi 17 0 (pos 93)
    ∷ Ecall
    ∷ []

-- the program of a number
unfoldable pub demo_instructions : ℕ → List Instr
demo_instructions number = start number ++ fill ++ middle ++ sum ++ end
