-- What each operation computes, from registers as whole numbers below 2^32 (RISC-V unprivileged manual, RV32I and M).
use Rattle.std.specs.Prelude.{ℕ, ℤ, pos, ◌+◌, ◌-◌, ◌*◌, ◌/◌, ◌%◌, ◌^◌, ◌==◌, ◌*ℤ◌, Bool, not, nat_lt, if◌then◌else◌, List, bit_and, bit_or, bit_xor, int_div, int_lt, int_rem, slice_index, take}
use Rattle.std.specs.Int.{w8, w16, w32, w64, cast_signed, cast_unsigned, int_shr, to_le_bytes}
use Rattle.rv_decode.specs.declared.instruction.BranchOp.{BranchOp}
use Rattle.rv_decode.specs.declared.instruction.BranchOp.TheVariants.{Beq, Bne, Blt, Bge, Bltu, Bgeu}
use Rattle.rv_decode.specs.declared.instruction.LoadOp.{LoadOp}
use Rattle.rv_decode.specs.declared.instruction.LoadOp.TheVariants.{Lb, Lh, Lw, Lbu, Lhu}
use Rattle.rv_decode.specs.declared.instruction.StoreOp.{StoreOp}
use Rattle.rv_decode.specs.declared.instruction.StoreOp.TheVariants.{Sb, Sh, Sw}
use Rattle.rv_decode.specs.declared.instruction.ImmOp.{ImmOp}
use Rattle.rv_decode.specs.declared.instruction.ImmOp.TheVariants.{Addi, Slti, Sltiu, Xori, Ori, Andi}
use Rattle.rv_decode.specs.declared.instruction.ShiftOp.{ShiftOp}
use Rattle.rv_decode.specs.declared.instruction.ShiftOp.TheVariants.{Slli, Srli, Srai}
use Rattle.rv_decode.specs.declared.instruction.RegOp.{RegOp}
use Rattle.rv_decode.specs.declared.instruction.RegOp.TheVariants.{Add, Sub, Sll, Slt, Sltu, Xor, Srl, Sra, Or, And, Mul, Mulh, Mulhsu, Mulhu, Div, Divu, Rem, Remu}
use Rattle.rv_core.specs.Hart.{sum, bits_of, half_at, word_at}

-- a register read in two's complement
abbrev pub signed : ℕ → ℤ
signed a = cast_signed w32 a

-- 1 where the test holds, else 0
abbrev pub one_if : Bool → ℕ
one_if test = if test then 1 else 0

-- whether the branch is taken
abbrev pub is_taken : BranchOp → ℕ → ℕ → Bool
is_taken Beq a b = a == b
is_taken Bne a b = not (a == b)
is_taken Blt a b = int_lt (signed a) (signed b)
is_taken Bge a b = not (int_lt (signed a) (signed b))
is_taken Bltu a b = nat_lt a b
is_taken Bgeu a b = not (nat_lt a b)

-- the bytes that a load takes
abbrev pub load_width : LoadOp → ℕ
load_width Lb = 1
load_width Lh = 2
load_width Lw = 4
load_width Lbu = 1
load_width Lhu = 2

-- what a load gives of the bytes from a place on
abbrev pub load_value : LoadOp → List ℕ → ℕ → ℕ
load_value Lb bytes place = bits_of (cast_signed w8 (slice_index bytes place))
load_value Lh bytes place = bits_of (cast_signed w16 (half_at bytes place))
load_value Lw bytes place = word_at bytes place
load_value Lbu bytes place = slice_index bytes place
load_value Lhu bytes place = half_at bytes place

-- the bytes that a store puts
abbrev pub store_width : StoreOp → ℕ
store_width Sb = 1
store_width Sh = 2
store_width Sw = 4

-- the low bytes of a register, the lowest first
abbrev pub store_bytes : StoreOp → ℕ → List ℕ
store_bytes op value = take (store_width op) (to_le_bytes w32 value)

-- the immediate is sign-extended to 32 bits
abbrev pub imm_value : ImmOp → ℕ → ℕ → ℕ
imm_value Addi a imm = sum a imm
imm_value Slti a imm = one_if (int_lt (signed a) (signed imm))
imm_value Sltiu a imm = one_if (nat_lt a imm)
imm_value Xori a imm = bit_xor a imm
imm_value Ori a imm = bit_or a imm
imm_value Andi a imm = bit_and a imm

-- a shift takes the low five bits of its amount; an arithmetic one to the right brings the sign in from the left
abbrev pub shift_value : ShiftOp → ℕ → ℕ → ℕ
shift_value Slli a by = a * 2 ^ (by % 32) % 2 ^ 32
shift_value Srli a by = a / 2 ^ (by % 32)
shift_value Srai a by = bits_of (int_shr (signed a) (by % 32))

-- the high 32 of the 64 bits of a product
abbrev pub high_half : ℤ → ℕ
high_half product = cast_unsigned w64 product / 2 ^ 32

-- the quotient is rounded towards zero; a division by zero gives all ones
abbrev pub quotient : ℕ → ℕ → ℕ
quotient a b = if b == 0 then 2 ^ 32 - 1 else bits_of (int_div (signed a) (signed b))

abbrev pub quotient_unsigned : ℕ → ℕ → ℕ
quotient_unsigned a b = if b == 0 then 2 ^ 32 - 1 else a / b

-- the remainder has the dividend's sign; a division by zero gives the dividend
abbrev pub remainder : ℕ → ℕ → ℕ
remainder a b = if b == 0 then a else bits_of (int_rem (signed a) (signed b))

abbrev pub remainder_unsigned : ℕ → ℕ → ℕ
remainder_unsigned a b = if b == 0 then a else a % b

abbrev pub reg_value : RegOp → ℕ → ℕ → ℕ
reg_value Add a b = sum a b
reg_value Sub a b = (a + (2 ^ 32 - b)) % 2 ^ 32
reg_value Sll a b = shift_value Slli a b
reg_value Slt a b = one_if (int_lt (signed a) (signed b))
reg_value Sltu a b = one_if (nat_lt a b)
reg_value Xor a b = bit_xor a b
reg_value Srl a b = shift_value Srli a b
reg_value Sra a b = shift_value Srai a b
reg_value Or a b = bit_or a b
reg_value And a b = bit_and a b
reg_value Mul a b = a * b % 2 ^ 32
reg_value Mulh a b = high_half (signed a *ℤ signed b)
reg_value Mulhsu a b = high_half (signed a *ℤ pos b)
reg_value Mulhu a b = high_half (pos a *ℤ pos b)
reg_value Div a b = quotient a b
reg_value Divu a b = quotient_unsigned a b
reg_value Rem a b = remainder a b
reg_value Remu a b = remainder_unsigned a b
