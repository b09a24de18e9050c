-- Fields and immediates of an instruction word, by the numbers of their bits
-- (RISC-V unprivileged manual, RV32I, "Base Instruction Formats" and "Immediate Encoding Variants").
use Rattle.std.specs.Prelude.{ℕ, ℤ, pos, ◌+◌, ◌-◌, ◌*◌, ◌/◌, ◌%◌, ◌^◌, ◌-ℤ◌, nat_lt, if◌then◌else◌}

-- the bits `high` down to `low` of a word, as a number
abbrev pub bits : ℕ → ℕ → ℕ → ℕ
bits word high low = word / 2 ^ low % 2 ^ (high + 1 - low)

-- the number below `2 * half` whose upper half stands for the negative numbers
abbrev pub signed_by : ℕ → ℕ → ℤ
signed_by half n = if nat_lt n half then pos n else pos n -ℤ pos (2 * half)

-- what `count` bits say in two's complement
abbrev pub signed : ℕ → ℕ → ℤ
signed count n = signed_by (2 ^ (count - 1)) n

-- the seven bits that choose the format
abbrev pub opcode_of : ℕ → ℕ
opcode_of word = bits word 6 0

-- the register that is written
abbrev pub rd_of : ℕ → ℕ
rd_of word = bits word 11 7

-- three bits that choose the operation
abbrev pub funct3_of : ℕ → ℕ
funct3_of word = bits word 14 12

-- the first register that is read
abbrev pub rs1_of : ℕ → ℕ
rs1_of word = bits word 19 15

-- the second register that is read, or the amount of a shift
abbrev pub rs2_of : ℕ → ℕ
rs2_of word = bits word 24 20

-- seven further bits that choose the operation
abbrev pub funct7_of : ℕ → ℕ
funct7_of word = bits word 31 25

-- the immediate of format I
abbrev pub imm_i_of : ℕ → ℤ
imm_i_of word = signed 12 (bits word 31 20)

-- the immediate of format S
abbrev pub imm_s_of : ℕ → ℤ
imm_s_of word = signed 12 (bits word 31 25 * 2 ^ 5 + bits word 11 7)

-- the offset of format B
abbrev pub imm_b_of : ℕ → ℤ
imm_b_of word = signed 13 (bits word 31 31 * 2 ^ 12 + bits word 7 7 * 2 ^ 11 + bits word 30 25 * 2 ^ 5 + bits word 11 8 * 2)

-- the upper immediate of format U
abbrev pub imm_u_of : ℕ → ℕ
imm_u_of word = bits word 31 12 * 2 ^ 12

-- the offset of format J
abbrev pub imm_j_of : ℕ → ℤ
imm_j_of word = signed 21 (bits word 31 31 * 2 ^ 20 + bits word 19 12 * 2 ^ 12 + bits word 20 20 * 2 ^ 11 + bits word 30 21 * 2)
