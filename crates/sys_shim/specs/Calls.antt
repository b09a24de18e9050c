-- The calls of the guest, with their numbers under Linux on RISC-V: the number stands in x17, the arguments in x10, x11 and x12, and the result goes to x10.
use Rattle.std.specs.Prelude.{ℕ, ◌+◌, ◌-◌, ◌%◌, ◌^◌, ◌==◌, ◌&&◌, ◌||◌, min, nat_le, nat_lt, Bool, if◌then◌else◌, List, take, drop, slice_set}
use Rattle.hier_types.specs.Span.{Span, first, has, past}
use Rattle.rv_core.specs.Hart.{Hart, put, register, sum}
use Rattle.sys_shim.specs.declared.brk.Brk.{Brk}

-- what a call asks for: the end of the run; a number at once; at most so many bytes of the input, to an address; bytes to the output; or the break at an address
pub data Request : Type 0 where
  Exit : (status : ℕ) → Request
  Answer : (value : ℕ) → Request
  Read : (at count : ℕ) → Request
  Write : (bytes : List ℕ) → Request
  SetBreak : (top : ℕ) → Request

-- errors are negative numbers in two's complement: not an open file, not an address of the guest's, no such call
abbrev pub ebadf : ℕ
ebadf = 2 ^ 32 - 9

abbrev pub efault : ℕ
efault = 2 ^ 32 - 14

abbrev pub enosys : ℕ
enosys = 2 ^ 32 - 38

-- a write passes on at most so many bytes
abbrev pub most_bytes : ℕ
most_bytes = 4096

-- as many bytes as a write asks for, within that limit
abbrev pub written_count : Hart → ℕ
written_count h = min (register h 12) most_bytes

-- as many bytes as a read asks for, within the line of their first address
abbrev pub read_count : Hart → ℕ
read_count h = min (register h 12) (64 - register h 11 % 64)

-- the test that so many bytes from an address on are in the span
abbrev pub has_all : Span → ℕ → ℕ → Bool
has_all span at count = nat_le (first span) at && nat_le (at + count) (past span)

-- what closing a file answers: 0, 1 and 2 are open
abbrev pub closed : ℕ → ℕ
closed file = if nat_lt file 3 then 0 else ebadf

-- read: of the file 0 to x12 bytes from the address x11 on
abbrev pub read_of : Span → Hart → Request
read_of span h =
    if register h 10 == 0 then
    (if register h 12 == 0 then Answer 0
    else if has span (register h 11) then Read (register h 11) (read_count h)
    else Answer efault)
    else Answer ebadf

-- write: of x12 bytes from the address x11 on, to the file 1 or 2
abbrev pub write_of : Span → Hart → Request
write_of span h =
    if (register h 10 == 1) || (register h 10 == 2) then
    (if register h 12 == 0 then Answer 0
    else if has_all span (register h 11) (written_count h) then Write (take (written_count h) (drop (register h 11 - first span) h.bytes))
    else Answer efault)
    else Answer ebadf

-- where the break is after a call asks for it at an address
abbrev pub break_at : Brk → ℕ → ℕ
break_at brk at = if nat_le brk.low at && nat_le at brk.high then at else brk.top

-- close of x10 is 57, read 63, write 64, exit 93, exit_group 94 and brk 214; there is no other call
abbrev pub request_of : Span → Brk → Hart → Request
request_of span brk h =
    if (register h 17 == 93) || (register h 17 == 94) then Exit (register h 10)
    else if register h 17 == 64 then write_of span h
    else if register h 17 == 63 then read_of span h
    else if register h 17 == 57 then Answer (closed (register h 10))
    else if register h 17 == 214 then SetBreak (break_at brk (register h 10))
    else Answer enosys

-- the hart after a call was answered
abbrev pub answered : Hart → ℕ → Hart
answered h value = record { pc = sum h.pc 4; x = slice_set h.x 10 value; bytes = h.bytes }

-- the hart with bytes in its memory from an address on
abbrev pub filled : Span → Hart → ℕ → List ℕ → Hart
filled span h at bytes = record { pc = h.pc; x = h.x; bytes = put h.bytes (at - first span) bytes }
