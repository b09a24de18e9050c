-- The state that a program begins in.
use Rattle.std.specs.Prelude.{ℕ, ◌-◌, List, [], replicate, slice_set}
use Rattle.elf_image.specs.Image.{entry, end_of, memory_of}
use Rattle.hier_types.specs.Span.{Span, past}
use Rattle.rv_core.specs.Code.{Code}
use Rattle.sys_shim.specs.declared.brk.Brk.{Brk}
use Rattle.rv_guest.specs.Flat.{Flat}
use Rattle.rv_guest.specs.State.{GuestState, code_at, flat_of}

-- x2, the stack's end, is 64 bytes below the span's; each other register is 0
abbrev pub start_registers : Span → List ℕ
start_registers span = slice_set (replicate 32 0) 2 (past span - 64)

-- the break begins at the image's end, and may not come nearer to the span's end than the stack
abbrev pub start_break : Span → ℕ → Brk
start_break span end = record { low = end; top = end; high = past span - 64 }

-- a program begins at its entry, over its image
abbrev pub start_state : Span → ℕ → ℕ → List ℕ → GuestState
start_state span entry end bytes = record { hart = record { pc = entry; x = start_registers span; bytes = bytes }; brk = start_break span end; retired = 0 }

-- the guest at the beginning of the program in a file
abbrev pub start_guest : Span → List ℕ → GuestState
start_guest span file = start_state span (entry file) (end_of span file) (memory_of span file)

-- the flat state that this program begins in, with its input
abbrev pub start_of : Span → List ℕ → List ℕ → Flat
start_of span file input = flat_of (start_guest span file) input []

-- and how its code is read
abbrev pub code_of_file : Span → List ℕ → Code
code_of_file span file = code_at span (start_guest span file)
