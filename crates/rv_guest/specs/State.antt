-- What contracts see of the guest.
use Rattle.std.specs.Prelude.{ℕ, ◌+◌, List}
use Rattle.hier_types.specs.Span.{Span}
use Rattle.rv_core.specs.Code.{Code, words}
use Rattle.rv_core.specs.Hart.{Hart}
use Rattle.sys_shim.specs.declared.brk.Brk.{Brk}
use Rattle.rv_guest.specs.Flat.{Flat}
use Rattle.rv_guest.specs.declared.guest.Guest.{Guest}

-- the registers and the memory, the break, and how many instructions retired
pub record GuestState : Type 0 where
  pub hart : Hart
  pub brk : Brk
  pub retired : ℕ

-- a guest over a memory of these bytes
abbrev pub state_of : Guest → List ℕ → GuestState
state_of guest bytes = record { hart = record { pc = guest.regs.pc; x = guest.regs.x; bytes = bytes }; brk = guest.brk; retired = guest.retired }

-- how the guest's code is read
unfoldable pub code_at : Span → GuestState → Code
code_at span s = words span

-- the flat state that it stands for, with this input left and this output so far
abbrev pub flat_of : GuestState → List ℕ → List ℕ → Flat
flat_of s input output = record { hart = s.hart; brk = s.brk; input = input; output = output; retired = s.retired }

-- one more instruction retired
abbrev pub counted : GuestState → GuestState
counted s = record s { retired = s.retired + 1 }
