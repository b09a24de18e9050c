-- The accesses of a trace, each like the load or the store of its width.
use Rattle.std.specs.Prelude.{◌≡◌, ◌%◌, ◌-◌, ◌==◌, ◌⊎◌, ℕ, if◌then◌else◌, List, []}
use Rattle.hier_types.specs.Span.{Has, Span, first}
use Rattle.hier_types.specs.declared.access.Access.{Access}
use Rattle.hier_types.specs.declared.access.Access.TheVariants.{Load, Store}
use Rattle.rv_decode.specs.declared.instruction.LoadOp.{LoadOp}
use Rattle.rv_decode.specs.declared.instruction.LoadOp.TheVariants.{Lbu, Lhu, Lw}
use Rattle.rv_decode.specs.declared.instruction.StoreOp.{StoreOp}
use Rattle.rv_decode.specs.declared.instruction.StoreOp.TheVariants.{Sb, Sh, Sw}
use Rattle.rv_core.specs.Hart.{put}
use Rattle.rv_core.specs.Operations.{load_value, store_bytes}
use Rattle.rv_core.specs.Touched.{addressed}

abbrev pub address_of : Access → ℕ
address_of (Load at width) = at
address_of (Store at width value) = at

abbrev pub width_of : Access → ℕ
width_of (Load at width) = width
width_of (Store at width value) = width

-- the load and the store of 1, 2 or 4 bytes; what is loaded is not extended by a sign
abbrev pub load_op : ℕ → LoadOp
load_op width = if width == 1 then Lbu else if width == 2 then Lhu else Lw

abbrev pub store_op : ℕ → StoreOp
store_op width = if width == 1 then Sb else if width == 2 then Sh else Sw

-- An access of 1, 2 or 4 bytes at a multiple of its width in the span.
pub record IsAccess (span : Span) (access : Access) : Type 0 where
  pub width : (width_of access ≡ 1) ⊎ ((width_of access ≡ 2) ⊎ (width_of access ≡ 4))
  pub aligned : address_of access % width_of access ≡ 0
  pub has : Has span (address_of access)

-- the value that a load gives; a store gives 0
abbrev pub value_of : Span → Access → List ℕ → ℕ
value_of span (Load at width) bytes = load_value (load_op width) bytes (at - first span)
value_of span (Store at width value) bytes = 0

-- the bytes after the access
abbrev pub accessed : Span → Access → List ℕ → List ℕ
accessed span (Load at width) bytes = bytes
accessed span (Store at width value) bytes = put bytes (at - first span) (store_bytes (store_op width) value)

-- the bytes that the access pokes, with their addresses
abbrev pub pokes_of_access : Access → List (ℕ × ℕ)
pokes_of_access (Load at width) = []
pokes_of_access (Store at width value) = addressed at (store_bytes (store_op width) value)
