-- The end of a run that was refused a block.
use Rattle.std.specs.Prelude.{◌≡◌, ◌≤◌, ℕ, ◌*◌, List, [], ◌∷◌, Some, length, slice_index_or}
use Rattle.hier_types.specs.Span.{Span}
use Rattle.hier_types.specs.declared.faults.NoSpace.{NoSpace}
use Rattle.buddy_frames.specs.Units.{IsCount, IsFreeBlock, place_at}
use Rattle.page_store.specs.Crowds.{Crowded}
use Rattle.page_store.specs.Store.{Store}
use Rattle.rv_guest.specs.declared.ends.MachineEnd.{MachineEnd}
use Rattle.rv_guest.specs.declared.ends.MachineEnd.TheVariants as machine
use Rattle.run_report.specs.declared.end.End.{End}
use Rattle.run_report.specs.declared.end.End.TheVariants.{Space}
use Rattle.run_report.specs.Texts.{page_address}
use Rattle.hier_machine.specs.Ends.{told_as}

-- so many blocks of the order are free
abbrev pub IsFreeCount : List ℕ → ℕ → ℕ → Type 0
IsFreeCount used order count = IsCount (8 * length used) (λ unit. IsFreeBlock used (place_at order unit)) count

-- the counts of the orders 0 to 3
abbrev pub AreFreeCounts : List ℕ → List ℕ → Type 0
AreFreeCounts used (first ∷ second ∷ third ∷ fourth ∷ []) = IsFreeCount used 0 first × IsFreeCount used 1 second × IsFreeCount used 2 third × IsFreeCount used 3 fourth
AreFreeCounts used counts = ⊥

-- none is free from an order on
abbrev pub AreNoneFrom : ℕ → List ℕ → Type 0
AreNoneFrom order counts = (other : ℕ) → order ≤ other → slice_index_or counts other 0 ≡ 0

-- The end tells the page's address, the order, and the free blocks of the store: none from that order on, where the store is
-- crowded for the refusal.
pub record IsSpaceEnd (span : Span) (store : Store) (refusal : NoSpace) (end : End) : Type 0 where
  pub free : List ℕ
  pub told : end ≡ Space (page_address span refusal.page.0) refusal.order free
  pub counts : AreFreeCounts store.used free
  pub none_free : Crowded store refusal → AreNoneFrom refusal.order free

-- the end of a machine's run as the program's: of a refused block it tells what the store then has
abbrev pub IsEndOf : Span → Store → MachineEnd → End → Type 0
IsEndOf span store (machine.Space refusal) end = IsSpaceEnd span store refusal end
IsEndOf span store own end = told_as own ≡ Some end

-- a store in which a run ended with a refusal is crowded for it
abbrev pub IsCrowdedIfSpace : Store → MachineEnd → Type 0
IsCrowdedIfSpace store (machine.Space refusal) = Crowded store refusal
IsCrowdedIfSpace store own = Unit {0}

-- an end that tells of a refused order tells of no free block from it on
abbrev pub HasNoneIfSpace : End → Type 0
HasNoneIfSpace (Space at order free) = AreNoneFrom order free
HasNoneIfSpace end = Unit {0}
