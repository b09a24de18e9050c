-- A source over bytes in memory, by what contracts see of it.
use Rattle.std.specs.Prelude.{◌≡◌, ℕ, ◌==◌, Bool, true, false, List, Result, Ok, Err, drop}
use Rattle.std.specs.List.{list_any}
use Rattle.hier_types.specs.declared.faults.Failed.{Failed}
use Rattle.hier_types.specs.Causes.{raised}

-- the bytes that are left, the numbers of the calls that fail, and how many calls and faults there were
pub record Given : Type 0 where
  pub left : List ℕ
  pub fail : List ℕ
  pub calls : ℕ
  pub faults : ℕ

-- the call of this number is one of those listed
abbrev pub is_listed : List ℕ → ℕ → Bool
is_listed numbers call = list_any (λ number. number == call) numbers

-- a read fails exactly where it is listed, and else its bytes are gone
abbrev pub GivesOrFails : Given → Result ℕ Failed → Given → Type 0
GivesOrFails old (Ok count) new = (is_listed old.fail old.calls ≡ false)
    × (new ≡ record { left = drop count old.left; fail = old.fail; calls = raised old.calls; faults = old.faults })
GivesOrFails old (Err failed) new = (is_listed old.fail old.calls ≡ true)
    × (new ≡ record { left = old.left; fail = old.fail; calls = raised old.calls; faults = raised old.faults })
