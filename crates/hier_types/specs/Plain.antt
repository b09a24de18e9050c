-- A layer of plain lines, by what contracts see of it.
use Rattle.std.specs.Prelude.{◌≡◌, ℕ, ◌/◌, true, false, List, Option, Some, Result, Ok, Err, IfOk, slice_get, slice_set}
use Rattle.hier_types.specs.declared.faults.NoSpace.{NoSpace}
use Rattle.hier_types.specs.Calls.{Answer}
use Rattle.hier_types.specs.Causes.{raised}
use Rattle.hier_types.specs.Sources.{is_listed}

-- the lines, the numbers of the calls that refuse, how many calls and refusals there were, and what was refused last
pub record Plain : Type 0 where
  pub lines : List (List ℕ)
  pub refuse : List ℕ
  pub calls : ℕ
  pub stops : ℕ
  pub last : Option NoSpace

-- what a refusal of a call on the line says: its page, and order 0
abbrev pub refusal_at : ℕ → NoSpace
refusal_at line = record { page = record { 0 = line / 64 }; order = 0 }

-- a call on a line refuses exactly where it is listed; it leaves these lines where it does not
abbrev pub PlainAnswers : {T : Type 0} → Plain → ℕ → Result T NoSpace → List (List ℕ) → Plain → Type 0
PlainAnswers old line (Ok t) lines new = (is_listed old.refuse old.calls ≡ false)
    × (new ≡ record { lines = lines; refuse = old.refuse; calls = raised old.calls; stops = old.stops; last = old.last })
PlainAnswers old line (Err refusal) lines new = (is_listed old.refuse old.calls ≡ true) × (refusal ≡ refusal_at line)
    × (new ≡ record { lines = old.lines; refuse = old.refuse; calls = raised old.calls; stops = raised old.stops; last = Some refusal })

-- a read, and the bytes that it gave
abbrev pub PlainRead : Plain → ℕ → Result (List ℕ) NoSpace → Plain → Type 0
PlainRead old line answer new = PlainAnswers old line answer old.lines new × IfOk answer (λ bytes. slice_get old.lines line ≡ Some bytes)

abbrev pub PlainWrite : Plain → ℕ → List ℕ → Answer → Plain → Type 0
PlainWrite old line bytes answer new = PlainAnswers old line answer (slice_set old.lines line bytes) new
