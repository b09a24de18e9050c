-- How the calls that were made on a layer are put together.
use Rattle.std.proofs.Common.{ℕ, List, [], ◌∷◌, Result, refl}
use Rattle.hier_types.specs.Calls.{Answer, Call, Read, Write, Makes}
use Rattle.hier_types.specs.declared.faults.NoSpace.{NoSpace}

-- nothing was made
pub Makes-none : {B : Type 0} {did_read : B → ℕ → Result (List ℕ) NoSpace → B → Type 0} {did_write : B → ℕ → List ℕ → Answer → B → Type 0}
    {s : B} {Gives : List Call → Type 0} → Gives [] → Makes did_read did_write s Gives s
Makes-none gives = record { calls = []; made = refl; gives = gives }

-- one read was made
pub Makes-read : {B : Type 0} {did_read : B → ℕ → Result (List ℕ) NoSpace → B → Type 0} {did_write : B → ℕ → List ℕ → Answer → B → Type 0}
    {s t : B} {Gives : List Call → Type 0} (line : ℕ) (a : Result (List ℕ) NoSpace) → did_read s line a t → Gives (Read line a ∷ []) → Makes did_read did_write s Gives t
Makes-read {t = t} line a did gives = record { calls = Read line a ∷ []; made = (t, did, refl); gives = gives }

-- one write was made
pub Makes-write : {B : Type 0} {did_read : B → ℕ → Result (List ℕ) NoSpace → B → Type 0} {did_write : B → ℕ → List ℕ → Answer → B → Type 0}
    {s t : B} {Gives : List Call → Type 0} (line : ℕ) (bytes : List ℕ) (a : Answer) → did_write s line bytes a t → Gives (Write line bytes a ∷ []) → Makes did_read did_write s Gives t
Makes-write {t = t} line bytes a did gives = record { calls = Write line bytes a ∷ []; made = (t, did, refl); gives = gives }

-- a write, and then others
pub Makes-write_then : {B : Type 0} {did_read : B → ℕ → Result (List ℕ) NoSpace → B → Type 0} {did_write : B → ℕ → List ℕ → Answer → B → Type 0}
    {s m t : B} {Rest Gives : List Call → Type 0} (line : ℕ) (bytes : List ℕ) (a : Answer) → did_write s line bytes a m → Makes did_read did_write m Rest t
    → ((calls : List Call) → Rest calls → Gives (Write line bytes a ∷ calls)) → Makes did_read did_write s Gives t
Makes-write_then {m = m} line bytes a did rest gives = record { calls = Write line bytes a ∷ rest.calls; made = (m, did, rest.made); gives = gives rest.calls rest.gives }

-- the same calls, of which something else holds
pub Makes-weaker : {B : Type 0} {did_read : B → ℕ → Result (List ℕ) NoSpace → B → Type 0} {did_write : B → ℕ → List ℕ → Answer → B → Type 0}
    {s t : B} {Rest Gives : List Call → Type 0} → Makes did_read did_write s Rest t → ((calls : List Call) → Rest calls → Gives calls) → Makes did_read did_write s Gives t
Makes-weaker rest gives = record { calls = rest.calls; made = rest.made; gives = gives rest.calls rest.gives }

-- a read, and then others
pub Makes-read_then : {B : Type 0} {did_read : B → ℕ → Result (List ℕ) NoSpace → B → Type 0} {did_write : B → ℕ → List ℕ → Answer → B → Type 0}
    {s m t : B} {Rest Gives : List Call → Type 0} (line : ℕ) (a : Result (List ℕ) NoSpace) → did_read s line a m → Makes did_read did_write m Rest t
    → ((calls : List Call) → Rest calls → Gives (Read line a ∷ calls)) → Makes did_read did_write s Gives t
Makes-read_then {m = m} line a did rest gives = record { calls = Read line a ∷ rest.calls; made = (m, did, rest.made); gives = gives rest.calls rest.gives }
