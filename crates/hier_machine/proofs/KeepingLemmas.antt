-- Calls that were made on one state were made on what a function makes of it, where each call keeps a fact.
use Rattle.std.proofs.Common.{ℕ, List, [], ◌∷◌, Option, Result, ap, subst, sym}
use Rattle.hier_types.specs.declared.faults.NoSpace.{NoSpace}
use Rattle.hier_types.specs.Calls.{Answer, Call, Read, Write, Made, Makes}
use Rattle.hier_types.specs.PortCalls.{PortCall, Touch, Poke, PortMade, MadeInOrder}

-- the calls of a layer
module _ {A B : Type 0} (f : A → B) (Keeps : A → Type 0)
    (did_read : A → ℕ → Result (List ℕ) NoSpace → A → Type 0) (did_write : A → ℕ → List ℕ → Answer → A → Type 0)
    (does_read : B → ℕ → Result (List ℕ) NoSpace → B → Type 0) (does_write : B → ℕ → List ℕ → Answer → B → Type 0)
    (reads : (s : A) (line : ℕ) (answer : Result (List ℕ) NoSpace) (t : A) → Keeps s → did_read s line answer t → Keeps t × does_read (f s) line answer (f t))
    (writes : (s : A) (line : ℕ) (bytes : List ℕ) (answer : Answer) (t : A) → Keeps s → did_write s line bytes answer t → Keeps t × does_write (f s) line bytes answer (f t)) where
  Made-keeping : (calls : List Call) (s t : A) → Keeps s → Made did_read did_write s calls t → Keeps t × Made does_read does_write (f s) calls (f t)
  Made-keeping [] s t keeps same = (subst Keeps (sym same) keeps, ap f same)
  Made-keeping (Read line answer ∷ calls) s t keeps made =
      let one = reads s line answer made.0 keeps made.1 in
      let rest = Made-keeping calls made.0 t one.0 made.2 in
      (rest.0, (f made.0, one.1, rest.1))
  Made-keeping (Write line bytes answer ∷ calls) s t keeps made =
      let one = writes s line bytes answer made.0 keeps made.1 in
      let rest = Made-keeping calls made.0 t one.0 made.2 in
      (rest.0, (f made.0, one.1, rest.1))

  pub Makes-keeping : (Gives : List Call → Type 0) (s t : A) → Keeps s → Makes did_read did_write s Gives t → Keeps t × Makes does_read does_write (f s) Gives (f t)
  Makes-keeping Gives s t keeps made =
      let all = Made-keeping made.calls s t keeps made.made in
      (all.0, record { calls = made.calls; made = all.1; gives = made.gives })

-- the calls of a port
module _ {A B : Type 0} (f : A → B) (Keeps : A → Type 0)
    (did_touch : A → ℕ → Answer → A → Type 0) (did_poke : A → ℕ → ℕ → A → Type 0)
    (does_touch : B → ℕ → Answer → B → Type 0) (does_poke : B → ℕ → ℕ → B → Type 0)
    (touches : (s : A) (line : ℕ) (answer : Answer) (t : A) → Keeps s → did_touch s line answer t → Keeps t × does_touch (f s) line answer (f t))
    (pokes : (s : A) (at byte : ℕ) (t : A) → Keeps s → did_poke s at byte t → Keeps t × does_poke (f s) at byte (f t)) where
  PortMade-keeping : (calls : List PortCall) (s t : A) → Keeps s → PortMade did_touch did_poke s calls t → Keeps t × PortMade does_touch does_poke (f s) calls (f t)
  PortMade-keeping [] s t keeps same = (subst Keeps (sym same) keeps, ap f same)
  PortMade-keeping (Touch line answer ∷ calls) s t keeps made =
      let one = touches s line answer made.0 keeps made.1 in
      let rest = PortMade-keeping calls made.0 t one.0 made.2 in
      (rest.0, (f made.0, one.1, rest.1))
  PortMade-keeping (Poke at byte ∷ calls) s t keeps made =
      let one = pokes s at byte made.0 keeps made.1 in
      let rest = PortMade-keeping calls made.0 t one.0 made.2 in
      (rest.0, (f made.0, one.1, rest.1))

  pub MadeInOrder-keeping : (s : A) (lines : List ℕ) (bytes : List (ℕ × ℕ)) (stop : Option NoSpace) (t : A) → Keeps s
      → MadeInOrder did_touch did_poke s lines bytes stop t → Keeps t × MadeInOrder does_touch does_poke (f s) lines bytes stop (f t)
  MadeInOrder-keeping s lines bytes stop t keeps made =
      let all = PortMade-keeping made.calls s t keeps made.made in
      (all.0, record { calls = made.calls; order = made.order; made = all.1 })
