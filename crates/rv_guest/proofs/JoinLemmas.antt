-- The touches and pokes of an instruction, and of its call after it.
use Rattle.std.proofs.Common.{◌≡◌, ℕ, List, [], ◌∷◌, ◌++◌, Option, Some, None, Ok, Err}
use Rattle.hier_types.specs.declared.faults.NoSpace.{NoSpace}
use Rattle.hier_types.specs.Calls.{Answer}
use Rattle.hier_types.specs.PortCalls.{PortCall, Touch, Poke, PortMade, InOrder, MadeInOrder}

join : {P : Type 0} (t : P → ℕ → Answer → P → Type 0) (p : P → ℕ → ℕ → P → Type 0) (a b c : P) (lines more : List ℕ) (pokes : List (ℕ × ℕ)) (stop : Option NoSpace) (first : List PortCall)
    → InOrder lines [] None first → PortMade t p a first b → MadeInOrder t p b more pokes stop c → MadeInOrder t p a (lines ++ more) pokes stop c
join t p a b c [] more pokes stop first order made rest =
    let same : b ≡ a = rw order at made in
    rw (← same) rest
join t p a b c (line ∷ lines) more pokes stop [] order made rest = absurd order
join t p a b c (line ∷ lines) more pokes stop (Touch l (Ok u) ∷ first) order made rest =
    let tail = join t p made.0 b c lines more pokes stop first order.1 made.2 rest in
    record { calls = Touch l (Ok u) ∷ tail.calls; order = (order.0, tail.order); made = (made.0, made.1, tail.made) }
join t p a b c (line ∷ lines) more pokes stop (Touch l (Err refusal) ∷ first) order made rest = absurd (let no = order.1 in cc)
join t p a b c (line ∷ lines) more pokes stop (Poke at byte ∷ first) order made rest = absurd order

-- touches that were answered, and what was made after them
pub made_join : {P : Type 0} (t : P → ℕ → Answer → P → Type 0) (p : P → ℕ → ℕ → P → Type 0) (a b c : P) (lines more : List ℕ) (pokes : List (ℕ × ℕ)) (stop : Option NoSpace)
    → MadeInOrder t p a lines [] None b → MadeInOrder t p b more pokes stop c → MadeInOrder t p a (lines ++ more) pokes stop c
made_join t p a b c lines more pokes stop first rest = join t p a b c lines more pokes stop first.calls first.order first.made rest

refused_order : (lines more : List ℕ) (pokes other : List (ℕ × ℕ)) (refusal : NoSpace) (calls : List PortCall) → InOrder lines pokes (Some refusal) calls → InOrder (lines ++ more) other (Some refusal) calls
refused_order [] more pokes other refusal calls order = absurd order
refused_order (line ∷ lines) more pokes other refusal [] order = absurd order
refused_order (line ∷ lines) more pokes other refusal (Touch l (Ok u) ∷ calls) order = (order.0, refused_order lines more pokes other refusal calls order.1)
refused_order (line ∷ lines) more pokes other refusal (Touch l (Err given) ∷ calls) order = (order.0, order.1, order.2)
refused_order (line ∷ lines) more pokes other refusal (Poke at byte ∷ calls) order = absurd order

-- a touch that was refused ends what is made, whatever was to come
pub made_stop : {P : Type 0} (t : P → ℕ → Answer → P → Type 0) (p : P → ℕ → ℕ → P → Type 0) (a b : P) (lines more : List ℕ) (pokes other : List (ℕ × ℕ)) (refusal : NoSpace)
    → MadeInOrder t p a lines pokes (Some refusal) b → MadeInOrder t p a (lines ++ more) other (Some refusal) b
made_stop t p a b lines more pokes other refusal made = record { calls = made.calls; order = refused_order lines more pokes other refusal made.calls made.order; made = made.made }
