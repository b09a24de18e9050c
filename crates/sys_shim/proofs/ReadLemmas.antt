-- The touch and the pokes of a read.
use Rattle.std.proofs.Common.{◌≡◌, ◌+◌, ◌≤◌, ℕ, List, length, take, drop, get_or}
use Rattle.hier_types.specs.PortCalls.{PortMade, poke_calls}
use Rattle.hier_types.specs.Calls.{Answer}
use Rattle.rv_core.specs.Hart.{put}
use Rattle.rv_core.specs.Touched.{addressed}
use Rattle.sys_shim.proofs.CopyLemmas.{part-put}

-- the bytes that stand in the memory after a read are those that were poked
pub filled_pokes : {P : Type 0} (did_touch : P → ℕ → Answer → P → Type 0) (did_poke : P → ℕ → ℕ → P → Type 0) (a b : P) (at place : ℕ) (old new x got : List ℕ)
    → PortMade did_touch did_poke a (poke_calls (addressed at got)) b → place + length got ≤ length old → new ≡ put old place got → get_or x 10 0 ≡ length got
    → PortMade did_touch did_poke a (poke_calls (addressed at (take (get_or x 10 0) (drop place new)))) b
filled_pokes t p a b at place old new x got poked fits is register =
    let bytes : take (get_or x 10 0) (drop place new) ≡ got = rw (register, is) (part-put old got place fits) in
    rw bytes poked
