-- The lines and pokes of an access that does not trap.
use Rattle.std.proofs.Common.{◌≡◌, ◌+◌, get_or, ℕ, ◌%◌, List, [], ◌∷◌, arith, cond, true, None, Ok, refl, ap}
use Rattle.std.specs.Int.{w32, to_le_bytes}
use Rattle.hier_types.specs.Calls.{Answer}
use Rattle.hier_types.specs.PortCalls.{MadeInOrder, PortMade, poke_calls}
use Rattle.hier_types.specs.Span.{Span, Has, line_at}
use Rattle.hier_types.proofs.PortCallLemmas.{made_pokes, made_touch, made_refused}
use Rattle.rv_decode.specs.Table.{decoded}
use Rattle.rv_core.specs.Effect.{fetched}
use Rattle.rv_core.specs.Hart.{Hart}
use Rattle.rv_core.specs.Touched.{addressed, data_line, data_pokes, fetches, lines_of_word, poked, pokes_of_word, touched}

-- how a list of touches and pokes is put together
pub ruleset made_in_order = (made_pokes, made_touch, made_refused)

pub data_line_at : (span : Span) (width at : ℕ) → at % width ≡ 0 → Has span at → data_line span width at ≡ line_at span at ∷ []
data_line_at span width at aligned inside = grind arith

pub data_pokes_at : (span : Span) (width at : ℕ) (bytes : List ℕ) → at % width ≡ 0 → Has span at → data_pokes span width at bytes ≡ addressed at bytes
data_pokes_at span width at bytes aligned inside = grind arith

is_fetched : (span : Span) (h : Hart) → h.pc % 4 ≡ 0 → Has span h.pc → fetches span h ≡ true
is_fetched span h aligned inside = grind arith

touched_at : (span : Span) (h : Hart) → h.pc % 4 ≡ 0 → Has span h.pc → touched span h ≡ line_at span h.pc ∷ lines_of_word span (decoded (fetched span h)) h
unfolding touched
touched_at span h aligned inside = ap (λ b. cond b (line_at span h.pc ∷ lines_of_word span (decoded (fetched span h)) h) []) (is_fetched span h aligned inside)

poked_at : (span : Span) (h : Hart) → h.pc % 4 ≡ 0 → Has span h.pc → poked span h ≡ pokes_of_word span (decoded (fetched span h)) h
unfolding poked
poked_at span h aligned inside = ap (λ b. cond b (pokes_of_word span (decoded (fetched span h)) h) []) (is_fetched span h aligned inside)

-- a word that is no instruction: its line is touched, and nothing else
pub made_none : {P : Type 0} (did_touch : P → ℕ → Answer → P → Type 0) (did_poke : P → ℕ → ℕ → P → Type 0) (before after : P) (span : Span) (h : Hart)
    → h.pc % 4 ≡ 0 → Has span h.pc → decoded (fetched span h) ≡ None → did_touch before (line_at span h.pc) (Ok tt) after
    → MadeInOrder did_touch did_poke before (touched span h) (poked span h) None after
made_none t p a b span h aligned inside none did =
    rw (touched_at span h aligned inside, poked_at span h aligned inside, none)
    (made_touch t p a b (line_at span h.pc) [] [] None b did (made_pokes t p b [] b refl))

-- four pokes, one address after another, of the bytes of a word
pub word_poked : {P : Type 0} (did_touch : P → ℕ → Answer → P → Type 0) (did_poke : P → ℕ → ℕ → P → Type 0) (a b c d e : P) (at value : ℕ) (bytes : List ℕ) → bytes ≡ to_le_bytes w32 value
    → did_poke a at (get_or bytes 0 0) b → did_poke b (at + 1) (get_or bytes 1 0) c → did_poke c (at + 2) (get_or bytes 2 0) d → did_poke d (at + 3) (get_or bytes 3 0) e
    → PortMade did_touch did_poke a (poke_calls (addressed at (to_le_bytes w32 value))) e
word_poked t p a b c d e at value bytes same w x y z =
    let two : at + 2 ≡ at + 1 + 1 = omega arith in
    let three : at + 3 ≡ at + 1 + 1 + 1 = omega arith in
    (b, rw same at w, (c, rw same at x, (d, rw (two, same) at y, (e, rw (three, same) at z, refl))))
