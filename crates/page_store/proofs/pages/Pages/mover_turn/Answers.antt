use Rattle.std.proofs.Common.{rules, ◌≡◌, ◌≢◌, ◌∙◌, ℕ, ap, sym, subst, refl}
use Rattle.hier_types.specs.Causes.{raised}
use Rattle.page_mover.specs.declared.turning.Turn.{Turn}
use Rattle.page_mover.specs.declared.turning.Turn.TheVariants.{Next, Zero, Rewrite, Down, Up, Hoist, Halve}
use Rattle.page_store.specs.Store.{Store, store_in}
use Rattle.page_store.specs.Turns.{TurnsPage, cursor_after, moved_more}
use Rattle.page_store.proofs.TidyLemmas.{stays_of}
use Rattle.page_store.proofs.pages.Pages.mover_turn.Goals as goal
use Rattle.page_store.proofs.pages.Pages.mover_turn.Goals.{then-eq, else-eq}

-- the mover stays where a turn was made
cursor_off : (turn : Turn) (s : Store) → turn ≢ Next → cursor_after turn s ≡ s.cursor
cursor_off Next s off = absurd (off refl)
cursor_off Zero s off = refl
cursor_off (Rewrite order target) s off = refl
cursor_off (Down small) s off = refl
cursor_off (Up large) s off = refl
cursor_off (Hoist low high above) s off = refl
cursor_off Halve s off = refl

pub returns-clause-turns : goal.returns-clause-turns
returns-clause-turns c =
    let s = c.args.self.now in
    let turn = c.turn-turn.result in
    let mid = c.turn-turn.new.self in
    let turns : TurnsPage s s.cursor turn mid = subst (λ (n : ℕ). TurnsPage s n turn mid) (ap (λ (x : Store). x.cursor) c.turn.view_is) c.turn-turn.ensures.turns in
    let p = c.self.inside in
    let inside : Store = store_in p.codec p.memory.items p.blocks.descriptors p.blocks.used p.meta p.counts p.stops p.cursor in
    let more : c.saturating_add-self-inside.result ≡ raised p.counts.mover_turns = search rules in
    let counted : record inside { counts = record p.counts { mover_turns = c.saturating_add-self-inside.result } } ≡ record inside { counts = moved_more p.counts } =
    ap (λ (n : ℕ). record inside { counts = record p.counts { mover_turns = n } }) more in
    let rest = counted ∙ ap (λ (x : Store). record x { counts = moved_more x.counts }) c.self.view_is in
    let goes : c.if-eq.self ≡ record mid { cursor = cursor_after turn s } = elim c.if-eq.branch [
      | then-eq w ↦
          let next : turn ≡ Next = search rules in
          w.self-is ∙ w.move_on.ensures ∙ ap (λ (x : Store). record mid { cursor = cursor_after Next x }) (stays_of s s.cursor turn mid next turns)
          ∙ ap (λ (t : Turn). record mid { cursor = cursor_after t s }) (sym next)
      | else-eq w ↦
          let off : turn ≢ Next = search rules in
          w.self-is ∙ ap (λ (n : ℕ). record mid { cursor = n }) (c.turn-turn.ensures.keeps.cursor_is ∙ sym (cursor_off turn s off))
    ] in
    record { turn = turn; kind_is = c.kind.ensures; mid = mid; turns = turns; is = rest ∙ ap (λ (x : Store). record x { counts = moved_more x.counts }) goes }
