use Rattle.std.proofs.Common.{◌≡◌, ◌-◌, ◌∷◌, ℕ, List, MatchOption, length, take, drop, sym, subst, arith}
use Rattle.std.proofs.lemmas.Grind.{common_steps}
use Rattle.line_codec.specs.Slots.{Says}
use Rattle.line_codec.proofs.SlotLemmas.{patterns_say, patterns_meaning, line_in-meaning}
use Rattle.line_codec.proofs.slots.from_slot.Goals as goal

pub returns-in-8-clause-meaning : goal.returns-in-8-clause-meaning
returns-in-8-clause-meaning c =
    let slot = c.args.slot.now in
    let bytes = take (length slot - 1) (drop 1 slot) in
    let whole : slot ≡ 8 ∷ bytes = grind (arith, common_steps) in
    subst (λ (xs : List ℕ). MatchOption c.fpc_decode.result ((line : List ℕ) → ¬ Says xs line) (λ line. Says xs line)) (sym whole)
    (patterns_meaning bytes c.fpc_decode.result c.fpc_decode.ensures.meaning)

pub returns-in-8-clause-only : goal.returns-in-8-clause-only
returns-in-8-clause-only c line says =
    let slot = c.args.slot.now in
    let bytes = take (length slot - 1) (drop 1 slot) in
    let whole : slot ≡ 8 ∷ bytes = grind (arith, common_steps) in
    c.fpc_decode.ensures.only line (patterns_say bytes line (subst (λ (xs : List ℕ). Says xs line) whole says))

pub returns-in-8-clause-value : goal.returns-in-8-clause-value
returns-in-8-clause-value c = line_in-meaning c.args.slot.now c.fpc_decode.result (returns-in-8-clause-meaning c)

pub returns-in-0-to-7-clause-meaning : goal.returns-in-0-to-7-clause-meaning
unfolding Says
returns-in-0-to-7-clause-meaning c = grind (arith, common_steps)

pub returns-in-0-to-7-clause-value : goal.returns-in-0-to-7-clause-value
returns-in-0-to-7-clause-value c = line_in-meaning c.args.slot.now c.bdi_from_slot.result (returns-in-0-to-7-clause-meaning c)
