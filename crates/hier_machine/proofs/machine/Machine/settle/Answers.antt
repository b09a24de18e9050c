use Rattle.std.proofs.Common.{rules, ◌≡◌, ◌≤◌, ◌∙◌, List, ℕ, Err, Ok, refl, ap, subst, arith}
use Rattle.hier_types.specs.Lines.{flatten}
use Rattle.hier_types.specs.Calls.{Answer}
use Rattle.l2_cache.specs.SecondCalls.{SecondFlushes}
use Rattle.page_store.specs.Calls.{StoreRead, StoreWrite, Tidies}
use Rattle.rv_guest.specs.State.{state_of}
use Rattle.hier_machine.specs.Memory.{guest_lines, store_of}
use Rattle.hier_machine.specs.Settles.{SettlesMachine, SettlesSecond, TidiesStore}
use Rattle.hier_machine.specs.State.{MachineState}
use Rattle.hier_machine.specs.contracts.machine.Machine.{the_view}
use Rattle.hier_machine.proofs.SettleLemmas.{lists_settle, tidied_lines}
use Rattle.hier_machine.proofs.machine.Machine.settle.Goals as goal

pub returns-in-Err-clause-lists : goal.returns-in-Err-clause-lists
returns-in-Err-clause-lists c =
    let old = the_view c.self.inside in
    let new = the_view (record c.self.inside { memory = c.flush.new.self }) in
    let settles : SettlesMachine old (Err c.in-Err.refusal) new = search rules in
    rw (← c.self.view_is) (lists_settle old new (Err c.in-Err.refusal) settles refl)

pub returns-in-Err-answer-clause-lists : goal.returns-in-Err-answer-clause-lists
returns-in-Err-answer-clause-lists c =
    let old = the_view c.self.inside in
    let new = the_view (record c.self.inside { memory = c.below_do.new.self }) in
    let settles : SettlesMachine old (Err c.in-Err-answer.refusal) new = search rules in
    rw (← c.self.view_is) (lists_settle old new (Err c.in-Err-answer.refusal) settles refl)

settles : (c : goal.After-below_do-2) → SettlesMachine (the_view c.self.inside) (Ok tt) (the_view (record c.self.inside { memory = c.below_do-2.new.self }))
settles c =
    let in_self = c.self.inside in
    let mid = c.below_do.new.self in
    let new = c.below_do-2.new.self in
    let tidied : TidiesStore Tidies mid new = record { tidies = c.below_do-2.ensures.did.0; rest = search rules } in
    let flushed : guest_lines mid ≡ guest_lines in_self.memory = search rules in
    let has_all : (store_of mid).lines ≡ guest_lines in_self.memory = search rules in
    let lines : guest_lines new ≡ guest_lines in_self.memory = tidied_lines mid new tidied ∙ flushed in
    let at : List (List ℕ) → MachineState = λ l. record {
      memory = new;
      guest = state_of in_self.guest (flatten l);
      budget = in_self.budget;
      beats = in_self.beats;
      cleaner_turns = in_self.cleaner_turns;
      ended = in_self.ended;
    } in
    let answered : c.below_do.new.errand.answer ≡ Ok tt = c.in_default-answer.is in
    let second : SettlesSecond StoreRead StoreWrite c.flush.new.self (Ok tt) mid = record {
      flushes = subst (λ (a : Answer). SecondFlushes StoreRead StoreWrite c.flush.new.self.below a mid.below) answered c.below_do.ensures.did.flushes;
      rest = search rules;
    } in
    let before : (store_of in_self.memory).stops ≤ (store_of c.flush.new.self).stops = c.flush.ensures.cause.later in
    let after : (store_of c.flush.new.self).stops ≤ (store_of mid).stops = c.below_do.ensures.did.cause.later in
    let last : (store_of new).stops ≡ (store_of mid).stops = c.below_do-2.ensures.did.0.stops_stay in
    record {
      levels = record {
        mid = c.flush.new.self;
        first = c.flush.result;
        flushes = search rules;
        flushed = mid;
        goes_on = rw c.in_default.is second;
        tidied = tidied;
        lines = lines;
        settled = tidied.tidies.lines_are ∙ has_all;
      };
      cause = record { later = omega arith; rose = tt; justified = tt };
      rest = ap at lines;
    }

pub returns-clause-settles : goal.returns-clause-settles
returns-clause-settles c = rw (← c.self.view_is) (settles c)

pub returns-clause-lists : goal.returns-clause-lists
returns-clause-lists c =
    rw (← c.self.view_is) (lists_settle (the_view c.self.inside) (the_view (record c.self.inside { memory = c.below_do-2.new.self })) (Ok tt) (settles c) refl)
