use Rattle.std.proofs.Common.{rules, ◌≡◌, ◌≢◌, ◌<◌, ◌∙◌, ℕ, suc, ap, sym, subst, refl, arith}
use Rattle.hier_types.specs.Causes.{raised}
use Rattle.page_mover.specs.declared.turning.Turn.TheVariants.{Next}
use Rattle.page_plan.specs.declared.least.PagePlan.{PagePlan}
use Rattle.page_store.specs.PageBlocks.{IsAtPlan}
use Rattle.page_store.specs.Store.{Store, desc_at, store_in}
use Rattle.page_store.specs.Turns.{far_at, tidied_more}
use Rattle.page_store.proofs.TidyLemmas.{counted_keeps, keeps_then, made_of, next_of, plan_kept, same_keeps, stays_of, turns_more, turns_none}
use Rattle.page_store.proofs.pages.Pages.tidy_page.Goals as goal
use Rattle.page_store.proofs.pages.Pages.tidy_page.Goals.{After-saturating_add-self-inside}

pub loop-self-init : goal.loop-self-init
loop-self-init c = record { turns = (0, turns_none c.args.self.now c.args.page); keeps = same_keeps c.args.self.now }

pub turn-requires : goal.turn-requires
turn-requires c = omega (arith, c.requires, c.loop-self.invariant.keeps.pages_stay)

pub loop-self-smaller : goal.loop-self-smaller
loop-self-smaller c =
    let off : c.turn.result ≢ Next = search rules in
    subst (λ (x : Store). far_at x c.args.page < far_at c.loop-self.self c.args.page) (sym c.self.view_is) (c.turn.ensures.falls off)

-- one turn more was counted
abbrev inside : After-saturating_add-self-inside → Store
inside c = store_in c.self.inside.codec c.self.inside.memory.items c.self.inside.blocks.descriptors c.self.inside.blocks.used c.self.inside.meta c.self.inside.counts c.self.inside.stops c.self.inside.cursor

counted : (c : After-saturating_add-self-inside) → record (inside c) { counts = record c.self.inside.counts { tidy_turns = c.saturating_add-self-inside.result } } ≡ record c.turn.new.self { counts = tidied_more c.turn.new.self.counts }
counted c =
    let more : c.saturating_add-self-inside.result ≡ raised c.self.inside.counts.tidy_turns = search rules in
    ap (λ (n : ℕ). record (inside c) { counts = record c.self.inside.counts { tidy_turns = n } }) more ∙ ap (λ (x : Store). record x { counts = tidied_more x.counts }) c.self.view_is

pub loop-self-preserved : goal.loop-self-preserved
loop-self-preserved c' =
    let c = (goal.at.loop-self-preserved c').After-saturating_add-self-inside in
    let s = c.args.self.now in
    let m = c.loop-self.self in
    let after : Store = record c.turn.new.self { counts = tidied_more c.turn.new.self.counts } in
    let off : c.turn.result ≢ Next = search rules in
    let count = c.loop-self.invariant.turns.0 in
    rw (counted c) (record {
      turns = (
        suc count,
        turns_more s c.args.page count m after c.loop-self.invariant.turns.1
            (record { turn = c.turn.result; off = off; mid = c.turn.new.self; makes = made_of m c.args.page c.turn.result c.turn.new.self off c.turn.ensures.turns; is = refl }),
      );
      keeps = keeps_then s c.turn.new.self after (keeps_then s m c.turn.new.self c.loop-self.invariant.keeps c.turn.ensures.keeps) (counted_keeps c.turn.new.self);
    })

pub returns-clause-brings : goal.returns-clause-brings
returns-clause-brings c =
    let s = c.args.self.now in
    let m = c.loop-self.self in
    let page = c.args.page in
    let next : c.turn.result ≡ Next = search rules in
    let stays : c.turn.new.self ≡ m = stays_of m page c.turn.result c.turn.new.self next c.turn.ensures.turns in
    let at = subst (λ (p : PagePlan). IsAtPlan p (desc_at m.descriptors page)) (plan_kept s m page c.loop-self.invariant.keeps) (c.turn.ensures.at_plan.0 next) in
    rw stays (record {
      count = c.loop-self.invariant.turns.0;
      turns = c.loop-self.invariant.turns.1;
      settled = next_of m page c.turn.result c.turn.new.self next c.turn.ensures.turns;
      at_plan = at;
    })

pub returns-clause-keeps : goal.returns-clause-keeps
returns-clause-keeps c = keeps_then c.args.self.now c.loop-self.self c.turn.new.self c.loop-self.invariant.keeps c.turn.ensures.keeps
