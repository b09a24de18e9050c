use Rattle.std.proofs.Common.{rules, true, ◌≡◌, ◌∙◌, List, ℕ, sym, ap, subst, inl, inr, refl}
use Rattle.std.specs.Prelude.{is_ok}
use Rattle.hier_types.specs.declared.faults.NoSpace.{NoSpace}
use Rattle.hier_types.specs.declared.settings.Codec.{Codec}
use Rattle.page_plan.specs.declared.least.PagePlan.{PagePlan}
use Rattle.page_plan.specs.PagePlan.{plan_of}
use Rattle.page_plan.specs.Pages.{page_of}
use Rattle.page_store.specs.Lays.{KeepsLines, Lays, OthersAreAtPlan, TidiesOthers}
use Rattle.page_store.specs.PageBlocks.{HasRoom, LacksRoom}
use Rattle.page_store.specs.Rooms.{with_change}
use Rattle.std.proofs.lemmas.Option.{same_Some}
use Rattle.hier_types.specs.Causes.{raised}
use Rattle.page_store.specs.Store.{IsSound, Store}
use Rattle.page_store.proofs.TidyLemmas.{err_of, on_err_of, on_ok_of, outline_of, refused_of, same_keeps}
use Rattle.page_store.proofs.pages.Pages.rewrite.Goals as goal
use Rattle.page_store.proofs.pages.Pages.rewrite.Goals.{After-tidy_others}

pub returns-then-is_ok : goal.returns-then-is_ok
returns-then-is_ok c =
    let s = c.args.self.now in
    let page = c.args.page.0 in
    let ok : is_ok c.lay.result ≡ true = search rules in
    let lays = on_ok_of c.lay.result _ ok c.lay.ensures.ok in
    let room = on_ok_of c.lay.result _ ok c.lay.ensures.room in
    record {
      outline = outline_of s s page (with_change s.lines page c.args.change.now) c.lay.new.self (same_keeps s) lays c.lay.ensures.frames;
      goes = record { mid = s; way = inl (room, refl); room = room; lays = lays };
    }

-- the others were tidied from the start on
unchanged : (c : After-tidy_others) → c.lay.new.self ≡ c.args.self.now
unchanged c = on_err_of c.lay.result _ (search rules) c.lay.ensures.unchanged

keeps : (c : After-tidy_others) → KeepsLines c.args.self.now c.tidy_others.new.self
keeps c = subst (λ (s : Store). KeepsLines s c.tidy_others.new.self) (unchanged c) c.tidy_others.ensures.keeps

tidied : (c : After-tidy_others) → TidiesOthers c.args.self.now c.args.page.0 c.tidy_others.new.self
tidied c = subst (λ (s : Store). TidiesOthers s c.args.page.0 c.tidy_others.new.self) (unchanged c) c.tidy_others.ensures.tidied

others : (c : After-tidy_others) → OthersAreAtPlan c.args.self.now c.args.page.0 c.tidy_others.new.self
others c = subst (λ (s : Store). OthersAreAtPlan s c.args.page.0 c.tidy_others.new.self) (unchanged c) c.tidy_others.ensures.at_plan

-- the plan for which both requests are made, and the lines
lines_same : (c : After-tidy_others) → with_change c.tidy_others.new.self.lines c.args.page.0 c.args.change.now ≡ with_change c.args.self.now.lines c.args.page.0 c.args.change.now
lines_same c = ap (λ (ls : List (List ℕ)). with_change ls c.args.page.0 c.args.change.now) (keeps c).lines_are

plan_same : (c : After-tidy_others) → plan_of c.tidy_others.new.self.codec (page_of (with_change c.tidy_others.new.self.lines c.args.page.0 c.args.change.now) c.args.page.0)
    ≡ plan_of c.args.self.now.codec (page_of (with_change c.args.self.now.lines c.args.page.0 c.args.change.now) c.args.page.0)
plan_same c =
    ap (λ (k : Codec). plan_of k (page_of (with_change c.tidy_others.new.self.lines c.args.page.0 c.args.change.now) c.args.page.0)) (keeps c).codec_is
    ∙ ap (λ (ls : List (List ℕ)). plan_of c.args.self.now.codec (page_of ls c.args.page.0)) (lines_same c)

-- the first request was refused
first : (c : After-tidy_others) → (order : ℕ) × LacksRoom c.args.self.now.descriptors c.args.self.now.used c.args.page.0
    (plan_of c.args.self.now.codec (page_of (with_change c.args.self.now.lines c.args.page.0 c.args.change.now) c.args.page.0)) order
first c = err_of c.lay.result _ (search rules) c.lay.ensures.err

pub returns-in-Ok : goal.returns-in-Ok
returns-in-Ok c' =
    let c = (goal.at.returns-in-Ok c').After-tidy_others in
    let s = c.args.self.now in
    let mid = c.tidy_others.new.self in
    let page = c.args.page.0 in
    let room = subst (HasRoom mid.descriptors mid.used page) (plan_same c) c'.in-Ok.ensures.room in
    let lays = subst (λ (ls : List (List ℕ)). Lays mid page ls c'.lay-2.new.self) (lines_same c) c'.in-Ok.ensures.ok in
    let refused = first c in
    record {
      outline = outline_of s mid page (with_change s.lines page c.args.change.now) c'.lay-2.new.self (keeps c) lays c'.lay-2.ensures.frames;
      goes = record { mid = mid; way = inr (refused.0, (refused.1, tidied c)); room = room; lays = lays };
    }

pub returns-in-Err : goal.returns-in-Err
returns-in-Err c' =
    let c = (goal.at.returns-in-Err c').After-tidy_others in
    let s = c.args.self.now in
    let mid = c.tidy_others.new.self in
    let page = c.args.page.0 in
    let refused = first c in
    let again = subst (λ (p : PagePlan). LacksRoom mid.descriptors mid.used page p c'.in-Err.order) (plan_same c) c'.in-Err.ensures.err in
    let same : refused.0 ≡ c'.in-Err.order = same_Some refused.0 c'.in-Err.order (sym refused.1.order_is ∙ again.order_is) in
    let same_state : c'.lay-2.new.self ≡ mid = c'.in-Err.ensures.unchanged in
    let sound : IsSound mid = subst IsSound same_state c'.refuse.ensures.sound in
    let counted = c'.refuse.ensures.counted ∙ ap (λ (x : Store). record x { stops = raised x.stops }) same_state in
    refused_of s mid page (with_change s.lines page c.args.change.now) c'.in-Err.order c'.refuse.result c'.refuse.new.self c'.requires.page_in sound (keeps c)
    (others c) (tidied c)
    (subst (LacksRoom s.descriptors s.used page (plan_of s.codec (page_of (with_change s.lines page c.args.change.now) page))) same refused.1) again
    (ap (λ (n : NoSpace). n.page.0) c'.refuse.ensures.refusal) (ap (λ (n : NoSpace). n.order) c'.refuse.ensures.refusal) counted
