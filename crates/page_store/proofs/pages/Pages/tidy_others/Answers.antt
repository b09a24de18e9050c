use Rattle.std.proofs.Common.{◌≡◌, ℕ, length, subst, arith}
use Rattle.page_store.specs.Lays.{TidiedUpTo}
use Rattle.page_store.proofs.TidyLemmas.{at_plan_page, keeps_then, same_keeps, tidied_but, tidied_none, tidied_page}
use Rattle.page_store.proofs.pages.Pages.tidy_others.Goals as goal
use Rattle.page_store.proofs.pages.Pages.tidy_others.Goals.{then-page-but, else-page-but}

pub loop-page-init : goal.loop-page-init
loop-page-init c = record { tidied = tidied_none c.args.self.now c.args.but; keeps = same_keeps c.args.self.now; at_plan = λ q lt. absurd (omega arith) }

pub tidy_page-requires : goal.tidy_page-requires
tidy_page-requires c =
    let counted : length c.self.inside.sizes.items ≡ length c.self.inside.blocks.descriptors = c.self.invariant.kept.counted in
    let pages : length c.loop-page.self.descriptors ≡ length c.self.inside.blocks.descriptors = rw (← c.self.view_is) at c.loop-page.invariant.keeps.pages_stay in
    omega (arith, counted, pages, c.loop-page-test.true, c.len-page-end.ensures)

pub loop-page-preserved : goal.loop-page-preserved
loop-page-preserved c =
    let s = c.args.self.now in
    let m = c.loop-page.self in
    elim c.if-page-but.branch [
      | then-page-but w ↦ rw w.self-is (record {
        tidied = tidied_page s c.args.but c.loop-page.page m w.tidy_page.new.self (omega (arith, w.if-page-but.true)) c.loop-page.invariant.tidied w.tidy_page.ensures.brings;
        keeps = keeps_then s m w.tidy_page.new.self c.loop-page.invariant.keeps w.tidy_page.ensures.keeps;
        at_plan = at_plan_page s c.args.but c.loop-page.page m w.tidy_page.new.self c.loop-page.invariant.keeps c.loop-page.invariant.at_plan w.tidy_page.ensures.brings;
      })
      | else-page-but w ↦ rw w.self-is (record {
        tidied = tidied_but s c.args.but c.loop-page.page m (omega (arith, w.if-page-but.false)) c.loop-page.invariant.tidied;
        keeps = c.loop-page.invariant.keeps;
        at_plan = λ q lt ne. c.loop-page.invariant.at_plan q (omega (arith, w.if-page-but.false)) ne;
      })
    ]

pub returns-clause-tidied : goal.returns-clause-tidied
returns-clause-tidied c =
    let counted : length c.self.inside.sizes.items ≡ length c.self.inside.blocks.descriptors = c.self.invariant.kept.counted in
    let all : c.loop-page.page ≡ length c.args.self.now.descriptors = rw (← c.self.view_is) (omega (arith, counted, c.loop-page-test.false, c.loop-page.auto.page-end, c.len-page-end.ensures)) in
    subst (λ (n : ℕ). TidiedUpTo c.args.self.now c.args.but n c.loop-page.self) all c.loop-page.invariant.tidied

pub returns-clause-at_plan : goal.returns-clause-at_plan
returns-clause-at_plan c =
    let counted : length c.self.inside.sizes.items ≡ length c.self.inside.blocks.descriptors = c.self.invariant.kept.counted in
    let all : c.loop-page.page ≡ length c.args.self.now.descriptors = rw (← c.self.view_is) (omega (arith, counted, c.loop-page-test.false, c.loop-page.auto.page-end, c.len-page-end.ensures)) in
    λ q lt ne. c.loop-page.invariant.at_plan q (omega (arith, all)) ne
