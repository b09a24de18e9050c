use Rattle.std.proofs.Common.{◌≡◌, ◌∙◌, ap, refl, subst, sym}
use Rattle.page_plan.specs.Sizes.{sizes_of_memory}
use Rattle.page_plan.proofs.TotalLemmas.{blocks_of_memory}
use Rattle.page_store.specs.Store.{AreAtPlan, Store}
use Rattle.hier_machine.specs.Memory.{store_of}
use Rattle.hier_machine.proofs.SettleLemmas.{settled_done}
use Rattle.hier_machine.proofs.machine.Machine.report.Goals as goal

pub returns-in-Ok-clause-reports : goal.returns-in-Ok-clause-reports
returns-in-Ok-clause-reports c =
    let store : Store = store_of c.settle.new.self.memory in
    let planned : AreAtPlan (store_of c.settle.new.self.memory) = rw c.in-Ok.is at c.settle.ensures.at_plan in
    let totals : c.totals.result ≡ sizes_of_memory store.codec store.lines =
    c.totals.ensures.at_plan (subst AreAtPlan (sym c.pages.ensures) planned) ∙ ap (λ (s : Store). sizes_of_memory s.codec s.lines) c.pages.ensures in
    record {
      sound = c.counts-counts.ensures.sound;
      answer = c.settle.result;
      settles = c.settle.ensures.settles;
      lists = c.settle.ensures.lists;
      settled = settled_done c.args.self.now c.settle.new.self c.settle.result c.totals.result c.settle.ensures.settles c.in-Ok.is totals;
      end_is = refl;
      retired = c.retired-retired.ensures;
      counts = c.counts-counts.ensures.counts;
    }

pub returns-in-Ok-clause-blocks : goal.returns-in-Ok-clause-blocks
returns-in-Ok-clause-blocks c =
    let store : Store = c.pages.result.now in
    let same = blocks_of_memory store.codec store.lines in
    let planned : AreAtPlan (store_of c.settle.new.self.memory) = rw c.in-Ok.is at c.settle.ensures.at_plan in
    let totals : c.totals.result ≡ sizes_of_memory store.codec store.lines = c.totals.ensures.at_plan (subst AreAtPlan (sym c.pages.ensures) planned) in
    cc
