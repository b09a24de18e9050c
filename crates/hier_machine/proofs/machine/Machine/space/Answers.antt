use Rattle.std.proofs.Common.{◌≡◌, ◌∙◌, ap, subst}
use Rattle.page_store.specs.Crowds.{Crowded}
use Rattle.page_store.specs.Store.{Store}
use Rattle.run_report.specs.declared.end.End.TheVariants.{Space}
use Rattle.run_report.specs.Texts.{page_address}
use Rattle.hier_machine.specs.Memory.{Below, store_of}
use Rattle.hier_machine.specs.Spaces.{AreFreeCounts, AreNoneFrom}
use Rattle.hier_machine.proofs.machine.Machine.space.Goals as goal

pub returns : goal.returns
returns c =
    let refusal = c.args.refusal in
    let free = c.free_counts-free.result in
    let store : c.below-2.result.now ≡ store_of c.self.inside.memory = c.below-2.ensures ∙ ap (λ (b : Below). b.below) c.below.ensures in
    rw (← c.self.view_is) (record {
      free = free;
      told = c.space.ensures ∙ ap (λ span. Space (page_address span refusal.page.0) refusal.order free) c.span.ensures.span;
      counts = subst (λ (s : Store). AreFreeCounts s.used free) store c.free_counts-free.ensures.counts;
      none_free = subst (λ (s : Store). Crowded s refusal → AreNoneFrom refusal.order free) store (c.free_counts-free.ensures.none_free refusal);
    })
