use Rattle.std.proofs.Common.{rules, ℕ, ◌≡◌, ◌≤◌, ◌*◌, ◌∙◌, length, replicate, sym, ap, arith}
use Rattle.std.proofs.lemmas.List.{length-replicate}
use Rattle.hier_types.specs.Lines.{zero_line}
use Rattle.hier_types.specs.Tabulate.{tabulate}
use Rattle.page_plan.specs.KeptSizes.{kept_sizes}
use Rattle.page_store.specs.PageBlocks.{AreSound}
use Rattle.page_slots.specs.declared.desc.Desc.TheVariants as descs
use Rattle.page_store.proofs.FreshLemmas.{fresh_seen, kept_fresh}
use Rattle.page_store.proofs.LedgerLemmas.{totals_fresh, zeros_row}
use Rattle.page_store.proofs.StrayLemmas.{strays_fresh}
use Rattle.page_store.proofs.TotalLemmas.{no_totals, totals_next}
use Rattle.size_ledger.specs.Shares.{plus, share, totals_of}
use Rattle.page_store.proofs.pages.Pages.new.Goals as goal

pub loop-page-init : goal.loop-page-init
loop-page-init c = record { so_far = c.new-ledger.ensures ∙ sym (no_totals (λ q. zeros_row)); most = search rules }

pub loop-page-preserved : goal.loop-page-preserved
loop-page-preserved c = record {
  so_far = c.add_page.ensures.added ∙ ap (λ l. plus l (share zeros_row)) c.loop-page.invariant.so_far ∙ sym (totals_next (λ q. zeros_row) c.loop-page.page);
  most = c.add_page.ensures.within;
}

pub invariant_of-result : goal.invariant_of-result
invariant_of-result c =
    let memory : c.in_ok-memory.memory.items ≡ replicate {A = ℕ} (4096 * c.args.frames) 0 = search rules in
    let pages = c.geometry.inside.pages in
    let all : c.loop-page.page ≡ pages = omega (arith, c.loop-page-test.false, c.loop-page.auto.page-end) in
    let some : 1 ≤ pages = rw (← c.geometry.view_is) at c.requires.some_pages in
    let most : pages ≤ 65536 = rw (← c.geometry.view_is) at c.requires.most_pages in
    let sizes : c.of_zeros.result ≡ kept_sizes c.args.codec (replicate 64 zero_line) = c.of_zeros.ensures.zeros c.args.codec in
    let sound : AreSound (replicate pages descs.Zero) (replicate c.args.frames 0) = rw c.in_ok-blocks.ensures.fresh at c.in_ok-blocks.ensures.sound in
    let long : length (replicate (4096 * c.args.frames) 0) ≡ 4096 * length (replicate c.args.frames 0) = length-replicate (4096 * c.args.frames) 0 ∙ ap (λ n. 4096 * n) (sym (length-replicate c.args.frames 0)) in
    rw (memory, c.in_ok-blocks.ensures.fresh, c.in_ok-sizes.ensures, c.in_ok-meta.ensures, sizes)
    (record {
      kept = kept_fresh c.args.codec (replicate (4096 * c.args.frames) 0) pages (replicate c.args.frames 0) c.args.meta c.default.result some most sound long;
      strays_are = strays_fresh c.args.codec (replicate (4096 * c.args.frames) 0) pages (replicate c.args.frames 0) c.args.meta c.default.result _;
      totals_are = c.loop-page.invariant.so_far ∙ ap (λ n. totals_of (tabulate (λ q. zeros_row) n)) all ∙ totals_fresh c.args.codec _ pages;
    })

pub returns : goal.returns
returns c =
    let memory : c.in_ok-memory.memory.items ≡ replicate {A = ℕ} (4096 * c.args.frames) 0 = search rules in
    let counts : c.default.result ≡ record { reads = 0; writes = 0; meta_hits = 0; meta_misses = 0; mover_turns = 0; tidy_turns = 0 } = grind arith in
    rw (← c.geometry.view_is, memory, c.in_ok-blocks.ensures.fresh, c.in_ok-meta.ensures, counts)
    (fresh_seen c.args.codec (replicate (4096 * c.args.frames) 0) c.geometry.inside.pages (replicate c.args.frames 0) c.args.meta _)
