use Rattle.std.proofs.Common.{◌≡◌, ◌≤◌, ◌<◌, ℕ, length, [], get_or, inl, inr, subst, ap, sym, ◌∙◌, arith}
use Rattle.std.proofs.Math.ListN.{length-set}
use Rattle.std.proofs.lemmas.Bool.{cases_lt}
use Rattle.std.proofs.lemmas.List.{take_all}
use Rattle.std.proofs.lemmas.List.Elements.{All-from_get_or}
use Rattle.page_plan.specs.KeptSizes.{kept_size, kept_sizes}
use Rattle.page_plan.proofs.ListLemmas.{take-set-map}
use Rattle.page_plan.proofs.page_sizes.PageSizes.of.Goals as goal

pub loop-index-preserved : goal.loop-index-preserved
loop-index-preserved c =
    let kept = c.loop-index.invariant in
    let i = c.loop-index.index in
    let page = c.args.page.now in
    let in_page : i < length page = omega arith in
    let in_sizes : i < length c.loop-index.sizes = omega (arith, kept.whole) in
    record {
      whole = simp length-set kept.whole;
      so_far = take-set-map (kept_size c.args.codec) page c.loop-index.sizes i [] c.byte_of.result in_page in_sizes kept.so_far c.byte_of.ensures.value;
      lines = λ k lt. elim (cases_lt k i) [
        | inl before ↦ kept.lines k before
        | inr past ↦
            let last : i ≡ k = omega arith in
            subst (λ (n : ℕ). length (get_or page n []) ≡ 64) last c.byte_of.ensures.whole
      ];
    }

pub returns-clause-value : goal.returns-clause-value
returns-clause-value c =
    let kept = c.loop-index.invariant in
    let in_page : length c.args.page.now ≤ c.loop-index.index = omega arith in
    let in_sizes : length c.loop-index.sizes ≤ c.loop-index.index = omega (arith, kept.whole) in
    sym (take_all c.loop-index.index c.loop-index.sizes in_sizes) ∙ kept.so_far
    ∙ ap (λ lines. kept_sizes c.args.codec lines) (take_all c.loop-index.index c.args.page.now in_page)

pub returns-clause-lines : goal.returns-clause-lines
returns-clause-lines c =
    All-from_get_or (λ line. length line ≡ 64) c.args.page.now [] (λ k lt. c.loop-index.invariant.lines k (omega arith))
