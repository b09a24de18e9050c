use Rattle.std.proofs.Common.{◌≡◌, ◌∙◌, ◌≤◌, ◌<◌, length, Some, Err, sym, ap, subst, arith}
use Rattle.elf_image.specs.Image.{page_of}
use Rattle.page_plan.specs.PagePlan.{plan_of}
use Rattle.page_plan.specs.Pages.{lines_of_page}
use Rattle.page_plan.specs.Sizes.{order_of}
use Rattle.page_store.specs.Calls.{PlacesPage}
use Rattle.page_store.specs.Crowds.{Tight}
use Rattle.page_store.specs.Store.{Sizing, sizing_of}
use Rattle.hier_machine.specs.Lines.{lines_before}
use Rattle.hier_machine.specs.Placed.{NoRoomFor, PlacedUpTo}
use Rattle.hier_machine.proofs.PlacedLemmas.{placed_facts, placed_lines, refused_order}
use Rattle.hier_machine.proofs.opening.place_image.Goals as goal

pub place_page-requires : goal.place_page-requires
place_page-requires c =
    let image = c.args.image.now in
    let n = c.loop-number.number in
    let within : n ≤ image.span.pages = omega (arith, c.requires.same, c.loop-number-test.true) in
    let inside : n < image.span.pages = omega (arith, c.requires.same, c.loop-number-test.true) in
    (placed_facts image (sizing_of c.args.store.now) n c.loop-number.store within c.loop-number.invariant.placed).zeros n (omega arith) inside

pub returns-in-Err : goal.returns-in-Err
returns-in-Err c =
    let image = c.args.image.now in
    let sizing = sizing_of c.args.store.now in
    let n = c.loop-number.number in
    let mid = c.loop-number.store in
    let after = c.place_page.new.store in
    let refusal = c.in-Err.refusal in
    let inside : n < image.span.pages = omega (arith, c.requires.same, c.loop-number-test.true) in
    let within : n ≤ image.span.pages = omega arith in
    let facts = placed_facts image sizing n mid within c.loop-number.invariant.placed in
    let refused : PlacesPage mid n (page_of image.span image.file n) (Err refusal) after = subst (λ bytes. PlacesPage mid n bytes (Err refusal) after) c.page.ensures c.in-Err.ensures.err in
    let page = sym refused.cause.page_is in
    let order = refused_order image sizing n mid refusal inside facts refused.cause in
    let tight : Tight sizing (lines_before image n) n refusal.order =
    subst (λ (k : Sizing). Tight k (lines_before image n) n refusal.order) facts.sizing_is (subst (λ l. Tight (sizing_of mid) l n refusal.order) facts.lines refused.cause.tight) in
    let found : NoRoomFor image sizing refusal = record {
      mid = mid;
      placed = subst (λ p. PlacedUpTo image sizing p mid) page c.loop-number.invariant.placed;
      after = after;
      refused = subst (λ p. PlacesPage mid p (page_of image.span image.file p) (Err refusal) after) page refused;
      order = subst (λ p. order_of (plan_of sizing.codec (lines_of_page (page_of image.span image.file p))) ≡ Some refusal.order) page order;
      tight = subst (λ p. Tight sizing (lines_before image p) p refusal.order) page tight;
    } in
    record {
      ok = tt;
      err = found;
      size = ap length refused.outline.lines_are ∙ placed_lines image c.args.pages n c.args.store.now mid c.requires within c.loop-number.invariant.placed;
    }

pub returns : goal.returns
returns c =
    let image = c.args.image.now in
    let n = c.loop-number.number in
    let mid = c.loop-number.store in
    let all : n ≡ c.args.pages = omega (arith, c.loop-number-test.false, c.loop-number.auto.number-end) in
    let within : n ≤ image.span.pages = omega (arith, c.requires.same, all) in
    record {
      ok = subst (λ p. PlacedUpTo image (sizing_of c.args.store.now) p mid) all c.loop-number.invariant.placed;
      err = tt;
      size = placed_lines image c.args.pages n c.args.store.now mid c.requires within c.loop-number.invariant.placed;
    }
