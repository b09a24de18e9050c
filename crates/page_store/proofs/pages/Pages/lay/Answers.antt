use Rattle.std.specs.Prelude.{IfErr}
use Rattle.std.proofs.Common.{arith, rules, ◌≡◌, ◌<◌, ◌∙◌, List, ℕ, ◌++◌, get_or, length, take, drop, sym, ap, subst}
use Rattle.std.proofs.lemmas.List.{get_or-set_same, length-set}
use Rattle.byte_parts.specs.Parts.{ChangesWithin}
use Rattle.hier_types.specs.Lines.{AreLines}
use Rattle.line_codec.specs.Layout.{stored_sizes}
use Rattle.page_plan.specs.declared.least.PagePlan.{PagePlan}
use Rattle.page_plan.specs.KeptSizes.{kept_sizes}
use Rattle.page_plan.specs.PagePlan.{IsInRange, plan_of}
use Rattle.page_plan.specs.Pages.{page_of}
use Rattle.page_slots.specs.Descs.{content_of, size_of}
use Rattle.page_slots.specs.Laid.{HasRoomFor}
use Rattle.page_slots.specs.Sound.{IsSound as IsSoundPage}
use Rattle.page_store.specs.declared.room.Held.{Held}
use Rattle.page_store.specs.PageBlocks.{ComesToPlan, HasRoom, LacksRoom}
use Rattle.page_store.specs.Rooms.{HasTarget, IsWithin, bytes_of, changed, held_of, with_change}
use Rattle.page_store.specs.Rows.{row_at, row_of_shape}
use Rattle.page_plan.proofs.PageLemmas.{page_of-with}
use Rattle.page_store.specs.Store.{Store, desc_at, store_in}
use Rattle.page_store.proofs.BlockLemmas.{had_room}
use Rattle.page_store.proofs.LedgerLemmas.{ledger_laid, row_is, totals_few, totals_have}
use Rattle.page_store.proofs.PagesLemmas as own
use Rattle.page_store.proofs.StrayLemmas.{strays_laid}
use Rattle.page_store.proofs.TotalLemmas.{has_target}
use Rattle.size_ledger.specs.declared.row.SizeRow.{SizeRow}
use Rattle.size_ledger.specs.Ranges.{AreWithinPages}
use Rattle.size_ledger.specs.Shares.{AreWithin, share}
use Rattle.page_store.proofs.pages.Pages.lay.Goals as goal
use Rattle.page_store.proofs.pages.Pages.lay.Goals.{After-held-new, After-relay}

abbrev seen : After-held-new → Store
seen c = store_in c.self.inside.codec c.self.inside.memory.items c.self.inside.blocks.descriptors c.self.inside.blocks.used c.self.inside.meta c.self.inside.counts c.self.inside.stops c.self.inside.cursor

page_in : (c : After-held-new) → c.args.page < length c.self.inside.blocks.descriptors
page_in c = rw (← c.self.view_is) at c.requires.page_in

abbrev lines : After-held-new → List (List ℕ)
lines c = changed c.args.change.now (page_of (seen c).lines c.args.page)

whole : (c : After-held-new) → length (lines c) ≡ 64
whole c = rw (← c.self.view_is) at c.requires.whole

sized : (c : After-held-new) → c.args.sizes ≡ kept_sizes c.self.inside.codec (lines c)
sized c = rw (← c.self.view_is) at c.requires.sized

planned : (c : After-held-new) → c.plan.result ≡ plan_of c.self.inside.codec (lines c)
planned c =
    let are : AreLines (lines c) = rw (← c.self.view_is) at c.requires.lines in
    c.plan.ensures.value c.self.inside.codec (lines c) are (sym (sized c))

comes : (c : After-held-new) → ComesToPlan c.self.inside.blocks.descriptors c.self.inside.blocks.used c.args.page (plan_of c.self.inside.codec (lines c)) c.settle.new.self.descriptors c.settle.new.self.used
comes c = subst (λ (p : PagePlan). ComesToPlan c.self.inside.blocks.descriptors c.self.inside.blocks.used c.args.page p c.settle.new.self.descriptors c.settle.new.self.used) (planned c) c.in_ok-settle.ensures.ok

range : (c : After-held-new) → IsInRange (plan_of c.self.inside.codec (lines c))
range c = subst IsInRange (planned c) c.plan.ensures.in_range

old_is : (c : After-held-new) → c.held-old.result ≡ held_of (desc_at c.self.inside.blocks.descriptors c.args.page)
old_is c = c.held-old.ensures

new_is : (c : After-held-new) → c.held-new.result ≡ held_of (desc_at c.settle.new.self.descriptors c.args.page)
new_is c = c.held-new.ensures

within : (c : After-held-new) → IsWithin c.self.inside.memory.items c.held-new.result
within c =
    subst (IsWithin c.self.inside.memory.items) (sym (new_is c)) (own.new_within (seen c) c.self.inside.memory.items c.self.inside.sizes.items c.self.invariant.kept c.args.page (page_in c) (lines c) (whole c)
    c.settle.new.self.descriptors c.settle.new.self.used (comes c) c.in_ok-settle.ensures.sound c.in_ok-settle.ensures.frames (range c))

pub relay-requires-clause-old_within : goal.relay-requires-clause-old_within
relay-requires-clause-old_within c' =
    let c = (goal.at.relay-requires-clause-old_within c').After-held-new in
    subst (λ (m : List ℕ). IsWithin m c.held-old.result) (sym c'.deref_mut.ensures.value)
    (subst (IsWithin c.self.inside.memory.items) (sym (old_is c)) (own.own_within (seen c) c.self.inside.memory.items c.self.inside.sizes.items c.self.invariant.kept c.args.page (page_in c)))

pub relay-requires-clause-old_sound : goal.relay-requires-clause-old_sound
relay-requires-clause-old_sound c' =
    let c = (goal.at.relay-requires-clause-old_sound c').After-held-new in
    subst (λ (m : List ℕ). IsSoundPage c.self.inside.codec c.held-old.result.shape (bytes_of m c.held-old.result)) (sym c'.deref_mut.ensures.value)
    (subst (λ (h : Held). IsSoundPage c.self.inside.codec h.shape (bytes_of c.self.inside.memory.items h)) (sym (old_is c))
    (own.own_sound (seen c) c.self.inside.memory.items c.self.inside.sizes.items c.self.invariant.kept c.args.page (page_in c)))

pub relay-requires-clause-within : goal.relay-requires-clause-within
relay-requires-clause-within c' =
    let c = (goal.at.relay-requires-clause-within c').After-held-new in
    subst (λ (m : List ℕ). IsWithin m c.held-new.result) (sym c'.deref_mut.ensures.value) (within c)

-- the lines that the old block says, with what is new
gathered : (c : After-held-new) (m : List ℕ) → m ≡ c.self.inside.memory.items → changed c.args.change.now (content_of c.held-old.result.shape (bytes_of m c.held-old.result)) ≡ lines c
gathered c m is =
    ap (λ (b : List ℕ). changed c.args.change.now (content_of c.held-old.result.shape (bytes_of b c.held-old.result))) is
    ∙ ap (λ (h : Held). changed c.args.change.now (content_of h.shape (bytes_of c.self.inside.memory.items h))) (old_is c)
    ∙ ap (changed c.args.change.now) (sym (own.own_lines (seen c) c.self.inside.memory.items c.self.inside.sizes.items c.self.invariant.kept c.args.page (page_in c)))

pub relay-requires-clause-room : goal.relay-requires-clause-room
relay-requires-clause-room c' =
    let c = (goal.at.relay-requires-clause-room c').After-held-new in
    subst (λ (ls : List (List ℕ)). HasRoomFor c.self.inside.codec c.held-new.result.shape ls (size_of c.held-new.result.shape)) (sym (gathered c c'.deref_mut.result.now c'.deref_mut.ensures.value))
    (subst (λ (h : Held). HasRoomFor c.self.inside.codec h.shape (lines c) (size_of h.shape)) (sym (new_is c))
    (own.new_room (seen c) c.self.inside.memory.items c.self.inside.sizes.items c.self.invariant.kept c.args.page (page_in c) (lines c) (whole c)
    c.settle.new.self.descriptors c.settle.new.self.used (comes c) c.in_ok-settle.ensures.sound c.in_ok-settle.ensures.frames (range c)))

back : (c : After-relay) → take c.self.inside.memory.len (c.relay.new.memory ++ drop (length c.relay.new.memory) c.self.inside.memory.items) ≡ c.relay.new.memory
back c =
    let changes : ChangesWithin _ _ c.deref_mut.result.now c.relay.new.memory = c.relay.ensures.changes in
    own.written_back c.self.inside.memory.len c.self.inside.memory.items c.relay.new.memory (changes.same_length ∙ ap length c.deref_mut.ensures.value)
    (sym (ap length c.deref_mut.ensures.value) ∙ c.deref_mut.ensures.len)

pub note-requires : goal.note-requires
note-requires c' =
    let r = (goal.at.note-requires c').After-relay in
    let c = (goal.at.note-requires c').After-held-new in
    let changes : ChangesWithin _ _ r.deref_mut.result.now r.relay.new.memory = r.relay.ensures.changes in
    let same : length c'.deref.result.now ≡ length c.self.inside.memory.items = ap length (c'.deref.ensures.value ∙ back r) ∙ changes.same_length ∙ ap length r.deref_mut.ensures.value in
    omega (arith, within c, same)

-- what the page took before, by the sizes that were read
row_before : (c : After-held-new) (read : List ℕ) (row : SizeRow) → read ≡ get_or c.self.inside.sizes.items c.args.page read
    → ((lines : List (List ℕ)) → AreLines lines → kept_sizes c.self.inside.codec lines ≡ read → row ≡ row_of_shape c.held-old.result.shape (stored_sizes c.self.inside.codec lines)) → row ≡ row_at (seen c) c.args.page
row_before c read row at value =
    row_is (seen c) c.self.inside.memory.items c.self.inside.sizes.items c.self.invariant.kept c.args.page c.held-old.result.shape read row (page_in c)
    (ap (λ (h : Held). h.shape) (old_is c) ∙ sym (own.own_shape (seen c) c.self.inside.memory.items c.self.inside.sizes.items c.self.invariant.kept c.args.page (page_in c))) at value

pub row_of_shape-before-requires : goal.row_of_shape-before-requires
row_of_shape-before-requires c' =
    let c = (goal.at.row_of_shape-before-requires c').After-held-new in
    subst (λ (h : Held). HasTarget h.shape) (sym (old_is c))
    (has_target c.self.inside.codec _ _ (own.own_sound (seen c) c.self.inside.memory.items c.self.inside.sizes.items c.self.invariant.kept c.args.page (page_in c)))

pub replace_row-requires-clause-within : goal.replace_row-requires-clause-within
replace_row-requires-clause-within c' =
    let c = (goal.at.replace_row-requires-clause-within c').After-held-new in
    let before = row_before c c'.index.result.now c'.row_of_shape-before.result c'.index.ensures c'.row_of_shape-before.ensures in
    subst (λ (row : SizeRow). AreWithin (share row) c.self.inside.ledger) (sym before)
    (subst (AreWithin (share (row_at (seen c) c.args.page))) (sym c.self.invariant.totals_are) (totals_have (seen c) c.args.page (page_in c)))

pub replace_row-requires-clause-most : goal.replace_row-requires-clause-most
replace_row-requires-clause-most c' =
    let c = (goal.at.replace_row-requires-clause-most c').After-held-new in
    subst (AreWithinPages 65536) (sym c.self.invariant.totals_are) (totals_few (seen c) c.self.invariant.kept.sound)

pub invariant_of-self-2 : goal.invariant_of-self-2
invariant_of-self-2 c' =
    let r = (goal.at.invariant_of-self-2 c').After-relay in
    let c = (goal.at.invariant_of-self-2 c').After-held-new in
    let lays = own.lays_by (seen c) c.self.inside.memory.items c.self.inside.sizes.items c.self.invariant.kept c.args.page (page_in c) (lines c) (whole c)
    c.settle.new.self.descriptors c.settle.new.self.used (comes c) c.in_ok-settle.ensures.sound c.in_ok-settle.ensures.frames (range c)
    c.held-new.result (new_is c) r.deref_mut.result.now r.relay.new.memory _ c'.deref.result.now r.deref_mut.ensures.value (back r) c'.deref.ensures.value
    _ (gathered c r.deref_mut.result.now r.deref_mut.ensures.value) r.relay.ensures.changes r.relay.ensures.sound r.relay.ensures.content r.relay.ensures.value c'.note.new.meta c'.note.ensures in
    let kept = own.kept_by (seen c) c.self.inside.memory.items c.self.inside.sizes.items c.self.invariant.kept c.args.page (page_in c) (lines c) (whole c)
    c.settle.new.self.descriptors c.settle.new.self.used (comes c) c.in_ok-settle.ensures.sound c.in_ok-settle.ensures.frames (range c)
    c.held-new.result (new_is c) r.deref_mut.result.now r.relay.new.memory _ c'.deref.result.now r.deref_mut.ensures.value (back r) c'.deref.ensures.value
    _ (gathered c r.deref_mut.result.now r.deref_mut.ensures.value) r.relay.ensures.changes r.relay.ensures.sound r.relay.ensures.content r.relay.ensures.value c'.note.new.meta c'.note.ensures
    c.args.sizes (sized c) in
    let pages : c.args.page < length c.settle.new.self.descriptors = omega (arith, page_in c, ap length lays.comes.descriptors_are, length-set c.self.inside.blocks.descriptors c.args.page lays.comes.desc) in
    let before = row_before c c'.index.result.now c'.row_of_shape-before.result c'.index.ensures c'.row_of_shape-before.ensures in
    let after =
    row_is _ _ _ kept c.args.page c.held-new.result.shape c.args.sizes c'.row_of_shape-after.result pages (ap (λ (h : Held). h.shape) (new_is c) ∙ sym (own.own_shape _ _ _ kept c.args.page pages))
    (sym (get_or-set_same c.self.inside.sizes.items c.args.page c.args.sizes c.args.sizes (omega (arith, page_in c, c.self.invariant.kept.counted)))) c'.row_of_shape-after.ensures in
    record {
      kept = kept;
      strays_are = strays_laid (seen c) _ c.self.inside.strays c'.put.new.self c.args.page (lines c) c.self.invariant.kept.sound (page_in c) (whole c) c.self.invariant.strays_are c'.put.ensures lays;
      totals_are = ledger_laid (seen c) _ c.args.page (lines c) c'.row_of_shape-before.result c'.row_of_shape-after.result c.self.inside.ledger _ c.self.invariant.kept.sound (page_in c) (whole c) lays
          before after c.self.invariant.totals_are c'.replace_row.ensures;
    }

pub returns-clause-ok : goal.returns-clause-ok
returns-clause-ok c' =
    let r = (goal.at.returns-clause-ok c').After-relay in
    let c = (goal.at.returns-clause-ok c').After-held-new in
    rw (← c'.self.view_is) (own.lays_by (seen c) c.self.inside.memory.items c.self.inside.sizes.items c.self.invariant.kept c.args.page (page_in c) (lines c) (whole c)
    c.settle.new.self.descriptors c.settle.new.self.used (comes c) c.in_ok-settle.ensures.sound c.in_ok-settle.ensures.frames (range c)
    c.held-new.result (new_is c) r.deref_mut.result.now r.relay.new.memory _ c'.deref.result.now r.deref_mut.ensures.value (back r) c'.deref.ensures.value
    _ (gathered c r.deref_mut.result.now r.deref_mut.ensures.value) r.relay.ensures.changes r.relay.ensures.sound r.relay.ensures.content r.relay.ensures.value c'.note.new.meta c'.note.ensures)

-- the page among all lines then
here : (c : After-held-new) → page_of (with_change (seen c).lines c.args.page c.args.change.now) c.args.page ≡ lines c
here c = page_of-with (seen c).lines c.args.page (lines c) (omega (arith, page_in c, c.self.invariant.kept.sound.whole)) (whole c)

pub returns-clause-room : goal.returns-clause-room
returns-clause-room c' =
    let c = (goal.at.returns-clause-room c').After-held-new in
    rw (← c'.self.view_is) (subst (λ (ls : List (List ℕ)). HasRoom c.self.inside.blocks.descriptors c.self.inside.blocks.used c.args.page (plan_of c.self.inside.codec ls)) (sym (here c)) (had_room c.self.inside.blocks.descriptors c.self.inside.blocks.used c.args.page (plan_of c.self.inside.codec (lines c)) c.settle.new.self.descriptors c.settle.new.self.used
    (page_in c) c.in_ok-settle.ensures.frames (comes c) c.in_ok-settle.ensures.sound))

pub returns-in_err-settle-clause-err : goal.returns-in_err-settle-clause-err
returns-in_err-settle-clause-err c =
    let p = c.self.inside in
    let s = store_in p.codec p.memory.items p.blocks.descriptors p.blocks.used p.meta p.counts p.stops p.cursor in
    let new = changed c.args.change.now (page_of s.lines c.args.page) in
    let page_in : c.args.page < length p.blocks.descriptors = rw (← c.self.view_is) at c.requires.page_in in
    let are : AreLines new = rw (← c.self.view_is) at c.requires.lines in
    let whole : length new ≡ 64 = rw (← c.self.view_is) at c.requires.whole in
    let sized : c.args.sizes ≡ kept_sizes p.codec new = rw (← c.self.view_is) at c.requires.sized in
    let here : page_of (with_change s.lines c.args.page c.args.change.now) c.args.page ≡ new = page_of-with s.lines c.args.page new (omega (arith, page_in, c.self.invariant.kept.sound.whole)) whole in
    let plan : c.plan.result ≡ plan_of p.codec (page_of (with_change s.lines c.args.page c.args.change.now) c.args.page) =
    c.plan.ensures.value p.codec new are (sym sized) ∙ ap (plan_of p.codec) (sym here) in
    let found : IfErr c.from_residual.result (LacksRoom p.blocks.descriptors p.blocks.used c.args.page c.plan.result) = search rules in
    rw (← c.self.view_is) (subst (λ (q : PagePlan). IfErr c.from_residual.result (LacksRoom p.blocks.descriptors p.blocks.used c.args.page q)) plan found)
