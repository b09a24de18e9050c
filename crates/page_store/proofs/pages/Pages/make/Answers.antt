use Rattle.std.proofs.Common.{arith, ◌≡◌, ◌<◌, ◌∙◌, List, ℕ, ◌++◌, get_or, length, take, drop, sym, ap, subst}
use Rattle.std.proofs.lemmas.List.{length-set}
use Rattle.byte_parts.specs.Parts.{ChangesWithin}
use Rattle.hier_types.specs.Lines.{AreLines}
use Rattle.line_codec.specs.Layout.{stored_sizes}
use Rattle.page_plan.specs.KeptSizes.{kept_sizes}
use Rattle.page_store.specs.declared.room.Held.{Held}
use Rattle.page_plan.specs.Pages.{page_of}
use Rattle.page_slots.specs.declared.desc.Shape.{Shape}
use Rattle.page_store.specs.Rooms.{HasTarget, IsWithin, held_of}
use Rattle.page_store.specs.Rows.{row_at, row_of_shape}
use Rattle.page_store.specs.Store.{Store, desc_at, store_in}
use Rattle.page_store.specs.Turns.{ComesToShape, MakesTurnOn}
use Rattle.page_store.proofs.LedgerLemmas.{ledger_turned, row_is, totals_few, totals_have}
use Rattle.page_store.proofs.PagesLemmas as own
use Rattle.page_store.proofs.StoreLemmas.{lines_of_one}
use Rattle.page_store.proofs.TotalLemmas.{has_target, known_order}
use Rattle.page_store.proofs.TurnLemmas as turned
use Rattle.page_store.proofs.TurnLemmas.{new_shape}
use Rattle.size_ledger.specs.declared.row.SizeRow.{SizeRow}
use Rattle.size_ledger.specs.Ranges.{AreWithinPages, HasKnownOrder}
use Rattle.size_ledger.specs.Shares.{AreWithin, share}
use Rattle.page_store.proofs.pages.Pages.make.Goals as goal
use Rattle.page_store.proofs.pages.Pages.make.Goals.{After-held-held, After-held-new, After-replace_row}

abbrev seen : After-held-held → Store
seen c = store_in c.self.inside.codec c.self.inside.memory.items c.self.inside.blocks.descriptors c.self.inside.blocks.used c.self.inside.meta c.self.inside.counts c.self.inside.stops c.self.inside.cursor

page_in : (c : After-held-held) → c.args.page < length c.self.inside.blocks.descriptors
page_in c = rw (← c.self.view_is) at c.requires.page_in

pub turn-shape-requires-clause-within : goal.turn-shape-requires-clause-within
turn-shape-requires-clause-within c' =
    let c = (goal.at.turn-shape-requires-clause-within c').After-held-held in
    subst (λ (m : List ℕ). IsWithin m c.held-held.result) (sym c'.deref_mut.ensures.value)
    (subst (IsWithin c.self.inside.memory.items) (sym c.held-held.ensures) (own.own_within (seen c) c.self.inside.memory.items c.self.inside.sizes.items c.self.invariant.kept c.args.page (page_in c)))

pub reshape-requires-clause-can : goal.reshape-requires-clause-can
reshape-requires-clause-can c' =
    let c = (goal.at.reshape-requires-clause-can c').After-held-held in
    turned.can (seen c) c.self.inside.memory.items c.self.inside.sizes.items c.self.invariant.kept c.args.page (page_in c) c.args.turn c.requires.off c'.turn-shape.result
    c.held-held.result c.held-held.ensures c'.deref_mut.result.now c'.turn-shape.new.memory c'.deref_mut.ensures.value c'.turn-shape.ensures.changes c'.turn-shape.ensures.makes

-- what the page took before, by the sizes that were read
row_before : (c : After-held-held) (read : List ℕ) (row : SizeRow) → read ≡ get_or c.self.inside.sizes.items c.args.page read
    → ((lines : List (List ℕ)) → AreLines lines → kept_sizes c.self.inside.codec lines ≡ read → row ≡ row_of_shape c.held-held.result.shape (stored_sizes c.self.inside.codec lines)) → row ≡ row_at (seen c) c.args.page
row_before c read row at value =
    row_is (seen c) c.self.inside.memory.items c.self.inside.sizes.items c.self.invariant.kept c.args.page c.held-held.result.shape read row (page_in c)
    (ap (λ (h : Held). h.shape) c.held-held.ensures ∙ sym (own.own_shape (seen c) c.self.inside.memory.items c.self.inside.sizes.items c.self.invariant.kept c.args.page (page_in c))) at value

pub row_of_shape-before-requires : goal.row_of_shape-before-requires
row_of_shape-before-requires c' =
    let c = (goal.at.row_of_shape-before-requires c').After-held-held in
    subst (λ (h : Held). HasTarget h.shape) (sym c.held-held.ensures)
    (has_target c.self.inside.codec _ _ (own.own_sound (seen c) c.self.inside.memory.items c.self.inside.sizes.items c.self.invariant.kept c.args.page (page_in c)))

-- the shape that the turn left
shape_is : (b : After-held-held) (c : After-held-new) → b.args.page < length b.self.inside.blocks.descriptors
    → ComesToShape b.self.inside.blocks.descriptors b.self.inside.blocks.used b.args.page c.turn-shape.result c.reshape.new.self.descriptors c.reshape.new.self.used
    → c.held-new.result ≡ held_of (desc_at c.reshape.new.self.descriptors b.args.page) → c.held-new.result.shape ≡ c.turn-shape.result
shape_is b c within comes held =
    ap (λ (h : Held). h.shape) held ∙ new_shape b.self.inside.blocks.descriptors b.self.inside.blocks.used b.args.page c.turn-shape.result c.reshape.new.self.descriptors c.reshape.new.self.used within comes

pub row_of_shape-after-requires : goal.row_of_shape-after-requires
row_of_shape-after-requires c' =
    let b = (goal.at.row_of_shape-after-requires c').After-held-held in
    let c = (goal.at.row_of_shape-after-requires c').After-held-new in
    subst HasTarget (sym (shape_is b c (page_in b) c.reshape.ensures.comes c.held-new.ensures)) (has_target b.self.inside.codec _ _ c.turn-shape.ensures.makes.keeps.sound)

pub replace_row-requires-clause-known : goal.replace_row-requires-clause-known
replace_row-requires-clause-known c' =
    let b = (goal.at.replace_row-requires-clause-known c').After-held-held in
    let c = (goal.at.replace_row-requires-clause-known c').After-held-new in
    let codec = b.self.inside.codec in
    let lines = page_of (seen b).lines b.args.page in
    let sizes = own.sizes_at (seen b) b.self.inside.memory.items b.self.inside.sizes.items b.self.invariant.kept b.args.page c'.index-2.result.now (page_in b) c'.index-2.ensures in
    let row = c'.row_of_shape-after.ensures lines (lines_of_one (seen b).lines b.args.page b.self.invariant.kept.sound.lines_are) (sym sizes) in
    subst HasKnownOrder (sym row) (subst (λ (f : Shape). HasKnownOrder (row_of_shape f (stored_sizes codec lines))) (sym (shape_is b c (page_in b) c.reshape.ensures.comes c.held-new.ensures))
    (known_order codec c.turn-shape.result _ (stored_sizes codec lines) c.turn-shape.ensures.makes.keeps.sound))

pub replace_row-requires-clause-within : goal.replace_row-requires-clause-within
replace_row-requires-clause-within c' =
    let c = (goal.at.replace_row-requires-clause-within c').After-held-held in
    let before = row_before c c'.index.result.now c'.row_of_shape-before.result c'.index.ensures c'.row_of_shape-before.ensures in
    subst (λ (row : SizeRow). AreWithin (share row) c.self.inside.ledger) (sym before)
    (subst (AreWithin (share (row_at (seen c) c.args.page))) (sym c.self.invariant.totals_are) (totals_have (seen c) c.args.page (page_in c)))

pub replace_row-requires-clause-most : goal.replace_row-requires-clause-most
replace_row-requires-clause-most c' =
    let c = (goal.at.replace_row-requires-clause-most c').After-held-held in
    subst (AreWithinPages 65536) (sym c.self.invariant.totals_are) (totals_few (seen c) c.self.invariant.kept.sound)

-- the memory that came back
abbrev returned : After-held-new → List ℕ
returned c = take c.self.inside.memory.len (c.turn-shape.new.memory ++ drop (length c.turn-shape.new.memory) c.self.inside.memory.items)

back : (c : After-held-new) → returned c ≡ c.turn-shape.new.memory
back c =
    let changes : ChangesWithin _ _ c.deref_mut.result.now c.turn-shape.new.memory = c.turn-shape.ensures.changes in
    own.written_back c.self.inside.memory.len c.self.inside.memory.items c.turn-shape.new.memory (changes.same_length ∙ ap length c.deref_mut.ensures.value)
    (sym (ap length c.deref_mut.ensures.value) ∙ c.deref_mut.ensures.len)

pub note-requires : goal.note-requires
note-requires c' =
    let b = (goal.at.note-requires c').After-held-held in
    let c = (goal.at.note-requires c').After-held-new in
    subst (λ (m : List ℕ). IsWithin m c.held-new.result) (sym (c'.deref.ensures.value ∙ back c)) (subst (IsWithin c.turn-shape.new.memory) (sym c.held-new.ensures)
    (turned.within_new (seen b) b.self.inside.memory.items b.self.inside.sizes.items b.self.invariant.kept b.args.page (page_in b) b.args.turn b.requires.off c.turn-shape.result
    b.held-held.result b.held-held.ensures c.deref_mut.result.now c.turn-shape.new.memory c.deref_mut.ensures.value c.turn-shape.ensures.changes c.turn-shape.ensures.makes
    c.reshape.new.self.descriptors c.reshape.new.self.used c.reshape.ensures.comes c.reshape.ensures.sound c.reshape.ensures.frames))

-- the store that is left, where the turn was made
abbrev left : After-replace_row → Store
left c' =
    let c = (goal.at.invariant_of-self c').After-held-new in
    store_in c'.self.inside.codec (returned c) c'.reshape.new.self.descriptors c'.reshape.new.self.used c'.note.new.meta c'.self.inside.counts c'.self.inside.stops c'.self.inside.cursor

made : (c' : After-replace_row) → MakesTurnOn (seen (goal.at.invariant_of-self c').After-held-held) c'.args.page c'.args.turn (left c')
made c' =
    let b = (goal.at.invariant_of-self c').After-held-held in
    let c = (goal.at.invariant_of-self c').After-held-new in
    turned.made_by (seen b) b.self.inside.memory.items b.self.inside.sizes.items b.self.invariant.kept b.args.page (page_in b) b.args.turn b.requires.off c.turn-shape.result
    b.held-held.result b.held-held.ensures c.deref_mut.result.now c.turn-shape.new.memory c.deref_mut.ensures.value c.turn-shape.ensures.changes c.turn-shape.ensures.makes
    c.reshape.new.self.descriptors c.reshape.new.self.used c.reshape.ensures.comes c.reshape.ensures.sound c.reshape.ensures.frames
    c.held-new.result c.held-new.ensures (returned c) c'.deref.result.now (back c) c'.deref.ensures.value c'.note.new.meta c'.note.ensures

pub invariant_of-self : goal.invariant_of-self
invariant_of-self c' =
    let b = (goal.at.invariant_of-self c').After-held-held in
    let c = (goal.at.invariant_of-self c').After-held-new in
    let kept = turned.kept_by (seen b) b.self.inside.memory.items b.self.inside.sizes.items b.self.invariant.kept b.args.page (page_in b) b.args.turn b.requires.off c.turn-shape.result
    b.held-held.result b.held-held.ensures c.deref_mut.result.now c.turn-shape.new.memory c.deref_mut.ensures.value c.turn-shape.ensures.changes c.turn-shape.ensures.makes
    c.reshape.new.self.descriptors c.reshape.new.self.used c.reshape.ensures.comes c.reshape.ensures.sound c.reshape.ensures.frames
    c.held-new.result c.held-new.ensures (returned c) c'.deref.result.now (back c) c'.deref.ensures.value c'.note.new.meta c'.note.ensures in
    let pages : b.args.page < length c.reshape.new.self.descriptors = omega (arith, page_in b, ap length (made c').comes.descriptors_are, length-set b.self.inside.blocks.descriptors b.args.page (made c').comes.desc) in
    let before = row_before b c'.index.result.now c'.row_of_shape-before.result c'.index.ensures c'.row_of_shape-before.ensures in
    let after =
    row_is (left c') _ _ kept b.args.page c.held-new.result.shape c'.index-2.result.now c'.row_of_shape-after.result pages
    (ap (λ (h : Held). h.shape) c.held-new.ensures ∙ sym (own.own_shape (left c') _ _ kept b.args.page pages)) c'.index-2.ensures c'.row_of_shape-after.ensures in
    record {
      kept = kept;
      strays_are = turned.turn_strays (seen b) (left c') b.args.page b.args.turn b.self.invariant.kept.sound (page_in b) (made c') b.self.inside.strays b.requires.off b.self.invariant.strays_are;
      totals_are = ledger_turned (seen b) (left c') b.args.page b.args.turn c'.row_of_shape-before.result c'.row_of_shape-after.result b.self.inside.ledger _ (page_in b) (made c')
          before after b.self.invariant.totals_are c'.replace_row.ensures;
    }

pub returns-clause-makes : goal.returns-clause-makes
returns-clause-makes c' = rw (← c'.self.view_is) (made c')

pub returns-clause-falls : goal.returns-clause-falls
returns-clause-falls c' =
    let b = (goal.at.returns-clause-falls c').After-held-held in
    let c = (goal.at.returns-clause-falls c').After-held-new in
    rw (← c'.self.view_is) (turned.falls_by (seen b) b.self.inside.memory.items b.self.inside.sizes.items b.self.invariant.kept b.args.page (page_in b) b.args.turn b.requires.off c.turn-shape.result
    b.held-held.result b.held-held.ensures c.deref_mut.result.now c.turn-shape.new.memory c.deref_mut.ensures.value c.turn-shape.ensures.changes c.turn-shape.ensures.makes
    c.reshape.new.self.descriptors c.reshape.new.self.used c.reshape.ensures.comes c.reshape.ensures.sound c.reshape.ensures.frames
    c.held-new.result c.held-new.ensures (returned c) c'.deref.result.now (back c) c'.deref.ensures.value c'.note.new.meta c'.note.ensures c.turn-shape.ensures.falls)

pub returns-clause-keeps : goal.returns-clause-keeps
returns-clause-keeps c' =
    let b = (goal.at.returns-clause-keeps c').After-held-held in
    rw (← c'.self.view_is) (turned.turn_keeps (seen b) (left c') b.args.page b.args.turn b.self.invariant.kept.sound (page_in b) (made c') b.requires.off c'.reshape.ensures.frames)
