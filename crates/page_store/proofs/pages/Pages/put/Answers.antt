use Rattle.std.proofs.Common.{◌/◌, ◌%◌, arith, rules, inl, inr, ◌≡◌, ◌≢◌, ◌<◌, ◌∙◌, List, ℕ, ◌+◌, ◌*◌, ◌++◌, length, get_or, set, take, drop, refl, sym, ap, subst}
use Rattle.byte_parts.specs.Parts.{ChangesWithin}
use Rattle.hier_types.specs.Lines.{AreLines, zero_line}
use Rattle.line_codec.specs.Layout.{stored_sizes}
use Rattle.page_plan.specs.KeptSizes.{kept_size, kept_sizes}
use Rattle.page_plan.specs.Pages.{page_of}
use Rattle.page_slots.specs.Puts.{GoesRight, Overflows}
use Rattle.page_slots.specs.Sound.{IsSound as IsSoundPage}
use Rattle.page_slots.specs.declared.desc.Shape.{Shape}
use Rattle.page_slots.specs.declared.desc.Shape.TheVariants.{Zero}
use Rattle.page_slots.specs.declared.putting.PutResult.TheVariants.{Done, Overflow}
use Rattle.page_store.specs.declared.room.Held.{Held}
use Rattle.page_store.specs.Noted.{noted}
use Rattle.page_store.specs.Rooms.{IsWithin, bytes_at, bytes_of}
use Rattle.page_store.specs.Rows.{row_at, row_of_shape}
use Rattle.page_store.specs.Store.{Store, shape_at, store_in}
use Rattle.page_store.proofs.LedgerLemmas.{ledger_put, row_is, row_known, totals_few, totals_have}
use Rattle.page_store.proofs.PagesLemmas as own
use Rattle.page_store.proofs.StrayLemmas.{strays_put}
use Rattle.size_ledger.specs.declared.row.SizeRow.{SizeRow}
use Rattle.size_ledger.specs.Ranges.{AreWithinPages}
use Rattle.size_ledger.specs.Shares.{AreWithin, share}
use Rattle.page_store.proofs.pages.Pages.put.Goals as goal
use Rattle.page_store.proofs.pages.Pages.put.Goals.{After-held-held, After-put}

done≢overflow : Done ≢ Overflow
done≢overflow e = absurd (search rules)

abbrev seen : After-held-held → Store
seen c = store_in c.self.inside.codec c.self.inside.memory.items c.self.inside.blocks.descriptors c.self.inside.blocks.used c.self.inside.meta c.self.inside.counts c.self.inside.stops c.self.inside.cursor

page_in : (c : After-held-held) → (c.args.line.0 / 64) < length c.self.inside.blocks.descriptors
page_in c =
    let inside : c.args.line.0 < length (seen c).lines = rw (← c.self.view_is) at c.requires in
    omega (arith, inside, c.self.invariant.kept.sound.whole)

shape_is : (c : After-held-held) → shape_at (seen c) (c.args.line.0 / 64) ≡ c.held-held.result.shape
shape_is c =
    own.own_shape (seen c) c.self.inside.memory.items c.self.inside.sizes.items c.self.invariant.kept (c.args.line.0 / 64) (page_in c) ∙ sym (ap (λ (h : Held). h.shape) c.held-held.ensures)

bytes_are : (c : After-held-held) (m : List ℕ) → m ≡ c.self.inside.memory.items → bytes_of m c.held-held.result ≡ bytes_at (seen c).bytes (c.args.line.0 / 64)
bytes_are c m is =
    ap (λ (x : List ℕ). bytes_of x c.held-held.result) is ∙ ap (bytes_of c.self.inside.memory.items) c.held-held.ensures
    ∙ sym (own.own_bytes (seen c) c.self.inside.memory.items c.self.inside.sizes.items c.self.invariant.kept (c.args.line.0 / 64) (page_in c))

own_sound : (c : After-held-held) (m : List ℕ) → m ≡ c.self.inside.memory.items → IsSoundPage c.self.inside.codec c.held-held.result.shape (bytes_of m c.held-held.result)
own_sound c m is =
    subst (λ (x : List ℕ). IsSoundPage c.self.inside.codec c.held-held.result.shape (bytes_of x c.held-held.result)) (sym is)
    (subst (λ (h : Held). IsSoundPage c.self.inside.codec h.shape (bytes_of c.self.inside.memory.items h)) (sym c.held-held.ensures)
    (own.own_sound (seen c) c.self.inside.memory.items c.self.inside.sizes.items c.self.invariant.kept (c.args.line.0 / 64) (page_in c)))

within : (c : After-held-held) → IsWithin c.self.inside.memory.items c.held-held.result
within c = subst (IsWithin c.self.inside.memory.items) (sym c.held-held.ensures) (own.own_within (seen c) c.self.inside.memory.items c.self.inside.sizes.items c.self.invariant.kept (c.args.line.0 / 64) (page_in c))

pub returns-then-eq-clause-puts : goal.returns-then-eq-clause-puts
returns-then-eq-clause-puts c' is_true =
    let c = (goal.at.returns-then-eq-clause-puts c').After-held-held in
    inl (rw (← c'.self.view_is) (record { is_zero = shape_is c ∙ (let e : c.held-held.result.shape ≡ Zero = search rules in e); zeros = (let e : c'.args.from.now ≡ zero_line = search rules in e); stays = refl }))

pub put-requires-clause-within : goal.put-requires-clause-within
put-requires-clause-within c' =
    let c = (goal.at.put-requires-clause-within c').After-held-held in
    subst (λ (m : List ℕ). IsWithin m c.held-held.result) (sym c'.deref_mut.ensures.value) (within c)

pub put-requires-clause-sound : goal.put-requires-clause-sound
put-requires-clause-sound c' =
    let c = (goal.at.put-requires-clause-sound c').After-held-held in
    own_sound c c'.deref_mut.result.now c'.deref_mut.ensures.value

back : (c : After-put) → take c.self.inside.memory.len (c.put.new.memory ++ drop (length c.put.new.memory) c.self.inside.memory.items) ≡ c.put.new.memory
back c =
    let changes : ChangesWithin _ _ c.deref_mut.result.now c.put.new.memory = c.put.ensures.changes in
    own.written_back c.self.inside.memory.len c.self.inside.memory.items c.put.new.memory (changes.same_length ∙ ap length c.deref_mut.ensures.value)
    (sym (ap length c.deref_mut.ensures.value) ∙ c.deref_mut.ensures.len)

-- where nothing was put the memory is as before
unchanged : (c : After-put) → c.put.result ≡ Overflow → take c.self.inside.memory.len (c.put.new.memory ++ drop (length c.put.new.memory) c.self.inside.memory.items) ≡ c.self.inside.memory.items
unchanged c over = back c ∙ c.put.ensures.unchanged over ∙ c.deref_mut.ensures.value

pub invariant_of-self : goal.invariant_of-self
invariant_of-self c' =
    let r = (goal.at.invariant_of-self c').After-put in
    rw (unchanged r (search rules)) c'.self.invariant

pub returns-then-eq-2-clause-unchanged : goal.returns-then-eq-2-clause-unchanged
returns-then-eq-2-clause-unchanged c' e =
    let r = (goal.at.returns-then-eq-2-clause-unchanged c').After-put in
    rw (← c'.self.view_is, unchanged r (search rules)) refl

pub note-requires : goal.note-requires
note-requires c' =
    let r = (goal.at.note-requires c').After-put in
    let c = (goal.at.note-requires c').After-held-held in
    let changes : ChangesWithin _ _ r.deref_mut.result.now r.put.new.memory = r.put.ensures.changes in
    let same : length c'.deref.result.now ≡ length c.self.inside.memory.items = ap length (c'.deref.ensures.value ∙ back r) ∙ changes.same_length ∙ ap length r.deref_mut.ensures.value in
    omega (arith, within c, same)

-- the sizes of the page then
sized : (c' : After-held-held) (before own_sizes : List ℕ) → before ≡ get_or c'.self.inside.sizes.items (c'.args.line.0 / 64) before → own_sizes ≡ set before (c'.args.line.0 % 64) (kept_size c'.self.inside.codec c'.args.from.now)
    → own_sizes ≡ kept_sizes c'.self.inside.codec (set (page_of (seen c').lines (c'.args.line.0 / 64)) (c'.args.line.0 % 64) c'.args.from.now)
sized c before own_sizes read is =
    own.sizes_with (seen c) c.self.inside.memory.items c.self.inside.sizes.items c.self.invariant.kept (c.args.line.0 / 64) (c.args.line.0 % 64) c.args.from.now before own_sizes (page_in c) read is

-- what the page took before, by the sizes that were read
row_before : (c : After-held-held) (read : List ℕ) (row : SizeRow) → read ≡ get_or c.self.inside.sizes.items (c.args.line.0 / 64) read
    → ((lines : List (List ℕ)) → AreLines lines → kept_sizes c.self.inside.codec lines ≡ read → row ≡ row_of_shape c.held-held.result.shape (stored_sizes c.self.inside.codec lines)) → row ≡ row_at (seen c) (c.args.line.0 / 64)
row_before c read row at value =
    row_is (seen c) c.self.inside.memory.items c.self.inside.sizes.items c.self.invariant.kept (c.args.line.0 / 64) c.held-held.result.shape read row (page_in c) (sym (shape_is c)) at value

pub replace_row-requires-clause-within : goal.replace_row-requires-clause-within
replace_row-requires-clause-within c' =
    let c = (goal.at.replace_row-requires-clause-within c').After-held-held in
    let before = row_before c c'.index.result.now c'.row_of_shape-before.result c'.index.ensures c'.row_of_shape-before.ensures in
    subst (λ (row : SizeRow). AreWithin (share row) c.self.inside.ledger) (sym before)
    (subst (AreWithin (share (row_at (seen c) (c.args.line.0 / 64)))) (sym c.self.invariant.totals_are) (totals_have (seen c) (c.args.line.0 / 64) (page_in c)))

pub replace_row-requires-clause-most : goal.replace_row-requires-clause-most
replace_row-requires-clause-most c' =
    let c = (goal.at.replace_row-requires-clause-most c').After-held-held in
    subst (AreWithinPages 65536) (sym c.self.invariant.totals_are) (totals_few (seen c) c.self.invariant.kept.sound)

pub replace_row-requires-clause-known : goal.replace_row-requires-clause-known
replace_row-requires-clause-known c' =
    let r = (goal.at.replace_row-requires-clause-known c').After-put in
    let c = (goal.at.replace_row-requires-clause-known c').After-held-held in
    let done : r.put.result ≡ Done = search rules in
    let kept = own.kept_put (seen c) c.self.inside.memory.items c.self.inside.sizes.items c.self.invariant.kept (c.args.line.0 / 64) (page_in c) (c.args.line.0 % 64) (omega arith) c.args.from.now
    c.held-held.result c.held-held.ensures r.deref_mut.result.now r.put.new.memory _ r.deref_mut.ensures.value (back r)
    r.put.ensures.changes r.put.ensures.sound (r.put.ensures.content done) c'.note.new.meta c'.deref.result.now c'.set.new.self c'.deref.ensures.value c'.note.ensures
    (sized c c'.index_mut.result.now c'.set.new.self c'.index_mut.ensures.value c'.set.ensures) in
    row_known _ _ _ kept (c.args.line.0 / 64) c.held-held.result.shape c'.index-2.result.now c'.row_of_shape-after.result (page_in c) (sym (shape_is c)) c'.index-2.ensures c'.row_of_shape-after.ensures

pub invariant_of-self-2 : goal.invariant_of-self-2
invariant_of-self-2 c' =
    let r = (goal.at.invariant_of-self-2 c').After-put in
    let c = (goal.at.invariant_of-self-2 c').After-held-held in
    let done : r.put.result ≡ Done = search rules in
    let seen_put = own.seen_put (seen c) c.self.inside.memory.items c.self.inside.sizes.items c.self.invariant.kept (c.args.line.0 / 64) (page_in c) (c.args.line.0 % 64) (omega arith) c.args.from.now
    c.held-held.result c.held-held.ensures r.deref_mut.result.now r.put.new.memory _ r.deref_mut.ensures.value (back r)
    r.put.ensures.changes r.put.ensures.sound (r.put.ensures.content done) c'.note.new.meta c'.deref.result.now c'.deref.ensures.value c'.note.ensures in
    let kept = own.kept_put (seen c) c.self.inside.memory.items c.self.inside.sizes.items c.self.invariant.kept (c.args.line.0 / 64) (page_in c) (c.args.line.0 % 64) (omega arith) c.args.from.now
    c.held-held.result c.held-held.ensures r.deref_mut.result.now r.put.new.memory _ r.deref_mut.ensures.value (back r)
    r.put.ensures.changes r.put.ensures.sound (r.put.ensures.content done) c'.note.new.meta c'.deref.result.now c'.set.new.self c'.deref.ensures.value c'.note.ensures
    (sized c c'.index_mut.result.now c'.set.new.self c'.index_mut.ensures.value c'.set.ensures) in
    let before = row_before c c'.index.result.now c'.row_of_shape-before.result c'.index.ensures c'.row_of_shape-before.ensures in
    let after =
    row_is _ _ _ kept (c.args.line.0 / 64) c.held-held.result.shape c'.index-2.result.now c'.row_of_shape-after.result (page_in c) (sym (shape_is c)) c'.index-2.ensures c'.row_of_shape-after.ensures in
    record {
      kept = kept;
      strays_are = strays_put (seen c) _ c.self.inside.strays c'.put-2.new.self (c.args.line.0 / 64) (c.args.line.0 % 64) c.args.from.now _ _ c.self.invariant.kept.sound (page_in c) (omega arith)
          c.self.invariant.strays_are c'.put-2.ensures seen_put;
      totals_are = ledger_put (seen c) _ (c.args.line.0 / 64) (c.args.line.0 % 64) c.args.from.now _ _ c'.row_of_shape-before.result c'.row_of_shape-after.result c.self.inside.ledger _ c.self.invariant.kept.sound (page_in c) (omega arith)
          seen_put before after c.self.invariant.totals_are c'.replace_row.ensures;
    }

pub returns-clause-puts : goal.returns-clause-puts
returns-clause-puts c' e =
    let r = (goal.at.returns-clause-puts c').After-put in
    let c = (goal.at.returns-clause-puts c').After-held-held in
    let done : r.put.result ≡ Done = search rules in
    let not_zero : c.held-held.result.shape ≢ Zero = search rules in
    let here = bytes_are c r.deref_mut.result.now r.deref_mut.ensures.value in
    let seen_put = own.seen_put (seen c) c.self.inside.memory.items c.self.inside.sizes.items c.self.invariant.kept (c.args.line.0 / 64) (page_in c) (c.args.line.0 % 64) (omega arith) c.args.from.now
    c.held-held.result c.held-held.ensures r.deref_mut.result.now r.put.new.memory _ r.deref_mut.ensures.value (back r)
    r.put.ensures.changes r.put.ensures.sound (r.put.ensures.content done) c'.note.new.meta c'.deref.result.now c'.deref.ensures.value c'.note.ensures in
    inr (rw (← c'.self.view_is) (record {
      not_zero = λ is. not_zero (sym (shape_is c) ∙ is);
      has_place = λ over. done≢overflow (sym done ∙ r.put.ensures.overflow.1 (subst (λ (b : List ℕ). Overflows c.self.inside.codec c.held-held.result.shape b (c.args.line.0 % 64) c.args.from.now) (sym here)
          (subst (λ (f : Shape). Overflows c.self.inside.codec f (bytes_at (seen c).bytes (c.args.line.0 / 64)) (c.args.line.0 % 64) c.args.from.now) (shape_is c) over)));
      own = bytes_of r.put.new.memory c.held-held.result;
      right = subst (λ (f : Shape). GoesRight c.self.inside.codec f (c.args.line.0 % 64) c.args.from.now (bytes_at (seen c).bytes (c.args.line.0 / 64)) (bytes_of r.put.new.memory c.held-held.result)) (sym (shape_is c))
          (subst (λ (b : List ℕ). GoesRight c.self.inside.codec c.held-held.result.shape (c.args.line.0 % 64) c.args.from.now b (bytes_of r.put.new.memory c.held-held.result)) here (r.put.ensures.right done));
      is = seen_put ∙ ap (λ (f : Shape). record (seen c) {
        lines = set (seen c).lines (64 * (c.args.line.0 / 64) + (c.args.line.0 % 64)) c.args.from.now;
        bytes = set (seen c).bytes (c.args.line.0 / 64) (bytes_of r.put.new.memory c.held-held.result);
        meta = noted (seen c).meta (c.args.line.0 / 64) f (bytes_of r.put.new.memory c.held-held.result);
      }) (sym (shape_is c));
    }))

pub returns-then-eq-clause-lines : goal.returns-then-eq-clause-lines
returns-then-eq-clause-lines c' is_true =
    let c = (goal.at.returns-then-eq-clause-lines c').After-held-held in
    let packed : c.held-held.result.shape ≡ Zero = search rules in
    let zeros : c'.args.from.now ≡ zero_line = search rules in
    rw (← c'.self.view_is) (own.zeros_stay (seen c) c.self.inside.memory.items c.self.inside.sizes.items c.self.invariant.kept (c.args.line.0) c.args.from.now (let inside : c.args.line.0 < length (seen c).lines = rw (← c.self.view_is) at c.requires in inside)
    (shape_is c ∙ packed) zeros)

pub returns-clause-lines : goal.returns-clause-lines
returns-clause-lines c' e =
    let r = (goal.at.returns-clause-lines c').After-put in
    let c = (goal.at.returns-clause-lines c').After-held-held in
    let done : r.put.result ≡ Done = search rules in
    let split : 64 * (c.args.line.0 / 64) + c.args.line.0 % 64 ≡ c.args.line.0 = omega arith in
    let seen_put = own.seen_put (seen c) c.self.inside.memory.items c.self.inside.sizes.items c.self.invariant.kept (c.args.line.0 / 64) (page_in c) (c.args.line.0 % 64) (omega arith) c.args.from.now
    c.held-held.result c.held-held.ensures r.deref_mut.result.now r.put.new.memory _ r.deref_mut.ensures.value (back r)
    r.put.ensures.changes r.put.ensures.sound (r.put.ensures.content done) c'.note.new.meta c'.deref.result.now c'.deref.ensures.value c'.note.ensures in
    rw (← c'.self.view_is) (ap (λ (x : Store). x.lines) seen_put ∙ ap (λ (n : ℕ). set (seen c).lines n c.args.from.now) split)
