use Rattle.std.proofs.Common.{rules, arith, ◌≡◌, ◌<◌, ◌+◌, ◌*◌, ◌/◌, ◌%◌, ◌∙◌, inl, inr, List, ℕ, Err, length, set, sym, ap, subst}
use Rattle.std.proofs.lemmas.List.{length-set}
use Rattle.hier_types.specs.Causes.{raised}
use Rattle.hier_types.proofs.LineLemmas.{lines-set}
use Rattle.page_plan.specs.Pages.{page_of}
use Rattle.page_store.specs.declared.room.Change.TheVariants.{OneLine}
use Rattle.page_store.specs.Calls.{GoesIn, HasNoPlace, Outline, Places, Refused, Writes, looked_up, written_more}
use Rattle.page_store.specs.Rooms.{with_change}
use Rattle.page_store.specs.Store.{Store, store_in}
use Rattle.page_store.proofs.CallLemmas.{IsLike, looked_like, outline_like, outline_put, outline_written, refused_like}
use Rattle.page_store.proofs.PagesLemmas as own
use Rattle.page_store.proofs.RoomLemmas.{length-page_of}
use Rattle.page_store.proofs.StoreLemmas.{lines_of_one}
use Rattle.page_store.proofs.pages.Pages.change.Goals as goal
use Rattle.page_store.proofs.pages.Pages.change.Goals.{After-set, then-not-put+in_ok-rewrite, else-not-put}

abbrev seen : After-set → Store
seen c = store_in c.self.inside.codec c.self.inside.memory.items c.self.inside.blocks.descriptors c.self.inside.blocks.used c.self.inside.meta c.self.inside.counts c.self.inside.stops c.self.inside.cursor

-- the lines are as many as before
lines_stay : (c : After-set) → (seen c).lines ≡ c.args.self.now.lines
lines_stay c =
    ap (λ (x : Store). x.lines) (c.self.view_is ∙ c.put.ensures.unchanged (search rules) ∙ c.look.ensures) ∙ (looked_like c.args.self.now (c.args.line.0 / 64)).lines_are

page_in : (c : After-set) → c.args.line.0 / 64 < length c.self.inside.blocks.descriptors
page_in c = omega (arith, c.requires, ap length (lines_stay c), c.self.invariant.kept.sound.whole)

pub rewrite-requires-clause-lines : goal.rewrite-requires-clause-lines
rewrite-requires-clause-lines c' =
    let c = (goal.at.rewrite-requires-clause-lines c').After-set in
    rw (← c'.self.view_is) (lines-set (page_of (seen c).lines (c.args.line.0 / 64)) (c.args.line.0 % 64) c.args.from.now (lines_of_one (seen c).lines (c.args.line.0 / 64) c.self.invariant.kept.sound.lines_are) (search rules))

pub rewrite-requires-clause-whole : goal.rewrite-requires-clause-whole
rewrite-requires-clause-whole c' =
    let c = (goal.at.rewrite-requires-clause-whole c').After-set in
    rw (← c'.self.view_is) (length-set (page_of (seen c).lines (c.args.line.0 / 64)) (c.args.line.0 % 64) c.args.from.now
    ∙ length-page_of (seen c).lines (c.args.line.0 / 64) (omega (arith, page_in c, c.self.invariant.kept.sound.whole)))

pub rewrite-requires-clause-sized : goal.rewrite-requires-clause-sized
rewrite-requires-clause-sized c' =
    let c = (goal.at.rewrite-requires-clause-sized c').After-set in
    rw (← c'.self.view_is) (own.sizes_with (seen c) c.self.inside.memory.items c.self.inside.sizes.items c.self.invariant.kept (c.args.line.0 / 64) (c.args.line.0 % 64) c.args.from.now c.index.result.now c.set.new.self (page_in c)
    c.index.ensures c.set.ensures)

-- the lines with the new one, by its page
line_is : (s l : Store) (line : ℕ) (bytes : List ℕ) → IsLike s l → set l.lines (64 * (line / 64) + line % 64) bytes ≡ set s.lines line bytes
line_is s l line bytes like =
    let split : 64 * (line / 64) + line % 64 ≡ line = omega arith in
    ap (λ (n : ℕ). set l.lines n bytes) split ∙ ap (λ (ls : List (List ℕ)). set ls line bytes) like.lines_are

pub returns-in_err-rewrite : goal.returns-in_err-rewrite
returns-in_err-rewrite c =
    let s = c.args.self.now in
    let page = c.args.line.0 / 64 in
    let i = c.args.line.0 % 64 in
    let bytes = c.args.from.now in
    let l = looked_up s (c.args.line.0 / 64) in
    let like = looked_like s (c.args.line.0 / 64) in
    let same : c.put.new.self ≡ l = c.put.ensures.unchanged (search rules) ∙ c.look.ensures in
    let lines = own.line_with l.lines (c.args.line.0 / 64) (c.args.line.0 % 64) bytes (omega arith) ∙ line_is s l c.args.line.0 bytes like in
    let why : HasNoPlace l (c.args.line.0 / 64) (c.args.line.0 % 64) bytes = subst (λ (x : Store). HasNoPlace x (c.args.line.0 / 64) (c.args.line.0 % 64) bytes) c.look.ensures (c.put.ensures.full (search rules)) in
    let err : c.from_residual.result ≡ Err c.in_err-rewrite.field-0.0 = search rules in
    let refused : Refused l l (c.args.line.0 / 64) (with_change l.lines (c.args.line.0 / 64) (OneLine (c.args.line.0 % 64) bytes)) (Unit {0}) c.in_err-rewrite.field-0.0 c.rewrite.new.self =
    subst (λ (x : Store). Refused x x (c.args.line.0 / 64) (with_change x.lines (c.args.line.0 / 64) (OneLine (c.args.line.0 % 64) bytes)) (Unit {0}) c.in_err-rewrite.field-0.0 c.rewrite.new.self) same c.in_err-rewrite.ensures in
    rw err (refused_like s l (c.args.line.0 / 64) (set s.lines c.args.line.0 bytes) (HasNoPlace l (c.args.line.0 / 64) (c.args.line.0 % 64) bytes) c.in_err-rewrite.field-0.0 c.rewrite.new.self like
    (subst (λ (ls : List (List ℕ)). Refused l l (c.args.line.0 / 64) ls (Unit {0}) c.in_err-rewrite.field-0.0 c.rewrite.new.self) lines refused) why)

-- the state that a granted write leaves
granted : (s l : Store) (line : ℕ) (bytes : List ℕ) (after t : Store) → l ≡ looked_up s (line / 64) → GoesIn l (line / 64) (line % 64) bytes after
    → Outline l (line / 64) (set l.lines line bytes) l.counts.reads l.counts.writes after → t ≡ record after { counts = written_more after.counts } → Writes s line bytes t
granted s l line bytes after t same goes outline is =
    let like : IsLike s l = subst (IsLike s) (sym same) (looked_like s (line / 64)) in
    let own_outline = subst (λ (n : ℕ). Outline s (line / 64) (set s.lines line bytes) s.counts.reads n after) like.writes_are (subst (λ (n : ℕ). Outline s (line / 64) (set s.lines line bytes) n l.counts.writes after) like.reads_are
    (subst (λ (ls : List (List ℕ)). Outline s (line / 64) (set ls line bytes) l.counts.reads l.counts.writes after) like.lines_are (outline_like s l (line / 64) (set l.lines line bytes) l.counts.reads l.counts.writes after like outline))) in
    record {
      outline = outline_written s (line / 64) (set s.lines line bytes) s.counts.reads s.counts.writes after t own_outline is;
      after = after;
      goes = subst (λ (x : Store). GoesIn x (line / 64) (line % 64) bytes after) same goes;
      is = is;
    }

pub returns : goal.returns
returns c =
    let s = c.args.self.now in
    let l = c.look.new.self in
    let bytes = c.args.from.now in
    let p = c.self-2.inside in
    let inside : Store = store_in p.codec p.memory.items p.blocks.descriptors p.blocks.used p.meta p.counts p.stops p.cursor in
    let more : c.saturating_add-self-inside.result ≡ raised p.counts.writes = search rules in
    let counted : record inside { counts = record p.counts { writes = c.saturating_add-self-inside.result } } ≡ record inside { counts = written_more p.counts } =
    ap (λ (n : ℕ). record inside { counts = record p.counts { writes = n } }) more in
    let rest = counted ∙ ap (λ (x : Store). record x { counts = written_more x.counts }) c.self-2.view_is in
    elim c.if-not-put.branch [
      | then-not-put+in_ok-rewrite w ↦
          let same : c.put.new.self ≡ l = c.put.ensures.unchanged (search rules) in
          let split : 64 * (c.args.line.0 / 64) + c.args.line.0 % 64 ≡ c.args.line.0 = omega arith in
          let lines = own.line_with l.lines (c.args.line.0 / 64) (c.args.line.0 % 64) bytes (omega arith) in
          let places : Places l (c.args.line.0 / 64) (set l.lines (64 * (c.args.line.0 / 64) + c.args.line.0 % 64) bytes) w.rewrite.new.self =
          subst (λ (ls : List (List ℕ)). Places l (c.args.line.0 / 64) ls w.rewrite.new.self) lines
          (subst (λ (x : Store). Places x (c.args.line.0 / 64) (with_change x.lines (c.args.line.0 / 64) (OneLine (c.args.line.0 % 64) bytes)) w.rewrite.new.self) same w.in_ok-rewrite.ensures) in
          let outline = subst (λ (n : ℕ). Outline l (c.args.line.0 / 64) (set l.lines n bytes) l.counts.reads l.counts.writes w.rewrite.new.self) split places.outline in
          granted s l c.args.line.0 bytes w.rewrite.new.self _ c.look.ensures (inr (inr (c.put.ensures.full (search rules), places.goes))) outline
          (rest ∙ ap (λ (x : Store). record x { counts = written_more x.counts }) w.self-is)
      | else-not-put w ↦
          let puts = c.put.ensures.puts (search rules) in
          let outline = outline_put l (c.args.line.0 / 64) (c.args.line.0 % 64) bytes (set l.lines c.args.line.0 bytes) c.put.new.self puts (c.put.ensures.lines (search rules)) in
          granted s l c.args.line.0 bytes c.put.new.self _ c.look.ensures (elim puts [ inl a ↦ inl a | inr b ↦ inr (inl b) ]) outline
          (rest ∙ ap (λ (x : Store). record x { counts = written_more x.counts }) w.self-is)
    ]
