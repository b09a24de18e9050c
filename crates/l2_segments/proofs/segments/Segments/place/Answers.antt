use Rattle.std.proofs.Common.{◌≡◌, ◌+◌, ◌*◌, ◌≤◌, ◌<◌, List, ℕ, [], ◌∷◌, ◌++◌, length, sym, ap, ◌∙◌, subst, arith}
use Rattle.std.specs.Vec.{with_items}
use Rattle.std.proofs.lemmas.List.{with_items_is}
use Rattle.arrayvec.proofs.ArrayVecLemmas.{items-with_items}
use Rattle.l2_segments.specs.declared.held.Held.{Held}
use Rattle.l2_segments.specs.Strings.{segments_of, string_of, with_texts, with_one_more}
use Rattle.l2_segments.specs.Held.{texts_of, IsStored}
use Rattle.l2_segments.proofs.TextLemmas.{string_of-one_more, string_of-one_more_other}
use Rattle.l2_segments.proofs.StoredLemmas.{few_places, stored_placed, segments_sum-texts}
use Rattle.l2_segments.proofs.segments.Segments.place.Goals as goal

pub start_for-start-requires-clause-room : goal.start_for-start-requires-clause-room
start_for-start-requires-clause-room c =
    let sum = segments_sum-texts 0 (length c.self.inside.store.items) c.self.inside.store.items c.self.inside.held.items c.self.invariant.laid (omega arith) in
    let room = rw (← c.self.view_is) at c.room.ensures.room in
    rw (c.deref_mut.ensures.value, c.deref_mut-2.ensures.value) (omega (arith, c.self.invariant.size, c.if-segments-room.false))

pub push-requires : goal.push-requires
push-requires c =
    let few : length c.self.inside.held.items < 32 =
    few_places c.self.invariant c.args.tag (rw (← c.self.view_is) at c.requires.tag) (rw (← c.self.view_is) at c.requires.unused) in
    let same : length c.start_for-start.new.held ≡ length c.self.inside.held.items = c.start_for-start.auto.held ∙ ap length c.deref_mut-2.ensures.value in
    (omega arith, rw (items-with_items c.self.inside.held c.start_for-start.new.held same) (omega arith))

-- the place of the new string
abbrev place_of : goal.After-push → Held
place_of c = record { tag = c.args.tag; start = c.start_for-start.result; len = length c.args.bytes.now }

new_items : (c : goal.After-push) → c.push.new.self.items ≡ c.start_for-start.new.held ++ place_of c ∷ []
new_items c =
    c.push.ensures.items
    ∙ ap (λ hs. hs ++ place_of c ∷ [])
    (items-with_items c.self.inside.held c.start_for-start.new.held (c.start_for-start.auto.held ∙ ap length c.deref_mut-2.ensures.value))

new_store : (c : goal.After-push) → (with_items (with_items c.self.inside.store c.start_for-start.new.store) c.write_part.new.store).items ≡ c.write_part.new.store
new_store c = with_items_is (with_items c.self.inside.store c.start_for-start.new.store) c.write_part.new.store (c.write_part.auto.store ∙ c.deref_mut-3.ensures.len)

-- what was slid together, before the string is written
slid_store : (c : goal.After-push) → c.deref_mut-3.result.now ≡ c.start_for-start.new.store
slid_store c = c.deref_mut-3.ensures.value ∙ with_items_is c.self.inside.store c.start_for-start.new.store (c.start_for-start.auto.store ∙ c.deref_mut.ensures.len)

placed : (c : goal.After-push)
    → IsStored c.self.inside.ways c.write_part.new.store (c.start_for-start.new.held ++ place_of c ∷ [])
    × (texts_of c.write_part.new.store (c.start_for-start.new.held ++ place_of c ∷ [])
    ≡ with_one_more (texts_of c.self.inside.store.items c.self.inside.held.items) c.args.tag c.args.bytes.now)
placed c =
    let first : c.first_byte.result ≡ 8 * c.start_for-start.result = c.first_byte.ensures in
    let count : c.segments_of-segments.result ≡ segments_of (length c.args.bytes.now) = c.segments_of-segments.ensures in
    let room : 8 * (c.start_for-start.result + segments_of (length c.args.bytes.now)) ≤ length c.self.inside.store.items =
    omega (arith, c.start_for-start.ensures.room, ap length c.deref_mut.ensures.value) in
    stored_placed c.self.invariant c.start_for-start.new.store c.write_part.new.store c.start_for-start.new.held c.start_for-start.result c.args.tag c.args.bytes.now
    (rw (c.deref_mut.ensures.value, c.deref_mut-2.ensures.value) at c.start_for-start.ensures.texts)
    c.start_for-start.ensures.behind room
    (c.start_for-start.auto.store ∙ ap length c.deref_mut.ensures.value)
    (rw (first, slid_store c) at c.write_part.ensures.changes)
    (rw first at c.write_part.ensures.there)
    (rw (← c.self.view_is) at c.requires.tag) (rw (← c.self.view_is) at c.requires.unused) c.requires.some c.requires.most

pub invariant_of-self : goal.invariant_of-self
invariant_of-self c =
    rw (new_items c)
    (subst (λ (l : List ℕ). IsStored c.self.inside.ways l (c.start_for-start.new.held ++ place_of c ∷ [])) (sym (new_store c)) (placed c).0)

all_texts : (c : goal.After-push)
    → texts_of (with_items (with_items c.self.inside.store c.start_for-start.new.store) c.write_part.new.store).items c.push.new.self.items
    ≡ with_one_more (texts_of c.self.inside.store.items c.self.inside.held.items) c.args.tag c.args.bytes.now
all_texts c = ap (λ (l : List ℕ). texts_of l c.push.new.self.items) (new_store c) ∙ ap (texts_of c.write_part.new.store) (new_items c) ∙ (placed c).1

pub returns-clause-placed : goal.returns-clause-placed
returns-clause-placed c = λ _.
    rw (← c.self.view_is) (ap (λ ts. with_texts (record { ways = c.self.inside.ways; texts = [] }) ts) (all_texts c))

pub returns-clause-there : goal.returns-clause-there
returns-clause-there c = λ _.
    ap (λ ts. string_of ts c.args.tag) (all_texts c)
    ∙ string_of-one_more (texts_of c.self.inside.store.items c.self.inside.held.items) c.args.tag c.args.bytes.now (rw (← c.self.view_is) at c.requires.unused)

pub returns-clause-others : goal.returns-clause-others
returns-clause-others c = λ other ne.
    rw (← c.self.view_is) (ap (λ ts. string_of ts other) (all_texts c)
    ∙ string_of-one_more_other (texts_of c.self.inside.store.items c.self.inside.held.items) c.args.tag c.args.bytes.now other ne)
