-- What a load puts over a page, byte by byte.
use Rattle.std.proofs.Common.{◌≡◌, ◌∙◌, ◌+◌, ◌-◌, ◌<◌, ◌≤◌, ◌++◌, ◌&&◌, ℕ, max, min, List, [], ◌∷◌, length, get_or, take, drop, nat_le, nat_lt, true, false, Bool, cond, find, option_map, Option, Some, None, unwrap_or, ap, arith, length-drop, refl}
use Rattle.std.specs.Option.{option_or}
use Rattle.std.proofs.lemmas.List.{get_or-take, get_or-drop, length-take-le}
use Rattle.std.proofs.lemmas.List.Folds.{find-append}
use Rattle.elf_image.specs.Image.{byte_of, covers, loaded_byte}
use Rattle.elf_image.specs.Pages.{PutsAt, byte_over}
use Rattle.elf_image.specs.declared.headers.Header.{Header}

-- a byte of a part of the file
taken : (file : List ℕ) (from count i place : ℕ) → i < count → from + i ≡ place → get_or (take count (drop from file)) i 0 ≡ get_or file place 0
taken file from count i place inside same = get_or-take count (drop from file) i 0 inside ∙ get_or-drop from file i 0 ∙ ap (λ p. get_or file p 0) same

-- what is put from the load's byte at `from` up to `to` is what the load covers of the page
same_test : (start size first from to k : ℕ) → from ≡ max start first → to ≡ min (start + size) (first + 4096) → from < to → k < 4096
    → (nat_le (from - first) k && nat_lt k (from - first + (to - from))) ≡ (nat_le start (first + k) && nat_lt (first + k) (start + size))
same_test start size first from to k f t some page = grind arith

covered : (start size at : ℕ) → (nat_le start at && nat_lt at (start + size)) ≡ true → (start ≤ at) × (at < start + size)
covered start size at e = (grind arith, grind arith)

chosen : (b : Bool) (x y z : ℕ) → (b ≡ true → x ≡ z) → cond b x y ≡ cond b z y
chosen true x y z h = h refl
chosen false x y z h = refl

-- the bytes of the load that the page has were put over it
pub load_byte : (load : Header) (file old new : List ℕ) (at from to place count k : ℕ) → from ≡ max load.start at → to ≡ min (load.start + load.file_size) (at + 4096) → from < to
    → place ≡ load.offset + (from - load.start) → count ≡ to - from → place + count ≤ length file → length old ≡ 4096
    → PutsAt (from - at) (take count (drop place file)) old new → k < 4096 → get_or new k 0 ≡ byte_over file load (get_or old k 0) (at + k)
load_byte load file old new at from to place count k f t some o n fits len put page =
    let part = take count (drop place file) in
    let long : length part ≡ to - from = length-take-le count (drop place file) (omega (arith, length-drop place file)) ∙ n in
    let here : Bool = covers (at + k) load in
    let test : (nat_le (from - at) k && nat_lt k (from - at + length part)) ≡ here =
    ap (λ m. nat_le (from - at) k && nat_lt k (from - at + m)) long ∙ same_test load.start load.file_size at from to k f t some page in
    let same : here ≡ true → get_or part (k - (from - at)) 0 ≡ byte_of file (at + k) load =
    λ e. let inside = covered load.start load.file_size (at + k) e in taken file place count (k - (from - at)) (load.offset + (at + k - load.start)) (omega arith) (omega arith) in
    put.each k (omega arith) ∙ ap (λ b. cond b (get_or part (k - (from - at)) 0) (get_or old k 0)) test
    ∙ chosen here (get_or part (k - (from - at)) 0) (get_or old k 0) (byte_of file (at + k) load) same

by_found : (file : List ℕ) (at : ℕ) (load : Header) (found : Option Header) (b : Bool) → (b ≡ true → found ≡ None)
    → unwrap_or (option_map (byte_of file at) (option_or found (cond b (Some load) None))) 0 ≡ cond b (byte_of file at load) (unwrap_or (option_map (byte_of file at) found) 0)
by_found file at load None true alone = refl
by_found file at load None false alone = refl
by_found file at load (Some other) true alone = let e = alone refl in cc
by_found file at load (Some other) false alone = refl

-- one load more
pub loaded_byte-more : (file : List ℕ) (loads : List Header) (load : Header) (at : ℕ) → (covers at load ≡ true → find (covers at) loads ≡ None)
    → loaded_byte file (loads ++ load ∷ []) at ≡ byte_over file load (loaded_byte file loads at) at
unfolding loaded_byte
loaded_byte-more file loads load at alone =
    ap (λ found. unwrap_or (option_map (byte_of file at) found) 0) (find-append (covers at) loads (load ∷ []))
    ∙ by_found file at load (find (covers at) loads) (covers at load) alone

pub loaded_byte-none : (file : List ℕ) (at : ℕ) → loaded_byte file [] at ≡ 0
unfolding loaded_byte
loaded_byte-none file at = refl
