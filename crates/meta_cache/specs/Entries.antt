-- What a look, a new chunk and a removal do to the entries of pages.
use Rattle.std.specs.Prelude.{◌≡◌, ◌<◌, ◌≤◌, ℕ, false, List, [], ◌∷◌, None, length}
use Rattle.recency.specs.declared.entry.Entry.{Entry}
use Rattle.recency.specs.Kept.{Kept, with_lines, clean_entry, entry_of, without, put_in, renewed}

-- the page's entry comes to the front with this chunk, in place of its old one, and the least recent leaves where there is no room
abbrev pub looked : Kept → ℕ → List ℕ → Kept
looked kept page chunk = with_lines kept (put_in (with_lines kept (without kept.lines page)) (clean_entry page chunk))

-- the page's entry, where there is one, has this chunk and stays in its place
abbrev pub with_copy : Kept → ℕ → List ℕ → Kept
with_copy kept page chunk = with_lines kept (renewed kept.lines page chunk)

-- the page's entry leaves
abbrev pub forgotten : Kept → ℕ → Kept
forgotten kept page = with_lines kept (without kept.lines page)

-- no page has two entries
abbrev pub AreDistinct : List Entry → Type 0
AreDistinct [] = Unit {0}
AreDistinct (e ∷ es) = (entry_of es e.line ≡ None) × AreDistinct es

-- no entry is marked as changed
abbrev pub AreClean : List Entry → Type 0
AreClean [] = Unit {0}
AreClean (e ∷ es) = (e.dirty ≡ false) × AreClean es

-- There is room for one entry at least, and no more entries than there is room for; no page has two, and none is marked.
pub record IsCache (kept : Kept) : Type 0 where
  pub some : 0 < kept.ways
  pub within : length kept.lines ≤ kept.ways
  pub distinct : AreDistinct kept.lines
  pub clean : AreClean kept.lines
