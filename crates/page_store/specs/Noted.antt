-- The metadata cache after the bytes of a page have changed.
use Rattle.std.specs.Prelude.{ℕ, List, take}
use Rattle.meta_cache.specs.Entries.{with_copy, forgotten}
use Rattle.page_slots.specs.declared.desc.Shape.{Shape}
use Rattle.page_slots.specs.declared.desc.Shape.TheVariants.{Slotted}
use Rattle.recency.specs.Kept.{Kept}

-- the entries after a page became these bytes: its entry, if it has one, is renewed in its place, or leaves where the page
-- has no metadata
abbrev pub noted : Kept → ℕ → Shape → List ℕ → Kept
noted meta page (Slotted slots) bytes = with_copy meta page (take 64 bytes)
noted meta page shape bytes = forgotten meta page
