-- The image, placed into a memory of pages.
use Rattle.std.specs.Prelude.{◌≡◌, ◌≢◌, ◌≤◌, ◌⊎◌, ℕ, zero, suc, List, Some, Ok, Err, IfErr, OnOk, length, replicate}
use Rattle.hier_types.specs.Calls.{Answer}
use Rattle.hier_types.specs.declared.faults.NoSpace.{NoSpace}
use Rattle.elf_image.specs.Image.{Loaded, page_of}
use Rattle.page_plan.specs.PagePlan.{plan_of}
use Rattle.page_plan.specs.Pages.{lines_of_page}
use Rattle.page_plan.specs.Sizes.{order_of}
use Rattle.page_store.specs.Calls.{PlacesPage}
use Rattle.page_store.specs.Crowds.{Tight}
use Rattle.page_store.specs.Store.{Sizing, Store, fresh, sizing_of}
use Rattle.hier_machine.specs.declared.ends.OpenFault.{OpenFault}
use Rattle.hier_machine.specs.declared.ends.OpenFault.TheVariants.{NoMemory, NoRoom}
use Rattle.hier_machine.specs.Lines.{lines_before}

abbrev pub zero_page : List ℕ
zero_page = replicate 4096 0

-- a page of these bytes is placed, where it is not zero
abbrev pub PlacesBytes : ℕ → List ℕ → Store → Store → Type 0
PlacesBytes page bytes s t = ((bytes ≡ zero_page) × (t ≡ s)) ⊎ ((bytes ≢ zero_page) × PlacesPage s page bytes (Ok tt) t)

-- the pages before one were placed, one after another, in a store that was fresh
abbrev pub PlacedUpTo : Loaded → Sizing → ℕ → Store → Type 0
PlacedUpTo image sizing zero s = s ≡ fresh sizing image.span.pages
PlacedUpTo image sizing (suc page) s = (mid : Store) × PlacedUpTo image sizing page mid × PlacesBytes page (page_of image.span image.file page) mid s

-- A page found no room when those before it were placed. The refusal has the order of the page's plan in the image, and the
-- image in the pages before it, and zeros elsewhere, are tight for it and that order.
pub record NoRoomFor (image : Loaded) (sizing : Sizing) (refusal : NoSpace) : Type 0 where
  pub mid : Store
  pub placed : PlacedUpTo image sizing refusal.page.0 mid
  pub after : Store
  pub refused : PlacesPage mid refusal.page.0 (page_of image.span image.file refusal.page.0) (Err refusal) after
  pub order : order_of (plan_of sizing.codec (lines_of_page (page_of image.span image.file refusal.page.0))) ≡ Some refusal.order
  pub tight : Tight sizing (lines_before image refusal.page.0) refusal.page.0 refusal.order

-- A store in which no page of the image is placed yet.
pub record AwaitsImage (image : Loaded) (pages : ℕ) (s : Store) : Type 0 where
  pub same : image.span.pages ≡ pages
  pub few : pages ≤ 65536
  pub empty : s ≡ fresh (sizing_of s) pages

-- All pages of the image were placed, or one found no room. The lines are as many as before.
pub record PlacesImage (image : Loaded) (pages : ℕ) (s : Store) (result : Answer) (t : Store) : Type 0 where
  pub ok : OnOk result (PlacedUpTo image (sizing_of s) pages t)
  pub err : IfErr result (NoRoomFor image (sizing_of s))
  pub size : length t.lines ≡ length s.lines

-- why no machine was opened; want of memory has no further cause
abbrev pub IsOpenFault : Loaded → Sizing → OpenFault → Type 0
IsOpenFault image sizing NoMemory = Unit {0}
IsOpenFault image sizing (NoRoom refusal) = NoRoomFor image sizing refusal
