-- What levels above see of the calls.
use Rattle.std.proofs.Common.{◌≡◌, ◌∙◌, ℕ, Bool, true, false, List, length, slice_get, refl, sym, ap, subst, inl, inr, arith, ◌⊎◌}
use Rattle.std.specs.Prelude.{is_some}
use Rattle.hier_types.specs.Causes.{raised}
use Rattle.hier_types.specs.declared.counts.PageCounts.{PageCounts}
use Rattle.hier_types.specs.declared.faults.NoSpace.{NoSpace}
use Rattle.page_slots.specs.declared.desc.Desc.{Desc}
use Rattle.page_slots.specs.declared.desc.Shape.{Shape}
use Rattle.page_slots.specs.declared.desc.Shape.TheVariants.{Zero, Raw, Slotted}
use Rattle.page_store.specs.Calls.{Outline, PutsIn, Refused, StaysZero, looked_by, looked_more, looked_up, read_more, written_more}
use Rattle.page_store.specs.Crowds.{MayRefuse}
use Rattle.page_store.specs.PageBlocks.{Outgrows, block_at}
use Rattle.page_store.specs.Store.{Sizing, Store, shape_at, sizing_of}
use Rattle.page_store.proofs.StoreLemmas.{noted_ways}
use Rattle.recency.specs.Kept.{entry_of}

-- nothing but the entries of the metadata cache and its counts is other
pub record IsLike (s l : Store) : Type 0 where
  pub codec_is : l.codec ≡ s.codec
  pub lines_are : l.lines ≡ s.lines
  pub descs_are : l.descriptors ≡ s.descriptors
  pub used_is : l.used ≡ s.used
  pub ways_stay : l.meta.ways ≡ s.meta.ways
  pub reads_are : l.counts.reads ≡ s.counts.reads
  pub writes_are : l.counts.writes ≡ s.counts.writes
  pub turns_are : l.counts.mover_turns ≡ s.counts.mover_turns
  pub stops_are : l.stops ≡ s.stops

more_like : (found : Bool) (counts : PageCounts) → ((looked_more found counts).reads ≡ counts.reads) × ((looked_more found counts).writes ≡ counts.writes) × ((looked_more found counts).mover_turns ≡ counts.mover_turns)
more_like true counts = (refl, refl, refl)
more_like false counts = (refl, refl, refl)

like_by : (shape : Shape) (s : Store) (page : ℕ) → IsLike s (looked_by shape s page)
like_by Zero s page = record { codec_is = refl; lines_are = refl; descs_are = refl; used_is = refl; ways_stay = refl; reads_are = refl; writes_are = refl; turns_are = refl; stops_are = refl }
like_by Raw s page = record { codec_is = refl; lines_are = refl; descs_are = refl; used_is = refl; ways_stay = refl; reads_are = refl; writes_are = refl; turns_are = refl; stops_are = refl }
like_by (Slotted slots) s page =
    let counts = more_like (is_some (entry_of s.meta.lines page)) s.counts in
    record { codec_is = refl; lines_are = refl; descs_are = refl; used_is = refl; ways_stay = refl; reads_are = counts.0; writes_are = counts.1; turns_are = counts.2; stops_are = refl }

pub looked_like : (s : Store) (page : ℕ) → IsLike s (looked_up s page)
looked_like s page = like_by (shape_at s page) s page

-- a call after the page was looked up
pub outline_like : (s l : Store) (page : ℕ) (lines : List (List ℕ)) (reads writes : ℕ) (t : Store) → IsLike s l → Outline l page lines reads writes t → Outline s page lines reads writes t
outline_like s l page lines reads writes t like outline = record {
  lines_are = outline.lines_are;
  reads_are = outline.reads_are;
  writes_are = outline.writes_are;
  turns_stay = outline.turns_stay ∙ like.turns_are;
  sizing_is = outline.sizing_is ∙ (let sizing : sizing_of l ≡ sizing_of s = rw (like.codec_is, like.used_is, like.ways_stay) refl in sizing);
  pages_stay = outline.pages_stay ∙ ap length like.descs_are;
  zeros_stay = λ other ne is_zero. outline.zeros_stay other ne (ap (λ (ds : List Desc). slice_get ds other) like.descs_are ∙ is_zero);
}

-- a line was read
pub outline_read : (s l : Store) (page : ℕ) (t : Store) → IsLike s l → t ≡ record l { counts = read_more l.counts } → Outline s page s.lines (raised s.counts.reads) s.counts.writes t
outline_read s l page t like is =
    let sizing : sizing_of l ≡ sizing_of s = rw (like.codec_is, like.used_is, like.ways_stay) refl in
    rw is (record {
      lines_are = like.lines_are;
      reads_are = ap raised like.reads_are;
      writes_are = like.writes_are;
      turns_stay = like.turns_are;
      sizing_is = sizing;
      pages_stay = ap length like.descs_are;
      zeros_stay = λ other ne is_zero. ap (λ (ds : List Desc). slice_get ds other) like.descs_are ∙ is_zero;
    })

-- one more line was written
pub outline_written : (s : Store) (page : ℕ) (lines : List (List ℕ)) (reads writes : ℕ) (after t : Store) → Outline s page lines reads writes after → t ≡ record after { counts = written_more after.counts }
    → Outline s page lines reads (raised writes) t
outline_written s page lines reads writes after t outline is = rw is (record {
  lines_are = outline.lines_are;
  reads_are = outline.reads_are;
  writes_are = ap raised outline.writes_are;
  turns_stay = outline.turns_stay;
  sizing_is = outline.sizing_is;
  pages_stay = outline.pages_stay;
  zeros_stay = outline.zeros_stay;
})

-- a line was put where it belongs
pub outline_put : (s : Store) (page i : ℕ) (bytes : List ℕ) (lines : List (List ℕ)) (t : Store) → (StaysZero s page bytes t ⊎ PutsIn s page i bytes t) → t.lines ≡ lines
    → Outline s page lines s.counts.reads s.counts.writes t
outline_put s page i bytes lines t (inl stays) is =
    subst (λ (x : Store). Outline s page lines s.counts.reads s.counts.writes x) (sym stays.stays) (record {
      lines_are = ap (λ (x : Store). x.lines) (sym stays.stays) ∙ is;
      reads_are = refl;
      writes_are = refl;
      turns_stay = refl;
      sizing_is = refl;
      pages_stay = refl;
      zeros_stay = λ other ne is_zero. is_zero;
    })
outline_put s page i bytes lines t (inr puts) is = record {
  lines_are = is;
  reads_are = ap (λ (x : Store). x.counts.reads) puts.is;
  writes_are = ap (λ (x : Store). x.counts.writes) puts.is;
  turns_stay = ap (λ (x : Store). x.counts.mover_turns) puts.is;
  sizing_is =
      let codec : t.codec ≡ s.codec = ap (λ (x : Store). x.codec) puts.is in
      let frames : length t.used ≡ length s.used = ap (λ (x : Store). length x.used) puts.is in
      let ways : t.meta.ways ≡ s.meta.ways = ap (λ (x : Store). x.meta.ways) puts.is ∙ noted_ways s.meta page (shape_at s page) puts.own in
      rw (codec, frames, ways) refl;
  pages_stay = ap (λ (x : Store). length x.descriptors) puts.is;
  zeros_stay = λ other ne is_zero. ap (λ (x : Store). slice_get x.descriptors other) puts.is ∙ is_zero;
}

-- a refusal after the page was looked up
pub refused_like : (s l : Store) (page : ℕ) (lines : List (List ℕ)) (Why : Type 0) (refusal : NoSpace) (t : Store) → IsLike s l → Refused l l page lines (Unit {0}) refusal t → Why
    → Refused s l page lines Why refusal t
refused_like s l page lines Why refusal t like refused why =
    let sizing : sizing_of l ≡ sizing_of s = rw (like.codec_is, like.used_is, like.ways_stay) refl in
    record {
      outline = subst (λ (n : ℕ). Outline s page s.lines s.counts.reads n t) like.writes_are (subst (λ (n : ℕ). Outline s page s.lines n l.counts.writes t) like.reads_are
          (subst (λ (ls : List (List ℕ)). Outline s page ls l.counts.reads l.counts.writes t) like.lines_are (outline_like s l page l.lines l.counts.reads l.counts.writes t like refused.outline)));
      cause = subst (λ (k : Sizing). MayRefuse k s.lines lines page refusal) sizing (subst (λ (ls : List (List ℕ)). MayRefuse (sizing_of l) ls lines page refusal) like.lines_are refused.cause);
      outgrown = subst (λ (ds : List Desc). Outgrows (block_at ds page) refusal.order) like.descs_are refused.outgrown;
      crowded = refused.crowded;
      few = omega (arith, refused.few, ap length like.used_is, ap length like.descs_are);
      why = why;
      inside = refused.inside;
    }
