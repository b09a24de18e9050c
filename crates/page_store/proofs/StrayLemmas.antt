-- The pages that may be off their plan.
use Rattle.std.proofs.Common.{[], ◌≡◌, ◌≢◌, ◌<◌, ◌≤◌, ◌+◌, ◌*◌, ◌∙◌, ℕ, Bool, true, false, Some, List, cond, get_or-set_same, length, refl, replicate, set, slice_get, sym, ap, subst, inl, inr, arith}
use Rattle.std.proofs.lemmas.Bool.{cases_eq, ne_eqb, eq-eqb}
use Rattle.std.proofs.lemmas.List.{get_or-replicate, length-replicate, length-set}
use Rattle.std.proofs.lemmas.Option.{get_or_from_slice_get, slice_get-get_or, slice_get_within}
use Rattle.hier_types.specs.Lines.{zero_line}
use Rattle.hier_types.specs.declared.counts.PageCounts.{PageCounts}
use Rattle.hier_types.specs.declared.settings.Codec.{Codec}
use Rattle.number_set.specs.Numbers.{Puts, bit_of, has}
use Rattle.page_plan.specs.PagePlan.{plan_of}
use Rattle.page_plan.specs.Pages.{page_of, with_page}
use Rattle.page_plan.specs.declared.least.PagePlan.{PagePlan}
use Rattle.page_plan.specs.declared.least.PagePlan.TheVariants as plan
use Rattle.page_plan.proofs.PageLemmas.{page_of-with_other}
use Rattle.page_plan.proofs.PlanLemmas.{only_plan}
use Rattle.page_slots.specs.declared.desc.Desc.{Desc}
use Rattle.page_slots.specs.declared.desc.Desc.TheVariants as descs
use Rattle.page_store.specs.Lays.{Lays, plan_at}
use Rattle.page_store.specs.PageBlocks.{IsAtPlan}
use Rattle.page_store.specs.Store.{AreStrays, IsSound, Store, desc_at, store_in}
use Rattle.page_store.proofs.FreshLemmas.{fresh_seen, start}
use Rattle.page_store.proofs.ListLemmas.{get-set_other}
use Rattle.page_store.proofs.PagesLemmas.{line_with}
use Rattle.page_store.proofs.RoomLemmas.{length-page_of}
use Rattle.page_store.proofs.StoreLemmas.{zero_page}
use Rattle.recency.specs.Kept.{Kept}

-- Whatever the strays of a fresh store are, each of its pages is at its plan.
module _ (codec : Codec) (memory : List ℕ) (pages : ℕ) (used : List ℕ) (ways : ℕ) (counts : PageCounts) (strays : List ℕ) where
  zeros_at_plan : IsAtPlan (plan_of codec (replicate 64 zero_line)) descs.Zero
  zeros_at_plan =
      let zeros : plan.Zero ≡ plan_of codec (replicate 64 zero_line) = only_plan codec (replicate 64 zero_line) plan.Zero
      (λ k d lt. get_or-replicate 64 k zero_line d (omega (arith, length-replicate 64 zero_line))) in
      subst (λ (p : PagePlan). IsAtPlan p descs.Zero) zeros tt

  start_strays : AreStrays (start codec memory pages used ways counts) strays
  start_strays page desc there lacks =
      let within : page < pages = omega (arith, slice_get_within (replicate pages descs.Zero) page desc there, length-replicate pages descs.Zero) in
      let is : descs.Zero ≡ desc = sym (get_or-replicate pages page descs.Zero descs.Zero within) ∙ get_or_from_slice_get (replicate pages descs.Zero) page desc descs.Zero there in
      subst (IsAtPlan (plan_of codec (page_of (replicate (64 * pages) zero_line) page))) is
      (subst (λ (ls : List (List ℕ)). IsAtPlan (plan_of codec ls) descs.Zero) (sym (zero_page pages page within)) zeros_at_plan)

  pub strays_fresh : AreStrays (store_in codec memory (replicate pages descs.Zero) used (record { ways = ways; lines = [] }) counts 0 0) strays
  strays_fresh = subst (λ (t : Store). AreStrays t strays) (sym (fresh_seen codec memory pages used ways counts)) start_strays

-- a page that is no stray is at its plan
pub no_stray : (s : Store) (strays : List ℕ) (page : ℕ) → AreStrays s strays → page < length s.descriptors → has strays page ≡ 0 → IsAtPlan (plan_at s page) (desc_at s.descriptors page)
no_stray s strays page are within lacks = are page (desc_at s.descriptors page) (slice_get-get_or s.descriptors page descs.Zero within) lacks

-- One page was put among the strays or taken out, and no other page changed.
strays_but : (s t : Store) (strays strays' : List ℕ) (page : ℕ) (on : Bool) → length t.descriptors ≤ 65536 → AreStrays s strays → Puts strays page on strays' → t.codec ≡ s.codec
    → ((q : ℕ) → q ≢ page → page_of t.lines q ≡ page_of s.lines q) → ((q : ℕ) → q ≢ page → slice_get t.descriptors q ≡ slice_get s.descriptors q)
    → ((desc : Desc) → slice_get t.descriptors page ≡ Some desc → bit_of on ≡ 0 → IsAtPlan (plan_at t page) desc) → AreStrays t strays'
strays_but s t strays strays' page on most are puts codec lines descriptors own q desc there lacks =
    let within : q < 65536 = omega (arith, slice_get_within t.descriptors q desc there) in
    elim (cases_eq q page) [
      | inl same ↦
          let off : bit_of on ≡ 0 = sym (puts q within ∙ ap (λ (test : Bool). cond test (bit_of on) (has strays q)) (eq-eqb q page same)) ∙ lacks in
          subst (λ (k : ℕ). IsAtPlan (plan_at t k) desc) (sym same) (own desc (subst (λ (k : ℕ). slice_get t.descriptors k ≡ Some desc) same there) off)
      | inr ne ↦
          let before : has strays q ≡ 0 = sym (puts q within ∙ ap (λ (test : Bool). cond test (bit_of on) (has strays q)) (ne_eqb q page ne)) ∙ lacks in
          let plans : plan_at s q ≡ plan_at t q = ap (λ (k : Codec). plan_of k (page_of s.lines q)) (sym codec) ∙ ap (plan_of t.codec) (sym (lines q ne)) in
          subst (λ (p : PagePlan). IsAtPlan p desc) plans (are q desc (sym (descriptors q ne) ∙ there) before)
    ]

-- a line was put into its page, which is a stray now
pub strays_put : (s t : Store) (strays strays' : List ℕ) (page line : ℕ) (from : List ℕ) (bytes : List (List ℕ)) (meta : Kept) → IsSound s → page < length s.descriptors → line < 64
    → AreStrays s strays → Puts strays page true strays' → t ≡ record s { lines = set s.lines (64 * page + line) from; bytes = bytes; meta = meta } → AreStrays t strays'
strays_put s t strays strays' page line from bytes meta sound within line_in are puts is =
    let room : 64 * page + 64 ≤ length s.lines = omega (arith, sound.whole) in
    let whole : length (set (page_of s.lines page) line from) ≡ 64 = length-set (page_of s.lines page) line from ∙ length-page_of s.lines page room in
    let after : Store = record s { lines = set s.lines (64 * page + line) from; bytes = bytes; meta = meta } in
    let others : (q : ℕ) → q ≢ page → page_of after.lines q ≡ page_of s.lines q = λ q ne.
    ap (λ (ls : List (List ℕ)). page_of ls q) (sym (line_with s.lines page line from line_in)) ∙ page_of-with_other s.lines page (set (page_of s.lines page) line from) room whole q ne in
    subst (λ (x : Store). AreStrays x strays') (sym is)
    (strays_but s after strays strays' page true sound.most are puts refl others (λ q ne. refl) (λ desc there off. absurd (omega (arith, off))))

-- a page was laid anew at its plan, and is no stray now
pub strays_laid : (s t : Store) (strays strays' : List ℕ) (page : ℕ) (lines : List (List ℕ)) → IsSound s → page < length s.descriptors → length lines ≡ 64
    → AreStrays s strays → Puts strays page false strays' → Lays s page (with_page s.lines page lines) t → AreStrays t strays'
strays_laid s t strays strays' page lines sound within whole are puts lays =
    let room : 64 * page + 64 ≤ length s.lines = omega (arith, sound.whole) in
    let codec : t.codec ≡ s.codec = ap (λ (x : Store). x.codec) lays.is in
    let lines_are : t.lines ≡ with_page s.lines page lines = ap (λ (x : Store). x.lines) lays.is in
    let pages : length t.descriptors ≡ length s.descriptors = ap length lays.comes.descriptors_are ∙ length-set s.descriptors page lays.comes.desc in
    let plans : plan_of s.codec (page_of (with_page s.lines page lines) page) ≡ plan_at t page =
    ap (λ (k : Codec). plan_of k (page_of (with_page s.lines page lines) page)) (sym codec) ∙ ap (λ (ls : List (List ℕ)). plan_of t.codec (page_of ls page)) (sym lines_are) in
    strays_but s t strays strays' page false (omega (arith, pages, sound.most)) are puts codec
    (λ q ne. ap (λ (ls : List (List ℕ)). page_of ls q) lines_are ∙ page_of-with_other s.lines page lines room whole q ne)
    (λ q ne. ap (λ (xs : List Desc). slice_get xs q) lays.comes.descriptors_are ∙ get-set_other s.descriptors page q lays.comes.desc ne)
    (λ desc there off.
    let is : lays.comes.desc ≡ desc =
    sym (ap (λ (xs : List Desc). desc_at xs page) lays.comes.descriptors_are ∙ get_or-set_same s.descriptors page lays.comes.desc descs.Zero within)
    ∙ get_or_from_slice_get t.descriptors page desc descs.Zero there in
    subst (IsAtPlan (plan_at t page)) is (subst (λ (p : PagePlan). IsAtPlan p lays.comes.desc) plans lays.comes.at_plan))

-- a page was found at its plan, and is no stray now
pub strays_found : (s : Store) (strays strays' : List ℕ) (page : ℕ) → IsSound s → AreStrays s strays → Puts strays page false strays'
    → IsAtPlan (plan_at s page) (desc_at s.descriptors page) → AreStrays s strays'
strays_found s strays strays' page sound are puts at =
    strays_but s s strays strays' page false sound.most are puts refl (λ q ne. refl) (λ q ne. refl)
    (λ desc there off. subst (IsAtPlan (plan_at s page)) (get_or_from_slice_get s.descriptors page desc descs.Zero there) at)
