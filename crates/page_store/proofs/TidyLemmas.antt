-- Pages that are brought to their plans.
use Rattle.std.proofs.Common.{◌≡◌, ◌≢◌, ◌<◌, ◌≤◌, ◌+◌, ◌*◌, ◌/◌, ◌%◌, ◌∙◌, ◌==◌, ℕ, Bool, zero, suc, true, false, true≢false, Some, Result, Ok, Err, List, length, slice_get, refl, sym, ap, subst, inl, inr, arith, add-one}
use Rattle.std.specs.Bool.{MatchBool}
use Rattle.std.specs.Prelude.{IfErr, OnErr, OnOk, is_ok}
use Rattle.std.proofs.lemmas.Bool.{cases_eq}
use Rattle.std.proofs.lemmas.Bool.Decides.{nat_tests}
use Rattle.std.proofs.lemmas.List.{get_or-set_other, length-set}
use Rattle.std.proofs.lemmas.Option.{slice_get_within, get_or_from_slice_get}
use Rattle.hier_types.specs.declared.settings.Codec.{Codec}
use Rattle.page_plan.specs.declared.least.PagePlan.{PagePlan}
use Rattle.page_plan.specs.PagePlan.{plan_of}
use Rattle.page_plan.specs.Pages.{page_of}
use Rattle.page_plan.proofs.PlanLemmas.{IsPlan-plan_of}
use Rattle.page_slots.specs.declared.desc.Desc.{Desc}
use Rattle.page_slots.specs.declared.desc.Desc.TheVariants as descs
use Rattle.page_slots.specs.Descs.{shape_of}
use Rattle.hier_types.specs.Causes.{Refuses, raised}
use Rattle.hier_types.proofs.CauseLemmas.{later_raised}
use Rattle.hier_types.specs.declared.counts.PageCounts.{PageCounts}
use Rattle.hier_types.specs.declared.faults.NoSpace.{NoSpace}
use Rattle.hier_types.specs.Calls.{Answer}
use Rattle.page_store.specs.Calls.{GoesIn, Outline, Refused, StoreWrite, looked_up}
use Rattle.page_store.specs.Crowds.{Crowded, Tight}
use Rattle.page_store.specs.Lays.{BringsToPlan, KeepsLines, Lays, OthersAreAtPlan, TidiedUpTo, TidiesOthers, TidyStep, plan_at}
use Rattle.page_mover.specs.declared.turning.Turn.{Turn}
use Rattle.page_mover.specs.declared.turning.Turn.TheVariants.{Next}
use Rattle.page_store.specs.Turns.{MakesTurnOn, TidyTurn, TidyTurns, TurnsPage, turn_at, tidied_more as counted_more}
use Rattle.page_store.specs.PageBlocks.{IsAtPlan, LacksRoom}
use Rattle.page_store.specs.Store.{IsSound, Sizing, Store, desc_at, sizing_of}
use Rattle.page_store.proofs.CallLemmas.{looked_like}
use Rattle.page_store.proofs.CrowdLemmas.{crowded_tight, small_order, tight_few}
use Rattle.page_store.proofs.ListLemmas.{get-set_other}
use Rattle.page_store.proofs.StoreLemmas.{noted_ways}

-- nothing changed
pub same_keeps : (s : Store) → KeepsLines s s
same_keeps s = record { lines_are = refl; codec_is = refl; counts_are = refl; cursor_is = refl; stops_are = refl; ways_stay = refl; frames_stay = refl; pages_stay = refl; zeros_stay = λ page is_zero. is_zero }

pub keeps_then : (s t u : Store) → KeepsLines s t → KeepsLines t u → KeepsLines s u
keeps_then s t u first second = record {
  lines_are = second.lines_are ∙ first.lines_are;
  codec_is = second.codec_is ∙ first.codec_is;
  counts_are = second.counts_are ∙ ap (λ (k : PageCounts). record k { tidy_turns = u.counts.tidy_turns }) first.counts_are;
  cursor_is = second.cursor_is ∙ first.cursor_is;
  stops_are = second.stops_are ∙ first.stops_are;
  ways_stay = second.ways_stay ∙ first.ways_stay;
  frames_stay = second.frames_stay ∙ first.frames_stay;
  pages_stay = second.pages_stay ∙ first.pages_stay;
  zeros_stay = λ page is_zero. second.zeros_stay page (first.zeros_stay page is_zero);
}

-- one more turn was counted
pub counted_keeps : (s : Store) → KeepsLines s (record s { counts = counted_more s.counts })
counted_keeps s = record { lines_are = refl; codec_is = refl; counts_are = refl; cursor_is = refl; stops_are = refl; ways_stay = refl; frames_stay = refl; pages_stay = refl; zeros_stay = λ page is_zero. is_zero }

-- every page but the one that was turned stays as it is
turned_others : (s : Store) (page : ℕ) (t : Store) (q : ℕ) → q ≢ page → TidyTurn s page t → desc_at t.descriptors q ≡ desc_at s.descriptors q
turned_others s page t q ne turned =
    ap (λ (x : Store). desc_at x.descriptors q) turned.is ∙ ap (λ (xs : List Desc). desc_at xs q) turned.makes.comes.descriptors_are
    ∙ get_or-set_other s.descriptors page q turned.makes.comes.desc descs.Zero ne

turns_others : (s : Store) (page n : ℕ) (t : Store) (q : ℕ) → q ≢ page → TidyTurns s page n t → desc_at t.descriptors q ≡ desc_at s.descriptors q
unfolding TidyTurns
turns_others s page zero t q ne is = ap (λ (x : Store). desc_at x.descriptors q) is
turns_others s page (suc n) t q ne (m, before, turned) = turned_others m page t q ne turned ∙ turns_others s page n m q ne before

-- and so where it is brought to its plan
pub others_stay : (s : Store) (page : ℕ) (t : Store) (q : ℕ) → q ≢ page → BringsToPlan s page t → desc_at t.descriptors q ≡ desc_at s.descriptors q
others_stay s page t q ne brings = turns_others s page brings.count t q ne brings.turns

-- no turn yet, and one turn more
pub turns_none : (s : Store) (page : ℕ) → TidyTurns s page 0 s
unfolding TidyTurns
turns_none s page = refl

pub turns_more : (s : Store) (page n : ℕ) (m t : Store) → TidyTurns s page n m → TidyTurn m page t → TidyTurns s page (suc n) t
unfolding TidyTurns
turns_more s page n m t before turned = (m, before, turned)

-- what was called was a turn, or nothing
pub made_of : (s : Store) (page : ℕ) (turn : Turn) (t : Store) → turn ≢ Next → TurnsPage s page turn t → MakesTurnOn s page turn t
made_of s page turn t off (inl stays) = absurd (off stays.0)
made_of s page turn t off (inr made) = made.1

pub stays_of : (s : Store) (page : ℕ) (turn : Turn) (t : Store) → turn ≡ Next → TurnsPage s page turn t → t ≡ s
stays_of s page turn t next (inl stays) = stays.1.1
stays_of s page turn t next (inr made) = absurd (made.0 next)

pub next_of : (s : Store) (page : ℕ) (turn : Turn) (t : Store) → turn ≡ Next → TurnsPage s page turn t → turn_at s page ≡ Next
next_of s page turn t next (inl stays) = stays.1.0
next_of s page turn t next (inr made) = absurd (made.0 next)

-- no page yet, and one page more
pub tidied_none : (s : Store) (but : ℕ) → TidiedUpTo s but 0 s
unfolding TidiedUpTo
tidied_none s but = refl

tidied_more : (s : Store) (but n : ℕ) (m t : Store) → TidiedUpTo s but n m → TidyStep m but n t → TidiedUpTo s but (n + 1) t
tidied_more s but n m t before step =
    let next : TidiedUpTo s but (suc n) t = unfold TidiedUpTo in (m, before, step) in
    subst (λ (k : ℕ). TidiedUpTo s but k t) (sym (add-one n)) next

pub tidied_page : (s : Store) (but n : ℕ) (m t : Store) → n ≢ but → TidiedUpTo s but n m → BringsToPlan m n t → TidiedUpTo s but (n + 1) t
tidied_page s but n m t ne before brings = tidied_more s but n m t before (let test : (n == but) ≡ false = grind (arith, nat_tests) in rw test brings)

pub tidied_but : (s : Store) (but n : ℕ) (m : Store) → n ≡ but → TidiedUpTo s but n m → TidiedUpTo s but (n + 1) m
tidied_but s but n m is before = tidied_more s but n m m before (let test : (n == but) ≡ true = grind (arith, nat_tests) in rw test refl)

-- what was kept of the plans
pub plan_kept : (s t : Store) (q : ℕ) → KeepsLines s t → plan_at t q ≡ plan_at s q
plan_kept s t q keeps = ap (λ (k : Codec). plan_of k (page_of t.lines q)) keeps.codec_is ∙ ap (λ (ls : List (List ℕ)). plan_of s.codec (page_of ls q)) keeps.lines_are

-- the pages below a number are at their plans, and one more is brought there
pub at_plan_page : (s : Store) (but n : ℕ) (m t : Store) → KeepsLines s m → ((q : ℕ) → q < n → q ≢ but → IsAtPlan (plan_at s q) (desc_at m.descriptors q))
    → BringsToPlan m n t → (q : ℕ) → q < n + 1 → q ≢ but → IsAtPlan (plan_at s q) (desc_at t.descriptors q)
at_plan_page s but n m t keeps before brings q lt ne = elim (cases_eq q n) [
  | inl same ↦ subst (λ (k : ℕ). IsAtPlan (plan_at s k) (desc_at t.descriptors k)) (sym same) (subst (λ (p : PagePlan). IsAtPlan p (desc_at t.descriptors n)) (plan_kept s m n keeps) brings.at_plan)
  | inr other ↦ subst (IsAtPlan (plan_at s q)) (sym (others_stay m n t q other brings)) (before q (omega arith) ne)
]

-- a call that was answered, and one that failed
pub on_ok_of : (result : Result (Unit {0}) ℕ) (P : Type 0) → is_ok result ≡ true → OnOk result P → P
on_ok_of (Ok u) P ok done = done
on_ok_of (Err order) P ok done = absurd (true≢false (sym ok))

pub err_of : (result : Result (Unit {0}) ℕ) (Fails : ℕ → Type 0) → is_ok result ≡ false → IfErr result Fails → (order : ℕ) × Fails order
err_of (Ok u) Fails ok errs = absurd (true≢false ok)
err_of (Err order) Fails ok errs = (order, errs)

pub on_err_of : (result : Result (Unit {0}) ℕ) (P : Type 0) → is_ok result ≡ false → OnErr result P → P
on_err_of (Ok u) P ok done = absurd (true≢false ok)
on_err_of (Err order) P ok done = done

-- what levels above see of a page that was laid anew, once way was made for it
pub outline_of : (s mid : Store) (page : ℕ) (lines : List (List ℕ)) (t : Store) → KeepsLines s mid → Lays mid page lines t → length t.used ≡ length mid.used
    → Outline s page lines s.counts.reads s.counts.writes t
outline_of s mid page lines t keeps lays frames = record {
  lines_are = ap (λ (x : Store). x.lines) lays.is;
  reads_are = ap (λ (x : Store). x.counts.reads) lays.is ∙ ap (λ (k : PageCounts). k.reads) keeps.counts_are;
  writes_are = ap (λ (x : Store). x.counts.writes) lays.is ∙ ap (λ (k : PageCounts). k.writes) keeps.counts_are;
  turns_stay = ap (λ (x : Store). x.counts.mover_turns) lays.is ∙ ap (λ (k : PageCounts). k.mover_turns) keeps.counts_are;
  sizing_is =
      let codec : t.codec ≡ s.codec = ap (λ (x : Store). x.codec) lays.is ∙ keeps.codec_is in
      let ways : t.meta.ways ≡ s.meta.ways = ap (λ (x : Store). x.meta.ways) lays.is ∙ noted_ways mid.meta page (shape_of lays.comes.desc) _ ∙ keeps.ways_stay in
      rw (codec, ways, frames, keeps.frames_stay) refl;
  pages_stay = ap length lays.comes.descriptors_are ∙ length-set mid.descriptors page lays.comes.desc ∙ keeps.pages_stay;
  zeros_stay = λ other ne is_zero.
      ap (λ (xs : List Desc). slice_get xs other) lays.comes.descriptors_are ∙ get-set_other mid.descriptors page other lays.comes.desc ne ∙ keeps.zeros_stay other is_zero;
}

-- both requests were refused, and the others are at their plans
pub refused_of : (s mid : Store) (page : ℕ) (lines : List (List ℕ)) (order : ℕ) (refusal : NoSpace) (t : Store) → page < length s.descriptors → IsSound mid → KeepsLines s mid
    → OthersAreAtPlan s page mid → TidiesOthers s page mid → LacksRoom s.descriptors s.used page (plan_of s.codec (page_of lines page)) order
    → LacksRoom mid.descriptors mid.used page (plan_of s.codec (page_of lines page)) order → refusal.page.0 ≡ page → refusal.order ≡ order → t ≡ record mid { stops = raised mid.stops }
    → Refused s s page lines (Unit {0}) refusal t
refused_of s mid page lines order refusal t within sound keeps others tidied first again page_is order_is is =
    let here = page_of lines page in
    let known : order ≤ 3 = small_order s.codec here (plan_of s.codec here) order (IsPlan-plan_of s.codec here) first.order_is in
    let at_plan : (i : ℕ) (desc : Desc) → i ≢ page → slice_get mid.descriptors i ≡ Some desc → IsAtPlan (plan_of mid.codec (page_of mid.lines i)) desc =
    λ (i : ℕ) (desc : Desc) (ne : i ≢ page) (e : slice_get mid.descriptors i ≡ Some desc).
    let there : desc_at mid.descriptors i ≡ desc = get_or_from_slice_get mid.descriptors i desc descs.Zero e in
    let inside : i < length s.descriptors = omega (arith, slice_get_within mid.descriptors i desc e, keeps.pages_stay) in
    subst (λ (p : PagePlan). IsAtPlan p desc) (sym (plan_kept s mid i keeps)) (subst (IsAtPlan (plan_at s i)) there (others i inside ne)) in
    let tight = crowded_tight mid sound page (omega (arith, within, keeps.pages_stay)) order known at_plan again.none in
    let sizing : sizing_of mid ≡ sizing_of s = rw (keeps.codec_is, keeps.frames_stay, keeps.ways_stay) refl in
    let tight' : Tight (sizing_of s) s.lines page order = subst (λ (k : Sizing). Tight k s.lines page order) sizing (subst (λ (ls : List (List ℕ)). Tight (sizing_of mid) ls page order) keeps.lines_are tight) in
    let whole : length s.lines ≡ 64 * length s.descriptors = sym (ap length keeps.lines_are) ∙ sound.whole ∙ ap (λ (n : ℕ). 64 * n) keeps.pages_stay in
    rw (is, page_is, order_is) (record {
      outline = record {
        lines_are = keeps.lines_are;
        reads_are = ap (λ (k : PageCounts). k.reads) keeps.counts_are;
        writes_are = ap (λ (k : PageCounts). k.writes) keeps.counts_are;
        turns_stay = ap (λ (k : PageCounts). k.mover_turns) keeps.counts_are;
        sizing_is = sizing;
        pages_stay = keeps.pages_stay;
        zeros_stay = λ other ne is_zero. keeps.zeros_stay other is_zero;
      };
      cause = record { page_is = refl; order_is = first.order_is; tight = tight' };
      outgrown = first.outgrown;
      crowded = record { at_plan = at_plan; none = again.none };
      few = omega (arith, tight_few (sizing_of s) s.lines page order known (omega (arith, within, whole)) tight', whole);
      why = tt;
      inside = record { first = first; mid = mid; tidied = tidied; again = again; is = refl };
    })

-- a page that is tidied changes no count of refusals
turns_stops : (m : Store) (page n : ℕ) (t : Store) → TidyTurns m page n t → t.stops ≡ m.stops
unfolding TidyTurns
turns_stops m page zero t is = ap (λ (x : Store). x.stops) is
turns_stops m page (suc n) t (l, before, turned) =
    ap (λ (x : Store). x.stops) turned.is ∙ ap (λ (x : Store). x.stops) turned.makes.is ∙ turns_stops m page n l before

tidied_stops : (s : Store) (but n : ℕ) (t : Store) → TidiedUpTo s but n t → t.stops ≡ s.stops
unfolding TidiedUpTo
tidied_stops s but zero t is = ap (λ (x : Store). x.stops) is
tidied_stops s but (suc n) t (m, before, step) = step_stops (n == but) m n t step ∙ tidied_stops s but n m before
  where
    step_stops : (test : Bool) (m : Store) (page : ℕ) (t : Store) → MatchBool test (t ≡ m) (BringsToPlan m page t) → t.stops ≡ m.stops
    step_stops true m page t is = ap (λ (x : Store). x.stops) is
    step_stops false m page t brings = turns_stops m page brings.count t brings.turns

-- nor does a page that goes in
goes_stops : (s : Store) (page i : ℕ) (bytes : List ℕ) (t : Store) → GoesIn s page i bytes t → t.stops ≡ s.stops
goes_stops s page i bytes t (inl stays) = ap (λ (x : Store). x.stops) stays.stays
goes_stops s page i bytes t (inr (inl puts)) = ap (λ (x : Store). x.stops) puts.is
goes_stops s page i bytes t (inr (inr anew)) = ap (λ (x : Store). x.stops) anew.1.lays.is ∙ (elim anew.1.way [
  | inl own ↦ ap (λ (x : Store). x.stops) own.1
  | inr made ↦ tidied_stops s page (length s.descriptors) anew.1.mid made.1.1
])

-- a write counts a refusal exactly where it is one
pub write_refuses : (s : Store) (line : ℕ) (bytes : List ℕ) (answer : Answer) (t : Store) → StoreWrite s line bytes answer t → Refuses s.stops t.stops (Crowded t) answer
write_refuses s line bytes (Ok u) t did =
    let same : t.stops ≡ s.stops =
    ap (λ (x : Store). x.stops) did.is ∙ goes_stops (looked_up s (line / 64)) (line / 64) (line % 64) bytes did.after did.goes ∙ (looked_like s (line / 64)).stops_are in
    record { later = omega (arith, same); rose = tt; justified = tt }
write_refuses s line bytes (Err refusal) t did =
    let more : t.stops ≡ raised s.stops =
    ap (λ (x : Store). x.stops) did.inside.is
    ∙ ap raised (tidied_stops (looked_up s (line / 64)) (line / 64) (length (looked_up s (line / 64)).descriptors) did.inside.mid did.inside.tidied ∙ (looked_like s (line / 64)).stops_are) in
    record { later = rw more (later_raised s.stops); rose = omega (arith, more); justified = did.crowded }
