-- What settling leaves, and what a report says of it.
use Rattle.std.proofs.Common.{◌≡◌, ◌∙◌, ℕ, List, Ok, Err, MatchResult, refl, ap, subst, sym}
use Rattle.hier_types.specs.Calls.{Answer}
use Rattle.hier_types.specs.declared.counts.Totals.{Totals}
use Rattle.l1_cache.specs.FirstCalls.{FirstFlushes}
use Rattle.l2_cache.specs.SecondCalls.{SecondFlushes, SecondRead, SecondWrite}
use Rattle.page_plan.specs.Sizes.{sizes_of_memory}
use Rattle.page_store.specs.Calls.{StoreRead, StoreWrite, Tidies}
use Rattle.page_store.specs.Contents.{Contents, ContentsRead, ContentsWrite, contents_of}
use Rattle.page_store.specs.Store.{Sizing, sizing_of}
use Rattle.page_store.proofs.ContentLemmas.{tidied_contents}
use Rattle.recency.specs.Levels.{overlay}
use Rattle.recency.specs.Steps.{Flushes}
use Rattle.run_report.specs.declared.report.Settled.TheVariants.{Done}
use Rattle.hier_machine.specs.Levels.{levels_above, second_above}
use Rattle.hier_machine.specs.Lists.{lists_of}
use Rattle.hier_machine.specs.Memory.{Below, Memory, content_of, guest_bytes, guest_lines, store_of}
use Rattle.hier_machine.specs.Reports.{SettledAs}
use Rattle.hier_machine.specs.Settles.{ListsSettle, SettlesLevels, SettlesMachine, SettlesSecond, TidiesStore}
use Rattle.hier_machine.specs.State.{MachineState}
use Rattle.hier_machine.proofs.KeepingLemmas.{Makes-keeping}
use Rattle.hier_machine.proofs.ListsLemmas.{Lasting, LastsBelow, LastsUnder, lasting_of, lasting_tidies, second_reads, second_writes, size, store_made}

-- Flushes to the pages are flushes to the contents, and leave the store's size and the turns of the mover.
module _ (lasting : Lasting) where
  first_flushed : (s t : Memory) (answer : Answer) → LastsUnder lasting s → FirstFlushes (SecondRead StoreRead StoreWrite) (SecondWrite StoreRead StoreWrite) s answer t
      → LastsUnder lasting t × FirstFlushes (SecondRead ContentsRead (ContentsWrite (size lasting))) (SecondWrite ContentsRead (ContentsWrite (size lasting))) (levels_above contents_of s) answer (levels_above contents_of t)
  first_flushed s t answer lasts h =
      let all = Makes-keeping (second_above contents_of) (LastsBelow lasting) (SecondRead StoreRead StoreWrite) (SecondWrite StoreRead StoreWrite) (SecondRead ContentsRead (ContentsWrite (size lasting))) (SecondWrite ContentsRead (ContentsWrite (size lasting)))
      (second_reads lasting) (second_writes lasting) (Flushes answer t.sets s.sets) s.below t.below lasts h.made in
      (all.0, record { made = all.1; held = h.held; counts = h.counts; span = h.span })

  below_flushed : (s t : Below) (answer : Answer) → LastsBelow lasting s → SecondFlushes StoreRead StoreWrite s answer t
      → LastsBelow lasting t × SecondFlushes ContentsRead (ContentsWrite (size lasting)) (second_above contents_of s) answer (second_above contents_of t)
  below_flushed s t answer lasts h =
      let all = store_made lasting (Flushes answer t.sets s.sets) s.below t.below lasts h.made in
      (all.0, record { made = all.1; codec = h.codec; cursor = h.cursor; counts = h.counts })

  goes_on : (mid new : Memory) (first answer : Answer) → LastsUnder lasting mid
      → MatchResult first (λ _. SettlesSecond StoreRead StoreWrite mid answer new) (λ refusal. (answer ≡ Err refusal) × (new ≡ mid))
      → LastsUnder lasting new × MatchResult first (λ _. SettlesSecond ContentsRead (ContentsWrite (size lasting)) (levels_above contents_of mid) answer (levels_above contents_of new)) (λ refusal. (answer ≡ Err refusal) × (levels_above contents_of new ≡ levels_above contents_of mid))
  goes_on mid new (Ok u) answer lasts h =
      let below = below_flushed mid.below new.below answer lasts h.flushes in
      (below.0, record { flushes = below.1; rest = ap (levels_above contents_of) h.rest })
  goes_on mid new (Err refusal) answer lasts h = (subst (LastsUnder lasting) (sym h.1) lasts, (h.0, ap (levels_above contents_of) h.1))

  -- tidying leaves the contents, the store's size and the turns of the mover
  tidied : (flushed new : Memory) (answer : Answer) → LastsUnder lasting flushed → MatchResult answer (λ _. TidiesStore Tidies flushed new) (λ _. new ≡ flushed)
      → LastsUnder lasting new × MatchResult answer (λ _. TidiesStore (λ before after. after ≡ before) (levels_above contents_of flushed) (levels_above contents_of new)) (λ _. levels_above contents_of new ≡ levels_above contents_of flushed)
  tidied flushed new (Ok u) lasts h = (lasting_tidies lasting (store_of flushed) (store_of new) lasts h.tidies, record { tidies = tidied_contents (store_of flushed) (store_of new) h.tidies; rest = ap (levels_above contents_of) h.rest })
  tidied flushed new (Err refusal) lasts h = (subst (LastsUnder lasting) (sym h) lasts, ap (levels_above contents_of) h)

  -- what settles the memory settles the lists above the contents
  levels_settled : (old new : Memory) (answer : Answer) → LastsUnder lasting old → SettlesLevels StoreRead StoreWrite Tidies content_of old answer new
      → LastsUnder lasting new × SettlesLevels ContentsRead (ContentsWrite (size lasting)) (λ before after. after ≡ before) (λ (c : Contents). c.lines) (levels_above contents_of old) answer (levels_above contents_of new)
  levels_settled old new answer lasts h =
      let first = first_flushed old h.mid h.first lasts h.flushes in
      let second = goes_on h.mid h.flushed h.first answer first.0 h.goes_on in
      let rest = tidied h.flushed new answer second.0 h.tidied in (
        rest.0,
        record {
          mid = levels_above contents_of h.mid;
          first = h.first;
          flushes = first.1;
          flushed = levels_above contents_of h.flushed;
          goes_on = second.1;
          tidied = rest.1;
          lines = h.lines;
          settled = h.settled;
        },
      )

-- a settling of the machine is one of the lists above the contents
pub lists_settle : (old new : MachineState) (answer : Answer) → SettlesMachine old answer new → new.guest.hart.bytes ≡ guest_bytes new.memory
    → ListsSettle (sizing_of (store_of old.memory)) (lists_of old) answer (lists_of new)
lists_settle old new answer h shows =
    record { levels = (levels_settled (lasting_of (store_of old.memory)) old.memory new.memory answer refl h.levels).1; rest = ap lists_of h.rest; shows = shows }

-- tidying changes no line of the guest
pub tidied_lines : (old new : Memory) → TidiesStore Tidies old new → guest_lines new ≡ guest_lines old
tidied_lines old new h = ap guest_lines h.rest ∙ ap (λ (lines : List (List ℕ)). overlay (overlay lines old.below.sets) old.sets) h.tidies.lines_are

-- the totals of the store are those of the guest's memory once it has settled
pub settled_done : (old new : MachineState) (answer : Answer) (totals : Totals) → SettlesMachine old answer new → answer ≡ Ok tt
    → totals ≡ sizes_of_memory (store_of new.memory).codec (store_of new.memory).lines → SettledAs (store_of old.memory).codec (guest_lines old.memory) answer (Done totals)
settled_done old new (Ok u) totals h ok same =
    let sizing = ap (λ (k : Lasting). k.sizing) (levels_settled (lasting_of (store_of old.memory)) old.memory new.memory (Ok u) refl h.levels).0 in
    let lines : (store_of new.memory).lines ≡ guest_lines old.memory = h.levels.settled in
    ap Done (same ∙ ap (λ (k : Sizing). sizes_of_memory k.codec (store_of new.memory).lines) sizing ∙ ap (sizes_of_memory (store_of old.memory).codec) lines)
settled_done old new (Err refusal) totals h ok same = absurd (let no = ok in cc)
