-- From the run of a machine to the run of a file's program.
use Rattle.std.proofs.Common.{◌≡◌, ◌≤◌, ◌∙◌, ℕ, List, ap, subst, arith}
use Rattle.hier_types.specs.declared.settings.Settings.{Settings}
use Rattle.hier_types.specs.Span.{Span}
use Rattle.hier_types.specs.Streams.{Streams}
use Rattle.elf_image.specs.Image.{Loaded}
use Rattle.page_store.specs.Store.{IsSound, sizing_of}
use Rattle.rv_guest.specs.declared.ends.MachineEnd.{MachineEnd}
use Rattle.rv_guest.specs.Beside.{guest_at}
use Rattle.rv_guest.specs.FollowsFlat.{FollowsFlat}
use Rattle.rv_guest.specs.State.{GuestState}
use Rattle.rv_guest.proofs.HeadlineLemmas.{headline}
use Rattle.run_report.specs.declared.end.End.{End}
use Rattle.run_report.specs.declared.report.Report.{Report}
use Rattle.hier_machine.specs.FileRuns.{Opens, ReportsFile, RunsFile, RunsToEnd, RunsToReport}
use Rattle.hier_machine.specs.Memory.{Memory, store_of}
use Rattle.hier_machine.specs.Start.{Starts, asked_sizing}
use Rattle.hier_machine.specs.Runs.{RunsMachine}
use Rattle.hier_machine.specs.Spaces.{IsEndOf}
use Rattle.hier_machine.specs.State.{MachineState, guest_of_machine}
use Rattle.hier_machine.proofs.RunLemmas.{ends_crowded, none_free_told}
use Rattle.hier_machine.proofs.PlacedLemmas.{placed_facts}

-- a machine begins with the store that its settings ask for
begins_sized : (settings : Settings) (file : List ℕ) (s : MachineState) → Starts settings file s → sizing_of (store_of s.memory) ≡ asked_sizing settings
begins_sized settings file s starts =
    let image : Loaded = record { span = settings.geometry; file = file } in
    (placed_facts image (asked_sizing settings) settings.geometry.pages (store_of s.memory) (omega arith) starts.placed).sizing_is

-- no instruction has retired at its beginning
pub begins_within : (settings : Settings) (file : List ℕ) (s : MachineState) → Starts settings file s → s.guest.retired ≤ s.budget
begins_within settings file s starts = omega (arith, ap (λ (g : GuestState). g.retired) starts.guest)

-- a run of a machine, told by its end over the store that it left
pub runs_to_end : (first : MachineState) (end : MachineEnd) (last : MachineState) (streams : Streams) (own : End) → RunsMachine first end last streams
    → FollowsFlat (guest_of_machine first) first.budget first.guest end last.guest streams → IsEndOf last.memory.span (store_of last.memory) end own → IsSound (store_of last.memory)
    → RunsToEnd first streams own last
runs_to_end first end last streams own run flat told sound =
    let crowded = ends_crowded first last end streams run in
    record {
      end = end;
      run = run;
      flat = flat;
      told = subst (λ (span : Span). IsEndOf span (store_of last.memory) end own) run.stays.span told;
      crowded = crowded;
      none_free = none_free_told last.memory.span (store_of last.memory) end own told crowded;
      sound = sound;
    }

-- the run of a machine that begins with the file's program is one of the program
pub runs_file : (settings : Settings) (file : List ℕ) (first : MachineState) (streams : Streams) (own : End) (last : MachineState) → Opens settings file first → RunsToEnd first streams own last → RunsFile settings file streams own last
runs_file settings file first streams own last opens ran =
    let at_span : first.memory.span ≡ settings.geometry = ap (λ (m : Memory). m.span) opens.starts.memory in
    let with_span = subst (λ (s : Span). FollowsFlat (guest_at s first.guest) first.budget first.guest ran.end last.guest streams) at_span ran.flat in
    let with_budget = subst (λ n. FollowsFlat (guest_at settings.geometry first.guest) n first.guest ran.end last.guest streams) opens.starts.new.budget with_span in
    let follows = subst (λ (g : GuestState). FollowsFlat (guest_at settings.geometry g) settings.budget g ran.end last.guest streams) opens.starts.guest with_budget in
    record {
      first = first;
      opens = opens;
      ran = ran;
      headline = headline settings.geometry settings.budget file last.guest streams ran.end follows;
      sizing = ran.run.stays.sizing ∙ begins_sized settings file first opens.starts;
    }

-- and its report is one of the program
pub reports_file : (settings : Settings) (file : List ℕ) (first : MachineState) (streams : Streams) (report : Report) (settled : MachineState) → Opens settings file first → RunsToReport first streams report settled
    → ReportsFile settings file streams report
reports_file settings file first streams report settled opens h =
    record { last = h.last; ran = runs_file settings file first streams report.end h.last opens h.ran; settled = settled; reports = h.reports }
