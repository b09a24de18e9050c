use Rattle.std.proofs.Common.{◌≡◌, ◌∙◌, ◌*◌, List, ℕ, refl, ap, subst, arith}
use Rattle.hier_types.specs.Lines.{flatten}
use Rattle.hier_types.specs.Span.{Span}
use Rattle.hier_types.specs.Tabulate.{tabulate}
use Rattle.hier_types.proofs.TableLemmas.{flatten-tabulate}
use Rattle.elf_image.specs.Image.{Loaded, byte_at, end_of, entry, memory_of}
use Rattle.rv_guest.specs.Start.{start_state}
use Rattle.rv_guest.specs.State.{GuestState, state_of}
use Rattle.hier_machine.specs.Memory.{guest_bytes, store_of}
use Rattle.hier_machine.specs.Placed.{PlacedUpTo}
use Rattle.hier_machine.specs.Start.{asked_sizing, start_memory}
use Rattle.hier_machine.specs.State.{MachineState}
use Rattle.hier_machine.proofs.MemoryLemmas.{start_lines}
use Rattle.hier_machine.proofs.PlacedLemmas.{placed_all}
use Rattle.hier_machine.proofs.machine.Machine.open.Goals as goal

-- a guest over other bytes
over_bytes : GuestState → List ℕ → GuestState
over_bytes s bytes = record s { hart = record s.hart { bytes = bytes } }

pub returns-clause-ok : goal.returns-clause-ok
unfolding over_bytes
returns-clause-ok c =
    let settings = c.args.settings.now in
    let span = settings.geometry in
    let file = c.args.image.now.file in
    let image : Loaded = record { span = span; file = file } in
    let memory = c.place_under.new.memory in
    let store = store_of memory in
    let empty = c.in-Ok.ensures.empty in
    let placed : PlacedUpTo image (asked_sizing settings) span.pages store =
    subst (λ (s : Span). PlacedUpTo (record { span = s; file = file }) (asked_sizing settings) span.pages store) c.requires.same c.in_default-place_under.ensures.ok in
    let made : memory ≡ start_memory settings store = c.in_default-place_under.ensures.memory in
    let size : 64 * (64 * span.pages) ≡ 4096 * span.pages = omega arith in
    let bytes : guest_bytes memory ≡ memory_of span file =
    ap guest_bytes made ∙ ap flatten (start_lines settings store ∙ placed_all image (asked_sizing settings) store placed) ∙ flatten-tabulate (byte_at span file) (64 * span.pages) ∙ ap (tabulate (byte_at span file)) size in
    let from : c.entry.result ≡ entry file = c.entry.ensures in
    let end : c.end.result ≡ end_of span file = c.end.ensures ∙ ap (λ (s : Span). end_of s file) c.requires.same in
    let guest : state_of c.machine.inside.guest (guest_bytes memory) ≡ start_state span c.entry.result c.end.result (guest_bytes memory) =
    ap (λ (s : GuestState). over_bytes s (guest_bytes memory)) (ap (λ (s : MachineState). s.guest) c.machine.view_is ∙ c.in-Ok.ensures.guest) in
    record {
      placed = placed;
      memory = made;
      guest = guest ∙ rw (from, end, bytes) refl;
      new = record {
        budget = ap (λ (s : MachineState). s.budget) c.machine.view_is ∙ empty.new.budget;
        beats = ap (λ (s : MachineState). s.beats) c.machine.view_is ∙ empty.new.beats;
        cleaner = ap (λ (s : MachineState). s.cleaner_turns) c.machine.view_is ∙ empty.new.cleaner;
        running = ap (λ (s : MachineState). s.ended) c.machine.view_is ∙ empty.new.running;
      };
    }
