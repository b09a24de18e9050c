use Rattle.std.proofs.Common.{◌≡◌, ◌∙◌, [], refl, ap}
use Rattle.rv_guest.specs.State.{GuestState}
use Rattle.page_store.specs.Store.{fresh}
use Rattle.hier_machine.specs.Memory.{guest_bytes}
use Rattle.hier_machine.specs.Start.{asked_sizing, start_memory}
use Rattle.hier_machine.proofs.MemoryLemmas.{start_bytes}
use Rattle.hier_machine.proofs.machine.Machine.over_zeros.Goals as goal

pub returns-clause-empty : goal.returns-clause-empty
returns-clause-empty c =
    let settings = c.args.settings.now in
    let memory = c.in_ok-levels_over.field-0 in
    let made : memory ≡ start_memory settings (fresh (asked_sizing settings) settings.geometry.pages) = c.in_ok-levels_over.ensures ∙ ap (start_memory settings) c.in_ok-store.ensures in
    record {
      memory = made;
      bytes = ap guest_bytes made ∙ start_bytes settings;
      retired = ap (λ (s : GuestState). s.retired) (c.start.ensures []);
      new = record { budget = refl; beats = c.in_ok-beats.ensures.cases; cleaner = refl; running = refl };
    }

pub returns-clause-guest : goal.returns-clause-guest
returns-clause-guest c = c.start.ensures (guest_bytes c.in_ok-levels_over.field-0)
