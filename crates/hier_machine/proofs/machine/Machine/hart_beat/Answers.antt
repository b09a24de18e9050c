use Rattle.std.proofs.Common.{refl}
use Rattle.rv_guest.specs.Lines.{lines_at, pokes_at, stop_of_beat}
use Rattle.hier_machine.specs.Beats.{KeepsSettings, TurnsStay}
use Rattle.hier_machine.specs.State.{code_of_machine}
use Rattle.hier_machine.specs.contracts.machine.Machine.{the_view}
use Rattle.hier_machine.proofs.ListsLemmas.{lists_hart, made_sizing, made_turns}
use Rattle.hier_machine.proofs.machine.Machine.hart_beat.Goals as goal

pub returns-clause-beats : goal.returns-clause-beats
returns-clause-beats g c =
    let old = the_view c.self.inside in
    let new = the_view (record c.self.inside { memory = c.beat-end.new.port; guest = c.beat-end.new.self; ended = c.is_some-self-inside.result }) in
    let did = c.beat-end.ensures in
    let lines = lines_at (code_of_machine old) old.guest in
    let pokes = pokes_at (code_of_machine old) old.guest c.beat-end.result new.guest.hart in
    let stop = stop_of_beat c.beat-end.result in
    let stays : KeepsSettings old new = record { span = did.span; code = did.code; sizing = made_sizing old.memory new.memory lines pokes stop did.made; budget = refl; beats = refl } in
    let turns : TurnsStay old new = record { mover = made_turns old.memory new.memory lines pokes stop did.made; cleaner = refl } in
    rw (← c.self.view_is) (record { does = did.did; made = did.made; cause = did.cause; stays = stays; turns = turns; ended = c.is_some-self-inside.ensures })

pub returns-clause-lists : goal.returns-clause-lists
returns-clause-lists g c =
    let new = the_view (record c.self.inside { memory = c.beat-end.new.port; guest = c.beat-end.new.self; ended = c.is_some-self-inside.result }) in
    rw (← c.self.view_is) (lists_hart (the_view c.self.inside) new c.beat-end.result _ c.beat-end.ensures.did c.beat-end.ensures.made refl)
