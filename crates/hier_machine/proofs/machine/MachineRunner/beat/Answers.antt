use Rattle.std.proofs.Common.{◌∙◌, refl, ap}
use Rattle.hier_types.specs.Streams.{Streams, went}
use Rattle.hier_machine.specs.State.{MachineState}
use Rattle.hier_machine.proofs.machine.MachineRunner.beat.Goals as goal

pub returns-in-Mover-clause-does : goal.returns-in-Mover-clause-does
returns-in-Mover-clause-does g c =
    let streams : Streams = went g.I.Source.left g.I.Source.faults g.O.Sink.written g.O.Sink.faults c.args.input.now c.args.input.now c.args.out.now c.args.out.now in
    rw c.in-Mover.is (record { machine = c.move_beat.ensures.beats streams (refl, refl); lists = c.move_beat.ensures.lists streams (refl, refl) })

pub returns-in-Mover-clause-goes_on : goal.returns-in-Mover-clause-goes_on
returns-in-Mover-clause-goes_on g c =
    let streams : Streams = went g.I.Source.left g.I.Source.faults g.O.Sink.written g.O.Sink.faults c.args.input.now c.args.input.now c.args.out.now c.args.out.now in
    let rest = (c.move_beat.ensures.beats streams (refl, refl)).rest in
    rw c.in-Mover.is (ap (λ (s : MachineState). s.ended) rest ∙ c.requires.0, ap (λ (s : MachineState). s.guest.retired) rest)

pub returns-in-Cleaner-clause-does : goal.returns-in-Cleaner-clause-does
returns-in-Cleaner-clause-does g c =
    let streams : Streams = went g.I.Source.left g.I.Source.faults g.O.Sink.written g.O.Sink.faults c.args.input.now c.args.input.now c.args.out.now c.args.out.now in
    rw c.in-Cleaner.is (record { machine = c.clean_beat.ensures.beats streams (refl, refl); lists = c.clean_beat.ensures.lists streams (refl, refl) })

pub returns-in-Cleaner-clause-goes_on : goal.returns-in-Cleaner-clause-goes_on
returns-in-Cleaner-clause-goes_on g c =
    let streams : Streams = went g.I.Source.left g.I.Source.faults g.O.Sink.written g.O.Sink.faults c.args.input.now c.args.input.now c.args.out.now c.args.out.now in
    let rest = (c.clean_beat.ensures.beats streams (refl, refl)).rest in
    rw c.in-Cleaner.is (ap (λ (s : MachineState). s.ended) rest ∙ c.requires.0, ap (λ (s : MachineState). s.guest.retired) rest)
