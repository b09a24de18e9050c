use Rattle.std.proofs.Common.{◌≡◌, ◌<◌, ◌*◌, length, subst, sym, arith}
use Rattle.hier_types.specs.Lines.{flatten}
use Rattle.hier_types.proofs.LineLemmas.{length-flatten}
use Rattle.hier_machine.specs.Memory.{guest_lines}
use Rattle.hier_machine.specs.State.{MachineState}
use Rattle.hier_machine.proofs.machine.Machine.view_page.Goals as goal

pub view_page-requires : goal.view_page-requires
view_page-requires c =
    let lines = guest_lines c.self.inside.memory in
    let lt : c.args.page.0 < c.self.inside.memory.span.pages = subst (λ (s : MachineState). c.args.page.0 < s.memory.span.pages) (sym c.self.view_is) c.requires in
    let sized : length (flatten lines) ≡ 4096 * c.self.inside.memory.span.pages = c.span-span.ensures.sized in
    record { inside = omega (arith, length-flatten lines c.lines-count.ensures.whole) }
