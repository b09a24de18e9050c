use Rattle.std.proofs.Common.{rules, ◌≡◌, ◌∙◌, length, replicate, ap}
use Rattle.hier_types.specs.Lines.{zero_line}
use Rattle.page_slots.proofs.desc.Shape.line.Goals as goal

pub returns-in-Zero : goal.returns-in-Zero
returns-in-Zero c =
    let whole : length c.args.into.now ≡ 64 = search rules in
    let zeros : c.fill.new.self ≡ zero_line = c.fill.ensures.after (λ y h. h) ∙ ap (λ n. replicate n 0) whole in
    rw c.in-Zero.is zeros
