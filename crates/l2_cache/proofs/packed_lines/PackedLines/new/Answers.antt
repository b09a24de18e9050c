use Rattle.std.proofs.Common.{◌≡◌, ◌*◌, ◌∙◌, ℕ, List, [], ap, map, replicate, arith}
use Rattle.l2_cache.specs.PackedLines.{plain}
use Rattle.l2_cache.proofs.PackedLemmas.{plain-replicate}
use Rattle.l2_cache.proofs.packed_lines.PackedLines.new.Goals as goal

pub returns : goal.returns
returns c =
    let past = c.loop-slot-test.false in
    let within = c.loop-slot.auto.slot-end in
    let all : c.loop-slot.slot ≡ 2 * c.args.ways = omega arith in
    ap (λ (lines : List (List ℕ)). record { codec = c.args.codec; lines = lines; room = 8 * c.args.ways }) (ap (map plain) c.loop-slot.invariant ∙ plain-replicate c.loop-slot.slot ∙ ap (λ n. replicate n []) all)
