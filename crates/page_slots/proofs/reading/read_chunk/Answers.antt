use Rattle.std.proofs.Common.{rules, ◌≡◌, ◌∙◌, [], length, drop, arith}
use Rattle.std.proofs.lemmas.List.{append-nil, drop_all}
use Rattle.page_slots.specs.Lines.{chunk}
use Rattle.page_slots.proofs.reading.read_chunk.Goals as goal

pub returns : goal.returns
returns c =
    let whole : length c.args.into.now ≡ 64 = search rules in
    let rest : drop 64 c.args.into.now ≡ [] = drop_all 64 c.args.into.now (omega arith) in
    c.read_part.ensures ∙ rw rest (append-nil (chunk c.args.bytes.now c.args.number))
