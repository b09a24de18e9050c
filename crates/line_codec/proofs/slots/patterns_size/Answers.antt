use Rattle.std.proofs.Common.{◌≡◌, ◌∙◌, Some, refl, ap, sym}
use Rattle.std.proofs.lemmas.Option.{same_Some}
use Rattle.fpc_codec.specs.Line.{size_of}
use Rattle.fpc_codec.specs.Reading.{line_said}
use Rattle.fpc_codec.proofs.ReadingLemmas.{line_said-means}
use Rattle.line_codec.proofs.slots.patterns_size.Goals as goal

pub unwrap-requires : goal.unwrap-requires
unwrap-requires c = rw (c.fpc_decode.ensures.only c.requires.0 c.requires.1) refl

pub returns-clause-size : goal.returns-clause-size
returns-clause-size c =
    let line = c.requires.0 in
    let found : Some c.unwrap.result ≡ Some line = sym c.unwrap.ensures ∙ c.fpc_decode.ensures.only line c.requires.1 in
    let same : c.unwrap.result ≡ line_said c.args.bytes.now = same_Some c.unwrap.result line found ∙ sym (line_said-means c.args.bytes.now line c.requires.1) in
    c.fpc_size.ensures.size ∙ ap size_of same
