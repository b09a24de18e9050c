use Rattle.std.proofs.Common.{◌≡◌, length, ap, ◌∙◌, rules}
use Rattle.hier_types.specs.declared.settings.Codec.TheVariants.{Bdi, Fpc}
use Rattle.bdi_codec.proofs.BytesLemmas.{AreBytes}
use Rattle.line_codec.proofs.EmptyLemmas.{length_some-says}
use Rattle.line_codec.proofs.PayloadLemmas.{length-payload_under, payload_under-says}
use Rattle.line_codec.proofs.payloads.pack.Goals as goal

pub returns-in-Bdi-clause-size : goal.returns-in-Bdi-clause-size
returns-in-Bdi-clause-size c =
    let line = c.args.line.now in
    let len : length line ≡ 64 = search rules in
    rw c.in-Bdi.is (ap length c.pack_deltas.ensures.payload ∙ length-payload_under Bdi line len)

pub returns-in-Bdi-clause-reads_back : goal.returns-in-Bdi-clause-reads_back
returns-in-Bdi-clause-reads_back c =
    let line = c.args.line.now in
    let bytes : AreBytes line = search rules in
    let len : length line ≡ 64 = search rules in
    rw (c.pack_deltas.ensures.form, c.pack_deltas.ensures.payload) (payload_under-says Bdi line bytes len)

pub returns-in-Fpc-clause-size : goal.returns-in-Fpc-clause-size
returns-in-Fpc-clause-size c =
    let line = c.args.line.now in
    let len : length line ≡ 64 = search rules in
    rw c.in-Fpc.is (ap length c.pack_patterns.ensures.payload ∙ length-payload_under Fpc line len)

pub returns-in-Fpc-clause-reads_back : goal.returns-in-Fpc-clause-reads_back
returns-in-Fpc-clause-reads_back c =
    let line = c.args.line.now in
    let bytes : AreBytes line = search rules in
    let len : length line ≡ 64 = search rules in
    rw (c.pack_patterns.ensures.form, c.pack_patterns.ensures.payload) (payload_under-says Fpc line bytes len)

pub returns-in-Bdi-clause-some : goal.returns-in-Bdi-clause-some
returns-in-Bdi-clause-some c = length_some-says c.pack_deltas.result.form c.pack_deltas.result.payload.items c.args.line.now (returns-in-Bdi-clause-reads_back c)

pub returns-in-Fpc-clause-some : goal.returns-in-Fpc-clause-some
returns-in-Fpc-clause-some c = length_some-says c.pack_patterns.result.form c.pack_patterns.result.payload.items c.args.line.now (returns-in-Fpc-clause-reads_back c)
