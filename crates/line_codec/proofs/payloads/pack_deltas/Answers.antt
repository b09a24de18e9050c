use Rattle.std.proofs.Common.{◌≡◌, ℕ, ◌==◌, ◌≤◌, false, refl, arith}
use Rattle.std.proofs.lemmas.Bool.Decides.{nat_tests}
use Rattle.bdi_codec.specs.Rows.{size_of, least_row}
use Rattle.line_codec.proofs.SlotLemmas.{size_of-past, size_of-header}
use Rattle.line_codec.proofs.payloads.pack_deltas.Goals as goal

short_row : (row : ℕ) → row ≤ 7 → (size_of row == 64) ≡ false
short_row row header =
    let size = (size_of-header row header).0 in
    grind (arith, nat_tests)

pub returns-then-coded-gt-LAST_ROW-clause-form : goal.returns-then-coded-gt-LAST_ROW-clause-form
returns-then-coded-gt-LAST_ROW-clause-form c =
    let coded = c.bdi_encode-coded in
    let plain : size_of (least_row c.args.line.now) ≡ 64 =
    rw coded.ensures.row at (size_of-past coded.result.row coded.ensures.known c.if-coded-gt-LAST_ROW.true) in
    rw plain c.pack_plain.ensures.form

pub returns-then-coded-gt-LAST_ROW-clause-payload : goal.returns-then-coded-gt-LAST_ROW-clause-payload
returns-then-coded-gt-LAST_ROW-clause-payload c =
    let coded = c.bdi_encode-coded in
    let plain : size_of (least_row c.args.line.now) ≡ 64 =
    rw coded.ensures.row at (size_of-past coded.result.row coded.ensures.known c.if-coded-gt-LAST_ROW.true) in
    rw plain c.pack_plain.ensures.payload

pub returns-clause-form : goal.returns-clause-form
returns-clause-form c =
    let coded = c.bdi_encode-coded in
    let short : (size_of (least_row c.args.line.now) == 64) ≡ false =
    rw coded.ensures.row at (short_row coded.result.row c.if-coded-gt-LAST_ROW.false) in
    rw (short, coded.ensures.mask, coded.ensures.row) refl

pub returns-clause-payload : goal.returns-clause-payload
returns-clause-payload c =
    let coded = c.bdi_encode-coded in
    let short : (size_of (least_row c.args.line.now) == 64) ≡ false =
    rw coded.ensures.row at (short_row coded.result.row c.if-coded-gt-LAST_ROW.false) in
    rw (short, coded.ensures.payload, coded.ensures.row) refl
