use Rattle.std.proofs.Common.{sym}
use Rattle.std.proofs.lemmas.List.{append-nil}
use Rattle.fpc_codec.proofs.RowLemmas.{bytes_of-part, bytes_of-nothing}
use Rattle.fpc_codec.proofs.bit_rows.BitWriter.into_bytes.Goals as goal

pub returns-then-count-gt0 : goal.returns-then-count-gt0
returns-then-count-gt0 c =
    let s = c.args.self in
    rw (bytes_of-part s.count s.pending c.if-count-gt0.true s.few s.in_count) c.push.ensures.items

pub returns-else-count-gt0 : goal.returns-else-count-gt0
returns-else-count-gt0 c =
    let s = c.args.self in
    rw (bytes_of-nothing s.count s.pending c.if-count-gt0.false) (sym (append-nil s.bytes.items))
