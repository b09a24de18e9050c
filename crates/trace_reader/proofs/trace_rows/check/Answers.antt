use Rattle.std.proofs.Common.{◌∙◌, ℕ, List, length, sym, ap, arith}
use Rattle.std.proofs.lemmas.Result.{err_from_is_err_and}
use Rattle.trace_reader.specs.Trace.{Reading, accesses_of, first_fault, rows_left}
use Rattle.trace_reader.proofs.TraceLemmas.{goes-on, ends, fails, no-fault, no-access, length-rows}
use Rattle.trace_reader.proofs.trace_rows.check.Goals as goal

pub loop-count-init : goal.loop-count-init
loop-count-init c =
    let new = c.new-rows.ensures in
    let left = ap rows_left new in
    record {
      span = ap (λ (r : Reading). r.span) new;
      sound = ap (λ (r : Reading). r.fault) new;
      faults = ap (first_fault c.args.geometry) (sym left);
      counts = omega (arith, ap (λ (rows : List (ℕ × List ℕ)). length (accesses_of c.args.geometry rows)) left);
      fits = omega (arith, ap length left, length-rows 1 c.args.bytes.now);
    }

pub loop-count-preserved : goal.loop-count-preserved
loop-count-preserved c =
    let held = c.loop-count.invariant in
    let reads = c.in_ok-read_row.ensures in
    let read = goes-on c.args.geometry c.loop-count.rows c.read_row.new.self c.in_ok-read_row.field-0 held.span held.sound reads (sym c.is_some.ensures ∙ c.if-is_some.true) in
    let accesses = ap (λ (rows : List (ℕ × List ℕ)). length (accesses_of c.args.geometry rows)) reads.rows in
    record {
      span = reads.span ∙ held.span;
      sound = reads.fault;
      faults = held.faults ∙ read.faults ∙ ap (first_fault c.args.geometry) (sym reads.rows);
      counts = omega (arith, held.counts, read.accesses, accesses);
      fits = omega (arith, held.fits, read.some, ap length reads.rows);
    }

pub returns-in_err-read_row : goal.returns-in_err-read_row
returns-in_err-read_row c =
    let held = c.loop-count.invariant in
    let p = err_from_is_err_and c.from_residual.result c.from_residual.ensures.1 in
    let found = fails c.args.geometry c.loop-count.rows c.read_row.new.self c.in_err-read_row.field-0.0 held.span held.sound c.in_err-read_row.ensures in
    rw (p.1, p.2) (held.faults ∙ found)

pub returns : goal.returns
returns c =
    let held = c.loop-count.invariant in
    let none = ends c.args.geometry c.loop-count.rows c.read_row.new.self c.in_ok-read_row.field-0 held.span held.sound c.in_ok-read_row.ensures (sym c.is_some.ensures ∙ c.if-is_some.false) in (
      held.faults ∙ ap (first_fault c.args.geometry) none ∙ no-fault c.args.geometry,
      omega (arith, held.counts, ap (λ (rows : List (ℕ × List ℕ)). length (accesses_of c.args.geometry rows)) none, no-access c.args.geometry),
    )
