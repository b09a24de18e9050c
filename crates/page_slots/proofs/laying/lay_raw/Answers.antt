use Rattle.std.proofs.Common.{rules, ◌≡◌, ◌+◌, ◌*◌, ◌/◌, ◌%◌, ◌∙◌, ℕ, List, [], ap, inl, inr, sym, arith}
use Rattle.std.specs.Prelude.{slice_index, slice_index_or}
use Rattle.std.proofs.lemmas.Bool.{cases_eq}
use Rattle.byte_parts.proofs.PartLemmas.{get_or-part, part_stays}
use Rattle.hier_types.proofs.TableLemmas.{tabulate-by_index}
use Rattle.page_slots.specs.Lines.{chunk}
use Rattle.page_slots.proofs.laying.lay_raw.Goals as goal

pub loop-line-preserved : goal.loop-line-preserved
loop-line-preserved c =
    let line = c.loop-line.line in
    record {
      whole = c.write_chunk.auto.bytes ∙ c.loop-line.invariant.whole;
      laid = λ i lt. elim (cases_eq i line) [
        | inl e ↦ rw e c.write_chunk.ensures.there
        | inr ne ↦ part_stays (64 * line) 64 (64 * i) 64 c.loop-line.bytes c.write_chunk.new.bytes c.write_chunk.ensures.changes
            (omega (arith, c.loop-line.invariant.whole)) (inl (omega arith)) ∙ c.loop-line.invariant.laid i (omega arith)
      ];
    }

pub returns-clause-content : goal.returns-clause-content
returns-clause-content c =
    sym (tabulate-by_index [] (chunk c.loop-line.bytes) 64 c.args.lines.now (search rules) (λ i lt. sym (c.loop-line.invariant.laid i (omega arith))))

pub returns-clause-value : goal.returns-clause-value
returns-clause-value c codec =
    let bytes = c.loop-line.bytes in
    tabulate-by_index 0 (λ i. slice_index (slice_index_or c.args.lines.now (i / 64) []) (i % 64)) 4096 bytes c.loop-line.invariant.whole
    (λ k lt.
    let split : 64 * (k / 64) + k % 64 ≡ k = omega arith in
    ap (λ (n : ℕ). slice_index bytes n) (sym split) ∙ sym (get_or-part (64 * (k / 64)) 64 bytes (k % 64) 0 (omega arith))
    ∙ ap (λ (line : List ℕ). slice_index line (k % 64)) (c.loop-line.invariant.laid (k / 64) (omega arith)))
