use Rattle.std.proofs.Common.{◌≡◌, Some, None, Ok, Err, refl, sym, ◌∙◌, arith}
use Rattle.hier_types.proofs.CallLemmas.{Makes-none, Makes-write, Makes-write_then}
use Rattle.recency.specs.Steps.{next_dirty}
use Rattle.recency.proofs.CleanLemmas.{overlay_clean}
use Rattle.recency.proofs.FlushLemmas.{back_falls, next_kept, next_before_clean}
use Rattle.l2_cache.proofs.l2.L2.flush.Goals as goal

pub returns-in-Err-clause-did : goal.returns-in-Err-clause-did
returns-in-Err-clause-did g c =
    let next : next_dirty c.loop-entry.self.sets ≡ Some c.in-Some.entry = rw (← c.self.view_is) (sym c.in-Some.ensures) in
    record {
      codec = c.in-Err.ensures.codec ∙ c.loop-entry.invariant.codec;
      cursor = c.in-Err.ensures.cursor ∙ c.loop-entry.invariant.cursor;
      counts = c.in-Err.ensures.counts ∙ c.loop-entry.invariant.counts;
      made = c.loop-entry.invariant.on _ _ _ (Makes-write c.in-Some.entry.line c.in-Some.entry.bytes (Err c.in-Err.refusal) c.in-Err.ensures.did
          (c.in-Some.entry, next, refl, refl, refl, refl, c.in-Err.ensures.err));
    }

pub write_back-requires : goal.write_back-requires
write_back-requires g c = rw (← c.self.view_is) (next_kept (g.B.Layer.content c.self.inside.below) c.self.inside.rooms.sets c.self.invariant.sound c.in-Some.entry (sym c.in-Some.ensures)).1

pub loop-entry-smaller : goal.loop-entry-smaller
loop-entry-smaller g c =
    let kept = next_kept (g.B.Layer.content c.self.inside.below) c.self.inside.rooms.sets c.self.invariant.sound c.in-Some.entry (sym c.in-Some.ensures) in
    rw (c.in_default-write_back.ensures.ok, ← c.self.view_is) (back_falls (g.B.Layer.content c.self.inside.below) c.self.inside.rooms.sets c.self.invariant.sound c.in-Some.entry kept.1 kept.2)

pub loop-entry-preserved : goal.loop-entry-preserved
loop-entry-preserved g c =
    let next : next_dirty c.loop-entry.self.sets ≡ Some c.in-Some.entry = rw (← c.self.view_is) (sym c.in-Some.ensures) in
    let written = rw (← c.self-in-Some.view_is, ← c.self.view_is) at c.in_default-write_back.ensures.ok in
    record {
      content = c.in_default-write_back.ensures.content ∙ c.loop-entry.invariant.content;
      codec = c.in_default-write_back.ensures.codec ∙ c.loop-entry.invariant.codec;
      cursor = c.in_default-write_back.ensures.cursor ∙ c.loop-entry.invariant.cursor;
      counts = c.in_default-write_back.ensures.counts ∙ c.loop-entry.invariant.counts;
      later = omega (arith, c.loop-entry.invariant.later, c.in_default-write_back.ensures.cause.later);
      clean = rw (c.set_number-from.ensures, ← c.self-in-Some.view_is) (rw written (next_before_clean (g.B.Layer.content c.self.inside.below) c.self.inside.rooms.sets c.self.invariant.sound c.in-Some.entry (sym c.in-Some.ensures)));
      on = λ result new t rest. c.loop-entry.invariant.on result new t
          (Makes-write_then c.in-Some.entry.line c.in-Some.entry.bytes (Ok tt) c.in_default-write_back.ensures.did (rw c.in_default-write_back.ensures.ok at rest)
          (λ calls fl. (c.in-Some.entry, next, refl, refl, fl)));
    }

pub returns-clause-did : goal.returns-clause-did
returns-clause-did g c =
    let next : next_dirty c.loop-entry.self.sets ≡ None = rw (← c.self.view_is) (sym c.next_dirty.ensures ∙ c.in_default.is) in
    record {
      codec = c.loop-entry.invariant.codec;
      cursor = c.loop-entry.invariant.cursor;
      counts = c.loop-entry.invariant.counts;
      made = c.loop-entry.invariant.on _ _ _ (Makes-none (next, refl, refl));
    }

pub returns-clause-settled : goal.returns-clause-settled
returns-clause-settled g c =
    rw (← c.self.view_is) (sym (overlay_clean (g.B.Layer.content c.self.inside.below) c.self.inside.rooms.sets c.self.invariant.sound (sym c.next_dirty.ensures ∙ c.in_default.is)))
