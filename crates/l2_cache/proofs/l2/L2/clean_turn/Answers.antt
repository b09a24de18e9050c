use Rattle.std.proofs.Common.{◌≡◌, Some, Ok, Err, refl, sym, ap, subst, ◌∙◌}
use Rattle.hier_types.specs.Calls.{Makes}
use Rattle.hier_types.proofs.CallLemmas.{Makes-write}
use Rattle.recency.specs.Kept.{last_dirty}
use Rattle.recency.specs.Levels.{set_at}
use Rattle.recency.proofs.FlushLemmas.{turn_kept}
use Rattle.l2_cache.specs.SecondLevel.{SecondLevel}
use Rattle.l2_cache.specs.Turns.{Cleans}
use Rattle.l2_cache.specs.declared.clean.Clean.TheVariants.{Done, PutOff}
use Rattle.l2_cache.proofs.l2.L2.clean_turn.Goals as goal

pub write_back-requires : goal.write_back-requires
write_back-requires g c =
    rw (← c.self-2.view_is) (turn_kept (g.B.Layer.content c.self-2.inside.below) c.self-2.inside.rooms.sets c.self-2.invariant.sound c.self.inside.cursor c.in-Some.entry (sym c.in-Some.ensures))

pub returns-in-Err-clause-did : goal.returns-in-Err-clause-did
returns-in-Err-clause-did g c =
    let sets : c.self-2.inside.rooms.sets ≡ c.args.self.now.sets = ap (λ (z : SecondLevel g.row.B.Denot). z.sets) c.self-2.view_is ∙ c.move_on.ensures.sets in
    let cursor : c.self.inside.cursor ≡ c.args.self.now.cursor = ap (λ (z : SecondLevel g.row.B.Denot). z.cursor) c.self.view_is in
    let turn : last_dirty (set_at c.args.self.now.sets c.args.self.now.cursor).lines ≡ Some c.in-Some.entry = rw (← sets, ← cursor) (sym c.in-Some.ensures) in
    record {
      codec = c.in-Err.ensures.codec ∙ c.move_on.ensures.codec;
      cursor = c.in-Err.ensures.cursor ∙ c.move_on.ensures.cursor;
      counts = c.in-Err.ensures.counts ∙ c.move_on.ensures.counts;
      made = subst (λ (b : g.row.B.Denot). Makes g.B.Layer.did_read g.B.Layer.did_write b (Cleans c.args.self.now.sets c.args.self.now.cursor (PutOff c.in-Err.refusal) c.write_back.new.self.sets) c.write_back.new.self.below) c.move_on.ensures.below
          (Makes-write c.in-Some.entry.line c.in-Some.entry.bytes (Err c.in-Err.refusal) c.in-Err.ensures.did (c.in-Some.entry, turn, refl, refl, refl, c.in-Err.ensures.err ∙ c.move_on.ensures.sets));
    }

pub returns-clause-did : goal.returns-clause-did
returns-clause-did g c =
    let sets : c.self-2.inside.rooms.sets ≡ c.args.self.now.sets = ap (λ (z : SecondLevel g.row.B.Denot). z.sets) c.self-2.view_is ∙ c.move_on.ensures.sets in
    let cursor : c.self.inside.cursor ≡ c.args.self.now.cursor = ap (λ (z : SecondLevel g.row.B.Denot). z.cursor) c.self.view_is in
    let turn : last_dirty (set_at c.args.self.now.sets c.args.self.now.cursor).lines ≡ Some c.in-Some.entry = rw (← sets, ← cursor) (sym c.in-Some.ensures) in
    record {
      codec = c.in_default-write_back.ensures.codec ∙ c.move_on.ensures.codec;
      cursor = c.in_default-write_back.ensures.cursor ∙ c.move_on.ensures.cursor;
      counts = c.in_default-write_back.ensures.counts ∙ c.move_on.ensures.counts;
      made = subst (λ (b : g.row.B.Denot). Makes g.B.Layer.did_read g.B.Layer.did_write b (Cleans c.args.self.now.sets c.args.self.now.cursor Done c.write_back.new.self.sets) c.write_back.new.self.below) c.move_on.ensures.below
          (Makes-write c.in-Some.entry.line c.in-Some.entry.bytes (Ok tt) c.in_default-write_back.ensures.did (c.in-Some.entry, turn, refl, refl, rw (← c.move_on.ensures.sets) c.in_default-write_back.ensures.ok));
    }
