use Rattle.std.proofs.Common.{◌≡◌, ◌∙◌, None, Ok, Err, refl}
use Rattle.hier_types.proofs.CallLemmas.{Makes-read, Makes-read_then}
use Rattle.recency.specs.Levels.{kept_of, overlay}
use Rattle.recency.proofs.ListLemmas.{set_there}
use Rattle.recency.proofs.LevelLemmas.{length-overlay}
use Rattle.l2_cache.proofs.LeaveLemmas.{shown_below}
use Rattle.l2_cache.proofs.l2.L2.miss.Goals as goal

pub read-requires : goal.read-requires
read-requires g c = rw length-overlay at (rw (← c.self.view_is) at c.requires.inside)

pub returns-in-Err-clause-did : goal.returns-in-Err-clause-did
returns-in-Err-clause-did g c = rw (← c.self.view_is) (Makes-read c.args.line.0 (Err c.in-Err.refusal) c.in-Err.ensures.did (refl, refl, refl))

pub put_in_front-requires-clause-held : goal.put_in_front-requires-clause-held
put_in_front-requires-clause-held g c = λ clean.
    let none : kept_of c.self.inside.rooms.sets c.args.line.0 ≡ None = rw (← c.self.view_is) at c.requires.absent in
    (rw c.in_default.ensures.content (shown_below (g.B.Layer.content c.self.inside.below) c.self.inside.rooms.sets c.args.line.0 none ∙ c.in_default.ensures.ok), none)

pub returns-in-Err-put_in_front-clause-did : goal.returns-in-Err-put_in_front-clause-did
returns-in-Err-put_in_front-clause-did g c =
    rw (← c.self.view_is) (Makes-read_then c.args.line.0 (Ok c.read.new.into) c.in_default.ensures.did c.in-Err-put_in_front.ensures.did (λ calls puts. (refl, puts)))

pub returns-clause-ok : goal.returns-clause-ok
returns-clause-ok g c =
    let none : kept_of c.self.inside.rooms.sets c.args.line.0 ≡ None = rw (← c.self.view_is) at c.requires.absent in
    rw (← c.self.view_is) (shown_below (g.B.Layer.content c.self.inside.below) c.self.inside.rooms.sets c.args.line.0 none ∙ c.in_default.ensures.ok)

pub returns-clause-content : goal.returns-clause-content
returns-clause-content g c =
    let none : kept_of c.self.inside.rooms.sets c.args.line.0 ≡ None = rw (← c.self.view_is) at c.requires.absent in
    c.in_default-put_in_front.ensures.ok ∙ rw (c.in_default.ensures.content, ← c.self.view_is)
    (set_there (overlay (g.B.Layer.content c.self.inside.below) c.self.inside.rooms.sets) c.args.line.0 c.read.new.into (shown_below (g.B.Layer.content c.self.inside.below) c.self.inside.rooms.sets c.args.line.0 none ∙ c.in_default.ensures.ok))

pub returns-clause-did : goal.returns-clause-did
returns-clause-did g c =
    rw (← c.self.view_is) (Makes-read_then c.args.line.0 (Ok c.read.new.into) c.in_default.ensures.did c.in_default-put_in_front.ensures.did (λ calls puts. (refl, refl, puts)))
