-- What a turn of the mover leaves of a store.
use Rattle.std.proofs.Common.{◌≡◌, ◌∙◌, ℕ, List, Option, Some, None, length, inl, inr, refl, ap}
use Rattle.std.proofs.lemmas.List.{length-set}
use Rattle.buddy_frames.specs.Units.{Place}
use Rattle.hier_types.specs.Causes.{raised}
use Rattle.hier_types.specs.declared.counts.PageCounts.{PageCounts}
use Rattle.page_mover.specs.declared.turning.Turn.{Turn}
use Rattle.page_mover.specs.Moves.{body}
use Rattle.page_slots.specs.Descs.{block_of}
use Rattle.page_store.specs.Contents.{contents_of}
use Rattle.page_store.specs.PageBlocks.{block_at, moved, without}
use Rattle.page_store.specs.Store.{Store, sizing_of}
use Rattle.page_store.specs.Turns.{MakesTurnOn, TurnsPage}
use Rattle.page_store.proofs.OneTurnLemmas.{mover_one}
use Rattle.page_store.proofs.StoreLemmas.{noted_ways}
use Rattle.hier_machine.specs.Beats.{MovesPages}

-- What a turn leaves before it is counted.
record Leaves (s t : Store) : Type 0 where
  sizing_is : sizing_of t ≡ sizing_of s
  contents_are : contents_of t ≡ contents_of s
  counts_are : t.counts ≡ s.counts

-- the frames are as many as before where one block takes the place of another
length-without : (used : List ℕ) (before : Option Place) → length (without used before) ≡ length used
length-without used None = refl
length-without used (Some block) = length-set used _ _

length-moved : (used : List ℕ) (before after : Option Place) → length (moved used before after) ≡ length used
length-moved used before None = length-without used before
length-moved used before (Some block) = length-set (without used before) _ _ ∙ length-without used before

made_leaves : (s : Store) (page : ℕ) (turn : Turn) (t : Store) → MakesTurnOn s page turn t → Leaves s t
made_leaves s page turn t h =
    let codec : t.codec ≡ s.codec = ap (λ (p : Store). p.codec) h.is in
    let frames : length t.used ≡ length s.used = ap length h.comes.used_is ∙ length-moved s.used (block_at s.descriptors page) (block_of h.comes.desc) in
    let ways : t.meta.ways ≡ s.meta.ways = ap (λ (p : Store). p.meta.ways) h.is ∙ noted_ways s.meta page h.shape (body h.shape h.front) in
    record { sizing_is = rw (codec, frames, ways) refl; contents_are = ap contents_of h.is; counts_are = ap (λ (p : Store). p.counts) h.is }

turn_leaves : (s : Store) (page : ℕ) (turn : Turn) (t : Store) → TurnsPage s page turn t → Leaves s t
turn_leaves s page turn t (inl stays) = record { sizing_is = ap sizing_of stays.1.1; contents_are = ap contents_of stays.1.1; counts_are = ap (λ (p : Store). p.counts) stays.1.1 }
turn_leaves s page turn t (inr makes) = made_leaves s page turn t makes.1

-- its size
pub moves_sizing : (s t : Store) → MovesPages s t → sizing_of t ≡ sizing_of s
moves_sizing s t (kind, h) = ap sizing_of h.is ∙ (turn_leaves s s.cursor h.turn h.mid h.turns).sizing_is

-- its contents
pub moves_contents : (s t : Store) → MovesPages s t → contents_of t ≡ contents_of s
moves_contents s t (kind, h) = ap contents_of h.is ∙ (turn_leaves s s.cursor h.turn h.mid h.turns).contents_are

-- it is counted
pub moves_turns : (s t : Store) → MovesPages s t → t.counts.mover_turns ≡ raised s.counts.mover_turns
moves_turns s t (kind, h) = ap (λ (p : Store). p.counts.mover_turns) h.is ∙ ap (λ (k : PageCounts). raised k.mover_turns) (turn_leaves s s.cursor h.turn h.mid h.turns).counts_are

-- two turns from one store leave one
pub moves_one : (s t u : Store) → MovesPages s t → MovesPages s u → t ≡ u
moves_one s t u h k = (mover_one s h.0 k.0 t u h.1 k.1).1
