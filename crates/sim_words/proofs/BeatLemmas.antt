-- What a word of beats has of its letters.
use Rattle.std.proofs.Common.{◌≡◌, ◌∙◌, ◌==◌, ◌||◌, ◌≤◌, Bool, true, false, cond, refl, sym, ap, ap₂, arith, List, [], ◌∷◌, ℕ, Option, Some, None, SomeIff, length, map, le-leb}
use Rattle.std.specs.List.{list_all, list_any}
use Rattle.std.proofs.lemmas.List.{length-map}
use Rattle.clap.specs.Words.{Text}
use Rattle.hier_types.specs.Beats.{IsBeatWord, is_hart}
use Rattle.hier_types.specs.declared.beats.Beat.{Beat}
use Rattle.hier_types.specs.declared.beats.Beat.TheVariants.{Hart, Mover, Cleaner}
use Rattle.sim_words.specs.Values.{beat_of, beats_of, is_beat_letter}

hart_letter : (letter : ℕ) → is_hart (beat_of letter) ≡ (letter == 104)
hart_letter letter = go (letter == 104) (letter == 109)
  where
    go : (hart mover : Bool) → is_hart (cond hart Hart (cond mover Mover Cleaner)) ≡ hart
    go true mover = refl
    go false true = refl
    go false false = refl

hart_letters : (text : Text) → list_any is_hart (map beat_of text) ≡ list_any (λ letter. letter == 104) text
hart_letters [] = refl
hart_letters (letter ∷ rest) = ap₂ (λ (a b : Bool). a || b) (hart_letter letter) (hart_letters rest)

-- std's answer on the beats of the letters is the rule's
pub beats_read : (text : Text) (result : Option (List Beat)) → length text ≤ 64 → list_all is_beat_letter text ≡ true
    → SomeIff result (IsBeatWord (map beat_of text)) (map beat_of text) → result ≡ beats_of text
beats_read text (Some beats) short letters is =
    rw (le-leb (length text) 64 short, letters, sym (hart_letters text) ∙ is.0.acts) (ap Some is.1)
beats_read text None short letters refused = go (list_any (λ letter. letter == 104) text) refl
  where
    go : (b : Bool) → list_any (λ letter. letter == 104) text ≡ b → None ≡ beats_of text
    go true acts = absurd (refused (record { short = omega (arith, length-map text beat_of, short); acts = hart_letters text ∙ acts }))
    go false acts = rw (le-leb (length text) 64 short, letters, acts) refl
