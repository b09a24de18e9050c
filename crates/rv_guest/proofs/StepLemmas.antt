-- Steps, by what they do to the streams.
use Rattle.std.proofs.Common.{◌≡◌, ℕ, ◌+◌, List, [], ◌++◌, take, drop, Option, Some, None, IfSome, refl, sym, ◌∙◌, ap}
use Rattle.std.proofs.lemmas.List.{append-nil, take_all}
use Rattle.std.specs.Io.KnownBytes.{Appends}
use Rattle.hier_types.specs.Streams.{AreUntouched, Gives, IsUntouched, Stream, Streams}
use Rattle.hier_types.proofs.StreamLemmas.{appends_nothing}
use Rattle.rv_guest.specs.Beside.{Beside}
use Rattle.rv_guest.specs.FlatRun.{Next}
use Rattle.rv_guest.specs.Steps.{MakesStep}

-- the bytes that a stream tells, or these
told_or : Option (List ℕ) → List ℕ → List ℕ
told_or None bytes = bytes
told_or (Some told) bytes = told

told_still : (before after : Option (List ℕ)) (bytes : List ℕ) → after ≡ before → IfSome before (λ told. (told_or before bytes ≡ told) × (after ≡ Some (told_or before bytes)))
unfolding told_or
told_still None after bytes same = tt
told_still (Some told) after bytes same = (refl, same)

module _ {G F : Type 0} (m : Beside G F) (old new : G) (s : Streams) (retired : m.retired new ≡ m.retired old + 1) where
  -- a step that writes, over any input
  pub makes_write : (bytes : List ℕ) → IsUntouched s.input → Appends s.output.before s.output.after bytes → ((input output : List ℕ) → m.step (m.told old input output) ≡ Next (m.told new input (output ++ bytes))) → MakesStep m old new s
  makes_write bytes quiet wrote step = record {
    retired = retired;
    before = told_or s.input.before [];
    left = told_or s.input.before [];
    told = told_still s.input.before s.input.after [] quiet;
    bytes = bytes;
    wrote = wrote;
    step = λ output. step (told_or s.input.before []) output;
  }

  -- a step that leaves the streams
  pub makes_quiet : AreUntouched s → ((input output : List ℕ) → m.step (m.told old input output) ≡ Next (m.told new input output)) → MakesStep m old new s
  makes_quiet quiet step = makes_write [] quiet.0 (appends_nothing s.output.before s.output.after quiet.1) (λ input output. step input output ∙ ap (λ o. Next (m.told new input o)) (sym (append-nil output)))

-- the input that a read had, as far as it is known, and what it left
input_of : (input : Stream) (count : ℕ) (got : List ℕ) → Gives input count got → (before : List ℕ) × IfSome input.before (λ told. (before ≡ told) × (input.after ≡ Some (drop count before))) × (take count before ≡ got)
input_of input count got gives = at input.before gives.told
  where
    at : (before : Option (List ℕ)) → IfSome before (λ bytes. (got ≡ take count bytes) × (input.after ≡ Some (drop count bytes))) → (all : List ℕ) × IfSome before (λ told. (all ≡ told) × (input.after ≡ Some (drop count all))) × (take count all ≡ got)
    at None told = (got, tt, take_all count got gives.most)
    at (Some bytes) told = (bytes, (refl, told.1), sym told.0)

module _ {G F : Type 0} (m : Beside G F) (old new : G) (s : Streams) (retired : m.retired new ≡ m.retired old + 1) where
  -- a step that reads: over the told input, or over what it got
  pub makes_read : (count : ℕ) (got : List ℕ) → Gives s.input count got → IsUntouched s.output → ((input output : List ℕ) → take count input ≡ got → m.step (m.told old input output) ≡ Next (m.told new (drop count input) output)) → MakesStep m old new s
  makes_read count got gives quiet step =
      let all = input_of s.input count got gives in
      record {
        retired = retired;
        before = all.0;
        left = drop count all.0;
        told = all.1;
        bytes = [];
        wrote = appends_nothing s.output.before s.output.after quiet;
        step = λ output. step all.0 output all.2 ∙ ap (λ o. Next (m.told new (drop count all.0) o)) (sym (append-nil output));
      }
