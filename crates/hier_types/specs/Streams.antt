-- What happened to the input and the output.
use Rattle.std.specs.Prelude.{◌≡◌, ◌≤◌, ℕ, List, Option, IfSome, take, drop, length, Some}
use Rattle.hier_types.specs.Causes.{Rose}
use Rattle.hier_types.specs.Outside.{AppendsFront}

-- a stream's bytes before and after, where it tells them: those that are left to read, or those that were written; and its count of faults
pub record Stream : Type 0 where
  pub before : Option (List ℕ)
  pub after : Option (List ℕ)
  pub faults_before : ℕ
  pub faults_now : ℕ

abbrev pub stream : Option (List ℕ) → Option (List ℕ) → ℕ → ℕ → Stream
stream before after faults_before faults_now = record { before = before; after = after; faults_before = faults_before; faults_now = faults_now }

pub record Streams : Type 0 where
  pub input : Stream
  pub output : Stream

abbrev pub streams : Stream → Stream → Streams
streams input output = record { input = input; output = output }

-- what happened to a source or a sink from one of its states to another, by the bytes that it tells and its faults
abbrev pub use_of : {S : Type 0} → (S → Option (List ℕ)) → (S → ℕ) → S → S → Stream
use_of told faults old new = stream (told old) (told new) (faults old) (faults new)

-- what happened to an input and to an output
abbrev pub went : {I O : Type 0} → (I → Option (List ℕ)) → (I → ℕ) → (O → Option (List ℕ)) → (O → ℕ) → I → I → O → O → Streams
went left in_faults written out_faults input input' out out' = streams (use_of left in_faults input input') (use_of written out_faults out out')

abbrev pub IsUntouched : Stream → Type 0
IsUntouched s = s.after ≡ s.before

-- neither was touched
abbrev pub AreUntouched : Streams → Type 0
AreUntouched s = IsUntouched s.input × IsUntouched s.output

-- no count of faults falls
pub record FaultsStay (s : Streams) : Type 0 where
  pub input : s.input.faults_before ≤ s.input.faults_now
  pub output : s.output.faults_before ≤ s.output.faults_now

-- what happened over two stretches
abbrev pub over_stream : Stream → Stream → Stream
over_stream first second = stream first.before second.after first.faults_before second.faults_now

abbrev pub over : Streams → Streams → Streams
over first second = streams (over_stream first.input second.input) (over_stream first.output second.output)

-- The second stretch begins where the first ended.
pub record Meets (first second : Streams) : Type 0 where
  pub input : second.input.before ≡ first.input.after
  pub output : second.output.before ≡ first.output.after
  pub in_faults : second.input.faults_before ≡ first.input.faults_now
  pub out_faults : second.output.faults_before ≡ first.output.faults_now

-- before anything has happened
abbrev pub still : Stream → Stream
still s = stream s.before s.before s.faults_before s.faults_before

abbrev pub at_first : Streams → Streams
at_first s = streams (still s.input) (still s.output)

-- A read of at most so many bytes got these: all that there are, up to that number.
pub record Gives (input : Stream) (count : ℕ) (got : List ℕ) : Type 0 where
  pub most : length got ≤ count
  pub told : IfSome input.before (λ bytes. (got ≡ take count bytes) × (input.after ≡ Some (drop count bytes)))

-- the input failed, and gave nothing
pub record FailsToGive (input : Stream) : Type 0 where
  pub kept : IfSome input.before (λ bytes. input.after ≡ Some bytes)
  pub rose : Rose input.faults_before input.faults_now

-- the output failed, and took a front of the bytes
pub record FailsToTake (output : Stream) (bytes : List ℕ) : Type 0 where
  pub front : AppendsFront output.before output.after bytes
  pub rose : Rose output.faults_before output.faults_now
