-- What happened to streams over two stretches.
use Rattle.std.proofs.Common.{◌≡◌, ℕ, List, [], Option, Some, None, sym, arith}
use Rattle.std.proofs.lemmas.List.{append-nil}
use Rattle.std.specs.Io.KnownBytes.{Appends}
use Rattle.hier_types.specs.Streams.{FaultsStay, Meets, Streams, at_first, over}

-- a stream that was not written got nothing
pub appends_nothing : (before after : Option (List ℕ)) → after ≡ before → Appends before after []
appends_nothing before after same = rw same (to_itself before)
  where
    to_itself : (written : Option (List ℕ)) → Appends written written []
    to_itself None = tt
    to_itself (Some bytes) = sym (append-nil bytes)

-- no count falls before anything has happened, nor over two stretches in which none falls
pub faults_first : (s : Streams) → FaultsStay (at_first s)
faults_first s = record { input = omega arith; output = omega arith }

pub faults_join : (first second : Streams) → FaultsStay first → FaultsStay second → Meets first second → FaultsStay (over first second)
faults_join first second a b meets = record { input = omega (arith, a.input, b.input, meets.in_faults); output = omega (arith, a.output, b.output, meets.out_faults) }
