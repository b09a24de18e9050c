use Rattle.std.proofs.Common.{◌≡◌, length, map, take}
use Rattle.sim_words.specs.Values.{beat_of}
use Rattle.sim_words.proofs.values.beats_from.Given as goal

abbrev pub invariant-loop-letter : goal.invariant-loop-letter
invariant-loop-letter l = record { read : l.beats.items ≡ map beat_of (take l.letter-index l.letters); len : length l.beats.items ≡ l.letter-index }
