use Rattle.std.proofs.Common.{◌≡◌, ◌+◌, ◌-◌, ◌*◌, ◌^◌, ◌<◌, length}
use Rattle.fpc_codec.specs.Bits.{number_of, joined}
use Rattle.fpc_codec.proofs.bit_rows.BitReader.take.Given as goal

abbrev pub invariant-loop-count : goal.invariant-loop-count
invariant-loop-count l =
    (l.count + 8 * length l.rest ≡ l.fn.self.count + 8 * length l.fn.self.rest.now)
    × (l.pending < 2 ^ l.count)
    × (l.count < l.width + 8)
    × (joined l.count l.pending (number_of l.rest) ≡ joined l.fn.self.count l.fn.self.pending (number_of l.fn.self.rest.now))

abbrev pub decreases-loop-count : goal.decreases-loop-count
decreases-loop-count l = l.width - l.count
