use Rattle.std.proofs.Common.{◌≡◌, ℕ, ◌+◌, ◌-◌, ◌*◌, ◌^◌, ◌<◌, ◌≤◌, ◌++◌}
use Rattle.arrayvec.specs.ArrayVec.{array_vec_len}
use Rattle.fpc_codec.specs.Bits.{bytes_of, joined}
use Rattle.fpc_codec.proofs.bit_rows.BitWriter.put.Given as goal

abbrev pub invariant-loop-count : goal.invariant-loop-count
invariant-loop-count l =
    (8 * array_vec_len l.self.bytes + l.count ≡ 8 * array_vec_len l.fn.self.bytes + l.fn.self.count + l.width)
    × (l.pending < 2 ^ l.count)
    × (l.count < 40)
    × ((total behind : ℕ) → array_vec_len l.self.bytes ≤ total
    → l.self.bytes.items ++ bytes_of (total - array_vec_len l.self.bytes) (joined l.count l.pending behind)
    ≡ l.fn.self.bytes.items ++ bytes_of (total - array_vec_len l.fn.self.bytes) (joined l.fn.self.count l.fn.self.pending (joined l.width l.number behind)))

abbrev pub decreases-loop-count : goal.decreases-loop-count
decreases-loop-count l = l.count
