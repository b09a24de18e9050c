use Rattle.std.proofs.Common.{◌≡◌, ◌<◌, ◌-◌, ◌^◌, length, drop}
use Rattle.bdi_codec.specs.Bytes.{number_of}
use Rattle.bdi_codec.proofs.bytes.number.Given as goal

abbrev pub invariant-loop-place : goal.invariant-loop-place
invariant-loop-place l = (l.n ≡ number_of (drop l.place l.bytes)) × (l.n < 256 ^ (length l.bytes - l.place))
