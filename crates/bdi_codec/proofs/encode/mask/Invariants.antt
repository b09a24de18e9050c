use Rattle.std.proofs.Common.{◌≡◌, ◌<◌, ◌+◌, ◌-◌, ◌^◌, length, drop}
use Rattle.bdi_codec.specs.Deltas.{mask_of}
use Rattle.bdi_codec.proofs.encode.mask.Given as goal

abbrev pub invariant-loop-place : goal.invariant-loop-place
invariant-loop-place l =
    (l.mask ≡ mask_of (l.shape.top + 1) l.shape.half (drop l.place l.elements)) × (l.mask < 2 ^ (length l.elements - l.place))
