use Rattle.std.proofs.Common.{◌≡◌, ◌+◌, ◌<◌, ◌/◌, ◌%◌, ◌∙◌, length, get_or, arith}
use Rattle.std.proofs.lemmas.List.{get_or_default}
use Rattle.buddy_frames.specs.Units.{IsFreePlace, run_bits}
use Rattle.buddy_frames.proofs.PlaceLemmas.{fits_frame, place_frame}
use Rattle.buddy_frames.proofs.EffectLemmas.{marked}
use Rattle.buddy_frames.proofs.frames.Frames.mark.Goals as goal

pub run_bits_at-requires-clause-within : goal.run_bits_at-requires-clause-within
run_bits_at-requires-clause-within c = rw (c.unit-unit.ensures, c.order.ensures) (fits_frame c.args.block.now.order c.args.block.now.unit c.requires.lies.known c.requires.lies.aligned).room

pub overflow_add-byte : goal.overflow_add-byte
overflow_add-byte c =
    let held : IsFreePlace c.self.inside.bytes.items c.args.block.now = rw c.self.view_is c.requires in
    let within : c.args.block.now.unit / 8 < length c.self.inside.bytes.items = place_frame _ _ held.lies in
    let read : c.index.result.now ≡ get_or c.self.inside.bytes.items (c.args.block.now.unit / 8) c.index.result.now = rw c.unit-unit.ensures at c.index.ensures in
    let byte : c.index.result.now ≡ get_or c.self.inside.bytes.items (c.args.block.now.unit / 8) 0 = read ∙ get_or_default _ _ _ 0 within in
    let effect = marked c.self.inside.bytes.items c.args.block.now (c.self.invariant.frames_are.small (c.args.block.now.unit / 8)) held in
    let fits : get_or c.self.inside.bytes.items (c.args.block.now.unit / 8) 0 + run_bits c.args.block.now.order (c.args.block.now.unit % 8) < 256 = effect.fits in
    rw (byte, c.run_bits_at.ensures, c.order.ensures, c.unit-unit.ensures) (omega arith)

pub returns-clause-units : goal.returns-clause-units
returns-clause-units c =
    let held : IsFreePlace c.self.inside.bytes.items c.args.block.now = rw c.self.view_is c.requires in
    let within : c.args.block.now.unit / 8 < length c.self.inside.bytes.items = place_frame _ _ held.lies in
    let read : c.index.result.now ≡ get_or c.self.inside.bytes.items (c.args.block.now.unit / 8) c.index.result.now = rw c.unit-unit.ensures at c.index.ensures in
    let byte : c.index.result.now ≡ get_or c.self.inside.bytes.items (c.args.block.now.unit / 8) 0 = read ∙ get_or_default _ _ _ 0 within in
    let effect = marked c.self.inside.bytes.items c.args.block.now (c.self.invariant.frames_are.small (c.args.block.now.unit / 8)) held in
    rw (c.set_byte.ensures, c.run_bits_at.ensures, c.order.ensures, c.unit-unit.ensures, byte, ← c.self.view_is) effect.units
