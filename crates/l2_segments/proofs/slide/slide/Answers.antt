use Rattle.std.proofs.Common.{◌<◌, length, refl, arith}
use Rattle.l2_segments.proofs.SlideLemmas.{slid_fits, slid_more, slid_all}
use Rattle.l2_segments.proofs.slide.slide.Goals as goal

pub loop-string-init : goal.loop-string-init
loop-string-init c = record { texts = refl; packed = omega arith; rest = c.requires.laid; sum = omega arith }

pub move_string-requires-clause-down : goal.move_string-requires-clause-down
move_string-requires-clause-down c =
    let within : c.loop-string.string-index < length c.loop-string.held = omega (arith, c.loop-string.auto.held, c.loop-string-test.true) in
    (slid_fits c.args.store.now c.args.held.now c.loop-string.store c.loop-string.held c.loop-string.string-index c.loop-string.end c.loop-string.invariant within).0

pub move_string-requires-clause-inside : goal.move_string-requires-clause-inside
move_string-requires-clause-inside c =
    let within : c.loop-string.string-index < length c.loop-string.held = omega (arith, c.loop-string.auto.held, c.loop-string-test.true) in
    let fits = (slid_fits c.args.store.now c.args.held.now c.loop-string.store c.loop-string.held c.loop-string.string-index c.loop-string.end c.loop-string.invariant within).1 in
    omega arith

pub end-end-requires : goal.end-end-requires
end-end-requires c =
    let within : c.loop-string.string-index < length c.loop-string.held = omega (arith, c.loop-string.auto.held, c.loop-string-test.true) in
    let fits = slid_fits c.args.store.now c.args.held.now c.loop-string.store c.loop-string.held c.loop-string.string-index c.loop-string.end c.loop-string.invariant within in
    let first = fits.0 in
    let last = fits.1 in
    rw c.move_string.ensures.string (omega (arith, c.loop-string.auto.store, c.requires.small))

pub loop-string-preserved : goal.loop-string-preserved
loop-string-preserved c =
    let within : c.loop-string.string-index < length c.loop-string.held = omega (arith, c.loop-string.auto.held, c.loop-string-test.true) in
    let more = slid_more c.args.store.now c.args.held.now c.loop-string.store c.move_string.new.store c.loop-string.held c.loop-string.string-index c.loop-string.end c.loop-string.invariant within
    c.move_string.ensures.changes c.move_string.ensures.there in
    rw (c.end-end.ensures, c.move_string.ensures.string) more

pub returns : goal.returns
returns c =
    let all = slid_all c.args.store.now c.args.held.now c.loop-string.store c.loop-string.held c.loop-string.string-index c.loop-string.end c.loop-string.invariant
    (omega (arith, c.loop-string.auto.held, c.loop-string-test.false)) in
    record { texts = c.loop-string.invariant.texts; behind = all.0; packed = all.1 }
