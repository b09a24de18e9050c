use Rattle.std.proofs.Common.{◌≡◌, ◌+◌, ◌-◌, ◌*◌, ◌%◌, ◌^◌, ◌<◌, sym, ap, ◌∙◌, length, arith, rules}
use Rattle.std.proofs.lemmas.Nat.{shl_whole, shr_below, one_shl, mod_below, pow_pos}
use Rattle.fpc_codec.specs.Bits.{number_of, joined}
use Rattle.fpc_codec.proofs.RowLemmas.{joined-joined, front-lt, joined-front}
use Rattle.fpc_codec.proofs.bit_rows.BitReader.take.Goals as goal

pub loop-count-preserved : goal.loop-count-preserved
unfolding joined
loop-count-preserved c =
    let l = c.loop-count in
    let cut = c.in_ok-first.ensures.cases.0 in
    let byte : c.from.result < 2 ^ 8 = search rules in
    let shl : c.from.result * 2 ^ l.count % 18446744073709551616 ≡ c.from.result * 2 ^ l.count = shl_whole c.from.result 8 l.count 64 byte (omega arith) in
    let parts : number_of l.rest.now ≡ joined 8 c.from.result (number_of c.in_ok-first.others.now) =
    ap number_of cut ∙ omega (arith, c.from.ensures) in (
      omega (arith, ap length cut),
      rw shl (front-lt l.count l.pending 8 c.from.result l.invariant.1 byte),
      omega arith,
      rw (shl, joined-joined) (rw parts at l.invariant.3),
    )

pub invariant_of-self : goal.invariant_of-self
invariant_of-self c =
    let l = c.loop-count in
    let e : l.count ≡ l.count - c.args.width + c.args.width = omega arith in
    record { few = omega arith; in_count = shr_below l.pending (l.count - c.args.width) c.args.width (rw e at l.invariant.1) }

pub returns-clause-below : goal.returns-clause-below
returns-clause-below c =
    let one : 1 * 2 ^ c.args.width % 18446744073709551616 ≡ 2 ^ c.args.width = one_shl c.args.width 64 (omega arith) in
    rw one (mod_below c.loop-count.pending (2 ^ c.args.width) (pow_pos c.args.width))

pub returns-clause-value : goal.returns-clause-value
returns-clause-value c =
    let l = c.loop-count in
    let one : 1 * 2 ^ c.args.width % 18446744073709551616 ≡ 2 ^ c.args.width = one_shl c.args.width 64 (omega arith) in
    rw one (sym l.invariant.3 ∙ joined-front c.args.width (l.count - c.args.width) l.count l.pending (number_of l.rest.now) (omega arith))
