use Rattle.std.proofs.Common.{◌≡◌, ℕ, ◌+◌, ◌-◌, ◌*◌, ◌/◌, ◌%◌, ◌^◌, ◌<◌, ◌++◌, List, [], ◌∷◌, refl, ap, ◌∙◌, arith}
use Rattle.std.proofs.lemmas.List.{append_assoc}
use Rattle.std.proofs.lemmas.Nat.{shl_whole, shr_below}
use Rattle.arrayvec.specs.ArrayVec.{array_vec_len}
use Rattle.fpc_codec.specs.Bits.{bytes_of, joined}
use Rattle.fpc_codec.proofs.RowLemmas.{joined-joined, front-lt, bytes_of-joined}
use Rattle.fpc_codec.proofs.bit_rows.BitWriter.put.Goals as goal

pub loop-count-init : goal.loop-count-init
loop-count-init c =
    let s = c.args.self.now in
    let shl : c.args.number * 2 ^ s.count % 18446744073709551616 ≡ c.args.number * 2 ^ s.count = shl_whole c.args.number c.args.width s.count 64 c.requires.number_in (omega arith) in
    (omega arith, rw shl (front-lt s.count s.pending c.args.width c.args.number s.in_count c.requires.number_in), omega arith, λ total behind h. rw (shl, joined-joined) refl)

pub loop-count-preserved : goal.loop-count-preserved
loop-count-preserved c =
    let l = c.loop-count in
    let items = c.push.ensures.items in
    let e : l.count ≡ l.count - 8 + 8 = omega arith in
    let below : l.pending / 256 < 2 ^ (l.count - 8) = shr_below l.pending (l.count - 8) 8 (rw e at l.invariant.1) in (
      omega (arith, c.push.ensures.len),
      below,
      omega arith,
      λ total behind h.
          let step = bytes_of-joined (total - array_vec_len c.push.new.self) (total - array_vec_len l.self.bytes) (l.count - 8) l.count l.pending behind (omega (arith, c.push.ensures.len)) (omega arith) in
          let kept = rw step at (l.invariant.3 total behind (omega (arith, c.push.ensures.len))) in
          let tail = bytes_of (total - array_vec_len c.push.new.self) (joined (l.count - 8) (l.pending / 256) behind) in
          ap (λ (xs : List ℕ). xs ++ tail) items ∙ append_assoc l.self.bytes.items (l.pending % 256 ∷ []) tail ∙ kept,
    )
