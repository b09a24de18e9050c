use Rattle.std.proofs.Common.{◌≡◌, ◌<◌, length, Some, refl, arith, zero-add}
use Rattle.std.proofs.lemmas.Grind.{common_steps}
use Rattle.fpc_codec.proofs.RowLemmas.{joined-zero}
use Rattle.fpc_codec.proofs.AlongLemmas.{along_start, along_step, along_none, along_over, along_full, none_iff}
use Rattle.fpc_codec.proofs.decoder.decode_words.Goals as goal

pub loop-reader-init : goal.loop-reader-init
loop-reader-init c =
    let made = c.new-reader.ensures in
    rw (c.new-out.ensures, made.rest, made.count, made.pending, joined-zero, zero-add) (omega arith, along_start _ _)

pub returns-in_default : goal.returns-in_default
returns-in_default c =
    let l = c.loop-reader in
    let room : length l.out.items < 16 = omega arith in
    λ words len. none_iff words (along_none _ _ _ _ l.out.items l.invariant.1 room c.in_default.ensures.none words len)

pub returns-then-not-push_words : goal.returns-then-not-push_words
returns-then-not-push_words c =
    let l = c.loop-reader in
    let room : length l.out.items < 16 = omega arith in
    λ words len. none_iff words
    (along_over _ _ _ _ l.out.items c.in-Some.code _ _ l.invariant.1 room c.in-Some.ensures.code c.in-Some.ensures.value c.in-Some.ensures.bits (c.if-not-push_words.ensures.full refl) words len)

pub loop-reader-preserved : goal.loop-reader-preserved
loop-reader-preserved c =
    let l = c.loop-reader in
    let room : length l.out.items < 16 = omega arith in
    let along = along_step _ _ _ _ l.out.items c.in-Some.code _ _ l.invariant.1 room c.in-Some.ensures.code c.in-Some.ensures.value c.in-Some.ensures.bits in
    (c.push_words.ensures.room, rw c.if-not-push_words.ensures.items along)

pub returns : goal.returns
returns c =
    let l = c.loop-reader in
    let done : c.ok.result ≡ Some l.out.items = grind (arith, common_steps) in
    λ words len. rw done (along_full _ _ _ _ l.out.items l.invariant.1 (omega arith) words len)
