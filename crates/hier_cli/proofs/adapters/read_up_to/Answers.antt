use Rattle.std.proofs.Common.{◌≡◌, ◌++◌, ◌∙◌, ℕ, ◌<◌, List, length, take, Option, Some, None, IfSome, min, arith, ap, subst}
use Rattle.std.proofs.lemmas.List.{length-take, take_all}
use Rattle.std.specs.Prelude.{option_map}
use Rattle.hier_cli.proofs.adapters.read_up_to.Goals as goal

-- fewer bytes than could be taken are all
all_taken : (given : Option (List ℕ)) (most : ℕ) (items : List ℕ) → IfSome (option_map (take most) given) (λ some. items ≡ some) → length items < most → IfSome given (λ all. items ≡ all)
all_taken None most items is few = is
all_taken (Some all) most items is few =
    let count : length items ≡ min most (length all) = ap length is ∙ length-take most all in
    is ∙ take_all most all (omega (arith, count, few))

pub returns-in-Ok-2-clause-whole : goal.returns-in-Ok-2-clause-whole
returns-in-Ok-2-clause-whole g c =
    let items = c.read_to_end.new.buf.items in
    let front = c.take.result in
    let appended = subst (λ start. IfSome (option_map (take front.limit) (g.R.Read.remaining front.inner)) (λ some. items ≡ start ++ some)) c.new-bytes.ensures.items c.in-Ok.ensures.bytes in
    let limited = subst (λ most. IfSome (option_map (take most) (g.R.Read.remaining front.inner)) (λ some. items ≡ some)) c.take.ensures.limit appended in
    let taken = subst (λ reader. IfSome (option_map (take c.saturating_add.result) (g.R.Read.remaining reader)) (λ some. items ≡ some)) c.take.ensures.inner limited in
    all_taken (g.R.Read.remaining c.args.reader) c.saturating_add.result items taken (omega (arith, c.if-len-limit.false, c.len.ensures, c.saturating_add.ensures, c.read_to_end.new.buf.small))
