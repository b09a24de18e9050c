use Rattle.std.proofs.Common.{◌∙◌, ap}
use Rattle.std.proofs.lemmas.List.{with_items_is}
use Rattle.recency.proofs.StoreLemmas.{bytes_within, renewed_slot, none_renewed}
use Rattle.recency.proofs.line_set.LineSet.renew.Goals as goal

pub returns-in_default : goal.returns-in_default
returns-in_default c = rw (← c.self.view_is) (ap (λ l. record { ways = c.self.inside.ways; lines = l }) (none_renewed c.self.invariant c.args.line c.args.copy.now (rw c.deref.ensures.value at c.in_default.ensures)))

pub copy_in-requires : goal.copy_in-requires
copy_in-requires c = rw c.deref_mut.ensures.value (bytes_within c.self.invariant c.in-Some.slot c.in-Some.ensures.0)

pub returns : goal.returns
returns c =
    let bytes_are = with_items_is c.self.inside.bytes c.copy_in.new.bytes (c.copy_in.auto.bytes ∙ c.deref_mut.ensures.len) in
    rw (← c.self.view_is) (ap (λ l. record { ways = c.self.inside.ways; lines = l }) (rw (bytes_are, c.copy_in.ensures, c.deref_mut.ensures.value) (renewed_slot c.self.invariant c.in-Some.slot c.args.line c.args.copy.now c.in-Some.ensures.0 (rw c.deref.ensures.value at c.in-Some.ensures.1))))
