use Rattle.std.proofs.Common.{◌*◌, ◌++◌, List, drop, sym, ap, ◌∙◌, arith}
use Rattle.l2_segments.specs.declared.held.Held.{Held}
use Rattle.byte_parts.specs.Parts.{part}
use Rattle.l2_segments.specs.Held.{held_at}
use Rattle.l2_segments.proofs.StoredLemmas.{used, string_at, bytes_inside, len_most, length-string}
use Rattle.l2_segments.proofs.segments.Segments.get.Goals as goal

pub index_of-requires : goal.index_of-requires
index_of-requires c =
    rw c.deref-2.ensures.0 (used c.self.inside.store.items c.self.inside.held.items c.args.tag (rw (← c.self.view_is) at c.requires))

pub overflow_cast-string : goal.overflow_cast-string
overflow_cast-string c =
    let at = rw c.deref-2.ensures.0 at c.index_of.ensures in
    let most = len_most c.self.invariant c.index_of.result at.inside in
    rw c.deref.ensures.0 (omega arith)

pub read_part-requires-clause-inside : goal.read_part-requires-clause-inside
read_part-requires-clause-inside c =
    let at = rw c.deref-2.ensures.0 at c.index_of.ensures in
    rw (c.first_byte-at.ensures, c.deref.ensures.0, c.deref-3.ensures.value) (bytes_inside c.self.invariant c.index_of.result at.inside)

pub read_part-requires-clause-most : goal.read_part-requires-clause-most
read_part-requires-clause-most c =
    let at = rw c.deref-2.ensures.0 at c.index_of.ensures in
    let most = len_most c.self.invariant c.index_of.result at.inside in
    rw c.deref.ensures.0 (omega arith)

pub returns : goal.returns
returns c =
    let at = rw c.deref-2.ensures.0 at c.index_of.ensures in
    let place = held_at c.self.inside.held.items c.index_of.result in
    let size = length-string c.self.invariant c.index_of.result at.inside in
    let copied = rw (c.first_byte-at.ensures, c.deref.ensures.0, c.deref-3.ensures.value) at c.read_part.ensures in
    rw (← c.self.view_is)
    (rw (string_at c.self.inside.store.items c.self.inside.held.items c.args.tag c.index_of.result c.self.invariant.once at) (
      ap (λ (hs : List Held). (held_at hs c.index_of.result).len) c.deref.ensures.0 ∙ sym size,
      copied ∙ ap (λ n. part (8 * place.start) place.len c.self.inside.store.items ++ drop n c.args.into.now) (sym size),
    ))
