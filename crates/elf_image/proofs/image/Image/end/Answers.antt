use Rattle.std.proofs.Common.{◌≡◌, ◌∙◌, length, take, None, ap, sym, arith}
use Rattle.std.proofs.Math.Seq.{take-length}
use Rattle.hier_types.specs.Span.{first, past}
use Rattle.elf_image.specs.Accepted.{fault_of}
use Rattle.elf_image.specs.Headers.{loads_of}
use Rattle.elf_image.specs.Image.{Loaded, end_of, greatest_end}
use Rattle.elf_image.specs.declared.headers.Header.{Header}
use Rattle.elf_image.proofs.LoadLemmas.{load_inside}
use Rattle.elf_image.proofs.image.Image.end.Goals as goal

pub overflow_add-load : goal.overflow_add-load
overflow_add-load c =
    let image = c.args.self.now in
    let loads : c.deref-load-items.result.now ≡ loads_of image.file =
    c.deref-load-items.ensures.value ∙ c.self.invariant.loads_are ∙ ap (λ (l : Loaded). loads_of l.file) c.self.view_is in
    let accepted : fault_of image.span image.file ≡ None = ap (λ (l : Loaded). fault_of l.span l.file) (sym c.self.view_is) ∙ c.self.invariant.accepted in
    let inside = rw loads at c.loop-load-test.true in
    let none : Header = record { number = 0; kind = 0; offset = 0; start = 0; file_size = 0; memory_size = 0 } in
    let some = rw loads at c.if-load-gt0.true in
    let ends = load_inside image.span image.file c.loop-load.load-index none accepted inside some in
    let same = ap (λ (l : Loaded). past l.span) c.self.view_is in
    rw loads (omega (arith, ends, same, c.first-end.ensures.fits))

pub returns : goal.returns
unfolding end_of
returns c =
    let image = c.args.self.now in
    let items = c.deref-load-items.result.now in
    let loads : items ≡ loads_of image.file =
    c.deref-load-items.ensures.value ∙ c.self.invariant.loads_are ∙ ap (λ (l : Loaded). loads_of l.file) c.self.view_is in
    let end : c.loop-load.load-index ≡ length items = omega (arith, c.loop-load.auto.load-index-end, c.loop-load-test.false) in
    let all : take c.loop-load.load-index items ≡ loads_of image.file = ap (λ n. take n items) end ∙ take-length items ∙ loads in
    c.loop-load.invariant ∙ ap (greatest_end (first image.span)) all
