use Rattle.std.proofs.Common.{◌≡◌, ◌∙◌, ◌+◌, ◌*◌, length, find, None, true, get_or, take, ap, sym, refl, arith}
use Rattle.std.proofs.lemmas.List.{get_or-replicate, take_more}
use Rattle.std.proofs.Math.Seq.{take-length}
use Rattle.hier_types.specs.Span.{first}
use Rattle.hier_types.proofs.TableLemmas.{tabulate-by_index}
use Rattle.elf_image.specs.Accepted.{fault_of}
use Rattle.elf_image.specs.Headers.{loads_of}
use Rattle.elf_image.specs.Image.{Loaded, byte_at, covers, loaded_byte}
use Rattle.elf_image.specs.Pages.{byte_over}
use Rattle.elf_image.specs.declared.headers.Header.{Header}
use Rattle.elf_image.proofs.LoadLemmas.{covers_alone, load_within}
use Rattle.elf_image.proofs.PageLemmas.{loaded_byte-more, loaded_byte-none}
use Rattle.elf_image.proofs.image.Image.page.Goals as goal

pub loop-load-init : goal.loop-load-init
loop-load-init c = record {
  len = refl;
  each = λ k page. get_or-replicate 4096 k 0 0 page ∙ sym (loaded_byte-none c.args.self.now.file (c.first.result + c.args.number.0 * 4096 + k));
}

pub put_load-requires : goal.put_load-requires
put_load-requires c =
    let image = c.args.self.now in
    let file : c.deref.result.now ≡ image.file = c.deref.ensures.value ∙ ap (λ (l : Loaded). l.file) c.self.view_is in
    let loads : c.deref-load-items.result.now ≡ loads_of image.file =
    c.deref-load-items.ensures.value ∙ c.self.invariant.loads_are ∙ ap (λ (l : Loaded). loads_of l.file) c.self.view_is in
    let accepted : fault_of image.span image.file ≡ None = ap (λ (l : Loaded). fault_of l.span l.file) (sym c.self.view_is) ∙ c.self.invariant.accepted in
    let inside = rw loads at c.loop-load-test.true in
    rw (loads, file) (load_within image.span image.file c.loop-load.load-index _ accepted inside)

pub loop-load-preserved : goal.loop-load-preserved
loop-load-preserved c =
    let image = c.args.self.now in
    let file : c.deref.result.now ≡ image.file = c.deref.ensures.value ∙ ap (λ (l : Loaded). l.file) c.self.view_is in
    let items = c.deref-load-items.result.now in
    let loads : items ≡ loads_of image.file =
    c.deref-load-items.ensures.value ∙ c.self.invariant.loads_are ∙ ap (λ (l : Loaded). loads_of l.file) c.self.view_is in
    let accepted : fault_of image.span image.file ≡ None = ap (λ (l : Loaded). fault_of l.span l.file) (sym c.self.view_is) ∙ c.self.invariant.accepted in
    let index = c.loop-load.load-index in
    let inside = rw loads at c.loop-load-test.true in
    let none : Header = record { number = 0; kind = 0; offset = 0; start = 0; file_size = 0; memory_size = 0 } in
    let load = get_or items index none in
    record {
      len = c.put_load.ensures.len;
      each = λ k page.
          let at = c.first.result + c.args.number.0 * 4096 + k in
          let alone : covers at load ≡ true → find (covers at) (take index items) ≡ None =
          rw loads (λ here. covers_alone image.span image.file at index none accepted inside here) in
          c.put_load.ensures.each k page ∙ ap (λ f. byte_over f load (get_or c.loop-load.into k 0) at) file
          ∙ ap (λ before. byte_over image.file load before at) (c.loop-load.invariant.each k page)
          ∙ sym (ap (λ ls. loaded_byte image.file ls at) (take_more items index none c.loop-load-test.true) ∙ loaded_byte-more image.file (take index items) load at alone);
    }

pub returns : goal.returns
returns c =
    let image = c.args.self.now in
    let items = c.deref-load-items.result.now in
    let loads : items ≡ loads_of image.file =
    c.deref-load-items.ensures.value ∙ c.self.invariant.loads_are ∙ ap (λ (l : Loaded). loads_of l.file) c.self.view_is in
    let end : c.loop-load.load-index ≡ length items = omega (arith, c.loop-load.auto.load-index-end, c.loop-load-test.false) in
    let all : take c.loop-load.load-index items ≡ loads_of image.file = ap (λ n. take n items) end ∙ take-length items ∙ loads in
    let base : c.self.inside.geometry.base ≡ image.span.base = ap (λ (l : Loaded). l.span.base) c.self.view_is in
    tabulate-by_index 0 (λ place. byte_at image.span image.file (4096 * c.args.number.0 + place)) 4096 c.loop-load.into c.loop-load.invariant.len
    (λ k page.
    let place : c.first.result + c.args.number.0 * 4096 + k ≡ first image.span + (4096 * c.args.number.0 + k) = omega (arith, c.first.ensures.first) in
    c.loop-load.invariant.each k page ∙ ap (λ ls. loaded_byte image.file ls (c.first.result + c.args.number.0 * 4096 + k)) all
    ∙ ap (loaded_byte image.file (loads_of image.file)) place)
