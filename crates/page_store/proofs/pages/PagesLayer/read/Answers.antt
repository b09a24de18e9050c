use Rattle.std.proofs.Common.{rules, ◌≡◌, ◌/◌, ◌∙◌, List, ℕ, slice_get, sym, ap}
use Rattle.hier_types.specs.Causes.{raised}
use Rattle.page_store.specs.Calls.{looked_up, read_more}
use Rattle.page_store.specs.Store.{Store, store_in}
use Rattle.page_store.proofs.CallLemmas.{looked_like, outline_read}
use Rattle.page_store.proofs.pages.PagesLayer.read.Goals as goal

pub returns-clause-did : goal.returns-clause-did
returns-clause-did c =
    let s = c.args.self.now in
    let l = looked_up s (c.args.line.0 / 64) in
    let like = looked_like s (c.args.line.0 / 64) in
    let at : c.look.new.self ≡ l = c.look.ensures in
    let p = c.self.inside in
    let inside : Store = store_in p.codec p.memory.items p.blocks.descriptors p.blocks.used p.meta p.counts p.stops p.cursor in
    let more : c.saturating_add-self-inside.result ≡ raised p.counts.reads = search rules in
    let counted : record inside { counts = record p.counts { reads = c.saturating_add-self-inside.result } } ≡ record inside { counts = read_more p.counts } =
    ap (λ (n : ℕ). record inside { counts = record p.counts { reads = n } }) more in
    let rest = counted ∙ ap (λ (x : Store). record x { counts = read_more x.counts }) (c.self.view_is ∙ at) in
    record {
      outline = outline_read s l (c.args.line.0 / 64) _ like rest;
      bytes_are = ap (λ (ls : List (List ℕ)). slice_get ls c.args.line.0) (sym like.lines_are ∙ ap (λ (x : Store). x.lines) (sym at)) ∙ c.view.ensures;
      rest = rest;
    }
