use Rattle.std.proofs.Common.{◌≡◌, ◌∙◌, ℕ, List, [], ap, refl, subst, arith}
use Rattle.elf_image.specs.Image.{Loaded, end_of, entry, memory_of}
use Rattle.hier_types.specs.Span.{Span}
use Rattle.hier_types.specs.Streams.{Streams, went}
use Rattle.rv_flat.specs.Flat.{Bytes}
use Rattle.rv_guest.specs.Beside.{guest_at}
use Rattle.rv_guest.specs.FollowsFlat.{FollowsFlat}
use Rattle.rv_guest.specs.Start.{start_guest, start_state}
use Rattle.rv_guest.specs.State.{GuestState, state_of}
use Rattle.rv_guest.proofs.HeadlineLemmas.{headline}
use Rattle.hier_cli.proofs.flat_runs.run_flat.Goals as goal

pub run-requires : goal.run-requires
run-requires g c =
    let none : c.start.result.retired ≡ 0 = ap (λ (s : GuestState). s.retired) (c.start.ensures []) in
    record { within = omega (arith, none) }

pub returns-clause-ends : goal.returns-clause-ends
returns-clause-ends g c =
    let settings = c.args.settings.now in
    let span : Span = settings.geometry in
    let file : List ℕ = c.args.file.items in
    let image : c.in-Ok.image ≡ record { span = span; file = file } = c.in-Ok.ensures.ok.1 in
    let memory = c.load.new.self in
    let guest = c.start.result in
    let span_is : memory.span ≡ span = ap (λ (m : Bytes). m.span) c.load.ensures ∙ ap (λ (m : Bytes). m.span) c.in-Ok-new.ensures in
    let bytes_are : memory.bytes ≡ memory_of span file = ap (λ (m : Bytes). m.bytes) c.load.ensures ∙ ap (λ (i : Loaded). memory_of i.span i.file) image in
    let entry_is : c.entry.result ≡ entry file = c.entry.ensures ∙ ap (λ (i : Loaded). entry i.file) image in
    let end_is : c.end.result ≡ end_of span file = c.end.ensures ∙ ap (λ (i : Loaded). end_of i.span i.file) image in
    let starts : state_of guest memory.bytes ≡ start_guest span file =
    ap (state_of guest) bytes_are ∙ c.start.ensures (memory_of span file)
    ∙ ap (λ n. start_state span n c.end.result (memory_of span file)) entry_is ∙ ap (λ n. start_state span (entry file) n (memory_of span file)) end_is in
    let last : GuestState = state_of c.run.new.self.guest c.run.new.self.port.bytes in
    let both : Streams = went g.I.Source.left g.I.Source.faults g.O.Sink.written g.O.Sink.faults c.args.input.now c.run.new.input c.args.out.now c.run.new.out in
    let with_span = subst (λ (s : Span). FollowsFlat (guest_at s (state_of guest memory.bytes)) settings.budget (state_of guest memory.bytes) c.run.result last both) span_is c.run.ensures.follows in
    let follows = subst (λ (s : GuestState). FollowsFlat (guest_at span s) settings.budget s c.run.result last both) starts with_span in
    record {
      accepted = c.in-Ok.ensures.ok.0;
      end = c.run.result;
      last = last;
      headline = headline span settings.budget file last both c.run.result follows;
      told = c.in-Ok-end_of.ensures.told;
      count = refl;
    }
