use Rattle.std.proofs.Common.{refl, inr, rules, string_bytes, subst}
use Rattle.hier_types.specs.Streams.{use_of}
use Rattle.page_plan.specs.Sizes.{sizes_of_memory}
use Rattle.run_report.specs.ReportLines.{survey_text}
use Rattle.sim_survey.specs.Filled.{lines_of_filled}
use Rattle.hier_cli.specs.Files.{IsLoaded, shelf_use_of}
use Rattle.hier_cli.specs.Surveys.{PrintedOrNoMemory}
use Rattle.hier_cli.proofs.top.obey.Goals as goal

pub returns-in_ok-load-in-Survey-clause-obeys : goal.returns-in_ok-load-in-Survey-clause-obeys
returns-in_ok-load-in-Survey-clause-obeys g c =
    let file = c.in_ok-load-in-Survey.field-0.items in
    let shelf = shelf_use_of g.S.Shelf.files g.S.Shelf.faults c.args.shelf.now c.load-in-Survey.new.shelf in
    let out = use_of g.O.Sink.written g.O.Sink.faults c.args.out.now c.survey_file.new.out in
    let loaded : IsLoaded shelf (string_bytes c.args.request.now.file) file = search rules in
    let ends = subst (λ bytes. PrintedOrNoMemory (survey_text (sizes_of_memory c.args.request.now.settings.codec (lines_of_filled bytes))) out c.survey_file.result) c.deref.ensures.value c.survey_file.ensures.ends in
    rw c.in-Survey.is (inr (file, loaded, (refl, ends)))
