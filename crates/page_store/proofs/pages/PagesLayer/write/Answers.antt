use Rattle.page_store.proofs.TidyLemmas.{write_refuses}
use Rattle.page_store.proofs.pages.PagesLayer.write.Goals as goal

pub returns-clause-cause : goal.returns-clause-cause
returns-clause-cause c = write_refuses c.args.self.now c.args.line.0 c.args.from.now c.change.result c.change.new.self c.change.ensures
