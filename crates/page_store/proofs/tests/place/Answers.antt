use Rattle.page_store.proofs.StoreLemmas.{placed_others}
use Rattle.page_store.proofs.tests.place.Goals as goal

pub returns : goal.returns
returns c other ne zero = placed_others c.args.pages.now c.args.page c.args.bytes.now c.place_page.result c.place_page.new.self other c.place_page.ensures ne zero
