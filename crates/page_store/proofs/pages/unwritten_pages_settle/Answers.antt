use Rattle.page_store.proofs.SettleLemmas.{pages_settle}
use Rattle.page_store.proofs.pages.unwritten_pages_settle.Goals as goal

pub returns : goal.returns
returns c = pages_settle
