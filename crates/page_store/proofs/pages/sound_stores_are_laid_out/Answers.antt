use Rattle.page_store.proofs.LayoutLemmas.{laid_out}
use Rattle.page_store.proofs.pages.sound_stores_are_laid_out.Goals as goal

pub returns : goal.returns
returns c = laid_out
