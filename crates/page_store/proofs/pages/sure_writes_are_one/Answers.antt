use Rattle.page_store.proofs.ContentLemmas.{contents_write_one}
use Rattle.page_store.proofs.pages.sure_writes_are_one.Goals as goal

pub returns : goal.returns
returns c = contents_write_one
