-- What a word decodes to is what it encodes, by the laws of the listing.
use Rattle.rv_decode.proofs.TableLemmas.{row-decoded, only-decoded, fits-decoded}
use Rattle.rv_decode.proofs.rows.decode.Goals as goal

pub returns-in_default-clause-row : goal.returns-in_default-clause-row
returns-in_default-clause-row c = row-decoded c.args.word _ c.by_fields.ensures

pub returns-in_default-clause-only : goal.returns-in_default-clause-only
returns-in_default-clause-only c = only-decoded c.args.word _ c.by_fields.ensures

pub returns-in_default-clause-fits : goal.returns-in_default-clause-fits
returns-in_default-clause-fits c = fits-decoded c.args.word _ c.by_fields.ensures
