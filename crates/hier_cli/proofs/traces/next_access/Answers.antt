use Rattle.hier_cli.proofs.RowLemmas.{never_fails, next_read}
use Rattle.hier_cli.proofs.traces.next_access.Goals as goal

pub unreachable-requires : goal.unreachable-requires
unreachable-requires c = never_fails c.args.rows.now c.read_row.new.self c.in-Err.field-0 c.requires c.in-Err.ensures

pub returns-clause-left : goal.returns-clause-left
returns-clause-left c = (next_read c.args.rows.now c.read_row.new.self c.in-Ok.access c.requires c.in-Ok.ensures).left

pub returns-clause-access : goal.returns-clause-access
returns-clause-access c = (next_read c.args.rows.now c.read_row.new.self c.in-Ok.access c.requires c.in-Ok.ensures).access

pub returns-clause-faultless : goal.returns-clause-faultless
returns-clause-faultless c = (next_read c.args.rows.now c.read_row.new.self c.in-Ok.access c.requires c.in-Ok.ensures).faultless
