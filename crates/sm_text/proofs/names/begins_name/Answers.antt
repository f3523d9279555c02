use Rattle.std.proofs.Common.{arith}
use Rattle.sm_text.proofs.NameLemmas.{first_table_at}
use Rattle.sm_text.proofs.names.begins_name.Goals as goal

pub returns : goal.returns
returns c = first_table_at c.args.b (let fits = c.ranges.b.fits in omega arith)
