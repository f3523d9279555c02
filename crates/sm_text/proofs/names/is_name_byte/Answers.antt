use Rattle.std.proofs.Common.{arith}
use Rattle.sm_text.proofs.NameLemmas.{table_at}
use Rattle.sm_text.proofs.names.is_name_byte.Goals as goal

pub returns : goal.returns
returns c = table_at c.args.b (let fits = c.ranges.b.fits in omega arith)
