use Rattle.std.proofs.Common.{arith}
use Rattle.sm_serve.proofs.StopLemmas.{always_ok, refused_plain}
use Rattle.sm_serve.proofs.stop.put_refused.Goals as goal

pub returns-clause-plain : goal.returns-clause-plain
returns-clause-plain c = always_ok c.put_number.result (refused_plain c.args.kind c.args.at (let fits = c.ranges.at.fits in omega arith))
