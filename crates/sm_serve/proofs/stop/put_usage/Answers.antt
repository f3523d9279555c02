use Rattle.std.proofs.Common.{arith}
use Rattle.sm_serve.proofs.StopLemmas.{always_ok, usage_plain}
use Rattle.sm_serve.proofs.stop.put_usage.Goals as goal

pub returns-clause-plain : goal.returns-clause-plain
returns-clause-plain c = always_ok c.put_number.result (usage_plain c.args.word (let fits = c.ranges.word.fits in omega arith))
