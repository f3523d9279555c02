use Rattle.sm_least.proofs.GateLemmas.{narrowed_more}
use Rattle.sm_least.proofs.gates.narrow.Goals as goal

pub loop-p-preserved : goal.loop-p-preserved
loop-p-preserved c = narrowed_more c.loop-p.p-index c.narrow_one.new.low c.narrow_one.new.high c.requires.low_each c.requires.high_each (c.requires.in_range c.loop-p.p-index c.loop-p-test.true) (λ v. c.narrow_one.ensures v) c.loop-p.invariant
