use Rattle.sm_holding.proofs.GainLemmas.{AreLimitsBelow}
use Rattle.sm_holding.proofs.blocking.gain_limits.Given as goal

abbrev pub invariant-loop-r : goal.invariant-loop-r
invariant-loop-r l = AreLimitsBelow l.instance l.holding.matching.places.items l.r l.limits.items
