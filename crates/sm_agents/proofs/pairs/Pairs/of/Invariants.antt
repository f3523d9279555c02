use Rattle.std.proofs.Common.{◌≡◌, take, map}
use Rattle.sm_agents.specs.Written.{weighed}
use Rattle.sm_agents.proofs.pairs.Pairs.of.Given as goal

-- the pairs of the weights so far
abbrev pub invariant-loop-n : goal.invariant-loop-n
invariant-loop-n l = l.pairs ≡ take l.n (map weighed l.weights)
