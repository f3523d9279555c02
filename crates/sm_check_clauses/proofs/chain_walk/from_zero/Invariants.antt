use Rattle.std.proofs.Common.{◌≡◌, map, take}
use Rattle.std.specs.Prelude.{pred}
use Rattle.sm_check_clauses.proofs.chain_walk.from_zero.Given as goal

abbrev pub invariant-loop-k : goal.invariant-loop-k
invariant-loop-k l = l.less.items ≡ map pred (take l.k l.numbers)
