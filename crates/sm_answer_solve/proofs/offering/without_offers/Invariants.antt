use Rattle.std.proofs.Common.{◌≡◌, map, length}
use Rattle.std.specs.List.{range_with_len}
use Rattle.sm_agents.specs.Written.{row}
use Rattle.sm_answer_solve.proofs.offering.without_offers.Given as goal

abbrev pub invariant-loop-p : goal.invariant-loop-p
invariant-loop-p l = l.places.items ≡ map (λ p. length (row l.instance.proposers p)) (range_with_len 0 l.p)
