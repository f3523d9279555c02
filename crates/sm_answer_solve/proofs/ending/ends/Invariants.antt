use Rattle.std.proofs.Common.{◌≡◌, map, length, get_or}
use Rattle.std.specs.List.{range_with_len}
use Rattle.sm_agents.specs.Written.{row}
use Rattle.sm_answer_solve.specs.Ends.{end_at}
use Rattle.sm_answer_solve.proofs.ending.ends.Given as goal

abbrev pub invariant-loop-p : goal.invariant-loop-p
invariant-loop-p l = l.ends.items ≡ map (λ p. end_at (length (row l.instance.proposers p)) (get_or l.places p 0)) (range_with_len 0 l.p)
