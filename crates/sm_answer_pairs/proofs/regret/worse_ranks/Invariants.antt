use Rattle.std.proofs.Common.{◌≡◌, map, Some}
use Rattle.std.specs.List.{range_with_len}
use Rattle.sm_instance.specs.Ranks.{worse_rank}
use Rattle.sm_market.specs.Vectors.{rows_of}
use Rattle.sm_seats.specs.Seating.{at_places}
use Rattle.sm_answer_pairs.proofs.regret.worse_ranks.Given as goal

-- the ranks of the proposers so far
abbrev pub invariant-loop-p : goal.invariant-loop-p
invariant-loop-p l = rows_of l.ranks.items ≡ map (at_places l.seats (λ p i. worse_rank l.instance p (Some i))) (range_with_len 0 l.p)
