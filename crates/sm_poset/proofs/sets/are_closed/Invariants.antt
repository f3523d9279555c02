use Rattle.std.proofs.Common.{ℕ, ◌<◌}
use Rattle.std.specs.List.{All}
use Rattle.sm_market.specs.Lists.{row}
use Rattle.sm_market.specs.Vectors.{rows_of}
use Rattle.sm_theory.specs.ClosedSets.{IsMember}
use Rattle.sm_poset.proofs.sets.are_closed.Given as goal

abbrev pub invariant-loop-j : goal.invariant-loop-j
invariant-loop-j l = (q : ℕ) → q < l.j → IsMember l.members q → All (λ k. IsMember l.members k) (row (rows_of l.needs) q)
