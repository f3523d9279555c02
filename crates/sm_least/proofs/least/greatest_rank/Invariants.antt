use Rattle.std.proofs.Common.{◌≡◌}
use Rattle.sm_market.specs.Vectors.{rows_of}
use Rattle.sm_least.specs.Regrets.{rank_now, greatest_of}
use Rattle.sm_least.proofs.least.greatest_rank.Given as goal

abbrev pub invariant-loop-p : goal.invariant-loop-p
invariant-loop-p l = l.greatest ≡ greatest_of (rank_now l.board (rows_of l.levels) (rows_of l.ranks) l.now) l.p
