use Rattle.std.proofs.Common.{◌≡◌}
use Rattle.sm_market.specs.Vectors.{rows_of}
use Rattle.sm_answer_pairs.specs.Found.{pairs_by_levels}
use Rattle.sm_answer_pairs.proofs.pairs.find_pairs.Given as goal

-- the pairs so far
abbrev pub invariant-loop-p : goal.invariant-loop-p
invariant-loop-p l = l.pairs.items ≡ pairs_by_levels l.instance (rows_of l.rows.items) l.p
