use Rattle.std.proofs.Common.{◌≡◌, ◌++◌, ◌==◌, take, length}
use Rattle.sm_answer_pairs.specs.Found.{pairs_at_levels}
use Rattle.sm_answer_pairs.proofs.pairs.push_pairs.Given as goal

-- the pairs so far
abbrev pub invariant-loop-level : goal.invariant-loop-level
invariant-loop-level l = l.pairs.items ≡ l.initial.pairs.items ++ pairs_at_levels l.instance (length l.levels == 1) l.p (take l.level-index l.levels)
