use Rattle.std.proofs.Common.{◌≡◌, map, take}
use Rattle.sm_least.specs.Regrets.{rank_of_level}
use Rattle.sm_least.proofs.ranks.write_ranks.Given as goal

abbrev pub invariant-loop-level : goal.invariant-loop-level
invariant-loop-level l = l.row.items ≡ map (rank_of_level l.levels l.ranks) (take l.level-index l.stays)
