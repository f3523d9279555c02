use Rattle.std.proofs.Common.{◌≡◌, map}
use Rattle.std.specs.List.{range_with_len}
use Rattle.sm_market.specs.Vectors.{rows_of}
use Rattle.sm_least.specs.Regrets.{ranks_of_stays}
use Rattle.sm_least.proofs.ranks.along_stays.Given as goal

abbrev pub invariant-loop-p : goal.invariant-loop-p
invariant-loop-p l = l.stays ≡ map (ranks_of_stays l.board (rows_of l.levels) (rows_of l.ranks)) (range_with_len 0 l.p)
