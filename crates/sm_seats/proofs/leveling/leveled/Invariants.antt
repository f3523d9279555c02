use Rattle.std.proofs.Common.{◌≡◌, take}
use Rattle.sm_seats.specs.Correspondence.{leveled}
use Rattle.sm_seats.proofs.leveling.leveled.Given as goal

-- the levels so far
abbrev pub invariant-loop-pair : goal.invariant-loop-pair
invariant-loop-pair l = l.levels.items ≡ leveled l.instance (take l.pair-index l.pairs)
