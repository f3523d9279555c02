use Rattle.std.proofs.Common.{take}
use Rattle.sm_holding.specs.Held.{EachCanFollow}
use Rattle.sm_holding.specs.PairsKept.{ArePairsHeld}
use Rattle.sm_answer_given.proofs.holding.hold.Given as goal

-- the pairs so far are held
abbrev pub invariant-loop-at : goal.invariant-loop-at
invariant-loop-at l = record {
  kept : ArePairsHeld l.instance (take l.at l.pairs) l.holding;
  free : EachCanFollow l.instance l.pairs l.at;
}
