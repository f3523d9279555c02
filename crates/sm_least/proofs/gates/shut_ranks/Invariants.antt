use Rattle.sm_least.specs.Steps.{rows_in}
use Rattle.sm_least.specs.Regrets.{AreShutAbove}
use Rattle.sm_least.proofs.gates.shut_ranks.Given as goal

abbrev pub invariant-loop-p : goal.invariant-loop-p
invariant-loop-p l = AreShutAbove l.board l.ranks l.bound l.p (rows_in l.initial.shut) (rows_in l.shut)
