use Rattle.sm_market.specs.Vectors.{rows_of}
use Rattle.sm_least.specs.Steps.{rows_in, AreAvoided}
use Rattle.sm_least.proofs.gates.shut_forbidden.Given as goal

abbrev pub invariant-loop-p : goal.invariant-loop-p
invariant-loop-p l = AreAvoided l.matched (rows_of l.levels) l.forbidden l.p-index (rows_in l.initial.shut) (rows_in l.shut)
