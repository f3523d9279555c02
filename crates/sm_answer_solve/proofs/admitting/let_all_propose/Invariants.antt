use Rattle.std.proofs.Common.{◌≡◌}
use Rattle.sm_answer_solve.specs.Admitting.{IsUnderWay}
use Rattle.sm_answer_solve.proofs.admitting.let_all_propose.Given as goal

abbrev pub invariant-loop-p : goal.invariant-loop-p
invariant-loop-p l = record {
  way : IsUnderWay l.instance l.p l.p l.places l.standings;
  proposals : l.proposals ≡ l.instance;
}
