use Rattle.std.proofs.Common.{◌≡◌, ◌+◌}
use Rattle.sm_answer_solve.specs.Admitting.{IsArriving}
use Rattle.sm_answer_solve.proofs.LeftLemmas.{left}
use Rattle.sm_answer_solve.proofs.admitting.let_propose.Given as goal

abbrev pub invariant-proposals : goal.invariant-proposals
invariant-proposals l = record {
  arriving : IsArriving l.instance (l.p + 1) l.away l.places l.standings;
  same : l.proposals ≡ l.instance;
}

abbrev pub decreases-proposals : goal.decreases-proposals
decreases-proposals l = left l.places
