use Rattle.std.proofs.Common.{◌≡◌, ◌<◌, ℕ, Some, length}
use Rattle.sm_answer_solve.specs.Offering.{IsOffering, IsOnItsWay}
use Rattle.sm_answer_solve.proofs.LeftLemmas.{left}
use Rattle.sm_answer_solve.proofs.offering.let_travel.Given as goal

abbrev pub invariant-offers : goal.invariant-offers
invariant-offers l = record {
  same : l.search ≡ l.instance;
  in_range : l.away < length l.instance.reviewers;
  on_its_way : IsOnItsWay l.instance l.away l.nexts l.places;
  way : (begun : ℕ → ℕ) → IsOffering l.instance begun (Some l.fn.r) l.initial.nexts l.initial.places → IsOffering l.instance begun (Some l.away) l.nexts l.places;
}

abbrev pub decreases-offers : goal.decreases-offers
decreases-offers l = left l.nexts
