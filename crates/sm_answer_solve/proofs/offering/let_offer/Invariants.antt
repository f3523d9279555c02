use Rattle.std.proofs.Common.{◌≡◌, ◌-◌, ◌≤◌, None}
use Rattle.sm_answer_solve.specs.Offering.{IsOffering, begun_till}
use Rattle.sm_answer_solve.proofs.offering.let_offer.Given as goal

abbrev pub invariant-places : goal.invariant-places
invariant-places l = record {
  same : l.search ≡ l.instance;
  begun_few : l.begun ≤ l.capacity;
  offering : IsOffering l.instance (begun_till l.instance l.r l.begun) None l.nexts l.places;
}

abbrev pub decreases-places : goal.decreases-places
decreases-places l = l.capacity - l.begun
