use Rattle.std.proofs.Common.{◌≡◌, None}
use Rattle.sm_answer_solve.specs.Offering.{IsOffering, begun_till}
use Rattle.sm_answer_solve.proofs.offering.let_all_offer.Given as goal

abbrev pub invariant-loop-r : goal.invariant-loop-r
invariant-loop-r l = record {
  way : IsOffering l.instance (begun_till l.instance l.r 0) None l.nexts l.places;
  search : l.search ≡ l.instance;
}
