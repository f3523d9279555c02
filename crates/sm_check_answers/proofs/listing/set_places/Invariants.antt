use Rattle.sm_check_answers.specs.Listing.{ArePlaced}
use Rattle.sm_check_answers.proofs.listing.set_places.Given as goal

abbrev pub invariant-loop-p : goal.invariant-loop-p
invariant-loop-p l = ArePlaced l.instance l.v l.p l.a.places.items l.are_ranks
