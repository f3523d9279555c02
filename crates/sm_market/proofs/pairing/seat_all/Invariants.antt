use Rattle.sm_market.proofs.SeatLemmas.{IsSeated}
use Rattle.sm_market.proofs.pairing.seat_all.Given as goal

abbrev pub invariant-loop-p : goal.invariant-loop-p
invariant-loop-p l = IsSeated l.market l.places l.p l.reviewer_places l.holders
