use Rattle.sm_market.specs.Pairing.{paired}
use Rattle.sm_market.proofs.TurnLemmas.{HasTurned}
use Rattle.sm_market.proofs.pairing.turn_round_to.Given as goal

abbrev pub invariant-loop-i : goal.invariant-loop-i
invariant-loop-i l = HasTurned l.market (paired l.initial.places l.initial.reviewer_places l.initial.holders) l.cycle l.i l.places l.reviewer_places l.holders
