use Rattle.sm_check_net.specs.Moves.{moves_in}
use Rattle.sm_check_net.specs.SetPlaces.{worst_by, AreMade}
use Rattle.sm_check_net.proofs.set_matching.lower_all.Given as goal

abbrev pub invariant-loop-k : goal.invariant-loop-k
invariant-loop-k l = AreMade l.initial.places (λ p. worst_by p (moves_in l.moves) l.set l.k) l.places
