use Rattle.sm_check_net.specs.SetPlaces.{lowered_by, AreMade}
use Rattle.sm_check_net.proofs.set_matching.lower.Given as goal

abbrev pub invariant-loop-n : goal.invariant-loop-n
invariant-loop-n l = AreMade l.initial.places (λ p. lowered_by p l.moves l.n) l.places
