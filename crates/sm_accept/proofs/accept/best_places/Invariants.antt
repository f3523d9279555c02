use Rattle.sm_accept.specs.Accepting.{IsProgress}
use Rattle.sm_accept.proofs.accept.best_places.Given as goal

abbrev pub invariant-loop-p : goal.invariant-loop-p
invariant-loop-p l = IsProgress l.market l.p l.p l.next l.standings
