use Rattle.std.proofs.Common.{◌+◌, ◌<◌}
use Rattle.sm_accept.specs.Accepting.{IsProgress}
use Rattle.sm_accept.proofs.AcceptSteps.{places_left}
use Rattle.sm_accept.proofs.accept.let_propose.Given as goal

abbrev pub invariant-proposals : goal.invariant-proposals
invariant-proposals l = record { progress : IsProgress l.market (l.p + 1) l.away l.next l.standings; begun : l.away < l.p + 1 }

abbrev pub decreases-proposals : goal.decreases-proposals
decreases-proposals l = places_left l.market.proposers l.next
