use Rattle.std.proofs.Common.{◌+◌, ◌<◌}
use Rattle.sm_room.specs.Proposing.{IsProgress}
use Rattle.sm_room.proofs.ProgressLemmas.{places_left}
use Rattle.sm_room.proofs.proposing.let_propose.Given as goal

abbrev pub invariant-proposals : goal.invariant-proposals
invariant-proposals l = record { progress : IsProgress l.market (l.p + 1) l.away l.passed l.bounds; begun : l.away < l.p + 1 }

abbrev pub decreases-proposals : goal.decreases-proposals
decreases-proposals l = places_left l.market l.passed
