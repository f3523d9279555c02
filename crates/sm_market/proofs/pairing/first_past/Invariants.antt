use Rattle.std.proofs.Common.{ℕ, ◌<◌}
use Rattle.sm_market.specs.PairingFaults.{IsPastList}
use Rattle.sm_market.proofs.pairing.first_past.Given as goal

abbrev pub invariant-loop-p : goal.invariant-loop-p
invariant-loop-p l = (q : ℕ) → q < l.p → ¬ IsPastList l.market l.places q
