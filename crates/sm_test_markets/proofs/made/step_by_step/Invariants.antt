use Rattle.sm_market.specs.Stable.{IsStable}
use Rattle.sm_market.specs.Pairing.{IsPairingOf}
use Rattle.sm_test_markets.proofs.made.step_by_step.Given as goal

abbrev pub invariant-turns : goal.invariant-turns
invariant-turns g l = record { made : IsPairingOf l.market l.m; stable : IsStable l.market l.m.places }
