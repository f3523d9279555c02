use Rattle.std.proofs.Common.{ℕ, ◌<◌}
use Rattle.sm_holding.specs.Gains.{BlocksNone}
use Rattle.sm_holding.proofs.blocking.first_of_all.Given as goal

-- no proposer before this one blocks with anybody
abbrev pub invariant-loop-p : goal.invariant-loop-p
invariant-loop-p l = (q : ℕ) → q < l.p → BlocksNone l.instance l.a.places.items q
