use Rattle.std.proofs.Common.{◌≡◌, ℕ, ◌+◌, ◌<◌, get_or}
use Rattle.sm_instance.specs.Matching.{standing}
use Rattle.sm_instance.proofs.instance.Instance.rank_vector.Given as goal

-- the ranks so far
abbrev pub invariant-loop-p : goal.invariant-loop-p
invariant-loop-p l = (k : ℕ) → k < l.p → get_or l.into k 0 ≡ standing l.self l.a.places.items k + 1
