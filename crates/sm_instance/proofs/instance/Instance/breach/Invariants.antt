use Rattle.std.proofs.Common.{◌⊎◌}
use Rattle.sm_instance.specs.Loads.{IsFirstOf, IsUnacceptable, IsOverfullBelow}
use Rattle.sm_instance.proofs.instance.Instance.breach.Given as goal

-- the first breach of those of the pairs and of the reviewers so far
abbrev pub invariant-loop-r : goal.invariant-loop-r
invariant-loop-r l = IsFirstOf (λ p. IsUnacceptable l.self l.a.places.items p ⊎ IsOverfullBelow l.self l.a.places.items l.r p) l.first
