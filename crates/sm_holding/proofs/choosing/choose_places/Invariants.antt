use Rattle.std.proofs.Common.{◌≡◌, map}
use Rattle.std.specs.List.{range_with_len}
use Rattle.sm_instance.specs.Matching.{held}
use Rattle.sm_theory.specs.Choices.{chosen}
use Rattle.sm_holding.proofs.choosing.choose_places.Given as goal

-- the chosen places of the proposers so far
abbrev pub invariant-loop-p : goal.invariant-loop-p
invariant-loop-p l = l.places.items ≡ map (λ p. chosen l.choice (held l.left.places.items p) (held l.right.places.items p)) (range_with_len 0 l.p)
