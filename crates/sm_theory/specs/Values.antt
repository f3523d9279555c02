-- Rotations that are held in values, as plain lists of pairs.
use Rattle.std.specs.Prelude.{ℕ, List, map}
use Rattle.sm_theory.specs.declared.rotations.Rotation.{Rotation}

-- the pairs of each rotation
abbrev pub rotations_of : List Rotation → List (List (ℕ × ℕ))
rotations_of rotations = map (λ r. r.pairs.items) rotations
