-- What is noted of the rotations of a chain, as they are eliminated one after another.
use Rattle.std.specs.Prelude.{◌≡◌, ℕ, List, length}
use Rattle.sm_market.specs.Lists.{Lists}
use Rattle.sm_market.specs.Matching.{Places, IsMatching}
use Rattle.sm_market.specs.Vectors.{rows_of}
use Rattle.sm_theory.specs.Chains.{stage, AreEliminable}
use Rattle.sm_rotations.specs.Graph.{AreFollowers}
use Rattle.sm_rotations.specs.Marking.{AreLastMoves, AreMarks}
use Rattle.sm_rotations.specs.declared.notes.Notes.{Notes}

-- these rotations, which can be eliminated one after the other from a matching, are noted
pub record AreNoted (l : Lists) (first : Places) (rotations : List (List (ℕ × ℕ))) (notes : Notes) : Type 0 where
  pub matching : IsMatching l first
  pub eliminable : AreEliminable l first rotations
  pub one_each : length notes.last.items ≡ length l.proposers
  pub last : AreLastMoves rotations (length rotations) notes.last.items
  pub marks : AreMarks l rotations (length rotations) notes.marks
  pub followers : AreFollowers l rotations (length rotations) (rows_of notes.followers.items)

-- rotations that lead to a matching are noted
pub record IsNotedUpTo (l : Lists) (m : Places) (notes : Notes) : Type 0 where
  pub first : Places
  pub rotations : List (List (ℕ × ℕ))
  pub noted : AreNoted l first rotations notes
  pub leads : m ≡ stage l first rotations (length rotations)
