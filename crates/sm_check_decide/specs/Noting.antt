-- What is noted of the rotations of a chain, one after another.
use Rattle.std.specs.Prelude.{◌≡◌, ℕ, ◌-◌, ◌<◌, ◌≤◌, List, Option, Some, length, Contains}
use Rattle.sm_market.specs.Lists.{Lists}
use Rattle.sm_market.specs.Matching.{Places, IsMatching}
use Rattle.sm_theory.specs.Chains.{rotation_at, AreEliminable, IsNeededBy}
use Rattle.sm_theory.specs.Marks.{note_of, mark_at, AreLastMoves, AreMarksFor, AreMarks}

-- how many rotations may be noted at most, and how many are; which one moved each proposer last, which one moved its reviewer
-- over each entry, and what the newest one needs
pub record RotationNotes : Type 0 where
  pub most : ℕ
  pub count : ℕ
  pub last : List (Option ℕ)
  pub marks : List (List (Option ℕ))
  pub found : List ℕ

-- all that is noted and marked is below a number
pub record AreNotesBelow (n : ℕ) (last : List (Option ℕ)) (marks : List (List (Option ℕ))) : Type 0 where
  pub noted : (p i : ℕ) → note_of last p ≡ Some i → i < n
  pub marked : (p x i : ℕ) → mark_at marks p x ≡ Some i → i < n

-- there is a note for each proposer of these lists, and a mark for each entry
pub record IsNotesFor (l : Lists) (n : RotationNotes) : Type 0 where
  pub one_each : length n.last ≡ length l.proposers
  pub for_entries : AreMarksFor l n.marks
  pub below : AreNotesBelow n.count n.last n.marks
  pub within : n.count ≤ n.most

-- these rotations, which can be eliminated one after the other from a matching, are noted, and it is found what the last of
-- them needs
pub record AreNoted (l : Lists) (first : Places) (rotations : List (List (ℕ × ℕ))) (n : RotationNotes) : Type 0 where
  pub matching : IsMatching l first
  pub eliminable : AreEliminable l first rotations
  pub count : n.count ≡ length rotations
  pub last : AreLastMoves rotations (length rotations) n.last
  pub marks : AreMarks l rotations (length rotations) n.marks
  pub sound : (i : ℕ) → Contains n.found i → (i < length rotations) × IsNeededBy l (rotation_at rotations i) (rotation_at rotations (length rotations - 1))
  pub all : (i : ℕ) → i < length rotations → IsNeededBy l (rotation_at rotations i) (rotation_at rotations (length rotations - 1)) → Contains n.found i
