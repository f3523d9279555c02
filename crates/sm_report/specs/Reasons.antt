-- Why an answer isn't right.
use Rattle.std.specs.Prelude.{ℕ, ◌-◌, ◌≤◌, List, [], ◌∷◌, codes, slice_index_or}

-- the names of the reasons, in order
abbrev pub reasons : List (List ℕ)
reasons =
    codes "NotAMatching" ∷ codes "Blocked" ∷ codes "NotBest" ∷ codes "WrongList" ∷ codes "NotExposed"
    ∷ codes "RotationMissing" ∷ codes "WrongNeeds" ∷ codes "WrongGain" ∷ codes "NoEdge" ∷ codes "OverRoom"
    ∷ codes "NotConserved" ∷ codes "NotClosed" ∷ codes "WrongValue" ∷ codes "WrongCut" ∷ codes "CutDiffers"
    ∷ codes "WrongTotal" ∷ codes "WrongPair" ∷ codes "NotLeast" ∷ codes "NotRising" ∷ codes "NotAllowed"
    ∷ codes "OverLimit" ∷ codes "WrongTail" ∷ codes "WrongRegret" ∷ codes "NotPartition" ∷ codes "NoOddParty" ∷ []

-- a number of a reason
pub record IsReason (n : ℕ) : Type 0 where
  pub least : 1 ≤ n
  pub greatest : n ≤ 25

-- the name of a reason, by its number from 1
abbrev pub name_of_reason : ℕ → List ℕ
name_of_reason n = slice_index_or reasons (n - 1) []
