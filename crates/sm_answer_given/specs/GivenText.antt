-- The text of two given matchings.
use Rattle.std.specs.Prelude.{◌≡◌, ℕ, List, [], ◌∷◌, ◌++◌, map, All}
use Rattle.sm_instance.specs.declared.inputs.Input.{Input}
use Rattle.sm_report.specs.Lines.{LineData}
use Rattle.sm_report.specs.FirstBad.{IsFirstBad, IsFirstBadAt}
use Rattle.sm_report.specs.Sound.{ArePair}
use Rattle.sm_report.specs.Texts.{text_of_line}

-- `left` lines, then `right` lines, then `end`
abbrev pub left_pair : ℕ × ℕ → LineData
left_pair pair = LineData.LeftPair pair.0 pair.1

-- the line of a pair of the right matching
abbrev pub right_pair : ℕ × ℕ → LineData
right_pair pair = LineData.RightPair pair.0 pair.1

-- all lines of two matchings
abbrev pub given_lines : (left right : List (ℕ × ℕ)) → List LineData
given_lines left right = map left_pair left ++ map right_pair right ++ LineData.End ∷ []

-- all pairs are of agents that are there
abbrev pub ArePairs : Input → List (ℕ × ℕ) → Type 0
ArePairs input pairs = All (λ (pair : ℕ × ℕ). ArePair input pair.0 pair.1) pairs

-- the texts are those of the lines of these pairs
pub record AreGiven (input : Input) (texts : List (List ℕ)) (left right : List (ℕ × ℕ)) : Type 0 where
  pub left_there : ArePairs input left
  pub right_there : ArePairs input right
  pub spelled : texts ≡ map (text_of_line input) (given_lines left right)

-- they are those of some pairs
pub record AreAllGiven (input : Input) (texts : List (List ℕ)) : Type 0 where
  pub left : List (ℕ × ℕ)
  pub right : List (ℕ × ℕ)
  pub given : AreGiven input texts left right

-- they are the first of such texts
pub record AreBegun (input : Input) (texts : List (List ℕ)) : Type 0 where
  pub rest : List (List ℕ)
  pub all : AreAllGiven input (texts ++ rest)

-- the first line, numbered from 0, that can't stand where it stands; or the one behind the last, where lines are missing
abbrev pub IsBadLine : Input → List (List ℕ) → ℕ → Type 0
IsBadLine input texts k = IsFirstBad (AreBegun input) (AreAllGiven input) texts k

-- the line, counted from 1, that is the first bad one of texts, of which the first stands on this line
abbrev pub IsBadGivenAt : Input → List (List ℕ) → (first_line at : ℕ) → Type 0
IsBadGivenAt input texts first_line at = IsFirstBadAt (AreBegun input) (AreAllGiven input) texts first_line at
