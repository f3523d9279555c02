-- The lines of two given matchings, as they are taken one after another.
use Rattle.std.specs.Prelude.{◌≡◌, ◌≢◌, ℕ, Bool, true, false, List, [], ◌∷◌, ◌++◌, map}
use Rattle.sm_instance.specs.declared.inputs.Input.{Input}
use Rattle.sm_report.specs.Lines.{LineData}
use Rattle.sm_report.specs.Reading.{HasText}
use Rattle.sm_answer_given.specs.GivenText.{left_pair, right_pair, IsBadGivenAt}
use Rattle.sm_answer_given.specs.declared.faults.GivenFault.{GivenFault}
use Rattle.sm_answer_given.specs.declared.faults.GivenFault.TheVariants.{BadAnswer, NotStable, OutOfMemory}
use Rattle.sm_answer_given.specs.declared.pairs.Group.{Group}
use Rattle.sm_answer_given.specs.declared.pairs.Group.TheVariants.{Left, Right, Ended}
use Rattle.sm_answer_given.specs.declared.pairs.GivenPairs.{GivenPairs}

-- `end`, where it was taken
abbrev pub end_so_far : Group → List LineData
end_so_far Left = []
end_so_far Right = []
end_so_far Ended = LineData.End ∷ []

-- the lines that were taken
abbrev pub lines_so_far : GivenPairs → List LineData
lines_so_far pairs = map left_pair pairs.left.items ++ map right_pair pairs.right.items ++ end_so_far pairs.group

-- `left` lines may come until there is a `right` line
abbrev pub FitsGroup : Group → List (ℕ × ℕ) → Type 0
FitsGroup Left right = right ≡ []
FitsGroup Right right = right ≢ []
FitsGroup Ended right = Unit {0}

-- no left line stands behind a right one
abbrev pub AreInTurn : GivenPairs → Type 0
AreInTurn pairs = FitsGroup pairs.group pairs.right.items

-- which lines may come
abbrev pub HasPlace : Group → LineData → Type 0
HasPlace Left (LineData.LeftPair p r) = Unit {0}
HasPlace Left (LineData.RightPair p r) = Unit {0}
HasPlace Left LineData.End = Unit {0}
HasPlace Right (LineData.RightPair p r) = Unit {0}
HasPlace Right LineData.End = Unit {0}
HasPlace group line = ⊥

-- what came of taking a line
pub record Took (before after : GivenPairs) (line : LineData) : Type 0 where
  pub lines : lines_so_far after ≡ lines_so_far before ++ line ∷ []
  pub in_turn : AreInTurn after

-- true says that the line was taken, and false that it may not stand there
abbrev pub TakesLine : (before after : GivenPairs) → LineData → Bool → Type 0
TakesLine before after line true = Took before after line
TakesLine before after line false = ¬ HasPlace before.group line

-- what came of taking the line of a text: each line that has the text can't stand there, or it was taken
pub record TookText (input : Input) (before after : GivenPairs) (text : List ℕ) : Type 0 where
  pub line : LineData
  pub has : HasText input text line
  pub took : Took before after line

-- true says that a line with the text was taken, and false that none may stand there
abbrev pub TakesText : Input → (before after : GivenPairs) → List ℕ → Bool → Type 0
TakesText input before after text true = TookText input before after text
TakesText input before after text false = (line : LineData) → HasText input text line → ¬ HasPlace before.group line

-- why no two matchings are read; want of memory says nothing
abbrev pub IsGivenReadFault : Input → List (List ℕ) → ℕ → GivenFault → Type 0
IsGivenReadFault input texts first_line (BadAnswer at) = IsBadGivenAt input texts first_line at
IsGivenReadFault input texts first_line (NotStable u) = ⊥
IsGivenReadFault input texts first_line OutOfMemory = Unit {0}
