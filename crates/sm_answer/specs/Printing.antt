-- The texts of lines.
use Rattle.std.specs.Prelude.{◌≡◌, ℕ, List, map, All}
use Rattle.sm_instance.specs.declared.inputs.Input.{Input}
use Rattle.sm_report.specs.Lines.{LineData}
use Rattle.sm_report.specs.Sound.{IsLineOf}
use Rattle.sm_report.specs.Texts.{text_of_line}

-- the texts of the lines of a right answer
pub record IsShown (input : Input) (right : List LineData → Type 0) (lines : List (List ℕ)) : Type 0 where
  pub answer : List LineData
  pub is_right : right answer
  pub shows : lines ≡ map (text_of_line input) answer

-- the same, where all right answers have lines of the instance alone
pub record IsPrinted (input : Input) (right : List LineData → Type 0) (lines : List (List ℕ)) : Type 0 where
  pub answer : List LineData
  pub is_right : right answer
  pub shows : lines ≡ map (text_of_line input) answer
  pub sound : (other : List LineData) → right other → All (IsLineOf input) other
