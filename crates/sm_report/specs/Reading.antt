-- Lines by their texts.
use Rattle.std.specs.Prelude.{◌≡◌, ℕ, List}
use Rattle.sm_instance.specs.Inputs.{IsInput}
use Rattle.sm_instance.specs.declared.inputs.Input.{Input}
use Rattle.sm_report.specs.declared.faults.LineFault.{LineFault}
use Rattle.sm_report.specs.declared.faults.LineFault.TheVariants.{BadAnswer, OutOfMemory}
use Rattle.sm_report.specs.Lines.{LineData}
use Rattle.sm_report.specs.Sound.{IsLineOf}
use Rattle.sm_report.specs.Texts.{text_of_line}

-- a line of an input has the text
pub record HasText (input : Input) (text : List ℕ) (line : LineData) : Type 0 where
  pub sound : IsLineOf input line
  pub spelled : text_of_line input line ≡ text

-- no line of an input has it
abbrev pub HasNoLine : Input → List ℕ → Type 0
HasNoLine input text = (line : LineData) → ¬ HasText input text line

-- why no line is read from a text
abbrev pub IsLineFault : Input → List ℕ → LineFault → Type 0
IsLineFault input text BadAnswer = HasNoLine input text
IsLineFault input text OutOfMemory = Unit {0}

-- A text is that of one line of an input at most.
abbrev pub OneLineHasIt : Type 0
OneLineHasIt = (input : Input) (text : List ℕ) (a b : LineData) → IsInput input → HasText input text a → HasText input text b → a ≡ b

-- So what was put for a line of an input is read as that line, and is no bad answer.
abbrev pub PutIsReadAgain : Type 0
PutIsReadAgain = (input : Input) (line : LineData) → IsInput input → IsLineOf input line
    → ((read : LineData) → HasText input (text_of_line input line) read → read ≡ line) × ¬ HasNoLine input (text_of_line input line)
