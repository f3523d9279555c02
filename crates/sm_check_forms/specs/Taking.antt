-- The lines of an answer, as they are taken one after another.
use Rattle.std.specs.Prelude.{◌≡◌, ℕ, ◌&&◌, Bool, true, false, List, [], ◌∷◌, ◌++◌, map}
use Rattle.sm_instance.specs.declared.inputs.Input.{Input}
use Rattle.sm_report.specs.Lines.{LineData, line_of}
use Rattle.sm_report.specs.Reading.{HasText}
use Rattle.sm_check_forms.specs.declared.answers.Answer.{Answer}
use Rattle.sm_check_forms.specs.Layouts.{Part, left_behind, is_begun}
use Rattle.sm_check_forms.specs.Lefts.{layouts_left, AreRunning}
use Rattle.sm_check_forms.specs.Forms.{layouts_of, opening_of, fits, is_placed}

-- the lines that were taken, as data
abbrev pub lines_in : Answer → List LineData
lines_in answer = map line_of answer.lines.items

-- this is left of an answer's layouts behind its lines; behind none it is not known yet
abbrev pub HasLefts : Input → List LineData → List (List Part) → Type 0
HasLefts input [] lefts = Unit {0}
HasLefts input (LineData.Answer head ∷ lines) lefts = lefts ≡ left_behind (layouts_of input head) (map (opening_of input) lines)
HasLefts input _ lefts = ⊥

-- what is known of an answer while its lines are taken
pub record IsSoFar (input : Input) (answer : Answer) : Type 0 where
  pub lefts : HasLefts input (lines_in answer) (layouts_left answer.left)
  pub running : AreRunning answer.left

-- a line may stand behind others
abbrev pub may_stand : Input → List LineData → LineData → Bool
may_stand input lines line = fits input line && is_placed is_begun input (lines ++ line ∷ [])

-- it was found whether the next line has a place behind the lines so far
pub record Placed (input : Input) (before after : Answer) (line : LineData) (placed : Bool) : Type 0 where
  pub same_lines : after.lines ≡ before.lines
  pub right : placed ≡ is_placed is_begun input (lines_in before ++ line ∷ [])
  pub lefts : placed ≡ true → HasLefts input (lines_in before ++ line ∷ []) (layouts_left after.left)
  pub running : AreRunning after.left

-- what came of taking a line
pub record Took (input : Input) (before after : Answer) (line : LineData) : Type 0 where
  pub lines : lines_in after ≡ lines_in before ++ line ∷ []
  pub stands : may_stand input (lines_in before) line ≡ true
  pub so_far : IsSoFar input after

-- true says that the line was taken, and false that it may not stand there
abbrev pub TakesLine : Input → (before after : Answer) → LineData → Bool → Type 0
TakesLine input before after line true = Took input before after line
TakesLine input before after line false = may_stand input (lines_in before) line ≡ false

-- what came of taking the line of a text: it was taken, or no line that has the text may stand there
pub record TookText (input : Input) (before after : Answer) (text : List ℕ) : Type 0 where
  pub line : LineData
  pub has : HasText input text line
  pub took : Took input before after line

-- true says that a line with the text was taken, and false that none may stand there
abbrev pub TakesText : Input → (before after : Answer) → List ℕ → Bool → Type 0
TakesText input before after text true = TookText input before after text
TakesText input before after text false =
    (line : LineData) → HasText input text line → may_stand input (lines_in before) line ≡ false
