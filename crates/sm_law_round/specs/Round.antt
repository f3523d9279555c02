-- What is written for a command, put behind the instance, is judged with yes.
use Rattle.std.specs.Prelude.{◌≡◌, ℕ, ◌≤◌, ◌++◌, ◌∷◌, [], List, length, map, Option, Ok}
use Rattle.sm_text.specs.Limits.{most_bytes}
use Rattle.sm_text.specs.Lines.{LF}
use Rattle.sm_instance.specs.declared.inputs.Input.{Input}
use Rattle.sm_instance.specs.declared.inputs.Input.TheVariants.{Two, Room}
use Rattle.sm_reader.specs.InstanceText.{ReadText, instance_text}
use Rattle.sm_report.specs.Heads.{HeadData}
use Rattle.sm_report.specs.Sound.{IsHeadOf}
use Rattle.sm_report.specs.Texts.{text_of_line}
use Rattle.sm_answer.specs.Writing.{text_of}
use Rattle.sm_tally.specs.Fold.{Shown}
use Rattle.sm_words.specs.Jobs.{JobData, Solve, Reduced, Rotations, Regret, Weight, Meet, Join}
use Rattle.sm_check_clauses.specs.declared.verdicts.Verdict.TheVariants as verdict
use Rattle.sm_serve.specs.declared.status.Status.{Status}
use Rattle.sm_serve.specs.declared.status.Status.TheVariants.{Done}
use Rattle.sm_top.specs.Checked.{verdict_lines}
use Rattle.sm_top.specs.Outcome.{IsAnswer}

-- the whole text of an instance that is read, which ends with its line `end` and the LF of that line
pub record IsInstanceText (text : List ℕ) (read : ReadText) : Type 0 where
  pub means : instance_text text ≡ Ok read
  pub whole : read.rest ≡ length text
  pub front : List ℕ
  pub ended : text ≡ front ++ LF ∷ []

-- an answer of `list` that `check` takes: over an instance with two sides, with numbers as words can give them
abbrev pub IsListTaken : Input → Option (List ℕ) → ℕ → Type 0
IsListTaken (Two w) after limit = IsHeadOf w.kind (HeadData.List after limit)
IsListTaken (Room persons) after limit = ⊥

-- the commands whose answers `check` takes, with the status of those that it takes; `none` of `regret` and of `weight` shows
-- nothing
abbrev pub IsCheckable : JobData → ReadText → Status → Type 0
IsCheckable (Solve side) read status = Unit {0}
IsCheckable Reduced read status = Unit {0}
IsCheckable Rotations read status = Unit {0}
IsCheckable (JobData.List after limit) read status = IsListTaken read.input after limit
IsCheckable Regret read status = status ≡ Done
IsCheckable (Weight by) read status = status ≡ Done
IsCheckable Meet read status = Unit {0}
IsCheckable Join read status = Unit {0}
IsCheckable job read status = ⊥

-- a right answer to a command over an instance, behind which may stand what the command takes there, is behind the same instance
-- one of which the right answer to `check` is yes
abbrev pub WrittenIsChecked : Type 0
WrittenIsChecked = (tallies others : List Shown) (job : JobData) (text behind : List ℕ) (read : ReadText) (status : Status) (lines : List (List ℕ))
    → IsInstanceText text read → IsCheckable job read status → IsAnswer tallies job (text ++ behind) status lines
    → length (text ++ text_of lines) ≤ most_bytes
    → IsAnswer others JobData.Check (text ++ text_of lines) Done (map (text_of_line read.input) (verdict_lines verdict.Yes))
