-- What is known between the parts of a run.
use Rattle.std.specs.Prelude.{◌≡◌, ℕ, true, List, Ok}
use Rattle.sm_words.specs.declared.jobs.Form.{Form}
use Rattle.sm_words.specs.Jobs.{JobData}
use Rattle.sm_serve.specs.declared.status.Status.{Status}
use Rattle.sm_tally.specs.Fold.{Shown}
use Rattle.sm_words.specs.Takes.{reads_input}
use Rattle.sm_serve.specs.Texts.{RefusalData}
use Rattle.sm_top.specs.Forms.{given_text}
use Rattle.sm_top.specs.Outcome.{IsAnswer, IsRefusedIn}

-- an input gives a text in a form, and the lines are those of a right answer to it
pub record IsAnswerIn (tallies : List Shown) (job : JobData) (form : Form) (bytes : List ℕ) (status : Status) (lines : List (List ℕ)) : Type 0 where
  pub text : List ℕ
  pub given : given_text form bytes ≡ Ok text
  pub right : IsAnswer tallies job text status lines

-- the text that an input gives in a form is refused, or it gives none
abbrev pub IsRefusedFrom : JobData → Form → List ℕ → RefusalData → Type 0
IsRefusedFrom job form bytes refusal = IsRefusedIn job (given_text form bytes) refusal

-- an input that gives no text in a form, or too long a one, is refused, whichever job reads it
abbrev pub IsUngiven : Form → List ℕ → RefusalData → Type 0
IsUngiven form bytes refusal = (job : JobData) → reads_input job ≡ true → IsRefusedFrom job form bytes refusal
