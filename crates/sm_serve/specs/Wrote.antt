-- What came of writing lines with a status.
use Rattle.std.specs.Prelude.{◌≡◌, ◌≤◌, ℕ, List, ◌++◌, Option, Result, Ok, Err}
use Rattle.sm_io.specs.Faults.{Rose}
use Rattle.sm_io.specs.Sink.{Grows}
use Rattle.sm_answer.specs.Writing.{text_of}
use Rattle.sm_json.specs.Wrapping.{json_of_lines}
use Rattle.sm_words.specs.declared.jobs.Form.{Form}
use Rattle.sm_words.specs.declared.jobs.Form.TheVariants.{Text, Json}
use Rattle.sm_serve.specs.declared.status.Status.{Status}
use Rattle.sm_serve.specs.declared.status.Status.TheVariants.{OutOfMemory, WriteFault}

-- what is written for lines in a form
abbrev pub written_text : Form → List (List ℕ) → List ℕ
written_text Text lines = text_of lines
written_text Json lines = json_of_lines lines

-- the text of right lines in a form
pub record IsText (form : Form) (right : List (List ℕ) → Type 0) (text : List ℕ) : Type 0 where
  pub lines : List (List ℕ)
  pub is_right : right lines
  pub shows : text ≡ written_text form lines

-- a front of the text of right lines, with any status
pub record IsFront (form : Form) (right : Status → List (List ℕ) → Type 0) (text : List ℕ) : Type 0 where
  pub status : Status
  pub rest : List ℕ
  pub whole : IsText form (right status) (text ++ rest)

-- all was written; or a front, since the sink failed and its count of faults rose, or for want of memory
pub data Ended (form : Form) (right : Status → List (List ℕ) → Type 0) (text : List ℕ) (before after : ℕ) (status : Status) : Type 0 where
  whole : IsText form (right status) text → Ended form right text before after status
  sink_failed : status ≡ WriteFault → IsFront form right text → Rose before after → Ended form right text before after status
  no_memory : status ≡ OutOfMemory → IsFront form right text → Ended form right text before after status

-- a text was written to a sink in a form, where these lines are right with each status, and the sink's count of faults didn't fall
pub record Wrote (form : Form) (right : Status → List (List ℕ) → Type 0) {Sink : Type 0} (held : Sink → Option (List ℕ)) (faults : Sink → ℕ) (before after : Sink) (status : Status) : Type 0 where
  pub text : List ℕ
  pub grows : Grows (held before) (held after) text
  pub ended : Ended form right text (faults before) (faults after) status
  pub later : faults before ≤ faults after

-- what a call leaves of a sink: right lines were written; or nothing was, since there is no answer
abbrev pub Leaves : Form → (Status → List (List ℕ) → Type 0) → {Sink Stop : Type 0} → (Sink → Option (List ℕ)) → (Sink → ℕ) → Sink → Sink → Result Status Stop → Type 0
Leaves form right held faults before after (Ok status) = Wrote form right held faults before after status
Leaves form right held faults before after (Err stop) = after ≡ before

-- these lines, with this status alone
pub record With (given : Status) (gives : List (List ℕ) → Type 0) (status : Status) (lines : List (List ℕ)) : Type 0 where
  pub same : status ≡ given
  pub given_lines : gives lines
