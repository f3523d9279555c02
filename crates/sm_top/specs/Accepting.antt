-- Which inputs are accepted for a job.
use Rattle.std.specs.Prelude.{◌≡◌, ℕ, if◌then◌else◌, List, [], ◌∷◌, Option, Some, None, Result, Ok, Err}
use Rattle.sm_text.specs.declared.refusal.RefusalKind.{RefusalKind}
use Rattle.sm_text.specs.declared.refusal.RefusalKind.TheVariants.{WrongKind}
use Rattle.sm_instance.specs.Inputs.{kind_of}
use Rattle.sm_reader.specs.InstanceText.{ReadText, Refusal, instance_text}
use Rattle.sm_words.specs.Jobs.{JobData}
use Rattle.sm_words.specs.Takes.{takes_text, takes_kind}
use Rattle.sm_serve.specs.Refusals.{text_behind, too_many_in, first_refusal}
use Rattle.sm_serve.specs.Texts.{RefusalData, plain_refusal}

-- The order of refusals.

-- there is text behind `end` and the job takes none
abbrev pub after_end : JobData → List ℕ → ReadText → Option Refusal
after_end job bytes read = if takes_text job then None else text_behind bytes read

-- the job doesn't take the kind
abbrev pub wrong_kind : JobData → ReadText → Option Refusal
wrong_kind job read = if takes_kind job (kind_of read.input) then None else Some (WrongKind, read.header_line)

-- the seats of an input that was read have too many entries
abbrev pub too_many_seats : ReadText → Option Refusal
too_many_seats read = too_many_in read.input

-- what is judged of an input that was read: its kind, then its seats
abbrev pub judged : JobData → ReadText → Result ReadText Refusal
judged job read = first_refusal (wrong_kind job read ∷ too_many_seats read ∷ []) read

-- What is read from an input for a job, or why it is refused and at which line. An input that is too long comes first, then
-- the faults of its lines, a missing `end` and names that aren't declared; then these.
abbrev pub behind_text : JobData → List ℕ → Result ReadText Refusal → Result ReadText Refusal
behind_text job bytes (Err refusal) = Err refusal
behind_text job bytes (Ok read) = first_refusal (after_end job bytes read ∷ wrong_kind job read ∷ too_many_seats read ∷ []) read

-- what is read of the bytes of an input for a job, or why they are refused
abbrev pub accepted : JobData → List ℕ → Result ReadText Refusal
accepted job bytes = behind_text job bytes (instance_text bytes)

-- an input isn't accepted, for this reason and at this line
pub record IsUnaccepted (job : JobData) (bytes : List ℕ) (refusal : RefusalData) : Type 0 where
  pub kind : RefusalKind
  pub at : ℕ
  pub because : accepted job bytes ≡ Err (kind, at)
  pub says : refusal ≡ plain_refusal kind at
