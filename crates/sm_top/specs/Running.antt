-- What a run does to its source and its sink.
use Rattle.std.specs.Prelude.{◌≡◌, ◌≢◌, ◌⊎◌, ℕ, Bool, true, false, List, Option, Some, Result, Ok, Err}
use Rattle.sm_words.specs.declared.jobs.Form.{Form}
use Rattle.sm_words.specs.Jobs.{JobData}
use Rattle.sm_words.specs.Words.{words_meaning}
use Rattle.sm_serve.specs.declared.status.Status.{Status}
use Rattle.sm_serve.specs.declared.status.Status.TheVariants.{OutOfMemory, ReadFault, WriteFault}
use Rattle.sm_tally.specs.Fold.{Shown}
use Rattle.sm_words.specs.Takes.{reads_input}
use Rattle.sm_serve.specs.Running.{IsRun, is_answer}
use Rattle.sm_serve.specs.Texts.{RefusalData}
use Rattle.sm_top.specs.Forms.{given_text, form_asked}
use Rattle.sm_top.specs.Outcome.{Outcome, IsRefusedIn}

-- what the words ask for reads an input: every job but `make` does, and faulty words don't
abbrev pub asks_to_read : Result (JobData × Form) ℕ → Bool
asks_to_read (Ok asked) = reads_input asked.0
asks_to_read (Err word) = false

-- these words ask for a job that reads an input
abbrev pub reads : List (List ℕ) → Bool
reads words = asks_to_read (words_meaning words)

-- what is written for words is in the form for which they ask
abbrev pub form_of : List (List ℕ) → Form
form_of words = form_asked (words_meaning words)

-- a run with these words and with tallies that showed this: the lines of an outcome are written
abbrev pub Answers : (tallies : List Shown) (words : List (List ℕ)) (left_before left_after held_before held_after : Option (List ℕ)) (status : Status) → Type 0
Answers tallies words left_before left_after held_before held_after status = IsRun (reads words) (form_of words) (Outcome tallies words) left_before left_after held_before held_after status

-- where words ask for a job and the source tells bytes that aren't refused, a run without faults comes to an answer, if there is memory
abbrev pub AnswersAccepted : List (List ℕ) → Option (List ℕ) → Status → Type 0
AnswersAccepted words left status =
    (bytes : List ℕ) (job : JobData) (form : Form) → words_meaning words ≡ Ok (job, form) → left ≡ Some bytes
    → ((refusal : RefusalData) → ¬ IsRefusedIn job (given_text form bytes) refusal)
    → status ≢ ReadFault → status ≢ WriteFault → (is_answer status ≡ true) ⊎ (status ≡ OutOfMemory)
