-- What a run of `matchtrim` does to its source and its sink. This is what the program promises.
use Rattle.std.specs.Prelude.{◌≡◌, ◌≢◌, ◌⊎◌, ℕ, Bool, true, false, List, [], ◌∷◌, Option, Some}
use Rattle.sm_words.specs.declared.jobs.Form.TheVariants.{Text}
use Rattle.sm_serve.specs.declared.status.Status.{Status}
use Rattle.sm_serve.specs.declared.status.Status.TheVariants.{Done, Refused, Usage, OutOfMemory, ReadFault, WriteFault}
use Rattle.sm_serve.specs.Running.{IsRun}
use Rattle.sm_serve.specs.Texts.{RefusalData, usage_line, refused_line}
use Rattle.sm_trim_top.specs.Trimmed.{IsRightText, IsRefused}

-- the program takes no words
abbrev pub has_no_words : List (List ℕ) → Bool
has_no_words [] = true
has_no_words (word ∷ more) = false

-- What may come of words and an input: the first word is faulty; or there is none, and the input is refused, or the lines are
-- those of the trimmed instance.
pub data Outcome (words : List (List ℕ)) (bytes : List ℕ) (status : Status) (lines : List (List ℕ)) : Type 0 where
  faulty_words : has_no_words words ≡ false → status ≡ Usage 1 → lines ≡ usage_line 1 ∷ [] → Outcome words bytes status lines
  refused : (refusal : RefusalData) → has_no_words words ≡ true → IsRefused bytes refusal → status ≡ Refused refusal.kind refusal.at → lines ≡ refused_line refusal ∷ []
      → Outcome words bytes status lines
  trimmed : has_no_words words ≡ true → IsRightText bytes status lines → Outcome words bytes status lines

-- a run with these words: the lines of an outcome are written
abbrev pub Trims : (words : List (List ℕ)) (left_before left_after held_before held_after : Option (List ℕ)) (status : Status) → Type 0
Trims words left_before left_after held_before held_after status = IsRun (has_no_words words) Text (Outcome words) left_before left_after held_before held_after status

-- where there are no words and the source tells bytes that aren't refused, a run without faults writes the trimmed instance, if there
-- is memory
abbrev pub TrimsTaken : List (List ℕ) → Option (List ℕ) → Status → Type 0
TrimsTaken words left status =
    (bytes : List ℕ) → has_no_words words ≡ true → left ≡ Some bytes → ((refusal : RefusalData) → ¬ IsRefused bytes refusal)
    → status ≢ ReadFault → status ≢ WriteFault → (status ≡ Done) ⊎ (status ≡ OutOfMemory)
