-- Why an input that was read is refused.
use Rattle.std.specs.Prelude.{◌≡◌, ◌+◌, ℕ, Bool, true, false, if◌then◌else◌, List, [], ◌∷◌, drop, Option, Some, None, Result, Ok, Err}
use Rattle.std.specs.Option.{option_map}
use Rattle.sm_text.specs.Lines.{lines, content}
use Rattle.sm_text.specs.Tokens.{tokens}
use Rattle.sm_text.specs.declared.refusal.RefusalKind.{RefusalKind}
use Rattle.sm_text.specs.declared.refusal.RefusalKind.TheVariants.{AfterEnd, TooManySeats}
use Rattle.sm_agents.specs.Written.{agent_at}
use Rattle.sm_instance.specs.declared.inputs.Input.{Input}
use Rattle.sm_instance.specs.declared.inputs.Input.TheVariants.{Two, Room}
use Rattle.sm_reader.specs.InstanceText.{ReadText, Refusal}
use Rattle.sm_seats.specs.SeatEntries.{first_too_many}
use Rattle.sm_serve.specs.Texts.{RefusalData, plain_refusal}

-- a line says something that has a token: it is neither blank nor a comment
abbrev pub has_tokens : List (List ℕ) → Bool
has_tokens [] = false
has_tokens (token ∷ more) = true

-- a line says something in front of its comment
abbrev pub says_something : List ℕ → Bool
says_something line = has_tokens (tokens (content line))

-- the number of the first of some lines that says something, where the first line has this number
abbrev pub first_saying : ℕ → List (List ℕ) → Option ℕ
first_saying number [] = None
first_saying number (line ∷ rest) = if says_something line then Some number else first_saying (number + 1) rest

-- there is text behind `end`: refused at the first line that says something
abbrev pub text_behind : List ℕ → ReadText → Option Refusal
text_behind bytes read = option_map (λ line. (AfterEnd, line)) (first_saying read.rest_line (lines (drop read.rest bytes)))

-- the seats have too many entries: refused at the line of the first reviewer with whom they do
abbrev pub too_many_in : Input → Option Refusal
too_many_in (Two w) = option_map (λ r. (TooManySeats, (agent_at w.reviewers r).line)) (first_too_many w)
too_many_in (Room persons) = None

-- an input is refused for its seats
pub record IsTooMany (input : Input) (refusal : RefusalData) : Type 0 where
  pub kind : RefusalKind
  pub at : ℕ
  pub because : too_many_in input ≡ Some (kind, at)
  pub says : refusal ≡ plain_refusal kind at

-- the first refusal of several, if there is one
abbrev pub first_refusal : List (Option Refusal) → ReadText → Result ReadText Refusal
first_refusal [] read = Ok read
first_refusal (None ∷ more) read = first_refusal more read
first_refusal (Some refusal ∷ more) read = Err refusal
