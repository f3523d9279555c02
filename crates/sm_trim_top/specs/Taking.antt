-- Which inputs are taken.
use Rattle.std.specs.Prelude.{◌≡◌, ℕ, List, [], ◌∷◌, Option, Some, None, Result, Ok, Err}
use Rattle.sm_text.specs.declared.refusal.RefusalKind.{RefusalKind}
use Rattle.sm_text.specs.declared.refusal.RefusalKind.TheVariants.{WrongKind}
use Rattle.sm_agents.specs.Written.{Written}
use Rattle.sm_instance.specs.declared.inputs.Input.{Input}
use Rattle.sm_instance.specs.declared.inputs.Input.TheVariants.{Two, Room}
use Rattle.sm_reader.specs.InstanceText.{ReadText, Refusal, instance_text}
use Rattle.sm_serve.specs.Refusals.{text_behind, first_refusal}
use Rattle.sm_serve.specs.Texts.{RefusalData, plain_refusal}

-- roommates aren't taken: refused at the header
abbrev pub wrong_kind : Input → ℕ → Option Refusal
wrong_kind (Two w) header_line = None
wrong_kind (Room persons) header_line = Some (WrongKind, header_line)

-- What is read from an input, or why it is refused and at which line. An input that is too long comes first, then the faults of
-- its lines, a missing `end` and names that aren't declared; then text behind `end`, and then the kind.
abbrev pub behind_text : List ℕ → Result ReadText Refusal → Result ReadText Refusal
behind_text bytes (Err refusal) = Err refusal
behind_text bytes (Ok read) = first_refusal (text_behind bytes read ∷ wrong_kind read.input read.header_line ∷ []) read

-- what is read of the bytes of an input, or why they are refused
abbrev pub taken : List ℕ → Result ReadText Refusal
taken bytes = behind_text bytes (instance_text bytes)

-- an input is taken, and this is its instance
pub record IsTaken (bytes : List ℕ) (w : Written) : Type 0 where
  pub read : ReadText
  pub ok : taken bytes ≡ Ok read
  pub two : read.input ≡ Two w

-- an input isn't taken, for this reason and at this line
pub record IsUntaken (bytes : List ℕ) (refusal : RefusalData) : Type 0 where
  pub kind : RefusalKind
  pub at : ℕ
  pub because : taken bytes ≡ Err (kind, at)
  pub says : refusal ≡ plain_refusal kind at

-- an input that was read is refused for its kind
pub record IsOfWrongKind (read : ReadText) (refusal : RefusalData) : Type 0 where
  pub kind : RefusalKind
  pub at : ℕ
  pub because : wrong_kind read.input read.header_line ≡ Some (kind, at)
  pub says : refusal ≡ plain_refusal kind at
