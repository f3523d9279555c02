-- What the text of a printed instance means.
use Rattle.std.specs.Prelude.{◌≡◌, ℕ, ◌≤◌, List, length, map, Some, Ok}
use Rattle.serde_json.specs.Written.{compact_text}
use Rattle.sm_text.specs.Limits.{most_bytes}
use Rattle.sm_agents.specs.Written.{AgentData}
use Rattle.sm_instance.specs.Inputs.{IsInput}
use Rattle.sm_instance.specs.declared.inputs.Input.{Input}
use Rattle.sm_instance.specs.declared.inputs.Input.TheVariants.{Two, Room}
use Rattle.sm_reader.specs.InstanceText.{ReadText, instance_text}
use Rattle.sm_answer.specs.Writing.{text_of}
use Rattle.sm_instance_lines.specs.Printed.{lines_of}
use Rattle.sm_json.specs.JsonText.{text_in}
use Rattle.sm_json.specs.Making.{json_of}

-- an instance whose agents stand on no line
abbrev pub unlined : AgentData → AgentData
unlined agent = record agent { line = 0 }

-- an instance without the lines of its declarations
abbrev pub without_lines : Input → Input
without_lines (Two w) = Two (record w { proposers = map unlined w.proposers; reviewers = map unlined w.reviewers })
without_lines (Room persons) = Room (map unlined persons)

-- two instances differ in nothing but the lines of their declarations
abbrev pub SameButForLines : Input → Input → Type 0
SameButForLines a b = without_lines a ≡ without_lines b

-- the text of a printed instance: each line with its end
abbrev pub printed_text : Input → List ℕ
printed_text input = text_of (lines_of input)

-- the whole text of a printed instance is read, and means the instance, with other lines
pub record IsReadBack (input : Input) : Type 0 where
  pub read : ReadText
  pub means : instance_text (printed_text input) ≡ Ok read
  pub whole : read.rest ≡ length (printed_text input)
  pub same : SameButForLines read.input input

-- and so it is for each instance whose text has no more bytes than an input may have
abbrev pub PrintedIsRead : Type 0
PrintedIsRead = (input : Input) → IsInput input → length (printed_text input) ≤ most_bytes → IsReadBack input

-- bytes in JSON give a text that is read whole, and means the instance, with other lines
pub record IsReadFromJson (bytes : List ℕ) (input : Input) : Type 0 where
  pub text : List ℕ
  pub read : ReadText
  pub given : text_in bytes ≡ Some text
  pub means : instance_text text ≡ Ok read
  pub whole : read.rest ≡ length text
  pub same : SameButForLines read.input input

-- and so does the JSON text of each instance whose text has no more bytes than an input may have
abbrev pub JsonIsRead : Type 0
JsonIsRead = (input : Input) → IsInput input → length (printed_text input) ≤ most_bytes → IsReadFromJson (compact_text (json_of input)) input
