-- The parts of the reading of a text.
use Rattle.std.specs.Prelude.{◌≡◌, ℕ, ◌+◌, ◌≤◌, List, length, drop, Option, Some, None, Result, Err}
use Rattle.sm_text.specs.Lines.{lines}
use Rattle.sm_agents.specs.declared.kinds.Kind.{Kind}
use Rattle.sm_instance.specs.Inputs.{IsInput}
use Rattle.sm_instance.specs.declared.inputs.Input.{Input}
use Rattle.sm_agents.specs.Named.{nothing}
use Rattle.sm_reader.specs.Judging.{Heading, passes, heads, faces}
use Rattle.sm_reader.specs.InstanceText.{ReadText, Refusal, before_header, behind_header, ended, unknown_lines, least, input_of}
use Rattle.sm_reader.specs.Draft.{said_of}
use Rattle.sm_reader.specs.Numbering.{IsReady}
use Rattle.sm_reader.specs.declared.draft.Draft.{Draft}
use Rattle.sm_reader.specs.declared.reading.End.{End}
use Rattle.sm_reader.specs.declared.header.Header.{Header}
use Rattle.sm_reader.specs.declared.faults.TextFault.{TextFault}
use Rattle.sm_reader.specs.declared.faults.TextFault.TheVariants.{Refused, OutOfMemory}

-- a text means what stands behind its header, which was found
pub record IsHeaded (bytes : List ℕ) (header : Header) : Type 0 where
  pub means : before_header 1 0 (lines bytes) ≡ behind_header header.kind header.format header.line nothing (header.line + 1) header.next (lines (drop header.next bytes))
  pub first : 1 ≤ header.line
  pub fits : header.line ≤ header.next
  pub within : header.next ≤ length bytes

-- a fault is that of what a text means
abbrev pub IsFaultOf : Result ReadText Refusal → TextFault → Type 0
IsFaultOf meaning (Refused kind at) = meaning ≡ Err (kind, at)
IsFaultOf meaning OutOfMemory = Unit {0}

-- the heading that was found on a line, and the fault of one
abbrev pub heading_is : Option (Kind × ℕ) → Heading
heading_is None = passes
heading_is (Some header) = heads header.0 header.1

-- the fault of a heading; want of memory says nothing
abbrev pub IsHeadingFault : Heading → ℕ → TextFault → Type 0
IsHeadingFault heading line (Refused kind at) = (heading ≡ faces kind) × (at ≡ line)
IsHeadingFault heading line OutOfMemory = Unit {0}

-- an instance ends there, after lines without a fault
pub record EndsAt (bytes : List ℕ) (header : Header) (d : Draft) (end : End) : Type 0 where
  pub means : behind_header header.kind header.format header.line nothing (header.line + 1) header.next (lines (drop header.next bytes)) ≡ ended header.kind header.line (said_of header.kind d) end.rest end.rest_line
  pub ready : IsReady header.kind d
  pub within : end.rest ≤ length bytes

-- all names are declared, and the input is the instance that the lines say, which is sound
pub record Finishes (kind : Kind) (d : Draft) (input : Input) : Type 0 where
  pub known : least (unknown_lines kind (said_of kind d)) ≡ None
  pub said : input ≡ input_of kind (said_of kind d)
  pub sound : IsInput input
