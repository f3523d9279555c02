-- What came of writing lines as an array of strings.
use Rattle.std.specs.Prelude.{ℕ, List, Option, Result, Ok, Err}
use Rattle.sm_io.specs.Faults.{Rose}
use Rattle.sm_io.specs.Sink.{Grows, IsPart}
use Rattle.sm_answer.specs.declared.writing.Unwritten.{Unwritten}
use Rattle.sm_answer.specs.declared.writing.Unwritten.TheVariants.{SinkFailed, NoMemory}
use Rattle.sm_json.specs.Wrapping.{json_of_lines}

-- the whole array of some right lines was written
pub record WroteArray (right : List (List ℕ) → Type 0) (before after : Option (List ℕ)) : Type 0 where
  pub lines : List (List ℕ)
  pub is_right : right lines
  pub written : Grows before after (json_of_lines lines)

-- a front of the array of some right lines was written
pub record WroteArrayFront (right : List (List ℕ) → Type 0) (before after : Option (List ℕ)) : Type 0 where
  pub lines : List (List ℕ)
  pub is_right : right lines
  pub written : IsPart before after (json_of_lines lines)

-- all was written; or a front: the sink failed and its count of faults rose, or there was no memory
abbrev pub WritesArray : (right : List (List ℕ) → Type 0) → (held_before held_after : Option (List ℕ)) → (before after : ℕ) → Result (Unit {0}) Unwritten → Type 0
WritesArray right held_before held_after before after (Ok done) = WroteArray right held_before held_after
WritesArray right held_before held_after before after (Err SinkFailed) = WroteArrayFront right held_before held_after × Rose before after
WritesArray right held_before held_after before after (Err NoMemory) = WroteArrayFront right held_before held_after
