-- What came of writing lines.
use Rattle.std.specs.Prelude.{ℕ, List, [], ◌∷◌, ◌++◌, Option, Result, Ok, Err}
use Rattle.std.specs.List.{flat_map}
use Rattle.sm_io.specs.Faults.{Rose}
use Rattle.sm_io.specs.Sink.{Grows, IsPart}
use Rattle.sm_text.specs.Lines.{LF}
use Rattle.sm_answer.specs.declared.writing.Unwritten.{Unwritten}
use Rattle.sm_answer.specs.declared.writing.Unwritten.TheVariants.{SinkFailed, NoMemory}

-- each line with its end
abbrev pub text_of : List (List ℕ) → List ℕ
text_of lines = flat_map (λ line. line ++ LF ∷ []) lines

-- all of some right lines were written, or a front of their text
pub record WroteAll (right : List (List ℕ) → Type 0) (before after : Option (List ℕ)) : Type 0 where
  pub lines : List (List ℕ)
  pub is_right : right lines
  pub written : Grows before after (text_of lines)

-- a front of the text of some right lines was written
pub record WroteFront (right : List (List ℕ) → Type 0) (before after : Option (List ℕ)) : Type 0 where
  pub lines : List (List ℕ)
  pub is_right : right lines
  pub written : IsPart before after (text_of lines)

-- all was written; or a front: the sink failed and its count of faults rose, or there was no memory
abbrev pub WritesAnswer : (right : List (List ℕ) → Type 0) → (held_before held_after : Option (List ℕ)) → (before after : ℕ) → Result (Unit {0}) Unwritten → Type 0
WritesAnswer right held_before held_after before after (Ok done) = WroteAll right held_before held_after
WritesAnswer right held_before held_after before after (Err SinkFailed) = WroteFront right held_before held_after × Rose before after
WritesAnswer right held_before held_after before after (Err NoMemory) = WroteFront right held_before held_after
