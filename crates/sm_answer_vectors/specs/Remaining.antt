-- The lines that are left of a listing of vectors: those in question, compared in an order, behind a cursor.
use Rattle.std.specs.Prelude.{◌≡◌, ℕ, ◌+◌, Bool, true, false, List, [], Option}
use Rattle.sm_lists.specs.Orders.{IsBefore}
use Rattle.sm_report.specs.Lines.{LineData}
use Rattle.sm_report.specs.declared.lines.Line.{Line}
use Rattle.sm_instance.specs.declared.inputs.Input.{Input}
use Rattle.sm_answer.specs.Giving.{AreJoined}
use Rattle.sm_answer.specs.Lines.{line_left}
use Rattle.sm_answer.specs.Printing.{IsPrinted}
use Rattle.sm_theory.specs.Listings.{IsListing}
use Rattle.sm_answer_vectors.specs.VectorAnswer.{last_line, vector_lines}
use Rattle.sm_answer_vectors.specs.Spelled.{IsKept}
use Rattle.sm_answer_vectors.specs.declared.vector_text.VectorText.{VectorText}

-- the vectors of a listing behind the cursor, at most so many, and its last line
pub record IsListedRest (order : List ℕ) (IsOne : List ℕ → Type 0) (cursor : Option (List ℕ)) (left : ℕ) (lines : List LineData) : Type 0 where
  pub out : List (List ℕ)
  pub more : Bool
  pub listing : IsListing (IsBefore order) IsOne cursor left out more
  pub shows : lines ≡ vector_lines cursor out more

-- once the last line is given, nothing
abbrev pub IsLeftOf : (over : Bool) → (order : List ℕ) → (List ℕ → Type 0) → Option (List ℕ) → (left : ℕ) → List LineData → Type 0
IsLeftOf true order IsOne cursor left lines = lines ≡ []
IsLeftOf false order IsOne cursor left lines = IsListedRest order IsOne cursor left lines

-- at most so many lines are left
abbrev pub most_lines : (over : Bool) → (left : ℕ) → ℕ
most_lines true left = 0
most_lines false left = left + 1

-- what is known between two lines: the text that is kept is that of its numbers, and where no more vectors are wanted one was
-- reached, so that the last line can show it
pub record IsReady (over : Bool) (left : ℕ) (here : Bool) (text : VectorText) : Type 0 where
  pub kept : IsKept text
  pub reached : over ≡ false → left ≡ 0 → here ≡ true

-- what may be left of the lines, where this is known: the first one, if it isn't given yet, and the others behind it
pub record IsListLeft (known : Type 0) (others : List LineData → Type 0) (input : Input) (head : Option Line) (lines : List (List ℕ)) : Type 0 where
  pub is_known : known
  pub printed : IsPrinted input (AreJoined (λ rest. rest ≡ line_left head) others) lines

-- the last line of a listing of no more vectors
pub record IsLastLine (order : List ℕ) (IsOne : List ℕ → Type 0) (cursor : Option (List ℕ)) (line : LineData) : Type 0 where
  pub more : Bool
  pub listing : IsListing (IsBefore order) IsOne cursor 0 [] more
  pub is : line ≡ last_line cursor more
