-- An answer that lists vectors.
use Rattle.std.specs.Prelude.{◌≡◌, ℕ, Bool, true, List, [], ◌∷◌, ◌++◌, map, length, Vec, Option, Some, None}
use Rattle.std.specs.Option.{option_map}
use Rattle.std.specs.declared.alloc.Global.{Global}
use Rattle.sm_lists.specs.Orders.{IsBefore}
use Rattle.sm_report.specs.Heads.{HeadData}
use Rattle.sm_report.specs.Lines.{LineData}
use Rattle.sm_theory.specs.Listings.{end_of, IsListing}

-- the last line: `more` with the last vector where more vectors follow, else `end`
abbrev pub last_line : Option (List ℕ) → Bool → LineData
last_line (Some v) true = LineData.More v
last_line _ _ = LineData.End

-- the vectors, and the last line, which says whether more follow behind them
abbrev pub vector_lines : (after : Option (List ℕ)) → (out : List (List ℕ)) → (more : Bool) → List LineData
vector_lines after out more = map (λ v. LineData.Vector v) out ++ last_line (end_of after out) more ∷ []

-- a cursor has an item for each of so many agents
abbrev pub IsCursor : ℕ → Option (List ℕ) → Type 0
IsCursor count None = Unit {0}
IsCursor count (Some v) = length v ≡ count

-- a vector that is held, if there is one
abbrev pub cursor_in : Option (Vec ℕ Global) → Option (List ℕ)
cursor_in after = option_map (λ v. v.items) after

-- the lines are the head, the vectors of a listing of those in question behind a cursor, compared in an order of the agents, and
-- its end
pub record IsVectorAnswer (order : List ℕ) (IsOne : List ℕ → Type 0) (after : Option (List ℕ)) (limit : ℕ) (answer : List LineData) : Type 0 where
  pub out : List (List ℕ)
  pub more : Bool
  pub listing : IsListing (IsBefore order) IsOne after limit out more
  pub shows : answer ≡ LineData.Answer (HeadData.List after limit) ∷ vector_lines after out more
