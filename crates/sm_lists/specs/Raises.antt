-- By how much the list of each agent is raised, as it is kept.
use Rattle.std.specs.Prelude.{ℕ, ◌+◌, ◌<◌, ◌^◌, List, [], ◌∷◌, length, slice_index}
use Rattle.sm_lists.specs.declared.span.Span.{Span}
use Rattle.sm_lists.specs.Rows.{row, entry}
use Rattle.sm_lists.specs.Spans.{rows_in, AreSpans}
use Rattle.sm_lists.specs.Raised.{raised}

-- the lists of the agents from a on, each raised by the number of its agent
abbrev pub raised_from : ℕ → List (List ℕ) → List ℕ → List (List ℕ)
raised_from a [] raises = []
raised_from a (list ∷ rows) raises = raised (slice_index raises a) list ∷ raised_from (a + 1) rows raises

-- all lists, each raised by the number of its agent
abbrev pub raised_rows : List (List ℕ) → List ℕ → List (List ℕ)
raised_rows rows raises = raised_from 0 rows raises

-- no raised entry is too great
abbrev pub AreRaises : List (List ℕ) → List ℕ → Type 0
AreRaises rows raises = (a i : ℕ) → i < length (row rows a) → 0 < slice_index raises a → entry rows a i + slice_index raises a < 2 ^ 32

-- the same of lists that stand one behind another
pub record AreRaisedSpans (entries : List ℕ) (spans : List Span) (raises : List ℕ) : Type 0 where
  pub placed : AreSpans (length entries) spans
  pub small : AreRaises (rows_in entries spans) raises
