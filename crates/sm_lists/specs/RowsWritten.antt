-- Lists that are written in pieces, beside the cross places of their entries.
use Rattle.std.specs.Prelude.{◌≡◌, ℕ, ◌≤◌, List, length, drop}
use Rattle.sm_lists.specs.declared.span.Span.{Span}
use Rattle.sm_lists.specs.Spans.{rows_in, AreSpans}

-- the lists that are ended, and the one that is being written
pub record RowsWritten : Type 0 where
  pub lists : List (List ℕ)
  pub crosses : List (List ℕ)
  pub list : List ℕ
  pub list_crosses : List ℕ

-- those of spans of all entries, and behind them one that is being written from a place on
abbrev pub written_in : List ℕ → List ℕ → List Span → ℕ → RowsWritten
written_in entries crosses spans from = record {
  lists = rows_in entries spans;
  crosses = rows_in crosses spans;
  list = drop from entries;
  list_crosses = drop from crosses;
}

-- there is a cross place for each entry, and the lists that are ended stand among them
pub record AreInStep (entries crosses : List ℕ) (spans : List Span) (from : ℕ) : Type 0 where
  pub as_many : length crosses ≡ length entries
  pub placed : AreSpans (length entries) spans
  pub begun : from ≤ length entries
