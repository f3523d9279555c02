-- Lists that stand one behind another, each between two places of all entries.
use Rattle.std.specs.Prelude.{ℕ, ◌-◌, ◌≤◌, List, map, take, drop, slice_index_or}
use Rattle.sm_lists.specs.declared.span.Span.{Span}

-- what stands for a span past the last
abbrev pub no_span : Span
no_span = record { start = 0; end = 0 }

-- the entries of a list
abbrev pub list_in : {X : Type 0} → List X → Span → List X
list_in entries span = take (span.end - span.start) (drop span.start entries)

-- all lists
abbrev pub rows_in : List ℕ → List Span → List (List ℕ)
rows_in entries spans = map (list_in entries) spans

-- each ends among so many entries, and not before it starts
pub record AreSpans (count : ℕ) (spans : List Span) : Type 0 where
  pub ordered : (a : ℕ) → (slice_index_or spans a no_span).start ≤ (slice_index_or spans a no_span).end
  pub within : (a : ℕ) → (slice_index_or spans a no_span).end ≤ count
