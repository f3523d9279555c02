-- Lists that stand one behind another, and by how much each is raised.
use Rattle.std.proofs.Common.{◌≡◌, ℕ, ◌+◌, ◌<◌, ◌^◌, ◌++◌, List, length, replicate, get_or, ap, ◌∙◌, arith}
use Rattle.std.proofs.lemmas.List.{length-map, length-append}
use Rattle.sm_lists.specs.declared.span.Span.{Span}
use Rattle.sm_lists.specs.Spans.{list_in, rows_in}
use Rattle.sm_lists.specs.Raised.{raised_lists}
use Rattle.sm_lists.specs.Raises.{raised_rows, AreRaisedSpans}
use Rattle.sm_lists.proofs.SpanLemmas.{rows_in_more, rows_in_shared, spans_shared}
use Rattle.sm_lists.proofs.RaisedLemmas.{raised_rows-same, raised_rows-pushed, raises_same, raises_pushed}

-- as many lists as spans
pub length-rows_in : (entries : List ℕ) (spans : List Span) → length (rows_in entries spans) ≡ length spans
length-rows_in entries spans = length-map spans (list_in entries)

-- more entries behind the lists, and numbers that are the same where there are lists, change nothing
pub raised_spans_more : (entries list : List ℕ) (spans : List Span) (raises others : List ℕ) → AreRaisedSpans entries spans raises
    → ((a : ℕ) → a < length spans → get_or others a 0 ≡ get_or raises a 0) → AreRaisedSpans (entries ++ list) spans others
raised_spans_more entries list spans raises others h same = record {
  placed = record { ordered = h.placed.ordered; within = λ a. omega (arith, h.placed.within a, length-append entries list) };
  small = rw (rows_in_more entries list spans h.placed) (raises_same (rows_in entries spans) raises others h.small (λ a l. same a (omega (arith, l, length-rows_in entries spans))));
}

pub raised_rows-more : (entries list : List ℕ) (spans : List Span) (raises others : List ℕ) → AreRaisedSpans entries spans raises
    → ((a : ℕ) → a < length spans → get_or others a 0 ≡ get_or raises a 0) → raised_rows (rows_in (entries ++ list) spans) others ≡ raised_rows (rows_in entries spans) raises
raised_rows-more entries list spans raises others h same =
    ap (λ rows. raised_rows rows others) (rows_in_more entries list spans h.placed)
    ∙ raised_rows-same (rows_in entries spans) raises others (λ a l. same a (omega (arith, l, length-rows_in entries spans)))

-- the entries of a list are added behind the others, and so many agents have that list, raised by 0, 1, 2 and so on
pub record AreAdded (entries list : List ℕ) (spans : List Span) (s : Span) (count : ℕ) (raises others : List ℕ) : Type 0 where
  pub before : AreRaisedSpans entries spans raises
  pub start : s.start ≡ length entries
  pub end : s.end ≡ length (entries ++ list)
  pub same : (a : ℕ) → a < length spans → get_or others a 0 ≡ get_or raises a 0
  pub counted : (k : ℕ) → k < count → get_or others (length spans + k) 0 ≡ k
  pub room : (i k : ℕ) → 0 < k → k < count → get_or list i 0 + k < 2 ^ 32

same_below : {entries list : List ℕ} {spans : List Span} {s : Span} {count : ℕ} {raises others : List ℕ} → AreAdded entries list spans s count raises others
    → (a : ℕ) → a < length (rows_in entries spans) → get_or others a 0 ≡ get_or raises a 0
same_below {entries} {list} {spans} h a l = h.same a (omega (arith, l, length-rows_in entries spans))

counted_on : {entries list : List ℕ} {spans : List Span} {s : Span} {count : ℕ} {raises others : List ℕ} → AreAdded entries list spans s count raises others
    → (k : ℕ) → k < count → get_or others (length (rows_in entries spans) + k) 0 ≡ k
counted_on {entries} {list} {spans} {s} {count} {raises} {others} h k l = ap (λ n. get_or others (n + k) 0) (length-rows_in entries spans) ∙ h.counted k l

-- they are still lists that stand one behind another, with numbers for which there is room
pub raised_spans_added : {entries list : List ℕ} {spans : List Span} {s : Span} {count : ℕ} {raises others : List ℕ} → AreAdded entries list spans s count raises others
    → AreRaisedSpans (entries ++ list) (spans ++ replicate count s) others
raised_spans_added {entries} {list} {spans} {s} {count} {raises} {others} h = record {
  placed = spans_shared entries list spans s count h.before.placed h.start h.end;
  small = rw (rows_in_shared entries list spans s count h.before.placed h.start h.end)
      (raises_pushed (rows_in entries spans) list count raises others h.before.small (same_below h) (counted_on h) h.room);
}

-- the lists that were, and these behind them
pub raised_rows-added : {entries list : List ℕ} {spans : List Span} {s : Span} {count : ℕ} {raises others : List ℕ} → AreAdded entries list spans s count raises others
    → raised_rows (rows_in (entries ++ list) (spans ++ replicate count s)) others ≡ raised_rows (rows_in entries spans) raises ++ raised_lists list count
raised_rows-added {entries} {list} {spans} {s} {count} {raises} {others} h =
    ap (λ rows. raised_rows rows others) (rows_in_shared entries list spans s count h.before.placed h.start h.end)
    ∙ raised_rows-pushed (rows_in entries spans) list count raises others (same_below h) (counted_on h)
