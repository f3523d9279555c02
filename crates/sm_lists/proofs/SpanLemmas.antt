-- Lists that stand one behind another.
use Rattle.std.proofs.Common.{◌≡◌, ℕ, zero, suc, ◌+◌, ◌-◌, ◌≤◌, ◌++◌, ◌∷◌, [], List, Vec, length, map, take, drop, replicate, get_or, Option, unwrap_or, refl, ap, ◌∙◌, arith}
use Rattle.std.proofs.lemmas.List.{take-map, drop-map, map-append, take_all, take-append-le, drop-append-le, length-append, length-drop}
use Rattle.std.proofs.Math.Seq.{drop-append_seam, take-length}
use Rattle.std.specs.declared.alloc.Global.{Global}
use Rattle.sm_lists.specs.declared.span.Span.{Span}
use Rattle.sm_lists.specs.Places.{places_in}
use Rattle.sm_lists.specs.Spans.{no_span, list_in, rows_in, AreSpans}

-- more entries behind a list change nothing of it
list_in_more : (entries more : List ℕ) (s : Span) → s.start ≤ s.end → s.end ≤ length entries → list_in (entries ++ more) s ≡ list_in entries s
list_in_more entries more s ordered within =
    let left = length-drop s.start entries in
    ap (take (s.end - s.start)) (drop-append-le s.start entries more (omega arith))
    ∙ take-append-le (s.end - s.start) (drop s.start entries) more (omega arith)

-- nor of any
pub rows_in_more : (entries more : List ℕ) (spans : List Span) → AreSpans (length entries) spans → rows_in (entries ++ more) spans ≡ rows_in entries spans
rows_in_more entries more [] h = refl
rows_in_more entries more (s ∷ spans) h =
    ap (λ t. t ∷ rows_in (entries ++ more) spans) (list_in_more entries more s (h.ordered 0) (h.within 0))
    ∙ ap (λ t. list_in entries s ∷ t) (rows_in_more entries more spans (record { ordered = λ a. h.ordered (suc a); within = λ a. h.within (suc a) }))

-- the list that is added last
list_in_last : (entries list : List ℕ) (s : Span) → s.start ≡ length entries → s.end ≡ length entries + length list → list_in (entries ++ list) s ≡ list
list_in_last entries list s start end =
    ap (λ n. take (s.end - s.start) (drop n (entries ++ list))) start
    ∙ ap (take (s.end - s.start)) (drop-append_seam entries list)
    ∙ ap (λ n. take n list) (let e : s.end - s.start ≡ length list = omega arith in e)
    ∙ take-length list

pub map_replicate : {X Y : Type 0} (f : X → Y) (x : X) (n : ℕ) → map f (replicate n x) ≡ replicate n (f x)
map_replicate f x zero = refl
map_replicate f x (suc n) = ap (λ t. f x ∷ t) (map_replicate f x n)

-- lists that share the entries which were added last
pub rows_in_shared : (entries list : List ℕ) (spans : List Span) (s : Span) (count : ℕ) → AreSpans (length entries) spans → s.start ≡ length entries → s.end ≡ length (entries ++ list)
    → rows_in (entries ++ list) (spans ++ replicate count s) ≡ rows_in entries spans ++ replicate count list
rows_in_shared entries list spans s count h start end =
    let long = length-append entries list in
    map-append (list_in (entries ++ list)) spans (replicate count s)
    ∙ ap (λ t. t ++ map (list_in (entries ++ list)) (replicate count s)) (rows_in_more entries list spans h)
    ∙ ap (λ t. rows_in entries spans ++ t) (map_replicate (list_in (entries ++ list)) s count ∙ ap (replicate count) (list_in_last entries list s start (omega arith)))

-- the same of one list
pub rows_in_pushed : (entries list : List ℕ) (spans : List Span) (s : Span) → AreSpans (length entries) spans → s.start ≡ length entries → s.end ≡ length (entries ++ list)
    → rows_in (entries ++ list) (spans ++ s ∷ []) ≡ rows_in entries spans ++ list ∷ []
rows_in_pushed entries list spans s h start end = rows_in_shared entries list spans s 1 h start end

-- what holds at each index once some equal items are added
added_cases : {X : Type 0} (P : X → Type 0) (xs : List X) (n : ℕ) (y d : X) → P y → P d → ((a : ℕ) → P (get_or xs a d)) → (a : ℕ) → P (get_or (xs ++ replicate n y) a d)
added_cases P [] zero y d new past old a = past
added_cases P [] (suc n) y d new past old zero = new
added_cases P [] (suc n) y d new past old (suc a) = added_cases P [] n y d new past old a
added_cases P (x ∷ xs) n y d new past old zero = old 0
added_cases P (x ∷ xs) n y d new past old (suc a) = added_cases P xs n y d new past (λ b. old (suc b)) a

-- each still ends among the entries
pub spans_shared : (entries list : List ℕ) (spans : List Span) (s : Span) (count : ℕ) → AreSpans (length entries) spans → s.start ≡ length entries → s.end ≡ length (entries ++ list)
    → AreSpans (length (entries ++ list)) (spans ++ replicate count s)
spans_shared entries list spans s count h start end =
    let long = length-append entries list in
    record {
      ordered = added_cases (λ t. t.start ≤ t.end) spans count s no_span (omega arith) (omega arith) h.ordered;
      within = added_cases (λ t. t.end ≤ length (entries ++ list)) spans count s no_span (omega arith) (omega arith) (λ a. omega (arith, h.within a));
    }

-- what a vector has that was made longer by so many
pub resized_is : {X : Type 0} (items : Vec X Global) (long count : ℕ) (x : X) → long ≡ items.len
    → take (long + count) items.items ++ replicate (long + count - items.len) x ≡ items.items ++ replicate count x
resized_is items long count x is =
    let same : items.len ≡ length items.items = items.ok.0 in
    ap (λ t. t ++ replicate (long + count - items.len) x) (take_all (long + count) items.items (omega arith))
    ∙ ap (λ (n : ℕ). items.items ++ replicate n x) (let left : long + count - items.len ≡ count = omega arith in left)

-- lists of cross places are those of the places among all of them
pub places_in_spans : (crosses : List (Option ℕ)) (spans : List Span) → rows_in (places_in crosses) spans ≡ map places_in (map (list_in crosses) spans)
places_in_spans crosses [] = refl
places_in_spans crosses (span ∷ spans) =
    let f : Option ℕ → ℕ = λ o. unwrap_or o 0 in
    let list : list_in (places_in crosses) span ≡ places_in (list_in crosses span) = ap (take (span.end - span.start)) (drop-map f span.start crosses) ∙ take-map f (span.end - span.start) (drop span.start crosses) in
    ap (λ l. l ∷ rows_in (places_in crosses) spans) list ∙ ap (λ rows. places_in (list_in crosses span) ∷ rows) (places_in_spans crosses spans)
