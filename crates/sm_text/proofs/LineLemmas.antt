-- The first line of a list of bytes, and what it holds.
use Rattle.std.proofs.Common.{zero, suc, ◌≡◌, ◌≢◌, ℕ, ◌+◌, ◌-◌, ◌<◌, ◌≤◌, ◌==◌, cond, eqb, Bool, true, false, List, [], ◌∷◌, length, map, get_or, take, drop, refl, sym, ap, ◌∙◌, arith}
use Rattle.std.proofs.lemmas.List.{take-take, drop-drop, drop_all, length-drop}
use Rattle.std.specs.List.{onto_first}
use Rattle.std.proofs.lemmas.Bool.Decides.{nat_tests}
use Rattle.std.proofs.lemmas.Bool.{eq-eqb, ne_eqb}
use Rattle.sm_text.specs.Lines.{LF, first_line, without_last, content, lines, texts_from, IsLineAt}
use Rattle.sm_text.specs.declared.lines.LineSpan.{LineSpan}

-- the line ends at the first LF, or with the text
pub first_line_to : (bytes : List ℕ) (i : ℕ) → i < length bytes → get_or bytes i 0 ≡ 10 → ((k : ℕ) → k < i → get_or bytes k 0 ≢ 10) → first_line bytes ≡ take (i + 1) bytes
first_line_to [] i h there before = absurd (omega arith)
first_line_to (b ∷ bytes) zero h there before = rw (eq-eqb b 10 there) refl
first_line_to (b ∷ bytes) (suc i) h there before =
    rw (ne_eqb b 10 (before 0 (omega arith))) (ap (λ t. b ∷ t) (first_line_to bytes i (omega arith) there (λ k l. before (suc k) (omega arith)))
    ∙ ap (λ n. take n (b ∷ bytes)) (let e : suc (i + 1) ≡ suc i + 1 = omega arith in e))

-- a text with no LF is one line
pub first_line_whole : (bytes : List ℕ) → ((k : ℕ) → k < length bytes → get_or bytes k 0 ≢ 10) → first_line bytes ≡ bytes
first_line_whole [] none = refl
first_line_whole (b ∷ bytes) none =
    rw (ne_eqb b 10 (none 0 (omega arith))) (ap (λ t. b ∷ t) (first_line_whole bytes (λ k l. none (suc k) (omega arith))))

-- the first line is a front of the text
pub first_line_taken : (bytes : List ℕ) → take (length (first_line bytes)) bytes ≡ first_line bytes
first_line_taken [] = refl
first_line_taken (b ∷ bytes) = elim (eqb b 10) as (λ t. take (length (cond t (b ∷ []) (b ∷ first_line bytes))) (b ∷ bytes) ≡ cond t (b ∷ []) (b ∷ first_line bytes)) [ true ↦ refl | false ↦ ap (λ t. b ∷ t) (first_line_taken bytes) ]

-- it is no longer than the text
pub length-first_line-le : (bytes : List ℕ) → length (first_line bytes) ≤ length bytes
length-first_line-le [] = omega arith
length-first_line-le (b ∷ bytes) = elim (eqb b 10) as (λ t. length (cond t (b ∷ []) (b ∷ first_line bytes)) ≤ length (b ∷ bytes)) [ true ↦ omega arith | false ↦ omega (arith, length-first_line-le bytes) ]

-- a text has no more lines than bytes
pub length-lines-le : (bytes : List ℕ) → length (lines bytes) ≤ length bytes
length-lines-le [] = omega arith
length-lines-le (b ∷ bytes) = by_test (b == LF) (length-lines-le bytes) (by_parts (lines bytes) (length-lines-le bytes))
  where
    by_parts : (parts : List (List ℕ)) → length parts ≤ length bytes → length (onto_first b parts) ≤ length bytes + 1
    by_parts [] h = omega arith
    by_parts (part ∷ parts) h = omega arith

    by_test : (t : Bool) → length (lines bytes) ≤ length bytes → length (onto_first b (lines bytes)) ≤ length bytes + 1
        → length (cond t ((b ∷ []) ∷ lines bytes) (onto_first b (lines bytes))) ≤ length (b ∷ bytes)
    by_test true h k = omega arith
    by_test false h k = omega arith

-- in front of a list that is chosen
front_cond : (t : Bool) (b : ℕ) (u v : List ℕ) → b ∷ cond t u v ≡ cond t (b ∷ u) (b ∷ v)
front_cond true b u v = refl
front_cond false b u v = refl

-- the last byte decides
pub without_last_at : (x : ℕ) (line : List ℕ) (n : ℕ) → length line ≡ suc n → without_last x line ≡ cond (eqb (get_or line n 0) x) (take n line) line
without_last_at x [] n e = absurd (omega arith)
without_last_at x (b ∷ []) zero e = refl
without_last_at x (b ∷ []) (suc n) e = absurd (omega arith)
without_last_at x (b ∷ c ∷ rest) zero e = absurd (omega arith)
without_last_at x (b ∷ c ∷ rest) (suc n) e =
    ap (λ t. b ∷ t) (without_last_at x (c ∷ rest) n (omega arith)) ∙ front_cond (eqb (get_or (c ∷ rest) n 0) x) b (take n (c ∷ rest)) (c ∷ rest)

-- a list without its last item is a front of it
pub without_last_taken : (x : ℕ) (line : List ℕ) → take (length (without_last x line)) line ≡ without_last x line
without_last_taken x [] = refl
without_last_taken x (b ∷ []) = elim (eqb b x) as (λ t. take (length (cond t [] (b ∷ []))) (b ∷ []) ≡ cond t [] (b ∷ [])) [ true ↦ refl | false ↦ refl ]
without_last_taken x (b ∷ c ∷ rest) = ap (λ t. b ∷ t) (without_last_taken x (c ∷ rest))

-- the first line of a text that has bytes has some
pub length-first_line-pos : (bytes : List ℕ) → 0 < length bytes → 0 < length (first_line bytes)
length-first_line-pos [] h = absurd (omega arith)
length-first_line-pos (b ∷ bytes) h = elim (eqb b 10) as (λ t. 0 < length (cond t (b ∷ []) (b ∷ first_line bytes))) [ true ↦ omega arith | false ↦ omega arith ]

-- a front of a front is a front
take_of_front : (a b whole : List ℕ) → take (length a) b ≡ a → take (length b) whole ≡ b → length a ≤ length b → take (length a) whole ≡ a
take_of_front a b whole h k short = sym (take-take (length a) (length b) whole short) ∙ ap (λ t. take (length a) t) k ∙ h

-- taking the last item off makes no list longer
pub length-without_last-le : (x : ℕ) (line : List ℕ) → length (without_last x line) ≤ length line
length-without_last-le x [] = omega arith
length-without_last-le x (b ∷ []) = elim (eqb b x) as (λ t. length (cond t [] (b ∷ [])) ≤ 1) [ true ↦ omega arith | false ↦ omega arith ]
length-without_last-le x (b ∷ c ∷ rest) = omega (arith, length-without_last-le x (c ∷ rest))

-- a line holds no more than its bytes
pub length-content-le : (line : List ℕ) → length (content line) ≤ length line
length-content-le line = omega (arith, length-without_last-le 13 (without_last 10 line), length-without_last-le 10 line)

-- another last byte stays
pub without_last_kept : (x : ℕ) (line : List ℕ) → 1 ≤ length line → (get_or line (length line - 1) 0 ≡ x → ⊥) → line ≡ without_last x line
without_last_kept x line h other =
    let last = without_last_at x line (length line - 1) (omega arith) in
    grind (arith, nat_tests)

-- what a line holds is a front of it
pub content_taken : (line : List ℕ) → take (length (content line)) line ≡ content line
content_taken line =
    let inner = without_last 10 line in
    let short = length-without_last-le 13 inner in
    let front = take_of_front (without_last 13 inner) inner line (without_last_taken 13 inner) (without_last_taken 10 line) short in
    front

-- what a line holds is a front of the line, which is a front of the text
pub line_text : (bytes : List ℕ) (from : ℕ) (span : LineSpan) → IsLineAt bytes from span
    → take (span.stop - span.start) (drop span.start bytes) ≡ content (first_line (drop from bytes))
line_text bytes from span h =
    let rest = drop from bytes in
    let line = first_line rest in
    let count : span.stop - span.start ≡ length (content line) = omega (arith, h.start, h.stop) in
    ap (λ n. take (span.stop - span.start) (drop n bytes)) h.start
    ∙ ap (λ n. take n rest) count
    ∙ take_of_front (content line) line rest (content_taken line) (first_line_taken rest) (length-content-le line)

-- the places of a line, in their order
pub line_places : (bytes : List ℕ) (from : ℕ) (span : LineSpan) → IsLineAt bytes from span
    → (span.start ≤ span.stop) × (span.stop ≤ span.next) × (from < span.next) × (span.next ≤ length bytes)
line_places bytes from span h =
    let rest = drop from bytes in
    let line = first_line rest in
    let count = length-drop from bytes in
    let some = length-first_line-pos rest (omega (arith, h.within)) in (
      omega (arith, h.start, h.stop),
      omega (arith, h.stop, h.next, length-content-le line),
      omega (arith, h.next, some),
      omega (arith, h.next, h.within, length-first_line-le rest),
    )

-- the first line, and the lines behind it
pub lines_first : (bytes : List ℕ) → 0 < length bytes → lines bytes ≡ first_line bytes ∷ lines (drop (length (first_line bytes)) bytes)
lines_first [] h = absurd (omega arith)
lines_first (b ∷ []) h = elim (eqb b 10) as (λ t.
    cond t ((b ∷ []) ∷ []) (onto_first b [])
    ≡ cond t (b ∷ []) (b ∷ []) ∷ lines (drop (length (cond t (b ∷ []) (b ∷ []))) (b ∷ []))) [ true ↦ refl | false ↦ refl ]
lines_first (b ∷ c ∷ rest) h =
    let behind : lines (c ∷ rest) ≡ first_line (c ∷ rest) ∷ lines (drop (length (first_line (c ∷ rest))) (c ∷ rest)) = lines_first (c ∷ rest) (omega arith) in
    elim (eqb b 10) as (λ t.
    cond t ((b ∷ []) ∷ lines (c ∷ rest)) (onto_first b (lines (c ∷ rest)))
    ≡ cond t (b ∷ []) (b ∷ first_line (c ∷ rest)) ∷ lines (drop (length (cond t (b ∷ []) (b ∷ first_line (c ∷ rest)))) (b ∷ c ∷ rest)))
    [ true ↦ refl | false ↦ ap (onto_first b) behind ]

-- the line at a place, and the lines behind it
pub lines_drop : (bytes : List ℕ) (from : ℕ) → from < length bytes
    → lines (drop from bytes) ≡ first_line (drop from bytes) ∷ lines (drop (from + length (first_line (drop from bytes))) bytes)
lines_drop bytes from within =
    let rest = drop from bytes in
    lines_first rest (omega (arith, length-drop from bytes, within))
    ∙ ap (λ t. first_line rest ∷ lines t) (drop-drop (length (first_line rest)) from bytes)

-- one line more of a text
pub texts_from-step : (bytes : List ℕ) (at : ℕ) (span : LineSpan) → IsLineAt bytes at span → texts_from bytes at ≡ take (span.stop - span.start) (drop span.start bytes) ∷ texts_from bytes span.next
texts_from-step bytes at span h = ap (map content) h.leads ∙ ap (λ t. t ∷ texts_from bytes span.next) (sym (line_text bytes at span h))

-- and behind it there is one line less
pub fewer_lines : (bytes : List ℕ) (at : ℕ) (span : LineSpan) → IsLineAt bytes at span → length (lines (drop at bytes)) ≡ length (lines (drop span.next bytes)) + 1
fewer_lines bytes at span h = let e : length (lines (drop at bytes)) ≡ length (first_line (drop at bytes) ∷ lines (drop span.next bytes)) = ap length h.leads in omega (arith, e)

-- past the end there are none
pub texts_from-over : (bytes : List ℕ) (at : ℕ) → length bytes ≤ at → texts_from bytes at ≡ []
texts_from-over bytes at le = ap (λ rest. map content (lines rest)) (drop_all at bytes le)
