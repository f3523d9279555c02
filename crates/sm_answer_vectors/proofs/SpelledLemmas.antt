-- The text of a vector that is kept.
use Rattle.std.proofs.Common.{◌≡◌, ℕ, zero, suc, ◌+◌, ◌-◌, ◌<◌, ◌≤◌, List, [], ◌∷◌, ◌++◌, map, length, take, drop, set, slice_index, decimal, refl, sym, ap, ◌∙◌, arith}
use Rattle.std.specs.List.{join_with_byte}
use Rattle.std.proofs.lemmas.List.{append_assoc, append-nil, length-append, length-take-le, length-set, length_push, get_or-take, take-take, take_more, take-append-drop, set_split}
use Rattle.std.proofs.lemmas.List.Concat.{flat_map-append}
use Rattle.std.proofs.Math.Seq.{drop-append_seam}
use Rattle.sm_lists.proofs.ResultLemmas.{take-append_at_length}
use Rattle.sm_report.specs.Texts.{vector_text}
use Rattle.sm_answer_vectors.specs.Spelled.{spelled, IsSpelled}

-- a number with the comma behind it
abbrev cell : ℕ → List ℕ
cell n = decimal n ++ 44 ∷ []

-- the text of a vector is this without the last comma
joined : (n : ℕ) (ns : List ℕ) → join_with_byte 44 (map decimal (n ∷ ns)) ++ 44 ∷ [] ≡ spelled (n ∷ ns)
joined n [] = sym (append-nil (decimal n ++ 44 ∷ []))
joined n (m ∷ ms) =
    append_assoc (decimal n) (44 ∷ join_with_byte 44 (map decimal (m ∷ ms))) (44 ∷ [])
    ∙ ap (λ t. decimal n ++ 44 ∷ t) (joined m ms)
    ∙ sym (append_assoc (decimal n) (44 ∷ []) (spelled (m ∷ ms)))

-- so it is where there are numbers
pub text_shown : (numbers text : List ℕ) → text ≡ spelled numbers → 1 ≤ length text → take (length text - 1) text ≡ vector_text numbers
text_shown [] text e some = absurd (omega (arith, ap length e))
text_shown (n ∷ ns) text e some =
    let shown = join_with_byte 44 (map decimal (n ∷ ns)) in
    let whole : text ≡ shown ++ 44 ∷ [] = e ∙ sym (joined n ns) in
    ap (take (length text - 1)) whole ∙ take-append_at_length (length text - 1) shown (44 ∷ []) (omega (arith, ap length whole, length_push shown 44))

-- the texts of those before a place and of all others
spelled_parts : (numbers : List ℕ) (i : ℕ) → spelled numbers ≡ spelled (take i numbers) ++ spelled (drop i numbers)
spelled_parts numbers i = ap spelled (sym (take-append-drop i numbers)) ∙ flat_map-append cell (take i numbers) (drop i numbers)

-- the numbers at the front alone
pub spelled_front : {numbers text starts : List ℕ} (count : ℕ) → count ≤ length numbers → IsSpelled numbers text starts → IsSpelled (take count numbers) (take (slice_index starts count) text) (take (count + 1) starts)
spelled_front {numbers} {text} {starts} count few w = record {
  text_is = ap (take (slice_index starts count)) (w.text_is ∙ spelled_parts numbers count) ∙ take-append_at_length (slice_index starts count) (spelled (take count numbers)) (spelled (drop count numbers)) (sym (w.starts_are count few));
  start_each = length-take-le (count + 1) starts (omega (arith, w.start_each)) ∙ ap (λ k. k + 1) (sym (length-take-le count numbers few));
  starts_are = λ i le.
      let less : i ≤ count = omega (arith, length-take-le count numbers few) in
      get_or-take (count + 1) starts i 0 (omega arith) ∙ w.starts_are i (omega arith) ∙ ap (λ t. length (spelled t)) (sym (take-take i count numbers less));
}

-- a number whose text is as long as that of the one before leaves all as long
same_long : (xs : List ℕ) (i n j : ℕ) → length (decimal n) ≡ length (decimal (slice_index xs i)) → length (spelled (take j (set xs i n))) ≡ length (spelled (take j xs))
same_long [] i n j e = refl
same_long (x ∷ xs) i n zero e = refl
same_long (x ∷ xs) zero n (suc j) e = omega (arith, e, length-append (cell n) (spelled (take j xs)), length-append (cell x) (spelled (take j xs)), length_push (decimal n) 44, length_push (decimal x) 44)
same_long (x ∷ xs) (suc i) n (suc j) e = omega (arith, same_long xs i n j e, length-append (cell x) (spelled (take j (set xs i n))), length-append (cell x) (spelled (take j xs)))

-- the text of a number at a place stands behind those before it
number_at : (numbers : List ℕ) (i n : ℕ) → i < length numbers → spelled (set numbers i n) ≡ spelled (take i numbers) ++ (cell n ++ spelled (drop (suc i) numbers))
number_at numbers i n less = ap spelled (set_split numbers i n less) ∙ flat_map-append cell (take i numbers) (n ∷ drop (suc i) numbers)

-- where the text of a number ends
cell_ends : (numbers : List ℕ) (i : ℕ) → i < length numbers → length (spelled (take (i + 1) numbers)) ≡ length (spelled (take i numbers)) + (length (decimal (slice_index numbers i)) + 1)
cell_ends numbers i less =
    let x = slice_index numbers i in
    let front = spelled (take i numbers) in
    ap (λ t. length (spelled t)) (take_more numbers i 0 less) ∙ ap length (flat_map-append cell (take i numbers) (x ∷ [])) ∙ length-append front (cell x ++ []) ∙ ap (λ t. length front + length t) (append-nil (cell x)) ∙ ap (λ k. length front + k) (length_push (decimal x) 44)

-- the text of each number ends no earlier than it begins
pub starts_rise : {numbers text starts : List ℕ} (i : ℕ) → i < length numbers → IsSpelled numbers text starts → slice_index starts i ≤ slice_index starts (i + 1)
starts_rise {numbers} i less w = omega (arith, cell_ends numbers i less, w.starts_are i (omega arith), w.starts_are (i + 1) (omega arith))

-- and begins within the whole text
pub starts_within : {numbers text starts : List ℕ} (i : ℕ) → i ≤ length numbers → IsSpelled numbers text starts → slice_index starts i ≤ length text
starts_within {numbers} {text} {starts} i le w = omega (arith, w.starts_are i le, ap length w.text_is, ap length (spelled_parts numbers i), length-append (spelled (take i numbers)) (spelled (drop i numbers)))

-- another number at a place, whose text is as long
pub spelled_over : {numbers text starts : List ℕ} (i n : ℕ) → i < length numbers → slice_index starts (i + 1) - slice_index starts i ≡ length (decimal n) + 1 → IsSpelled numbers text starts
    → IsSpelled (set numbers i n) (take (slice_index starts i) text ++ decimal n ++ drop (slice_index starts i + length (decimal n)) text) starts
spelled_over {numbers} {text} {starts} i n less e w =
    let x = slice_index numbers i in
    let s = slice_index starts i in
    let front = spelled (take i numbers) in
    let back = spelled (drop (suc i) numbers) in
    let own = cell_ends numbers i less in
    let start : length front ≡ s = sym (w.starts_are i (omega arith)) in
    let stop = w.starts_are (i + 1) (omega arith) in
    let as_long : length (decimal n) ≡ length (decimal x) = omega (arith, own, start, stop, e) in
    let whole : text ≡ front ++ (cell x ++ back) = w.text_is ∙ ap spelled (sym (unchanged numbers i)) ∙ number_at numbers i x less in
    let cut : text ≡ (front ++ decimal x) ++ (44 ∷ back) = whole ∙ ap (λ t. front ++ t) (append_assoc (decimal x) (44 ∷ []) back) ∙ sym (append_assoc front (decimal x) (44 ∷ back)) in
    let before : take s text ≡ front = ap (take s) whole ∙ take-append_at_length s front (cell x ++ back) start in
    let far : s + length (decimal n) ≡ length (front ++ decimal x) = omega (arith, start, as_long, length-append front (decimal x)) in
    let behind : drop (s + length (decimal n)) text ≡ 44 ∷ back = ap (λ k. drop k text) far ∙ ap (drop (length (front ++ decimal x))) cut ∙ drop-append_seam (front ++ decimal x) (44 ∷ back) in
    record {
      text_is = ap (λ t. (t ++ decimal n) ++ drop (s + length (decimal n)) text) before ∙ ap (λ t. (front ++ decimal n) ++ t) behind ∙ append_assoc front (decimal n) (44 ∷ back) ∙ ap (λ t. front ++ t) (sym (append_assoc (decimal n) (44 ∷ []) back)) ∙ sym (number_at numbers i n less);
      start_each = w.start_each ∙ ap (λ k. k + 1) (sym (length-set numbers i n));
      starts_are = λ j le. w.starts_are j (omega (arith, le, length-set numbers i n)) ∙ sym (same_long numbers i n j as_long);
    }
  where
    unchanged : (xs : List ℕ) (i : ℕ) → set xs i (slice_index xs i) ≡ xs
    unchanged [] i = refl
    unchanged (x ∷ xs) zero = refl
    unchanged (x ∷ xs) (suc i) = ap (λ t. x ∷ t) (unchanged xs i)
