-- Orders that have each of so many numbers once.
use Rattle.std.proofs.Common.{◌≡◌, ◌≢◌, ℕ, ◌+◌, ◌<◌, ◌≤◌, ◌++◌, ◌∷◌, [], List, length, get_or, sym, ap, ◌∙◌, arith, ⊎_elim}
use Rattle.std.specs.List.{range_with_len}
use Rattle.std.proofs.lemmas.Bool.{cases_lt}
use Rattle.std.proofs.lemmas.List.{length-append, get_or_append_left, get_or-append-add}
use Rattle.std.proofs.lemmas.List.FromFn.{length-range_with_len, get_or-range_with_len}
use Rattle.sm_lists.specs.Rows.{place_on}
use Rattle.sm_lists.proofs.Counting.{one_to_one-le}
use Rattle.sm_lists.proofs.PlaceLemmas.{get_or-place_on, place_on-le-at, place_on-lt, length-le-range}
use Rattle.sm_lists.specs.EachOnce.{IsEachOnce, AreApart}

-- the first n numbers in turn have each once
pub range_is_each_once : (n : ℕ) → IsEachOnce n (range_with_len 0 n)
range_is_each_once n = record {
  in_range = λ j l. let e = number j (omega (arith, l, length-range_with_len 0 n)) in omega (arith, e, l, length-range_with_len 0 n);
  once = λ i j less l same.
      let long = length-range_with_len 0 n in
      let e = number i (omega (arith, l, less, long)) in
      let f = number j (omega (arith, l, long)) in
      omega (arith, same, less, e, f);
  each = λ p l. (p, omega (arith, l, length-range_with_len 0 n), number p l);
}
  where
    number : (j : ℕ) → j < n → get_or (range_with_len 0 n) j 0 ≡ j
    number j l = let e = get_or-range_with_len 0 n j 0 l in omega arith

-- such an order is as long as there are numbers
pub each_once_long : {n : ℕ} {order : List ℕ} → IsEachOnce n order → length order ≡ n
each_once_long {n} {order} o =
    let le = length-le-range order n o.in_range o.once in
    let ge : n ≤ length order = one_to_one-le n (length order) (place_on order) within apart in
    omega (arith, le, ge)
  where
    there : (p : ℕ) → p < n → place_on order p < length order
    there p l = let w = o.each p l in place_on-lt order p w.0 w.1 w.2

    within : (p : ℕ) → p < n → place_on order p < length order
    within = there

    apart : (p q : ℕ) → p < q → q < n → place_on order p ≢ place_on order q
    apart p q less l same =
        let e = get_or-place_on order p (there p (omega (arith, less, l))) in
        let f = get_or-place_on order q (there q l) in
        let g = ap (λ i. get_or order i 0) same in
        omega (arith, e, f, g, less)

-- as many numbers below n as there are that differ are all of them
pub apart_each_once : (order : List ℕ) (n : ℕ) → length order ≡ n → AreApart order n n → IsEachOnce n order
apart_each_once order n long a = record {
  in_range = λ j l. a.in_range j (omega (arith, l, long));
  once = λ i j less l. a.once i j less (omega (arith, l, long));
  each = λ p l. ⊎_elim (λ on. (place_on order p, on, get_or-place_on order p on)) (λ past. absurd (missing p l past)) (cases_lt (place_on order p) (length order));
}
  where
    inside : (p i : ℕ) → i < length order → get_or (order ++ p ∷ []) i 0 ≡ get_or order i 0
    inside p i l = get_or_append_left order (p ∷ []) 0 i l

    last : (p i : ℕ) → i ≡ length order → get_or (order ++ p ∷ []) i 0 ≡ p
    last p i e = ap (λ k. get_or (order ++ p ∷ []) k 0) (let f : i ≡ length order + 0 = omega (arith, e) in f) ∙ get_or-append-add order (p ∷ []) 0 0

    within : (p : ℕ) → p < n → (i : ℕ) → i < length (order ++ p ∷ []) → get_or (order ++ p ∷ []) i 0 < n
    within p l i h =
        let more = length-append order (p ∷ []) in
        ⊎_elim (λ on. let e = inside p i on in let f = a.in_range i (omega (arith, on, long)) in omega (arith, e, f))
        (λ past. let e = last p i (omega (arith, past, h, more)) in omega (arith, e, l)) (cases_lt i (length order))

    apart : (p : ℕ) → length order ≤ place_on order p → (i j : ℕ) → i < j → j < length (order ++ p ∷ []) → get_or (order ++ p ∷ []) i 0 ≢ get_or (order ++ p ∷ []) j 0
    apart p past i j less h same =
        let more = length-append order (p ∷ []) in
        let at = inside p i (omega (arith, less, h, more)) in
        ⊎_elim (λ on. a.once i j less (omega (arith, on, long)) (sym at ∙ same ∙ inside p j on))
        (λ behind.
        let e = last p j (omega (arith, behind, h, more)) in
        let le = place_on-le-at order p i (sym at ∙ same ∙ e) in
        omega (arith, le, past, less, h, more))
        (cases_lt j (length order))

    missing : (p : ℕ) → p < n → length order ≤ place_on order p → ⊥
    missing p l past = let le = length-le-range (order ++ p ∷ []) n (within p l) (apart p past) in let more = length-append order (p ∷ []) in omega (arith, le, more, long)
