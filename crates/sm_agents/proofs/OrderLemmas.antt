-- The full order of some numbers that come first.
use Rattle.std.proofs.Common.{◌≡◌, ◌≢◌, ℕ, zero, suc, ◌+◌, ◌-◌, ◌<◌, ◌≤◌, ◌||◌, eqb, Bool, true, false, not, cond, List, [], ◌∷◌, ◌++◌, length, filter, get_or, take, refl, sym, ap, ◌∙◌, subst, inl, inr, arith, All, AllPairs}
use Rattle.std.specs.List.{list_any, range_with_len}
use Rattle.std.proofs.lemmas.Bool.{false≢true, cases_lt, eqb-true, not-true}
use Rattle.std.proofs.lemmas.Bool.Decides.{nat_tests}
use Rattle.std.proofs.lemmas.List.{length-append, map-id, take_more, take_all, get_or-append-add}
use Rattle.std.proofs.lemmas.List.Elements.{All-filter, filter_passes}
use Rattle.std.proofs.lemmas.List.Folds.{list_any_at, list_any-append}
use Rattle.std.proofs.lemmas.List.FromFn.{length-range_with_len, get_or-range_with_len, filter_of_map_range_with_len_more}
use Rattle.std.proofs.lemmas.List.Kept.{AllPairs-filter}
use Rattle.std.proofs.Math.ListN.{get_or-append}
use Rattle.sm_lists.specs.EachOnce.{IsEachOnce}
use Rattle.sm_agents.specs.Order.{full_order}

-- the others up to a number, with one more
pub filter_next : (p : ℕ → Bool) (n : ℕ) → filter p (range_with_len 0 (n + 1)) ≡ filter p (range_with_len 0 n) ++ cond (p n) (n ∷ []) []
filter_next p n =
    ap (filter p) (sym (map-id (range_with_len 0 (n + 1)))) ∙ filter_of_map_range_with_len_more p (λ k. k) 0 n n (omega arith)
    ∙ ap (λ xs. filter p xs ++ cond (p n) (n ∷ []) []) (map-id (range_with_len 0 n))

-- a number is put unless a test passes
pub unless : (t : Bool) (n : ℕ) → cond t [] (n ∷ []) ≡ cond (not t) (n ∷ []) []
unless true n = refl
unless false n = refl

-- no number is marked before the first
pub marks_none : (old : Bool) → old ≡ (old || false)
marks_none true = refl
marks_none false = refl

-- one more number is
pub marks_more : (old now : Bool) (xs : List ℕ) (i n : ℕ) → i < length xs → now ≡ (old || list_any (λ (m : ℕ). eqb m n) (take i xs))
    → (now || eqb (get_or xs i 0) n) ≡ (old || list_any (λ (m : ℕ). eqb m n) (take (i + 1) xs))
marks_more old now xs i n inside before =
    let some = list_any (λ (m : ℕ). eqb m n) (take i xs) in
    let one = eqb (get_or xs i 0) n in
    let next : list_any (λ (m : ℕ). eqb m n) (take (i + 1) xs) ≡ (some || (one || false)) =
    ap (list_any (λ (m : ℕ). eqb m n)) (take_more xs i 0 inside) ∙ list_any-append (λ (m : ℕ). eqb m n) (take i xs) (get_or xs i 0 ∷ []) in
    ap (λ t. t || one) before ∙ either old some one ∙ ap (λ t. old || t) (sym next)
  where
    either : (a b d : Bool) → ((a || b) || d) ≡ (a || (b || (d || false)))
    either true b d = refl
    either false true d = refl
    either false false true = refl
    either false false false = refl

-- and behind the last all are
pub marks_end : (old : Bool) (xs : List ℕ) (i n : ℕ) → length xs ≤ i → (old || list_any (λ (m : ℕ). eqb m n) (take i xs)) ≡ (old || list_any (λ (m : ℕ). eqb m n) xs)
marks_end old xs i n past = ap (λ (ys : List ℕ). old || list_any (λ (m : ℕ). eqb m n) ys) (take_all i xs past)

-- what passes is kept
kept : (p : ℕ → Bool) (xs : List ℕ) (x j : ℕ) → p x ≡ true → j < length xs → get_or xs j 0 ≡ x → (k : ℕ) × (k < length (filter p xs)) × (get_or (filter p xs) k 0 ≡ x)
kept p [] x j passes below here = absurd (omega arith)
kept p (y ∷ ys) x zero passes below here = subst (λ (zs : List ℕ). (k : ℕ) × (k < length zs) × (get_or zs k 0 ≡ x)) (sym (ap (λ t. cond t (y ∷ filter p ys) (filter p ys)) (ap p here ∙ passes)))
    (0, omega arith, here)
kept p (y ∷ ys) x (suc j) passes below here = by_test (p y) (kept p ys x j passes (omega arith) here)
  where
    by_test : (t : Bool) → (k : ℕ) × (k < length (filter p ys)) × (get_or (filter p ys) k 0 ≡ x)
        → (k : ℕ) × (k < length (cond t (y ∷ filter p ys) (filter p ys))) × (get_or (cond t (y ∷ filter p ys) (filter p ys)) k 0 ≡ x)
    by_test true w = (suc w.0, omega (arith, w.1), w.2)
    by_test false w = w

-- a number is among some or it isn't, and is where the test says so
among : (xs : List ℕ) (x : ℕ) → list_any (λ (y : ℕ). eqb y x) xs ≡ true → (k : ℕ) × (k < length xs) × (get_or xs k 0 ≡ x)
among [] x h = absurd (false≢true h)
among (y ∷ ys) x h = by_test (eqb y x) refl h (among ys x)
  where
    by_test : (t : Bool) → eqb y x ≡ t → (t || list_any (λ (z : ℕ). eqb z x) ys) ≡ true
        → (list_any (λ (z : ℕ). eqb z x) ys ≡ true → (k : ℕ) × (k < length ys) × (get_or ys k 0 ≡ x))
        → (k : ℕ) × (k < length (y ∷ ys)) × (get_or (y ∷ ys) k 0 ≡ x)
    by_test true e k behind = (0, omega arith, eqb-true y x e)
    by_test false e k behind = let w = behind k in (suc w.0, omega (arith, w.1), w.2)

module _ (count : ℕ) (first : List ℕ) where
  abbrev others : List ℕ
  others = filter (λ (n : ℕ). not (list_any (λ (m : ℕ). eqb m n) first)) (range_with_len 0 count)

  numbers_below : All (λ (n : ℕ). n < count) (range_with_len 0 count)
  numbers_below = λ (k d : ℕ) (below : k < length (range_with_len 0 count)).
      let inside : k < count = omega (arith, below, length-range_with_len 0 count) in omega (arith, get_or-range_with_len 0 count k d inside)

  others_below : (k : ℕ) → k < length others → get_or others k 0 < count
  others_below k below = All-filter (λ (n : ℕ). not (list_any (λ (m : ℕ). eqb m n) first)) (λ (n : ℕ). n < count) (range_with_len 0 count) numbers_below k 0 below

  numbers_rise : AllPairs (λ (x y : ℕ). x < y) (range_with_len 0 count)
  numbers_rise = λ (i j d : ℕ) (before : i < j) (below : j < length (range_with_len 0 count)).
      let inside : j < count = omega (arith, below, length-range_with_len 0 count) in
      omega (arith, get_or-range_with_len 0 count i d (omega (arith, before, inside)), get_or-range_with_len 0 count j d inside, before)

  others_rise : (i j : ℕ) → i < j → j < length others → get_or others i 0 < get_or others j 0
  others_rise i j before below = AllPairs-filter (λ (x y : ℕ). x < y) (λ (n : ℕ). not (list_any (λ (m : ℕ). eqb m n) first)) (range_with_len 0 count) numbers_rise i j 0 before below

  apart : (i k : ℕ) → i < length first → k < length others → get_or first i 0 ≢ get_or others k 0
  apart i k inside below same =
      let x = get_or others k 0 in
      let none : list_any (λ (m : ℕ). eqb m x) first ≡ false = not-true _ (filter_passes (λ (n : ℕ). not (list_any (λ (m : ℕ). eqb m n) first)) (range_with_len 0 count) k 0 below) in
      false≢true (sym none ∙ list_any_at (λ (m : ℕ). eqb m x) first i 0 inside (let e : eqb (get_or first i 0) x ≡ true = grind (arith, nat_tests) in e))

  at_first : (j : ℕ) → j < length first → get_or (first ++ others) j 0 ≡ get_or first j 0
  at_first j inside = get_or-append first others 0 j inside

  at_others : (j : ℕ) → length first ≤ j → get_or (first ++ others) j 0 ≡ get_or others (j - length first) 0
  at_others j past = ap (λ n. get_or (first ++ others) n 0) (let e : j ≡ length first + (j - length first) = omega (arith, past) in e) ∙ get_or-append-add first others (j - length first) 0

  long : length (first ++ others) ≡ length first + length others
  long = length-append first others

  -- numbers below a count that differ, and then the others, have each number once
  pub full_order_each : ((j : ℕ) → j < length first → get_or first j 0 < count) → ((i j : ℕ) → i < j → j < length first → get_or first i 0 ≢ get_or first j 0) → IsEachOnce count (full_order count first)
  full_order_each first_below first_apart = record {
    in_range = λ j below. elim (cases_lt j (length first)) [
      | inl inside ↦ omega (arith, at_first j inside, first_below j inside)
      | inr past ↦ omega (arith, at_others j past, others_below (j - length first) (omega (arith, below, past, long)))
    ];
    once = λ i j before below same. elim (cases_lt j (length first)) [
      | inl inside ↦ first_apart i j before inside (sym (at_first i (omega (arith, before, inside))) ∙ same ∙ at_first j inside)
      | inr past ↦ elim (cases_lt i (length first)) [
        | inl outer ↦ apart i (j - length first) outer (omega (arith, below, past, long)) (sym (at_first i outer) ∙ same ∙ at_others j past)
        | inr behind ↦
            let rise = others_rise (i - length first) (j - length first) (omega (arith, before, behind)) (omega (arith, below, past, long)) in
            omega (arith, rise, same, at_others i behind, at_others j past)
      ]
    ];
    each = λ p below. by_test p below (list_any (λ (m : ℕ). eqb m p) first) refl;
  }
    where
      by_test : (p : ℕ) → p < count → (t : Bool) → list_any (λ (m : ℕ). eqb m p) first ≡ t → (j : ℕ) × (j < length (first ++ others)) × (get_or (first ++ others) j 0 ≡ p)
      by_test p below true e = let w = among first p e in (w.0, omega (arith, w.1, long), at_first w.0 w.1 ∙ w.2)
      by_test p below false e =
          let w = kept (λ (n : ℕ). not (list_any (λ (m : ℕ). eqb m n) first)) (range_with_len 0 count) p p (ap not e) (omega (arith, below, length-range_with_len 0 count)) (get_or-range_with_len 0 count p 0 below ∙ (let z : 0 + p ≡ p = omega arith in z)) in
          (length first + w.0, omega (arith, w.1, long), get_or-append-add first others w.0 0 ∙ w.2)
