-- Where the items of a list stand once some are left out.
use Rattle.std.proofs.Common.{◌≡◌, ◌≢◌, ℕ, zero, suc, ◌+◌, ◌<◌, ◌≤◌, ◌==◌, Bool, true, false, List, [], ◌∷◌, length, take, get_or, refl, sym, ap, ◌∙◌, arith, inl, inr}
use Rattle.std.specs.List.{filter, flat_map}
use Rattle.std.proofs.lemmas.Bool.{eqb-true, cases_lt, cases_Bool}
use Rattle.std.proofs.lemmas.List.{length-append}
use Rattle.sm_lists.specs.Rows.{place_on}
use Rattle.sm_lists.proofs.PlaceLemmas.{get_or-place_on, place_on-lt}
use Rattle.sm_lists.proofs.Counting.{one_to_one-le}

-- the place of the first item, and of one behind it
pub place_on-here : (x b : ℕ) (xs : List ℕ) → (x == b) ≡ true → place_on (x ∷ xs) b ≡ 0
place_on-here x b xs e = rw e refl

pub place_on-behind : (x b : ℕ) (xs : List ℕ) → (x == b) ≡ false → place_on (x ∷ xs) b ≡ place_on xs b + 1
place_on-behind x b xs e = rw e (omega arith)

-- the first item passes the test or fails it
pub taken : (t : ℕ → Bool) (x : ℕ) (xs : List ℕ) → t x ≡ true → filter t (x ∷ xs) ≡ x ∷ filter t xs
taken t x xs e = rw e refl

pub left_out : (t : ℕ → Bool) (x : ℕ) (xs : List ℕ) → t x ≡ false → filter t (x ∷ xs) ≡ filter t xs
left_out t x xs e = rw e refl

-- who passes the test keeps a place
pub kept : (t : ℕ → Bool) (xs : List ℕ) (b : ℕ) → t b ≡ true → place_on xs b < length xs → place_on (filter t xs) b < length (filter t xs)
kept t [] b e h = absurd (omega arith)
kept t (x ∷ xs) b e h = elim (cases_Bool (x == b)) [
  | inl same ↦
      let passes : t x ≡ true = ap t (eqb-true x b same) ∙ e in
      rw (taken t x xs passes) (rw (place_on-here x b (filter t xs) same) (omega arith))
  | inr other ↦
      let below : place_on xs b < length xs = omega (arith, h, place_on-behind x b xs other) in
      let deep = kept t xs b e below in
      elim (cases_Bool (t x)) [
        | inl passes ↦ rw (taken t x xs passes) (omega (arith, deep, place_on-behind x b (filter t xs) other))
        | inr fails ↦ rw (left_out t x xs fails) deep
      ]
]

-- and only who passes it
pub kept_passes : (t : ℕ → Bool) (xs : List ℕ) (b : ℕ) → place_on (filter t xs) b < length (filter t xs) → (t b ≡ true) × (place_on xs b < length xs)
kept_passes t [] b h = absurd (omega arith)
kept_passes t (x ∷ xs) b h = elim (cases_Bool (t x)) [
  | inl passes ↦ elim (cases_Bool (x == b)) [
    | inl same ↦ (ap t (sym (eqb-true x b same)) ∙ passes, omega (arith, place_on-here x b xs same))
    | inr other ↦
        let h' : place_on (x ∷ filter t xs) b < length (x ∷ filter t xs) = rw (taken t x xs passes) at h in
        let deep = kept_passes t xs b (omega (arith, h', place_on-behind x b (filter t xs) other)) in
        (deep.0, omega (arith, deep.1, place_on-behind x b xs other))
  ]
  | inr fails ↦
      let h' : place_on (filter t xs) b < length (filter t xs) = rw (left_out t x xs fails) at h in
      let deep = kept_passes t xs b h' in
      (deep.0, place_lt_behind deep.1)
]
  where
    place_lt_behind : place_on xs b < length xs → place_on (x ∷ xs) b < length (x ∷ xs)
    place_lt_behind below = elim (cases_Bool (x == b)) [
      | inl same ↦ omega (arith, place_on-here x b xs same)
      | inr other ↦ omega (arith, below, place_on-behind x b xs other)
    ]

-- those who pass stay in their order
pub kept_order : (t : ℕ → Bool) (xs : List ℕ) (b c : ℕ) → t b ≡ true → t c ≡ true → place_on xs b < place_on xs c → place_on (filter t xs) b < place_on (filter t xs) c
kept_order t [] b c e f h = absurd (omega arith)
kept_order t (x ∷ xs) b c e f h = elim (cases_Bool (x == c)) [
  | inl same ↦ absurd (omega (arith, h, place_on-here x c xs same))
  | inr far ↦ elim (cases_Bool (x == b)) [
    | inl same ↦
        let passes : t x ≡ true = ap t (eqb-true x b same) ∙ e in
        rw (taken t x xs passes) (omega (arith, place_on-here x b (filter t xs) same, place_on-behind x c (filter t xs) far))
    | inr other ↦
        let deep = kept_order t xs b c e f (omega (arith, h, place_on-behind x b xs other, place_on-behind x c xs far)) in
        elim (cases_Bool (t x)) [
          | inl passes ↦ rw (taken t x xs passes) (omega (arith, deep, place_on-behind x b (filter t xs) other, place_on-behind x c (filter t xs) far))
          | inr fails ↦ rw (left_out t x xs fails) deep
        ]
  ]
]

-- so their order tells the order on the whole list
pub kept_order_back : (t : ℕ → Bool) (xs : List ℕ) (b c : ℕ) → t b ≡ true → t c ≡ true → place_on xs b < length xs
    → place_on (filter t xs) b < place_on (filter t xs) c → place_on xs b < place_on xs c
kept_order_back t xs b c e f on h = elim (cases_lt (place_on xs b) (place_on xs c)) [
  | inl less ↦ less
  | inr ge ↦ elim (cases_lt (place_on xs c) (place_on xs b)) [
    | inl less ↦ absurd (let back = kept_order t xs c b f e less in omega arith)
    | inr le ↦
        let same : place_on xs b ≡ place_on xs c = omega arith in
        let b_is_c : b ≡ c = sym (get_or-place_on xs b on) ∙ ap (λ i. get_or xs i 0) same ∙ get_or-place_on xs c (omega arith) in
        absurd (let e : place_on (filter t xs) b ≡ place_on (filter t xs) c = ap (place_on (filter t xs)) b_is_c in omega arith)
  ]
]

-- a list without repeats
pub record AreDistinct (xs : List ℕ) : Type 0 where
  pub distinct : (i j : ℕ) → i < j → j < length xs → get_or xs i 0 ≢ get_or xs j 0

rest_distinct : (x : ℕ) (xs : List ℕ) → AreDistinct (x ∷ xs) → AreDistinct xs
rest_distinct x xs d = record { distinct = λ i j less on. d.distinct (suc i) (suc j) (omega arith) (omega arith) }

-- one more item in front of what is kept of the rest
front_distinct : (t : ℕ → Bool) (x : ℕ) (xs : List ℕ) → AreDistinct (x ∷ xs) → AreDistinct (filter t xs) → AreDistinct (x ∷ filter t xs)
front_distinct t x xs d deep = record { distinct = apart }
  where
    apart : (i j : ℕ) → i < j → j < length (x ∷ filter t xs) → get_or (x ∷ filter t xs) i 0 ≢ get_or (x ∷ filter t xs) j 0
    apart i zero less on = absurd (omega arith)
    apart zero (suc j) less on = λ e.
        let y = get_or (filter t xs) j 0 in
        let there = kept_passes t xs y (place_on-lt (filter t xs) y j (omega arith) refl) in
        d.distinct 0 (suc (place_on xs y)) (omega arith) (omega (arith, there.1)) (e ∙ sym (get_or-place_on xs y there.1))
    apart (suc i) (suc j) less on = deep.distinct i j (omega arith) (omega arith)

-- a list without repeats keeps none
pub kept_distinct : (t : ℕ → Bool) (xs : List ℕ) → AreDistinct xs → AreDistinct (filter t xs)
kept_distinct t [] d = d
kept_distinct t (x ∷ xs) d =
    let deep = kept_distinct t xs (rest_distinct x xs d) in
    elim (cases_Bool (t x)) [
      | inl passes ↦ rw (taken t x xs passes) (front_distinct t x xs d deep)
      | inr fails ↦ rw (left_out t x xs fails) deep
    ]

-- no more is kept than there is
pub length-filter-le : (t : ℕ → Bool) (xs : List ℕ) → length (filter t xs) ≤ length xs
length-filter-le t [] = omega arith
length-filter-le t (x ∷ xs) = elim (cases_Bool (t x)) [
  | inl passes ↦ rw (taken t x xs passes) (let deep = length-filter-le t xs in omega arith)
  | inr fails ↦ rw (left_out t x xs fails) (let deep = length-filter-le t xs in omega arith)
]

-- the first items keep no more than all
pub length-filter-take : (t : ℕ → Bool) (xs : List ℕ) (i : ℕ) → length (filter t (take i xs)) ≤ length (filter t xs)
length-filter-take t xs zero = omega arith
length-filter-take t [] (suc i) = omega arith
length-filter-take t (x ∷ xs) (suc i) =
    let deep = length-filter-take t xs i in
    elim (cases_Bool (t x)) [
      | inl passes ↦ rw (taken t x (take i xs) passes, taken t x xs passes) (omega (arith, deep))
      | inr fails ↦ rw (left_out t x (take i xs) fails, left_out t x xs fails) deep
    ]

-- where all pass a test, so many do before a place
pub whole_before : (t : ℕ → Bool) (xs : List ℕ) (j : ℕ) → length (filter t xs) ≡ length xs → j ≤ length xs → length (filter t (take j xs)) ≡ j
whole_before t xs zero e le = refl
whole_before t [] (suc j) e le = omega (arith, le)
whole_before t (x ∷ xs) (suc j) e le = elim (cases_Bool (t x)) [
  | inl passes ↦
      let all = ap length (taken t x xs passes) in
      let here = ap length (taken t x (take j xs) passes) in
      let deep = whole_before t xs j (omega (arith, e, all)) (omega (arith, le)) in
      omega (arith, here, deep)
  | inr fails ↦
      let all = ap length (left_out t x xs fails) in
      omega (arith, e, all, length-filter-le t xs)
]

-- and they are the list
pub whole_filter : (t : ℕ → Bool) (xs : List ℕ) → length (filter t xs) ≡ length xs → filter t xs ≡ xs
whole_filter t [] e = refl
whole_filter t (x ∷ xs) e = elim (cases_Bool (t x)) [
  | inl passes ↦
      let all = ap length (taken t x xs passes) in
      taken t x xs passes ∙ ap (λ l. x ∷ l) (whole_filter t xs (omega (arith, e, all)))
  | inr fails ↦
      let all = ap length (left_out t x xs fails) in
      absurd (omega (arith, e, all, length-filter-le t xs))
]

-- and fewer where one on the list is left out
pub length-filter-lt : (t : ℕ → Bool) (xs : List ℕ) (b : ℕ) → place_on xs b < length xs → t b ≡ false → length (filter t xs) < length xs
length-filter-lt t [] b on no_ = absurd (omega arith)
length-filter-lt t (x ∷ xs) b on no_ = elim (cases_Bool (x == b)) [
  | inl same ↦ rw (left_out t x xs (ap t (eqb-true x b same) ∙ no_)) (let deep = length-filter-le t xs in omega arith)
  | inr other ↦
      let deep = length-filter-lt t xs b (omega (arith, on, place_on-behind x b xs other)) no_ in
      elim (cases_Bool (t x)) [
        | inl passes ↦ rw (taken t x xs passes) (omega arith)
        | inr fails ↦ rw (left_out t x xs fails) (omega arith)
      ]
]

-- a list without repeats is no longer than one that has all its items
pub length-le : (xs ys : List ℕ) → AreDistinct xs → ((i : ℕ) → i < length xs → place_on ys (get_or xs i 0) < length ys) → length xs ≤ length ys
length-le xs ys d inside = one_to_one-le (length xs) (length ys) (λ i. place_on ys (get_or xs i 0)) inside
    (λ i j less on same. d.distinct i j less on
    (sym (get_or-place_on ys (get_or xs i 0) (inside i (omega arith))) ∙ ap (λ k. get_or ys k 0) same ∙ get_or-place_on ys (get_or xs j 0) (inside j on)))

-- among more of the first items those that pass have no shorter pieces in all
pub pieces_up : {A : Type 0} (f : ℕ → List A) (t : ℕ → Bool) (xs : List ℕ) (i n : ℕ) → i ≤ n → length (flat_map f (filter t (take i xs))) ≤ length (flat_map f (filter t (take n xs)))
pieces_up f t xs zero n le = omega arith
pieces_up f t [] (suc i) n le = omega arith
pieces_up f t (x ∷ xs) (suc i) zero le = absurd (omega arith)
pieces_up f t (x ∷ xs) (suc i) (suc n) le =
    let deep = pieces_up f t xs i n (omega arith) in
    elim (cases_Bool (t x)) [
      | inl passes ↦
          rw (taken t x (take i xs) passes, taken t x (take n xs) passes)
          (omega (arith, deep, length-append (f x) (flat_map f (filter t (take i xs))), length-append (f x) (flat_map f (filter t (take n xs)))))
      | inr fails ↦ rw (left_out t x (take i xs) fails, left_out t x (take n xs) fails) deep
    ]
