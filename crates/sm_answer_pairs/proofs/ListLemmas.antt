-- What stands in a list, in what a test keeps of it, and in what a function makes of it.
use Rattle.std.proofs.Common.{◌≡◌, ℕ, zero, suc, ◌+◌, ◌-◌, ◌<◌, ◌≤◌, ◌==◌, ◌++◌, ◌⊎◌, inl, inr, Bool, true, false, true≢false, cond, List, [], ◌∷◌, length, map, filter, get_or, refl, sym, ap, ◌∙◌, subst, arith, Contains}
use Rattle.std.specs.List.Sorted.{IsStrictlyIncreasing}
use Rattle.std.specs.List.{flat_map, list_any, range_with_len}
use Rattle.std.proofs.lemmas.Bool.{eqb-true, eq-eqb}
use Rattle.std.proofs.lemmas.List.{length-map, get_or-map, map-append}
use Rattle.std.proofs.lemmas.List.Folds.{Any-from_list_any, list_any_at}
use Rattle.sm_lists.proofs.Counting.{lt_or_le}
use Rattle.std.proofs.lemmas.List.Kept.{AllPairs-from_increasing}

-- a list has its first item
pub contains_first : {X : Type 0} (x : X) (xs : List X) → Contains (x ∷ xs) x
contains_first x xs = (0, omega arith, refl)

-- a list has what its rest has
pub contains_later : {X : Type 0} (x y : X) (xs : List X) → Contains xs y → Contains (x ∷ xs) y
contains_later x y xs c = (suc c.0, (let l = c.1 in omega arith), c.2)

-- and nothing else
pub contains_cases : {X : Type 0} (x y : X) (xs : List X) → Contains (x ∷ xs) y → (x ≡ y) ⊎ Contains xs y
contains_cases x y xs (zero, l, e) = inl e
contains_cases x y xs (suc k, l, e) = inr (k, omega (arith, l), e)

-- what a test keeps of a list and of one more in front of it
kept_more : (test : ℕ → Bool) (x y : ℕ) (xs : List ℕ) (b : Bool) → test x ≡ b → Contains (x ∷ xs) y → test y ≡ true → (Contains xs y → Contains (filter test xs) y)
    → Contains (cond b (x ∷ filter test xs) (filter test xs)) y
kept_more test x y xs true e c t rest = elim (contains_cases x y xs c) [
  | inl same ↦ subst (Contains (x ∷ filter test xs)) same (contains_first x (filter test xs))
  | inr later ↦ contains_later x y (filter test xs) (rest later)
]
kept_more test x y xs false e c t rest = elim (contains_cases x y xs c) [
  | inl same ↦ absurd (true≢false (sym t ∙ ap test (sym same) ∙ e))
  | inr later ↦ rest later
]

-- what a list has and a test passes is kept
pub kept_in : (test : ℕ → Bool) (xs : List ℕ) (y : ℕ) → Contains xs y → test y ≡ true → Contains (filter test xs) y
kept_in test [] y c t = absurd (let l = c.1 in omega arith)
kept_in test (x ∷ xs) y c t = kept_more test x y xs (test x) refl c t (λ later. kept_in test xs y later t)

kept_less : (test : ℕ → Bool) (x y : ℕ) (xs : List ℕ) (b : Bool) → test x ≡ b → Contains (cond b (x ∷ filter test xs) (filter test xs)) y
    → (Contains (filter test xs) y → Contains xs y × (test y ≡ true)) → Contains (x ∷ xs) y × (test y ≡ true)
kept_less test x y xs true e c rest = elim (contains_cases x y (filter test xs) c) [
  | inl same ↦ (rw same (contains_first y xs), ap test (sym same) ∙ e)
  | inr later ↦ let k = rest later in (contains_later x y xs k.0, k.1)
]
kept_less test x y xs false e c rest = let k = rest c in (contains_later x y xs k.0, k.1)

-- what is kept is of the list and passes
pub kept_from : (test : ℕ → Bool) (xs : List ℕ) (y : ℕ) → Contains (filter test xs) y → Contains xs y × (test y ≡ true)
kept_from test [] y c = absurd (let l = c.1 in omega arith)
kept_from test (x ∷ xs) y c = kept_less test x y xs (test x) refl c (λ later. kept_from test xs y later)

-- what a function makes
pub made_in : (f : ℕ → ℕ) (xs : List ℕ) (x : ℕ) → Contains xs x → Contains (map f xs) (f x)
made_in f xs x c = (c.0, (let l = c.1 in let e = length-map xs f in omega arith), get_or-map f xs c.0 x (f x) c.1 ∙ ap f c.2)

-- an item is made of one of the list
pub record IsMadeFrom (f : ℕ → ℕ) (xs : List ℕ) (y : ℕ) : Type 0 where
  pub from : ℕ
  pub there : Contains xs from
  pub made : f from ≡ y

-- whatever is made is made of one
pub made_from : (f : ℕ → ℕ) (xs : List ℕ) (y : ℕ) → Contains (map f xs) y → IsMadeFrom f xs y
made_from f [] y c = absurd (let l = c.1 in omega arith)
made_from f (x ∷ xs) y c = elim (contains_cases (f x) y (map f xs) c) [
  | inl same ↦ record { from = x; there = contains_first x xs; made = same }
  | inr later ↦ let m = made_from f xs y later in record { from = m.from; there = contains_later x m.from xs m.there; made = m.made }
]

-- rising numbers above 0 rise still where each is one less
pub less_rises : (xs : List ℕ) → ((k : ℕ) → k < length xs → 0 < get_or xs k 0) → IsStrictlyIncreasing xs → IsStrictlyIncreasing (map (λ x. x - 1) xs)
less_rises xs some up k l =
    let long = length-map xs (λ x. x - 1) in
    let a = get_or-map (λ x. x - 1) xs k 0 0 (omega (arith, l, long)) in
    let b = get_or-map (λ x. x - 1) xs (k + 1) 0 0 (omega (arith, l, long)) in
    omega (arith, a, b, up k (omega (arith, l, long)), some k (omega (arith, l, long)))

-- what stands in a list, by the test that looks for it
pub found_in : (xs : List ℕ) (y : ℕ) → list_any (λ x. x == y) xs ≡ true → Contains xs y
found_in xs y t =
    let a = Any-from_list_any (λ x. x == y) xs t in
    let same = eqb-true a.1 y a.4 in
    (a.0, a.2, ap (λ d. get_or xs a.0 d) (sym same) ∙ a.3 ∙ same)

-- and the test finds it
pub is_found : (xs : List ℕ) (y : ℕ) → Contains xs y → list_any (λ x. x == y) xs ≡ true
is_found xs y c = list_any_at (λ x. x == y) xs c.0 y c.1 (eq-eqb (get_or xs c.0 y) y c.2)

-- a test finds in a range from a on just the numbers of a rising list
pub record Finds (test : ℕ → Bool) (xs : List ℕ) (a n : ℕ) : Type 0 where
  pub rising : IsStrictlyIncreasing xs
  pub has : (i : ℕ) → a ≤ i → test i ≡ true → Contains xs i
  pub from : (i : ℕ) → Contains xs i → a ≤ i
  pub below : (i : ℕ) → Contains xs i → i < a + n
  pub passes : (i : ℕ) → Contains xs i → test i ≡ true

-- the first of rising numbers is below the others
below_later : (x y : ℕ) (xs : List ℕ) → IsStrictlyIncreasing (x ∷ xs) → Contains xs y → x < y
below_later x y xs up c = let less = AllPairs-from_increasing (x ∷ xs) up 0 (suc c.0) y (omega arith) (let l = c.1 in omega arith) in subst (λ z. x < z) c.2 less

-- without its first number a rising list rises
rest_rises : (x : ℕ) (xs : List ℕ) → IsStrictlyIncreasing (x ∷ xs) → IsStrictlyIncreasing xs
rest_rises x xs up k l = let e : suc k + 1 ≡ suc (k + 1) = omega arith in subst (λ n. get_or xs k 0 < get_or (x ∷ xs) n 0) e (up (suc k) (omega arith))

-- the number in front of the range is the first one
first_is : (test : ℕ → Bool) (a n : ℕ) (xs : List ℕ) → test a ≡ true → Finds test xs a (suc n)
    → ((ys : List ℕ) → Finds test ys (a + 1) n → filter test (range_with_len (a + 1) n) ≡ ys) → a ∷ filter test (range_with_len (a + 1) n) ≡ xs
first_is test a n [] t f rest = absurd (let c = f.has a (omega arith) t in let l = c.1 in omega arith)
first_is test a n (x ∷ xs) t f rest = subst (λ y. a ∷ filter test (range_with_len (a + 1) n) ≡ y ∷ xs) same (ap (λ ys. a ∷ ys) (rest xs (record {
  rising = rest_rises x xs f.rising;
  has = λ i l p. elim (contains_cases x i xs (f.has i (omega (arith, l)) p)) [ inl e ↦ absurd (omega (arith, l, e, same)) | inr later ↦ later ];
  from = λ i c. let l = below_later x i xs f.rising c in omega (arith, l, same);
  below = λ i c. let l = f.below i (contains_later x i xs c) in omega (arith, l);
  passes = λ i c. f.passes i (contains_later x i xs c);
})))
  where
    same : a ≡ x
    same = elim (contains_cases x a xs (f.has a (omega arith) t)) [
      | inl e ↦ sym e
      | inr later ↦ absurd (let l = below_later x a xs f.rising later in let m = f.from x (contains_first x xs) in omega (arith, l, m))
    ]

-- or is none of them
none_is : (test : ℕ → Bool) (a n : ℕ) (xs : List ℕ) → test a ≡ false → Finds test xs a (suc n) → Finds test xs (a + 1) n
none_is test a n xs e f = record {
  rising = f.rising;
  has = λ i l p. f.has i (omega (arith, l)) p;
  from = λ i c. elim (lt_or_le a i) [
    | inl l ↦ omega (arith, l)
    | inr l ↦ absurd (let m = f.from i c in let same : i ≡ a = omega (arith, l, m) in true≢false (sym (f.passes i c) ∙ ap test same ∙ e))
  ];
  below = λ i c. let l = f.below i c in omega (arith, l);
  passes = f.passes;
}

-- so what the test keeps of the range is the list
pub kept_is : (test : ℕ → Bool) (a n : ℕ) (xs : List ℕ) → Finds test xs a n → filter test (range_with_len a n) ≡ xs
kept_is test a zero [] f = refl
kept_is test a zero (x ∷ xs) f = absurd (let l = f.from x (contains_first x xs) in let m = f.below x (contains_first x xs) in omega (arith, l, m))
kept_is test a (suc n) xs f = by_test (test a) refl (λ ys g. kept_is test (a + 1) n ys g)
  where
    by_test : (b : Bool) → test a ≡ b → ((ys : List ℕ) → Finds test ys (a + 1) n → filter test (range_with_len (a + 1) n) ≡ ys)
        → cond b (a ∷ filter test (range_with_len (a + 1) n)) (filter test (range_with_len (a + 1) n)) ≡ xs
    by_test true t rest = first_is test a n xs t f rest
    by_test false e rest = rest xs (none_is test a n xs e f)

-- the same numbers give the same lists
pub each_alike : {X : Type 0} (f g : ℕ → List X) (a n : ℕ) → ((k : ℕ) → a ≤ k → k < a + n → f k ≡ g k) → flat_map f (range_with_len a n) ≡ flat_map g (range_with_len a n)
each_alike f g a zero e = refl
each_alike f g a (suc n) e =
    ap (λ xs. xs ++ flat_map f (range_with_len (a + 1) n)) (e a (omega arith) (omega arith))
    ∙ ap (λ xs. g a ++ xs) (each_alike f g (a + 1) n (λ k l h. e k (omega arith) (omega arith)))

-- what a function makes of joined lists
pub made_of_each : {X Y Z : Type 0} (f : Y → Z) (g : X → List Y) (xs : List X) → map f (flat_map g xs) ≡ flat_map (λ x. map f (g x)) xs
made_of_each f g [] = refl
made_of_each f g (x ∷ xs) = map-append f (g x) (flat_map g xs) ∙ ap (λ t. map f (g x) ++ t) (made_of_each f g xs)
