-- What holds of the items of a list once one of them is replaced or added, or once some are gone.
use Rattle.std.proofs.Common.{◌≡◌, ◌≢◌, ◌∷◌, ◌++◌, set, ℕ, ◌<◌, List, [], length, get_or, replicate, sym, subst, arith, ⊎_elim}
use Rattle.std.proofs.lemmas.Bool.{cases_lt, cases_eq}
use Rattle.std.proofs.lemmas.List.{get_or-set_same, get_or-set_other, get_or_append_left, get_or_push, get_or_past, get_or-replicate, length_push, length-replicate}

-- what holds at each index of a list after one item is replaced
pub set_cases : {X : Type 0} (P : ℕ → X → Type 0) (xs : List X) (i : ℕ) (y d : X) → i < length xs → P i y → ((j : ℕ) → j ≢ i → P j (get_or xs j d)) → (j : ℕ) → P j (get_or (set xs i y) j d)
set_cases {X} P xs i y d h here there j =
    ⊎_elim
    (λ e. let Q : ℕ → Type 0 = λ k. P k (get_or (set xs i y) k d) in
    subst Q (sym e) (let R : X → Type 0 = λ x. P i x in subst R (sym (get_or-set_same xs i y d h)) here))
    (λ n. let R : X → Type 0 = λ x. P j x in subst R (sym (get_or-set_other xs i j y d n)) (there j n))
    (cases_eq j i)

-- what holds at each index of a list after one more item
pub push_cases : {X : Type 0} (P : ℕ → X → Type 0) (xs : List X) (y d : X) → P (length xs) y → ((j : ℕ) → j < length xs → P j (get_or xs j d)) → (j : ℕ) → j < length (xs ++ y ∷ []) → P j (get_or (xs ++ y ∷ []) j d)
push_cases {X} P xs y d here there j h =
    let long = length_push xs y in
    ⊎_elim
    (λ l. let R : X → Type 0 = λ x. P j x in subst R (sym (get_or_append_left xs (y ∷ []) d j l)) (there j l))
    (λ l. let e : length xs ≡ j = omega arith in
    let R : X → Type 0 = λ x. P j x in
    subst R (sym (get_or_push xs y d j e)) (let Q : ℕ → Type 0 = λ k. P k y in subst Q e here))
    (cases_lt j (length xs))

-- among lists without an item none has one
pub get_or-empty : {X : Type 0} (n i : ℕ) → let none : List X = [] in get_or (replicate n none) i none ≡ none
get_or-empty {X} n i =
    let none : List X = [] in
    ⊎_elim (λ l. get_or-replicate n i none none l) (λ l. get_or_past (replicate n none) i none (let long = length-replicate n none in omega arith)) (cases_lt i n)
