-- Where a number stands on a list.
use Rattle.std.proofs.Common.{◌≡◌, ◌≢◌, ℕ, ◌<◌, ◌≤◌, eqb, Bool, true, false, List, length, take, get_or, refl, sym, ◌∙◌, arith, ⊎_elim}
use Rattle.std.proofs.lemmas.Bool.{eqb-true, eq-eqb, ne_eqb, false≢true, cases_lt}
use Rattle.std.proofs.lemmas.List.Sums.{position_or_len_is, fails_before_first, passes_at_first, prefix_len-le-length}
use Rattle.std.proofs.lemmas.List.{length-take-le, get_or-take}
use Rattle.std.specs.List.{IsAnyAnswer}
use Rattle.sm_lists.proofs.Counting.{one_to_one-le}
use Rattle.sm_lists.specs.Rows.{row, entry, place_on, place_of}

-- the place is on the list, or one past it
pub place_on-le : (list : List ℕ) (b : ℕ) → place_on list b ≤ length list
place_on-le list b = prefix_len-le-length _ list

-- whoever has a place stands there
pub get_or-place_on : (list : List ℕ) (b : ℕ) → place_on list b < length list → get_or list (place_on list b) 0 ≡ b
get_or-place_on list b h = eqb-true _ _ (passes_at_first (λ x. eqb x b) list 0 h)

-- and at no place before
pub get_or_before-place_on : (list : List ℕ) (b k : ℕ) → k < place_on list b → get_or list k 0 ≢ b
get_or_before-place_on list b k h e = false≢true (sym (fails_before_first (λ x. eqb x b) list k 0 h) ∙ eq-eqb _ _ e)

-- whoever stands at a place has that place or one before
pub place_on-le-at : (list : List ℕ) (b i : ℕ) → get_or list i 0 ≡ b → place_on list b ≤ i
place_on-le-at list b i e = ⊎_elim (λ h. absurd (get_or_before-place_on list b i h e)) (λ h. h) (cases_lt i (place_on list b))

-- the first place where b stands
pub place_on_is : (list : List ℕ) (b i : ℕ) → i < length list → get_or list i 0 ≡ b → ((k : ℕ) → k < i → get_or list k 0 ≢ b) → place_on list b ≡ i
place_on_is list b i h e before =
    position_or_len_is (λ x. eqb x b) list i 0 (omega arith) (λ k l. ne_eqb _ b (before k l)) (λ _. eq-eqb _ _ e)

-- whoever stands on a list has a place there
pub place_on-lt : (list : List ℕ) (b i : ℕ) → i < length list → get_or list i 0 ≡ b → place_on list b < length list
place_on-lt list b i h e = let le = place_on-le-at list b i e in omega arith

-- whoever stands nowhere on a list has no place there
pub place_on-none : (list : List ℕ) (b : ℕ) → ((i : ℕ) → i < length list → get_or list i 0 ≢ b) → place_on list b ≡ length list
place_on-none list b none =
    let le = place_on-le list b in
    ⊎_elim (λ l. absurd (none (place_on list b) l (get_or-place_on list b l))) (λ ge. let e : place_on list b ≡ length list = omega arith in e) (cases_lt (place_on list b) (length list))

-- b stands among the first n of a list exactly where its place is below n
pub among_first : (list : List ℕ) (b n : ℕ) (r : Bool) → n ≤ length list → IsAnyAnswer (λ y t. eqb y b ≡ t) (take n list) r
    → (r ≡ true → place_on list b < n) × (place_on list b < n → r ≡ true)
among_first list b n true le found =
    let long = length-take-le n list le in
    let k = found.0 in
    let lower : k < n = omega (arith, found.1) in
    let at : get_or list k 0 ≡ b = eqb-true _ _ (rw get_or-take at (found.2 0)) in
    (λ _. let first = place_on-le-at list b k at in omega arith, λ _. refl)
among_first list b n false le none =
    let long = length-take-le n list le in (
      λ e. absurd (false≢true e),
      λ lower.
          let missed : eqb (get_or list (place_on list b) 0) b ≡ false = rw get_or-take at (none (place_on list b) 0 (omega arith) (omega arith)) in
          absurd (false≢true (sym missed ∙ eq-eqb _ _ (get_or-place_on list b (omega arith)))),
    )

-- a list of numbers below n without repeats has at most n of them
pub length-le-range : (list : List ℕ) (n : ℕ) → ((i : ℕ) → i < length list → get_or list i 0 < n) → ((i j : ℕ) → i < j → j < length list → get_or list i 0 ≢ get_or list j 0) → length list ≤ n
length-le-range list n within apart = one_to_one-le (length list) n (λ i. get_or list i 0) within apart

-- the same of an agent's list among those of its side
pub place_of-le : (rows : List (List ℕ)) (a b : ℕ) → place_of rows a b ≤ length (row rows a)
place_of-le rows a b = place_on-le (row rows a) b

-- at the place of b on a's list stands b
pub entry-place_of : (rows : List (List ℕ)) (a b : ℕ) → place_of rows a b < length (row rows a) → entry rows a (place_of rows a b) ≡ b
entry-place_of rows a b h = get_or-place_on (row rows a) b h
