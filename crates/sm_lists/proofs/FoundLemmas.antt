-- The first place of a number on a list, where it has one.
use Rattle.std.proofs.Common.{IfSome, ◌≡◌, ◌≢◌, ℕ, ◌<◌, ◌≤◌, List, Option, Some, None, length, get_or, subst, sym, ◌∙◌, arith, ⊎_elim}
use Rattle.std.proofs.lemmas.Bool.{cases_lt}
use Rattle.std.proofs.lemmas.Option.{same_Some, none-some}
use Rattle.std.proofs.lemmas.Bool.Decides.{nat_tests}
use Rattle.sm_lists.specs.Rows.{place_on}
use Rattle.sm_lists.specs.Crosses.{found_on}
use Rattle.sm_lists.proofs.PlaceLemmas.{place_on_is, place_on-le, place_on-none, place_on-lt, get_or-place_on, get_or_before-place_on}

-- the place that is found on a list, and none where the agent isn't on it
pub found_on_is : (list : List ℕ) (b i : ℕ) → i < length list → get_or list i 0 ≡ b → ((k : ℕ) → k < i → get_or list k 0 ≢ b) → Some i ≡ found_on list b
found_on_is list b i on there before = let place : place_on list b ≡ i = place_on_is list b i on there before in grind (arith, nat_tests)

-- a number that is at no place of a list isn't found on it
pub found_on-none : (list : List ℕ) (b : ℕ) → ((i : ℕ) → i < length list → get_or list i 0 ≢ b) → let none : Option ℕ = None in none ≡ found_on list b
found_on-none list b none = let place : place_on list b ≡ length list = place_on-none list b none in grind (arith, nat_tests)

-- a place that is found is on the list
pub found_on-fits : (list : List ℕ) (b most : ℕ) → length list ≤ most → IfSome (found_on list b) (λ i. i < most)
found_on-fits list b most le =
    let P : Option ℕ → Type 0 = λ o. IfSome o (λ i. i < most) in
    ⊎_elim
    (λ lt. subst P (found_on_is list b (place_on list b) lt (get_or-place_on list b lt) (get_or_before-place_on list b)) (let fits : place_on list b < most = omega arith in fits))
    (λ ge. subst P (found_on-none list b (λ i on there. let lt = place_on-lt list b i on there in omega arith)) tt)
    (cases_lt (place_on list b) (length list))

-- what a place that is found says, and what it says that none is
pub found_on-some : (list : List ℕ) (b i : ℕ) → found_on list b ≡ Some i → (place_on list b ≡ i) × (i < length list)
found_on-some list b i is =
    ⊎_elim
    (λ lt. let e = same_Some _ _ (found_on_is list b (place_on list b) lt (get_or-place_on list b lt) (get_or_before-place_on list b) ∙ is) in (e, omega arith))
    (λ ge. absurd (none-some i (found_on-none list b (λ j on there. let lt = place_on-lt list b j on there in omega arith) ∙ is)))
    (cases_lt (place_on list b) (length list))

-- what isn't found on a list has the list's length as its place
pub place_on-unfound : (list : List ℕ) (b : ℕ) → (let none : Option ℕ = None in none ≡ found_on list b) → place_on list b ≡ length list
place_on-unfound list b is =
    let le = place_on-le list b in
    ⊎_elim
    (λ lt. absurd (none-some _ (is ∙ sym (found_on_is list b (place_on list b) lt (get_or-place_on list b lt) (get_or_before-place_on list b)))))
    (λ ge. omega arith)
    (cases_lt (place_on list b) (length list))
