-- The markets of specs/Witnesses.antt.
use Rattle.std.proofs.Common.{◌≡◌, ◌≢◌, ℕ, zero, suc, ◌<◌, ◌≤◌, ◌⊎◌, [], ◌∷◌, Option, Some, None, length, unwrap_or, refl, ap, ◌∙◌, arith, ⊎_elim, inl, inr}
use Rattle.std.proofs.lemmas.Bool.{cases_lt}
use Rattle.std.proofs.lemmas.List.{ext_get_or}
use Rattle.sm_market.specs.Lists.{row, entry, place_of, IsMarket}
use Rattle.sm_market.specs.Matching.{Places, held, standing, IsMatching}
use Rattle.sm_market.specs.Stable.{IsStable, IsProposersBest, IsReviewersBest}
use Rattle.sm_market.specs.Witnesses.{two_by_two, first_choices, second_choices, TwoByTwo, two_for_one, one_pair, TwoForOne}
use Rattle.sm_market.proofs.CheckLemmas.{market_from_test, matching_from_test, stable_from_test}
use Rattle.sm_market.proofs.PairingLemmas.{reviewers_same, one_partner}
use Rattle.sm_market.proofs.SeatLemmas.{option_cases}

-- the lists of two and two are a market
pub two_by_two_market : IsMarket two_by_two
two_by_two_market = market_from_test two_by_two refl refl

-- that each proposer has its first choice is stable
pub first_choices_stable : IsStable two_by_two first_choices
first_choices_stable = stable_from_test two_by_two first_choices (matching_from_test two_by_two first_choices refl refl) refl

-- that each proposer has its second choice is stable
pub second_choices_stable : IsStable two_by_two second_choices
second_choices_stable = stable_from_test two_by_two second_choices (matching_from_test two_by_two second_choices refl refl) refl

-- no stable matching leaves p unmatched, whose second choice t likes it best
never_unmatched : (m : Places) → IsStable two_by_two m → (p t : ℕ) → length (row two_by_two.proposers p) ≡ 2 → length (row two_by_two.reviewers t) ≡ 2
    → entry two_by_two.proposers p 1 ≡ t → place_of two_by_two.reviewers t p ≡ 0 → entry two_by_two.reviewers t 0 ≡ p → held m.proposers p ≢ None
never_unmatched m s p t two two_t second best back none =
    let all : standing two_by_two.proposers m.proposers p ≡ 2 = ap (λ (o : Option ℕ). unwrap_or o (length (row two_by_two.proposers p))) none ∙ two in
    let not_had : held m.reviewers t ≢ Some 0 =
    λ h. let turn = s.matching.reviewers.in_turn t 0 h in let turn' = ap (held m.proposers) back in cc in
    let blocks : 0 < standing two_by_two.reviewers m.reviewers t → ⊥ =
    λ likes. s.unblocked p 1 (record { on_list = omega arith; proposer_gains = omega arith; reviewer_gains = rw (second, best) likes }) in
    ⊎_elim
    (λ free. let is = ap (λ (o : Option ℕ). unwrap_or o (length (row two_by_two.reviewers t))) free in blocks (omega arith))
    (λ x. let is = ap (λ (o : Option ℕ). unwrap_or o (length (row two_by_two.reviewers t))) x.1 in
    ⊎_elim
    (λ above. blocks (omega arith))
    (λ le. let zero_is : x.0 ≡ 0 = omega arith in not_had (x.1 ∙ ap Some zero_is))
    (cases_lt 0 x.0))
    (option_cases (held m.reviewers t))

-- a proposer that isn't unmatched has its first or its second choice
one_of_two : (m : Places) → IsMatching two_by_two m → (p : ℕ) → length (row two_by_two.proposers p) ≡ 2 → held m.proposers p ≢ None → (held m.proposers p ≡ Some 0) ⊎ (held m.proposers p ≡ Some 1)
one_of_two m matching p two matched =
    ⊎_elim
    (λ none. absurd (matched none))
    (λ x. let on = matching.proposers.on_list p x.0 x.1 in
    ⊎_elim
    (λ above. let is : x.0 ≡ 1 = omega arith in inr (x.1 ∙ ap Some is))
    (λ le. let is : x.0 ≡ 0 = omega arith in inl (x.1 ∙ ap Some is))
    (cases_lt 0 x.0))
    (option_cases (held m.proposers p))

-- the proposers' places, by one and two
both_hold : (m : Places) → IsMatching two_by_two m → (o q : Option ℕ) → held m.proposers 0 ≡ o → held m.proposers 1 ≡ q → m.proposers ≡ o ∷ q ∷ []
both_hold m matching o q first second =
    let long : length m.proposers ≡ 2 = matching.proposers.one_each in
    ext_get_or None m.proposers (o ∷ q ∷ []) long (λ i l. at i (omega arith))
  where
    at : (i : ℕ) → i < 2 → held m.proposers i ≡ held (o ∷ q ∷ []) i
    at zero l = first
    at (suc zero) l = second
    at (suc (suc i)) l = absurd (omega arith)

-- two matchings with the same places
abbrev pub IsSame : Places → Places → Type 0
IsSame m n = (m.proposers ≡ n.proposers) × (m.reviewers ≡ n.reviewers)

same_places : {m n : Places} → IsSame m n → m ≡ n
same_places s = λ i. record { proposers = s.0 i; reviewers = s.1 i }

-- the two stable matchings of this market are all that it has
pub two_stable_matchings : (m : Places) → IsStable two_by_two m → IsSame m first_choices ⊎ IsSame m second_choices
two_stable_matchings m s =
    let apart : (i j : ℕ) → held m.proposers 0 ≡ Some i → held m.proposers 1 ≡ Some j → entry two_by_two.proposers 0 i ≢ entry two_by_two.proposers 1 j =
    λ i j h g same. let one = one_partner s.matching.proposers s.matching.reviewers 0 1 i j h g same in omega arith in
    ⊎_elim
    (λ a. ⊎_elim
    (λ b. let same = both_hold m s.matching (Some 0) (Some 0) a b in inl (same, reviewers_same s.matching first_choices_stable.matching same))
    (λ b. absurd (apart 0 1 a b refl))
    (one_of_two m s.matching 1 refl (never_unmatched m s 1 0 refl refl refl refl refl)))
    (λ a. ⊎_elim
    (λ b. absurd (apart 1 0 a b refl))
    (λ b. let same = both_hold m s.matching (Some 1) (Some 1) a b in inr (same, reviewers_same s.matching second_choices_stable.matching same))
    (one_of_two m s.matching 1 refl (never_unmatched m s 1 0 refl refl refl refl refl)))
    (one_of_two m s.matching 0 refl (never_unmatched m s 0 1 refl refl refl refl refl))

-- in the proposers' best each has its first choice, and in the reviewers' best its second
pub first_choices_best : IsProposersBest two_by_two first_choices
first_choices_best = record { stable = first_choices_stable; best = λ n s p. none_better n p }
  where
    none_better : (n : Places) (p : ℕ) → standing two_by_two.proposers first_choices.proposers p ≤ standing two_by_two.proposers n.proposers p
    none_better n zero = omega arith
    none_better n (suc zero) = omega arith
    none_better n (suc (suc p)) = omega arith

-- that each proposer has its second choice is the reviewers' best
pub second_choices_best : IsReviewersBest two_by_two second_choices
second_choices_best = record { stable = second_choices_stable; worst = λ n s. ⊎_elim (λ e. below n first_choices e.0 first) (λ e. below n second_choices e.0 second) (two_stable_matchings n s) }
  where
    below : (n m : Places) → n.proposers ≡ m.proposers → ((p : ℕ) → standing two_by_two.proposers m.proposers p ≤ standing two_by_two.proposers second_choices.proposers p)
        → (p : ℕ) → standing two_by_two.proposers n.proposers p ≤ standing two_by_two.proposers second_choices.proposers p
    below n m same h p = rw same (h p)

    first : (p : ℕ) → standing two_by_two.proposers first_choices.proposers p ≤ standing two_by_two.proposers second_choices.proposers p
    first zero = omega arith
    first (suc zero) = omega arith
    first (suc (suc p)) = omega arith

    second : (p : ℕ) → standing two_by_two.proposers second_choices.proposers p ≤ standing two_by_two.proposers second_choices.proposers p
    second p = omega arith

-- the lists with one reviewer for two proposers are a market
pub two_for_one_market : IsMarket two_for_one
two_for_one_market = market_from_test two_for_one refl refl

-- its one pair is a stable matching
pub one_pair_stable : IsStable two_for_one one_pair
one_pair_stable = stable_from_test two_for_one one_pair (matching_from_test two_for_one one_pair refl refl) refl

-- what is said of the market of two and two holds
pub two_by_two_is : TwoByTwo
two_by_two_is = (
  two_by_two_market,
  first_choices_best,
  second_choices_best,
  (λ m s. ⊎_elim (λ e. inl (same_places e)) (λ e. inr (same_places e)) (two_stable_matchings m s)),
  refl,
)

-- what is said of the market with one reviewer for two holds
pub two_for_one_is : TwoForOne
two_for_one_is = (two_for_one_market, one_pair_stable, refl)
