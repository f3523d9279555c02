-- Ranks that are read from cross places, and weights where none are given.
use Rattle.std.proofs.Common.{◌≡◌, ◌==◌, Bool, true, false, ℕ, ℤ, pos, ◌<◌, ◌≤◌, List, [], ◌∷◌, Option, Some, None, get_or, length, map, replicate, refl, sym, ap, ◌∙◌, arith}
use Rattle.std.specs.List.{position_or_len}
use Rattle.std.specs.Option.{IfSome}
use Rattle.std.proofs.lemmas.Bool.Decides.{nat_tests}
use Rattle.std.proofs.lemmas.List.{get_or_past, get_or_read, nil_from_length}
use Rattle.sm_text.specs.Limits.{most_agents}
use Rattle.sm_agents.specs.Written.{Written, row, entry, weighed, is_same_pair, weight_number, given_weight, second_weight, IsAcceptable}
use Rattle.sm_agents.specs.Sound.{IsInstance}
use Rattle.sm_instance.specs.Crosses.{cross_place, AreCrossPlacesOf}
use Rattle.sm_instance.specs.Ranks.{rank_back}
use Rattle.sm_instance.proofs.AcceptLemmas.{cross_some, cross_fits, one_sided_at}
use Rattle.sm_seats.specs.PlaceWeights.{rank_in, pair_given}

-- the cross place of an acceptable pair gives the rank that the reviewer gives the proposer
rank_is : (w : Written) (p k : ℕ) (x : Option ℕ) → x ≡ cross_place w.reviewers (entry w.proposers p k) p → IsAcceptable w p (entry w.proposers p k) → rank_in x ≡ rank_back w p k
rank_is w p k None is accepts = absurd (one_sided_at w p k is accepts)
rank_is w p k (Some back) is accepts = let it = (cross_some w.reviewers (entry w.proposers p k) p back (sym is)).0 in omega arith

-- a rank is no greater than there may be agents
pub rank_small : (x : Option ℕ) → IfSome x (λ back. back < most_agents) → rank_in x ≤ most_agents
rank_small None fits = omega arith
rank_small (Some back) fits = omega arith

-- what is read of a cross place
pub record IsRankRead (w : Written) (p k : ℕ) (x : Option ℕ) : Type 0 where
  pub fits : IfSome x (λ back. back < most_agents)
  pub rank : rank_in x ≡ rank_back w p k

-- it is read so beside an entry of a written list
pub rank_read : {w : Written} → IsInstance w → (p k : ℕ) (crosses : List (Option ℕ)) (x : Option ℕ) → AreCrossPlacesOf w.proposers w.reviewers p crosses → k < length (row w.proposers p)
    → x ≡ get_or crosses k x → IsAcceptable w p (entry w.proposers p k) → IsRankRead w p k x
rank_read {w} instance p k crosses x are on read accepts =
    let is : x ≡ cross_place w.reviewers (entry w.proposers p k) p = get_or_read crosses k x (omega (arith, on, are.as_long)) read None ∙ are.places k on in
    record { fits = cross_fits instance (entry w.proposers p k) p x is; rank = rank_is w p k x is accepts }

-- a list that was found empty
pub nil_of_empty : {X : Type 0} (xs : List X) (b : Bool) → b ≡ (length xs == 0) → b ≡ true → xs ≡ []
nil_of_empty xs b is empty =
    let decided : (length xs == 0) ≡ true = sym is ∙ empty in
    nil_from_length xs (grind (arith, nat_tests))

-- where no weights are given, a pair has the weight 0
pub no_weight : (w : Written) → w.weights ≡ [] → (p r : ℕ) → given_weight w p r ≡ pos 0
no_weight w none p r = ap (λ ws. (get_or ws (position_or_len (is_same_pair (p, r)) (map weighed ws)) (0, 0, pos 0)).2) none

-- and the second weight 0, as long as there are none
pub no_second : (w : Written) → ((k : ℕ) → get_or w.seconds k (pos 0) ≡ pos 0) → (p r : ℕ) → second_weight w p r ≡ pos 0
no_second w none p r = none (weight_number w.weights p r)

-- where an instance has no second weights it has no weights, and none of a pair is given
pub none_given : (w : Written) → w.seconds ≡ [] → length w.seconds ≡ length w.weights → (second : Bool) (p i : ℕ) → pair_given second w p (Some i) ≡ pos 0
none_given w none each false p i = no_weight w (let long = ap length none in nil_from_length w.weights (omega (arith, long, each))) p (entry w.proposers p i)
none_given w none each true p i = no_second w (λ k. ap (λ (zs : List ℤ). get_or zs k (pos 0)) none ∙ get_or_past [] k (pos 0) (omega arith)) p (entry w.proposers p i)

-- as many zeros
pub zeros : (f : ℕ → ℤ) → ((i : ℕ) → f i ≡ pos 0) → (xs : List ℕ) → replicate (length xs) (pos 0) ≡ map f xs
zeros f is [] = refl
zeros f is (x ∷ xs) = ap (λ z. z ∷ replicate (length xs) (pos 0)) (sym (is x)) ∙ ap (λ t. f x ∷ t) (zeros f is xs)
