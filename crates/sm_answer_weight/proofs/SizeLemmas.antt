-- How great weights and gains can be.
use Rattle.std.proofs.Common.{◌≡◌, ℕ, zero, suc, ◌*◌, ◌≤◌, All, List, [], length, get_or, false, ℤ, pos, ◌+ℤ◌, ◌-ℤ◌, sym, subst, arith, inl, inr}
use Rattle.std.specs.Int.RustNames.{unsigned_abs}
use Rattle.std.specs.List.{range_with_len}
use Rattle.std.proofs.lemmas.Bool.{cases_lt}
use Rattle.std.proofs.lemmas.Int.{ints}
use Rattle.std.proofs.lemmas.List.{get_or_past}
use Rattle.std.proofs.lemmas.List.Elements.{All-map}
use Rattle.sm_agents.specs.Written.{Written}
use Rattle.sm_agents.specs.declared.kinds.Measure.{Measure}
use Rattle.sm_market.specs.Lists.{Lists, row, agents, place_of}
use Rattle.sm_market.specs.Matching.{Places, held}
use Rattle.sm_theory.specs.Rotations.{proposer_at, reviewer_at, target_at}
use Rattle.sm_theory.specs.Weights.{total, weight_at, weight_of, weight_of_place, gain_of}
use Rattle.std.proofs.Common.{Option, Some, None}
use Rattle.sm_seats.specs.Seating.{Seating, at_places}
use Rattle.sm_seats.specs.Levels.{has_two_levels, seconds_by}
use Rattle.sm_seats.specs.PlaceWeights.{IsLight, AreLight}
use Rattle.sm_seats.proofs.PlaceLemmas.{light_at}
use Rattle.sm_seats.proofs.LevelLemmas.{in_one_level}

sum_size : (a b : ℤ) (n : ℕ) → unsigned_abs a ≤ 2000000000 * n → unsigned_abs b ≤ 2000000000 → unsigned_abs (a +ℤ b) ≤ 2000000000 * suc n
sum_size a b n x y = omega (arith, ints)

less_size : (a b : ℤ) → IsLight a → IsLight b → unsigned_abs (a -ℤ b) ≤ 2000000000
less_size a b x y = omega (arith, ints)

-- n numbers of at most two thousand million in size have a sum of at most n times that
pub total_size : (f : ℕ → ℤ) (n : ℕ) → ((i : ℕ) → unsigned_abs (f i) ≤ 2000000000) → unsigned_abs (total f n) ≤ 2000000000 * n
total_size f zero each = omega (arith, ints)
total_size f (suc n) each = sum_size (total f n) (f n) n (total_size f n each) (each n)

-- a place that isn't there weighs nothing
light_any : (weights : List (List ℤ)) → AreLight weights → (p i : ℕ) → IsLight (weight_at weights p i)
light_any weights light p i = elim (cases_lt i (length (get_or weights p []))) [
  | inl on ↦ light_at weights light p i on
  | inr past ↦ subst IsLight (sym (get_or_past (get_or weights p []) i (pos 0) past)) none
]
  where
    none : IsLight (pos 0)
    none = omega arith

light_of_place : (weights : List (List ℤ)) → AreLight weights → (p : ℕ) (o : Option ℕ) → IsLight (weight_of_place weights p o)
light_of_place weights light p None = omega arith
light_of_place weights light p (Some i) = light_any weights light p i

twice : (z : ℤ) → IsLight z → unsigned_abs z ≤ 2000000000
twice z light = omega arith

-- by light weights the gain of a rotation is at most so great for each of its pairs
pub gain_size : (l : Lists) (weights : List (List ℤ)) → AreLight weights → (rotation : List (ℕ × ℕ)) → unsigned_abs (gain_of l weights rotation) ≤ 2000000000 * length rotation
gain_size l weights light rotation = total_size _ (length rotation) (λ i. less_size
    (weight_at weights (proposer_at rotation i) (place_of l.proposers (proposer_at rotation i) (target_at rotation i)))
    (weight_at weights (proposer_at rotation i) (place_of l.proposers (proposer_at rotation i) (reviewer_at rotation i)))
    (light_any weights light (proposer_at rotation i) (place_of l.proposers (proposer_at rotation i) (target_at rotation i)))
    (light_any weights light (proposer_at rotation i) (place_of l.proposers (proposer_at rotation i) (reviewer_at rotation i))))

-- and the weight of a matching for each proposer
pub weight_size : (l : Lists) (weights : List (List ℤ)) → AreLight weights → (m : Places) → unsigned_abs (weight_of l weights m) ≤ 2000000000 * length l.proposers
weight_size l weights light m = total_size _ (length l.proposers) (λ p. twice (weight_of_place weights p (held m.proposers p)) (light_of_place weights light p (held m.proposers p)))

-- in one level the second weights are light, since they are 0
pub light_seconds : (by : Measure) (w : Written) (s : Seating) → has_two_levels by w ≡ false → AreLight (seconds_by by w s)
light_seconds by w s one = subst AreLight (in_one_level by w s one)
    (All-map (All IsLight) (at_places s (λ p i. pos 0)) (agents s.market.proposers)
    (λ k p less. All-map IsLight (λ i. pos 0) (range_with_len 0 (length (row s.market.proposers (get_or (agents s.market.proposers) k p)))) (λ j i on. omega arith)))
