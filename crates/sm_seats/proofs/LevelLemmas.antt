-- Second weights that are 0.
use Rattle.std.proofs.Common.{◌≡◌, ℕ, true, false, Option, Some, None, pos, refl, sym}
use Rattle.std.proofs.lemmas.Bool.{false≢true}
use Rattle.sm_agents.specs.Written.{Written, entry}
use Rattle.sm_agents.proofs.NonzeroLemmas.{all_zero}
use Rattle.sm_agents.specs.declared.kinds.Measure.{Measure}
use Rattle.sm_agents.specs.declared.kinds.Measure.TheVariants.{Ranks, Given}
use Rattle.sm_seats.specs.Seating.{Seating}
use Rattle.sm_seats.specs.Correspondence.{weights_by}
use Rattle.sm_seats.specs.Levels.{has_two_levels, pair_second_by, seconds_by}
use Rattle.sm_seats.specs.PlaceWeights.{weigh}
use Rattle.sm_seats.specs.declared.place_weights.Weighing.TheVariants.{Seconds, Nothing}
use Rattle.sm_seats.proofs.RankLemmas.{no_second}

-- in one level all second weights are 0
pub none_second : (by : Measure) (w : Written) → has_two_levels by w ≡ false → (p : ℕ) (place : Option ℕ) → pair_second_by by w p place ≡ pos 0
none_second Ranks w one p place = refl
none_second Given w one p None = refl
none_second Given w one p (Some i) = no_second w (all_zero w.seconds one) p (entry w.proposers p i)

-- in two levels they are those of the instance
as_second : (by : Measure) (w : Written) → has_two_levels by w ≡ true → (p : ℕ) (place : Option ℕ) → weigh Seconds w p place ≡ pair_second_by by w p place
as_second Ranks w two p place = absurd (false≢true two)
as_second Given w two p place = refl

-- so the second weights of the places are found in either case
pub in_two_levels : (by : Measure) (w : Written) (s : Seating) → has_two_levels by w ≡ true → weights_by (weigh Seconds w) s ≡ seconds_by by w s
in_two_levels by w s two = λ t. weights_by (λ p place. as_second by w two p place t) s

pub in_one_level : (by : Measure) (w : Written) (s : Seating) → has_two_levels by w ≡ false → weights_by (weigh Nothing w) s ≡ seconds_by by w s
in_one_level by w s one = λ t. weights_by (λ p place. sym (none_second by w one p place) t) s
