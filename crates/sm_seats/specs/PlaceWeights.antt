-- The weights of the places of seats.
use Rattle.std.specs.Prelude.{ℕ, ◌+◌, ◌<◌, ◌≤◌, Bool, true, false, List, ℤ, pos, length, All, Option, Some, None}
use Rattle.std.specs.Int.RustNames.{unsigned_abs}
use Rattle.sm_text.specs.Limits.{most_weight}
use Rattle.sm_agents.specs.Written.{Written, entry as written_entry, IsAcceptable}
use Rattle.sm_instance.specs.Crosses.{AreCrossesOf}
use Rattle.sm_instance.specs.Ranks.{pair_weight, pair_second}
use Rattle.sm_agents.specs.declared.kinds.Measure.TheVariants as measure
use Rattle.sm_market.specs.Lists.{row}
use Rattle.sm_seats.specs.Seating.{Seating, written_place}
use Rattle.sm_seats.specs.declared.place_weights.Weighing.{Weighing}
use Rattle.sm_seats.specs.declared.place_weights.Weighing.TheVariants.{Ranks, Given, Seconds, Nothing}

-- a weight is of a size that a text can give
abbrev pub IsLight : ℤ → Type 0
IsLight weight = unsigned_abs weight ≤ most_weight

-- all weights of all proposers are light
abbrev pub AreLight : List (List ℤ) → Type 0
AreLight weights = All (All IsLight) weights

-- each place of p leads to a reviewer that is acceptable to it, and it to the reviewer
abbrev pub AreAcceptableAt : Written → Seating → ℕ → Type 0
AreAcceptableAt w s p = (i : ℕ) → i < length (row s.market.proposers p) → IsAcceptable w p (written_entry w.proposers p (written_place s p i))

-- the rank that a cross place gives, 0 where there is none
abbrev pub rank_in : Option ℕ → ℕ
rank_in None = 0
rank_in (Some back) = back + 1

-- the weight, or the second weight, that is given to p and its partner, 0 where p is unmatched
abbrev pub pair_given : (second : Bool) → Written → ℕ → Option ℕ → ℤ
pair_given false w p place = pair_weight measure.Given w p place
pair_given true w p place = pair_second w p place

-- what p and its partner weigh
abbrev pub weigh : Weighing → Written → ℕ → Option ℕ → ℤ
weigh (Ranks crosses) w p place = pair_weight measure.Ranks w p place
weigh Given w p place = pair_given false w p place
weigh Seconds w p place = pair_given true w p place
weigh Nothing w p place = pos 0

-- where places are weighed by ranks, the cross places are those of the instance
abbrev pub IsWeighingOf : Written → Weighing → Type 0
IsWeighingOf w (Ranks crosses) = AreCrossesOf w.proposers w.reviewers crosses.now
IsWeighingOf w _ = Unit {0}
