-- The second weights of the places of seats, and whether an answer has two levels of weights.
use Rattle.std.specs.Prelude.{ℕ, not, Bool, false, List, Option, ℤ, pos}
use Rattle.std.specs.List.{list_any}
use Rattle.sm_agents.specs.Written.{Written}
use Rattle.sm_agents.specs.Nonzero.{is_zero}
use Rattle.sm_instance.specs.Ranks.{pair_second}
use Rattle.sm_agents.specs.declared.kinds.Measure.{Measure}
use Rattle.sm_agents.specs.declared.kinds.Measure.TheVariants.{Ranks, Given}
use Rattle.sm_seats.specs.Seating.{Seating}
use Rattle.sm_seats.specs.Correspondence.{weights_by}

-- an answer of `weight` has two levels where it is by given weights and a pair has a second weight that isn't 0
abbrev pub has_two_levels : Measure → Written → Bool
has_two_levels Ranks w = false
has_two_levels Given w = list_any (λ z. not (is_zero z)) w.seconds

-- what p and its partner count in the second sum: their second weight, and 0 where pairs are weighed by ranks
abbrev pub pair_second_by : Measure → Written → ℕ → Option ℕ → ℤ
pair_second_by Ranks w p place = pos 0
pair_second_by Given w p place = pair_second w p place

-- the same for each place of the lists
abbrev pub seconds_by : Measure → Written → Seating → List (List ℤ)
seconds_by by w s = weights_by (pair_second_by by w) s
