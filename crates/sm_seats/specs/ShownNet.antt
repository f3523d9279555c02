-- The net whose cuts are the closed sets of allowed matchings, as it is read off the rotations that an answer shows: whom each of
-- them moves to a seat of which reviewer, and from a seat of which one; and what each of them gains.
use Rattle.std.specs.Prelude.{ℕ, suc, ◌==◌, if◌then◌else◌, Bool, false, not, ◌&&◌, ◌||◌, List, length, Option, None, Some, ℤ, ◌-ℤ◌}
use Rattle.std.specs.List.{position_or_len, list_any}
use Rattle.sm_agents.specs.Written.{Written}
use Rattle.sm_agents.specs.declared.kinds.Measure.{Measure}
use Rattle.sm_instance.specs.Ranks.{pair_weight, pair_second}
use Rattle.sm_market.specs.Lists.{entry, place_of}
use Rattle.sm_market.specs.Matching.{Places, held}
use Rattle.sm_theory.specs.Rotations.{proposer_at, reviewer_at, target_at, is_moved, reviewer_before, reviewer_after}
use Rattle.sm_theory.specs.Conditions.{leads_to_need, rise_of, fall_of}
use Rattle.sm_theory.specs.Net.{Net}
use Rattle.sm_theory.specs.SecondNets.{second_net}
use Rattle.sm_theory.specs.Weights.{total}
use Rattle.sm_theory.specs.Chains.{rotation_at}
use Rattle.sm_seats.specs.Seating.{Seating, seating_of, reviewer_of}

-- p has a seat of r where it has this place
abbrev pub is_at_seat_of : Seating → (p r : ℕ) → Option ℕ → Bool
is_at_seat_of s p r None = false
is_at_seat_of s p r (Some i) = reviewer_of s (entry s.market.proposers p i) == r

-- p enters r by the rotation that moves it to a seat of r from a seat of another reviewer
abbrev pub enters : Seating → (p r : ℕ) → List (ℕ × ℕ) → Bool
enters s p r rotation =
    is_moved rotation p && (reviewer_of s (reviewer_after rotation p) == r && not (reviewer_of s (reviewer_before rotation p) == r))

-- p leaves r by the rotation that moves it from a seat of r to a seat of another reviewer
abbrev pub leaves : Seating → (p r : ℕ) → List (ℕ × ℕ) → Bool
leaves s p r rotation =
    is_moved rotation p && (reviewer_of s (reviewer_before rotation p) == r && not (reviewer_of s (reviewer_after rotation p) == r))

-- the node of the rotation by which the proposer of a pair enters its reviewer: the source, where it begins there, and the sink,
-- where it never enters
abbrev pub entry_node : Seating → Places → List (List (ℕ × ℕ)) → ℕ × ℕ → ℕ
entry_node s first rotations pair =
    if is_at_seat_of s pair.0 pair.1 (held first.proposers pair.0) then 0 else suc (position_or_len (enters s pair.0 pair.1) rotations)

-- the node of the rotation by which it leaves: the sink, where it never does
abbrev pub exit_node : Seating → List (List (ℕ × ℕ)) → ℕ × ℕ → ℕ
exit_node s rotations pair = suc (position_or_len (leaves s pair.0 pair.1) rotations)

-- the unbounded edges of a forced pair: from the source to its entry, and from its exit to the sink
abbrev pub forces : Seating → Places → List (List (ℕ × ℕ)) → ℕ × ℕ → ℕ → ℕ → Bool
forces s first rotations pair i j =
    (i == 0 && j == entry_node s first rotations pair) || (i == exit_node s rotations pair && j == suc (length rotations))

-- the unbounded edge of a forbidden pair: from its entry to its exit
abbrev pub forbids : Seating → Places → List (List (ℕ × ℕ)) → ℕ × ℕ → ℕ → ℕ → Bool
forbids s first rotations pair i j = i == entry_node s first rotations pair && j == exit_node s rotations pair

-- the weight of p and the reviewer of a seat, where `weigh` gives that of p and each place on its written list
abbrev pub seat_weight : (weigh : ℕ → Option ℕ → ℤ) → Seating → (p seat : ℕ) → ℤ
seat_weight weigh s p seat = weigh p (Some (place_of s.lists p (reviewer_of s seat)))

-- the gain of a rotation: the weights of its new pairs less those of its old ones
-- (Irving, Leather and Gusfield 1987; Gusfield and Irving 1989, chapter 3)
abbrev pub gain_by : (weigh : ℕ → Option ℕ → ℤ) → Seating → List (ℕ × ℕ) → ℤ
gain_by weigh s rotation = total (λ i.
    seat_weight weigh s (proposer_at rotation i) (target_at rotation i) -ℤ seat_weight weigh s (proposer_at rotation i) (reviewer_at rotation i)) (length rotation)

-- the gain of rotation k by the weights of a measure
abbrev pub gain_shown : Measure → Written → List (List (ℕ × ℕ)) → ℕ → ℤ
gain_shown by w rotations k = gain_by (pair_weight by w) (seating_of w) (rotation_at rotations k)

-- its gain by second weights
abbrev pub second_gain_shown : Written → List (List (ℕ × ℕ)) → ℕ → ℤ
second_gain_shown w rotations k = gain_by (pair_second w) (seating_of w) (rotation_at rotations k)

-- The net of the gains, the needs and the conditions. A rotation with a positive gain has so much room to the sink, one with a
-- negative gain so much room from the source, and no edge leads from the source to the sink.
-- (Irving, Leather and Gusfield 1987; Gusfield and Irving 1989, chapter 3)
abbrev pub net_shown : Measure → Written → Places → List (List (ℕ × ℕ)) → List (List ℕ) → Net
net_shown by w first rotations needs =
    let s = seating_of w in
    record {
      size = length rotations;
      supply = λ k. fall_of (gain_shown by w rotations k);
      drain = λ k. rise_of (gain_shown by w rotations k);
      unbounded = λ i j. not (i == j) && (not (i == 0 && j == suc (length rotations))
          && (leads_to_need needs i j || (list_any (λ pair. forces s first rotations pair i j) w.forced || list_any (λ pair. forbids s first rotations pair i j) w.forbidden)));
    }

-- the second net of a flow in it, with the second gains
-- (Picard and Queyranne 1980)
abbrev pub second_net_shown : Measure → Written → Places → List (List (ℕ × ℕ)) → List (List ℕ) → (flow : ℕ → ℕ → ℕ) → Net
second_net_shown by w first rotations needs flow = second_net (net_shown by w first rotations needs) flow (second_gain_shown w rotations)
