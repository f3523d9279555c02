-- Small instances whose seats are known by hand, so that the definitions mean what they should.
use Rattle.std.specs.Prelude.{◌≡◌, ℕ, List, [], ◌∷◌, None, Some, replicate, negsuc}
use Rattle.std.specs.List.{range_with_len}
use Rattle.sm_agents.specs.Written.{Written, plain_written}
use Rattle.sm_instance.specs.Ranks.{rank_vector_of, pair_weight}
use Rattle.sm_instance.specs.Witnesses.{agent, small_hospitals, settled, inert_entry}
use Rattle.sm_agents.specs.declared.kinds.Kind.TheVariants.{Hospitals}
use Rattle.sm_agents.specs.declared.kinds.Measure.TheVariants.{Ranks}
use Rattle.sm_market.specs.Lists.{IsMarket}
use Rattle.sm_market.specs.Matching.{Places}
use Rattle.sm_market.specs.Stable.{IsStable}
use Rattle.sm_theory.specs.Rotations.{eliminated}
use Rattle.sm_seats.specs.SeatMarket.{seats_of, seat_market}
use Rattle.sm_seats.specs.SeatEntries.{seat_entries_before, first_too_many}
use Rattle.sm_seats.specs.Seating.{seating_of, written_of, levels_of}
use Rattle.sm_seats.specs.ShownNet.{gain_by}
use Rattle.sm_seats.specs.Taken.{places_taken}

-- Two seats of h, one of k and none of z, which has no place. k is inert on c's list, and z has a rank on b's.
abbrev pub SmallHospitals : Type 0
SmallHospitals = (seats_of small_hospitals ≡ (0, 1) ∷ (0, 2) ∷ (1, 1) ∷ [])
    × (seat_market small_hospitals ≡ record {
      proposers = (2 ∷ 0 ∷ 1 ∷ []) ∷ (0 ∷ 1 ∷ []) ∷ (0 ∷ 1 ∷ []) ∷ [];
      reviewers = (2 ∷ 0 ∷ 1 ∷ []) ∷ (2 ∷ 0 ∷ 1 ∷ []) ∷ (0 ∷ []) ∷ [];
    })
    × (levels_of (seating_of small_hospitals) ≡ (1 ∷ 2 ∷ 2 ∷ 3 ∷ []) ∷ (2 ∷ 2 ∷ 3 ∷ []) ∷ (1 ∷ 1 ∷ 3 ∷ []) ∷ [])
    × (seat_entries_before small_hospitals 3 ≡ 7)
    × (places_taken small_hospitals settled ≡ Some 0 ∷ Some 1 ∷ Some 0 ∷ [])
    × (written_of (seating_of small_hospitals) (Some 0 ∷ Some 1 ∷ Some 0 ∷ []) ≡ settled)

-- In a marriage a reviewer that nobody acceptable lists has no seat, so that reviewer 1 has seat 0.
abbrev pub MarriageSeats : Type 0
MarriageSeats = (seats_of inert_entry ≡ (1, 1) ∷ [])
    × (seat_market inert_entry ≡ record { proposers = (0 ∷ []) ∷ (0 ∷ []) ∷ []; reviewers = (1 ∷ 0 ∷ []) ∷ [] })
    × (levels_of (seating_of inert_entry) ≡ (2 ∷ 3 ∷ []) ∷ (1 ∷ 2 ∷ []) ∷ [])

-- residents r0: h, r1: h k and r2: k h; hospitals h of 2 places: r2 r0 r1, and k of 1: r1 r2
abbrev pub turning_hospitals : Written
turning_hospitals = plain_written Hospitals
    (agent 48 1 (0 ∷ []) ∷ agent 49 1 (0 ∷ 1 ∷ []) ∷ agent 50 1 (1 ∷ 0 ∷ []) ∷ [])
    (agent 104 2 (2 ∷ 0 ∷ 1 ∷ []) ∷ agent 107 1 (1 ∷ 2 ∷ []) ∷ [])
    [] [] []

-- r0, r1 and r2 at the seats 1 and 2 of h and 1 of k, and at 2 of h, 1 of k and 1 of h
abbrev pub firsts : Places
firsts = record { proposers = Some 0 ∷ Some 1 ∷ Some 0 ∷ []; reviewers = Some 1 ∷ Some 2 ∷ Some 1 ∷ [] }

-- r0, r1 and r2 at seat 2 of h, 1 of k and 1 of h
abbrev pub lasts : Places
lasts = record { proposers = Some 1 ∷ Some 2 ∷ Some 1 ∷ []; reviewers = Some 0 ∷ Some 1 ∷ Some 0 ∷ [] }

-- the rotation from one to the other
abbrev pub turning_rotation : List (ℕ × ℕ)
turning_rotation = (0, 0) ∷ (1, 1) ∷ (2, 2) ∷ []

-- Both are stable, and r0 is at h in both, though at another seat. By ranks r1 weighs 1 + 3 with h and 2 + 1 with k, and r0 and r2
-- weigh as much as before: so the rotation's gain is -1.
abbrev pub TurningHospitals : Type 0
TurningHospitals = IsMarket (seat_market turning_hospitals)
    × IsStable (seat_market turning_hospitals) firsts
    × IsStable (seat_market turning_hospitals) lasts
    × (rank_vector_of turning_hospitals (written_of (seating_of turning_hospitals) firsts.proposers) ≡ 1 ∷ 1 ∷ 1 ∷ [])
    × (rank_vector_of turning_hospitals (written_of (seating_of turning_hospitals) lasts.proposers) ≡ 1 ∷ 2 ∷ 2 ∷ [])
    × (places_taken turning_hospitals (Some 0 ∷ Some 1 ∷ Some 1 ∷ []) ≡ lasts.proposers)
    × (eliminated (seat_market turning_hospitals) firsts turning_rotation ≡ lasts)
    × (gain_by (pair_weight Ranks turning_hospitals) (seating_of turning_hospitals) turning_rotation ≡ negsuc 0)

-- 1,024 residents, and two hospitals with a place for each of them: the seats of one have as many entries as there may be
abbrev pub full_hospitals : Written
full_hospitals = plain_written Hospitals
    (replicate 1024 (agent 114 1 (0 ∷ 1 ∷ [])))
    (replicate 2 (agent 104 1024 (range_with_len 0 1024)))
    [] [] []

-- with the second of these hospitals there are too many, and in the small instance there are few enough
abbrev pub SecondIsTooMany : Type 0
SecondIsTooMany = (first_too_many full_hospitals ≡ Some 1) × (first_too_many small_hospitals ≡ None)
