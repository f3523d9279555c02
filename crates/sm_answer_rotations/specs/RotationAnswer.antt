-- The answer of `rotations`: which rotations are shown, and how the stable matchings of the instance are read off.
use Rattle.std.specs.Prelude.{◌≡◌, ℕ, zero, suc, Bool, ◌&&◌, List, map, filter, fold, max, length, Option, Contains}
use Rattle.std.specs.List.{range_with_len}
use Rattle.std.specs.Option.{option_map}
use Rattle.sm_agents.specs.Written.{Written, place_of}
use Rattle.sm_instance.specs.Stable.{IsStable}
use Rattle.sm_market.specs.Matching.{Places}
use Rattle.sm_report.specs.declared.lines.Seat.{Seat}
use Rattle.sm_report.specs.Lines.{LineData}
use Rattle.sm_theory.specs.Rotations.{is_moved, reviewer_after}
use Rattle.sm_theory.specs.Chains.{IsPrintedChain, AreNeeds}
use Rattle.sm_theory.specs.ClosedSets.{is_member, IsMember}
use Rattle.sm_seats.specs.SeatMarket.{seat_market}
use Rattle.sm_seats.specs.Seating.{seating_of}
use Rattle.sm_answer_rotations.specs.RotationLines.{ShownRotations, first_at, pairs_at, needs_at, shown_of, shown_lines}

-- A set of shown rotations has one item for each of them; the set has the rotation of this number, counted from 1.
abbrev pub HasNumberedRotation : List Bool → ℕ → Type 0
HasNumberedRotation set zero = ⊥
HasNumberedRotation set (suc k) = IsMember set k

-- a closed set has, with each member, every rotation whose number stands in the member's line of needs
-- (Gusfield and Irving 1989, section 2.5)
pub record IsClosedIn (shown : ShownRotations) (set : List Bool) : Type 0 where
  pub one_each : length set ≡ length shown.rotations
  pub closed : (k n : ℕ) → IsMember set k → Contains (needs_at shown k) n → HasNumberedRotation set n

-- the proposers of a shown rotation, each with the reviewer whose seat it leaves; each moves to that of the next pair
abbrev pub pairs_of : List (ℕ × Seat) → List (ℕ × ℕ)
pairs_of rotation = map (λ pair. (pair.0, pair.1.reviewer)) rotation

-- the last on p's written list of the place i and the places to which members of the set among the first n rotations move p
abbrev pub least_liked : Written → ShownRotations → List Bool → (p i n : ℕ) → ℕ
least_liked w shown set p i n =
    fold max i (map (λ k. place_of w.proposers p (reviewer_after (pairs_of (pairs_at shown k)) p))
    (filter (λ k. is_member set k && is_moved (pairs_of (pairs_at shown k)) p) (range_with_len 0 n)))

-- the matching of a set: a proposer without a first seat has nobody, and each other one, of its first seat and those to
-- which members move it, the one that it likes least (Gusfield and Irving 1989, theorem 2.5.7)
abbrev pub matching_shown : Written → ShownRotations → List Bool → List (Option ℕ)
matching_shown w shown set =
    map (λ p. option_map (λ seat. least_liked w shown set p (place_of w.proposers p seat.reviewer) (length shown.rotations)) (first_at shown p)) (range_with_len 0 (length w.proposers))

-- the shown closed sets and the stable matchings of the instance correspond one to one: each closed set's matching is
-- stable, each stable matching is that of a closed set, and different closed sets have different matchings
-- (Irving and Leather 1986; Gusfield and Irving 1989, theorem 2.5.7)
pub record IsCorrespondence (w : Written) (shown : ShownRotations) : Type 0 where
  pub stable : (set : List Bool) → IsClosedIn shown set → IsStable w (matching_shown w shown set)
  pub all : (places : List (Option ℕ)) → IsStable w places → (set : List Bool) × IsClosedIn shown set × (matching_shown w shown set ≡ places)
  pub different : (set other : List Bool) → IsClosedIn shown set → IsClosedIn shown other
      → matching_shown w shown set ≡ matching_shown w shown other → set ≡ other

-- The lines are the seats in the proposers' best matching, the printed chain of rotations from it on, and what each of
-- them needs; and the stable matchings are those of the closed sets that are shown.
pub record IsRotationAnswer (w : Written) (answer : List LineData) : Type 0 where
  pub first : Places
  pub rotations : List (List (ℕ × ℕ))
  pub needs : List (List ℕ)
  pub printed : IsPrintedChain (seat_market w) first rotations
  pub needed : AreNeeds (seat_market w) rotations needs
  pub shows : answer ≡ shown_lines (shown_of (seating_of w) first rotations needs)
  pub corresponds : IsCorrespondence w (shown_of (seating_of w) first rotations needs)
