-- The answer of `route`.
use Rattle.std.specs.Prelude.{◌≡◌, ℕ, ◌+◌, ◌<◌, ◌^◌, Bool, List, [], ◌∷◌, ◌++◌, map, length, Option}
use Rattle.std.specs.List.{flat_map, range_with_len}
use Rattle.sm_answer.specs.Lines.{lines_from}
use Rattle.sm_answer.specs.declared.matching_lines.PairWord.TheVariants as word
use Rattle.sm_agents.specs.Written.{Written}
use Rattle.sm_instance.specs.declared.inputs.Input.TheVariants.{Two}
use Rattle.sm_market.specs.Matching.{Places}
use Rattle.sm_report.specs.Heads.{HeadData}
use Rattle.sm_report.specs.Lines.{LineData}
use Rattle.sm_theory.specs.Chains.{IsPrintedChain, AreNeeds}
use Rattle.sm_theory.specs.ClosedSets.{IsClosed, matching_of}
use Rattle.sm_theory.specs.Routes.{IsShortestRoute, sets_along, steps_between}
use Rattle.sm_theory.specs.declared.step.Step.{Step}
use Rattle.sm_theory.specs.declared.step.Step.TheVariants.{Back, Forth}
use Rattle.sm_seats.specs.SeatMarket.{seat_market}
use Rattle.sm_seats.specs.Seating.{seating_of, written_of}
use Rattle.sm_holding.specs.Held.{places_in, GiveStable}
use Rattle.sm_answer_given.specs.GivenText.{AreGiven}
use Rattle.sm_answer_given.specs.Chosen.{pair_lines}
use Rattle.sm_answer_rotations.specs.RotationLines.{ShownRotations, first_seat_line, rotation_lines, shown_of}

-- the matching of the seats to which a set of rotations leads from the first one; rotations and seats are numbered from 0
abbrev pub seats_after : Written → (first : Places) → (rotations : List (List (ℕ × ℕ))) → (set : List Bool) → Places
seats_after w first rotations set = matching_of (seat_market w) first rotations set

-- a closed set leads to a matching of the instance, once seat numbers are forgotten
pub record IsSetOf (w : Written) (first : Places) (rotations : List (List (ℕ × ℕ))) (places : List (Option ℕ)) (set : List Bool) : Type 0 where
  pub closed : IsClosed (seat_market w) rotations set
  pub matching : written_of (seating_of w) (seats_after w first rotations set).proposers ≡ places

-- the steps between the closed sets of two matchings: they are a shortest route between the matchings of the seats
pub record AreStepsBetween (w : Written) (first : Places) (rotations : List (List (ℕ × ℕ))) (left right : List (Option ℕ)) (steps : List Step) : Type 0 where
  pub from : List Bool
  pub to : List Bool
  pub from_left : IsSetOf w first rotations left from
  pub to_right : IsSetOf w first rotations right to
  pub between : steps ≡ steps_between from to (length rotations)
  pub shortest : IsShortestRoute (seat_market w) (seats_after w first rotations from) (map (seats_after w first rotations) (sets_along from steps)) (seats_after w first rotations to)

-- a step as a line; shown rotations are numbered from 1
abbrev pub step_line : Step → LineData
step_line (Back k) = LineData.Back (k + 1)
step_line (Forth k) = LineData.Forth (k + 1)

-- the rotation of a step
abbrev pub rotation_in : Step → ℕ
rotation_in (Back k) = k
rotation_in (Forth k) = k

-- it has a number that a line can have
abbrev pub IsStepNumbered : Step → Type 0
IsStepNumbered step = rotation_in step < 2 ^ 24

-- the pairs of the left matching and then those of the right one, each in the order of the proposers
abbrev pub given_pairs : Written → (left right : List (Option ℕ)) → List LineData
given_pairs w left right = pair_lines word.Left w left ++ pair_lines word.Right w right

-- the pairs of the two matchings, the first seats, the rotations with their needs, and the steps
abbrev pub route_lines : Written → (left right : List (Option ℕ)) → ShownRotations → List Step → List LineData
route_lines w left right shown steps =
    LineData.Answer HeadData.Route
    ∷ (given_pairs w left right
    ++ (lines_from (first_seat_line shown) 0 (length shown.firsts)
    ++ (flat_map (rotation_lines shown) (range_with_len 0 (length shown.rotations))
    ++ (map step_line steps ++ LineData.End ∷ []))))

-- The lines are those of two stable matchings that were given, of the printed chain of rotations and what each of them needs,
-- and of the steps from the left matching to the right one.
pub record IsRouteAnswer (texts : List (List ℕ)) (w : Written) (answer : List LineData) : Type 0 where
  pub left : List (ℕ × ℕ)
  pub right : List (ℕ × ℕ)
  pub given : AreGiven (Two w) texts left right
  pub left_stable : GiveStable w left
  pub right_stable : GiveStable w right
  pub first : Places
  pub rotations : List (List (ℕ × ℕ))
  pub needs : List (List ℕ)
  pub printed : IsPrintedChain (seat_market w) first rotations
  pub needed : AreNeeds (seat_market w) rotations needs
  pub steps : List Step
  pub route : AreStepsBetween w first rotations (places_in w left) (places_in w right) steps
  pub shows : answer ≡ route_lines w (places_in w left) (places_in w right) (shown_of (seating_of w) first rotations needs) steps
