-- The clauses on matchings that an answer writes by pairs of a proposer and a reviewer.
use Rattle.std.specs.Prelude.{◌≡◌, ℕ, List, Option, None, Some, IsSome, IfSome}
use Rattle.sm_agents.specs.Written.{Written, place_of}
use Rattle.sm_instance.specs.Matching.{held}
use Rattle.sm_instance.specs.Stable.{IsStable, IsBestOf}
use Rattle.sm_agents.specs.declared.kinds.Side.{Side}
use Rattle.sm_theory.specs.declared.choice.Choice.{Choice}
use Rattle.sm_report.specs.Lines.{LineData}
use Rattle.sm_holding.specs.Held.{partner_in, places_in, CanFollow}
use Rattle.sm_holding.specs.Chosen.{chosen_places}
use Rattle.sm_check_clauses.specs.declared.verdicts.Reason.{Reason}
use Rattle.sm_check_clauses.specs.declared.verdicts.Reason.TheVariants as reason
use Rattle.sm_check_clauses.specs.Said.{pair_in, left_in, right_in, IsEnd}

-- `solve`: at a line behind these pairs
abbrev pub SolveHolds : Written → Side → List (ℕ × ℕ) → LineData → Reason → Type 0
SolveHolds w side pairs line reason.NotAMatching = IfSome (pair_in line) (CanFollow w pairs)
SolveHolds w side pairs line reason.Blocked = IsEnd line → IsStable w (places_in w pairs)
SolveHolds w side pairs line reason.NotBest = IsEnd line → IsBestOf side w (places_in w pairs)
SolveHolds w side pairs line _ = Unit {0}

-- the two matchings of `meet` and `join`, at a line behind these pairs of each
abbrev pub GivenHold : Written → (lefts rights : List (ℕ × ℕ)) → LineData → Reason → Type 0
GivenHold w lefts rights line reason.NotAMatching =
    IfSome (left_in line) (CanFollow w lefts) × IfSome (right_in line) (CanFollow w rights)
GivenHold w lefts rights line reason.Blocked = IsEnd line → IsStable w (places_in w lefts) × IsStable w (places_in w rights)
GivenHold w lefts rights line _ = Unit {0}

-- a pair is one of the matching that is wanted, and its proposer isn't in one before
pub record IsWanted (w : Written) (wanted : List (Option ℕ)) (before : List (ℕ × ℕ)) (pair : ℕ × ℕ) : Type 0 where
  pub in_matching : held wanted pair.0 ≡ Some (place_of w.proposers pair.0 pair.1)
  pub once : partner_in before pair.0 ≡ None

-- each proposer that is matched stands in a pair
abbrev pub AreAllThere : List (Option ℕ) → List (ℕ × ℕ) → Type 0
AreAllThere wanted pairs = (p : ℕ) → IsSome (held wanted p) → IsSome (partner_in pairs p)

-- the pairs are those of the matching that is wanted: each stands once, and none is missing
abbrev pub WantedHold : Written → List (Option ℕ) → List (ℕ × ℕ) → LineData → Reason → Type 0
WantedHold w wanted pairs line reason.WrongPair =
    IfSome (pair_in line) (IsWanted w wanted pairs) × (IsEnd line → AreAllThere wanted pairs)
WantedHold w wanted pairs line _ = Unit {0}

-- `meet` and `join`
abbrev pub ChosenHold : Choice → Written → (lefts rights pairs : List (ℕ × ℕ)) → LineData → Reason → Type 0
ChosenHold choice w lefts rights pairs line why =
    GivenHold w lefts rights line why
    × WantedHold w (chosen_places choice w (places_in w lefts) (places_in w rights)) pairs line why
