-- The clauses on lists of rank vectors and on regrets.
use Rattle.std.specs.Prelude.{◌≡◌, ℕ, ◌-◌, ◌<◌, nat_le, if◌then◌else◌, List, length, map, Option, None, Some, IfSome, slice_index}
use Rattle.std.specs.List.{range_with_len}
use Rattle.sm_agents.specs.Written.{Written, row}
use Rattle.sm_instance.specs.Matching.{IsMatching}
use Rattle.sm_instance.specs.Stable.{IsStable}
use Rattle.sm_instance.specs.Allowed.{IsAllowed}
use Rattle.sm_instance.specs.Ranks.{rank_vector_of, regret_of, IsBefore, order_of}
use Rattle.sm_theory.specs.Listings.{IsBehind, end_of}
use Rattle.sm_report.specs.Lines.{LineData}
use Rattle.sm_check_clauses.specs.declared.verdicts.Reason.{Reason}
use Rattle.sm_check_clauses.specs.declared.verdicts.Reason.TheVariants as reason
use Rattle.sm_check_clauses.specs.Said.{pair_in, pairs_in, vectors_in, regret_in, first_said, IsEnd}
use Rattle.sm_holding.specs.Held.{places_in, CanFollow}

-- the places of ranks; none for the rank of being unmatched
abbrev pub place_of_rank : Written → List ℕ → ℕ → Option ℕ
place_of_rank w v p = let rank = slice_index v p in if nat_le rank (length (row w.proposers p)) then Some (rank - 1) else None

-- the places of all proposers by a vector of ranks
abbrev pub places_of_ranks : Written → List ℕ → List (Option ℕ)
places_of_ranks w v = map (place_of_rank w v) (range_with_len 0 (length w.proposers))

-- the vector is the rank vector of a matching
pub record IsVectorOfMatching (w : Written) (v : List ℕ) : Type 0 where
  pub matching : IsMatching w (places_of_ranks w v)
  pub ranks : rank_vector_of w (places_of_ranks w v) ≡ v

-- a vector behind so many others, of which this is the last, or else the cursor
abbrev pub VectorHolds : Written → (before : Option (List ℕ)) → (count limit : ℕ) → List ℕ → Reason → Type 0
VectorHolds w before count limit v reason.NotAMatching = IsVectorOfMatching w v
VectorHolds w before count limit v reason.Blocked = IsStable w (places_of_ranks w v)
VectorHolds w before count limit v reason.NotRising = IsBehind (IsBefore (order_of w)) before v
VectorHolds w before count limit v reason.NotAllowed = IsAllowed w (places_of_ranks w v)
VectorHolds w before count limit v reason.OverLimit = count < limit
VectorHolds w before count limit v _ = Unit {0}

-- the list is broken off behind as many vectors as the limit, and the last one is repeated
abbrev pub MoreHolds : (before : Option (List ℕ)) → (count limit : ℕ) → List ℕ → Reason → Type 0
MoreHolds before count limit v reason.WrongTail = (count ≡ limit) × (before ≡ Some v)
MoreHolds before count limit v _ = Unit {0}

-- `list`: at a line behind so many vectors, of which this is the last, or else the cursor
abbrev pub ListHolds : Written → (before : Option (List ℕ)) → (count limit : ℕ) → LineData → Reason → Type 0
ListHolds w before count limit (LineData.Vector v) why = VectorHolds w before count limit v why
ListHolds w before count limit (LineData.More v) why = MoreHolds before count limit v why
ListHolds w before count limit _ why = Unit {0}

-- the clauses of `list` by the vectors of the lines above
abbrev pub ListClauses : Written → Option (List ℕ) → ℕ → List LineData → LineData → Reason → Type 0
ListClauses w after limit above line why =
    ListHolds w (end_of after (vectors_in above)) (length (vectors_in above)) limit line why

-- `regret`: at a line behind these pairs, of whose matching the regret is said to be this one
abbrev pub RegretHolds : Written → (regret : ℕ) → List (ℕ × ℕ) → LineData → Reason → Type 0
RegretHolds w regret pairs line reason.NotAMatching = IfSome (pair_in line) (CanFollow w pairs)
RegretHolds w regret pairs line reason.Blocked = IsEnd line → IsStable w (places_in w pairs)
RegretHolds w regret pairs line reason.NotAllowed = IsEnd line → IsAllowed w (places_in w pairs)
RegretHolds w regret pairs line reason.WrongRegret = IsEnd line → regret ≡ regret_of w (places_in w pairs)
RegretHolds w regret pairs line _ = Unit {0}

-- the clauses of `regret` by the regret and the pairs of the lines above
abbrev pub RegretClauses : Written → List LineData → LineData → Reason → Type 0
RegretClauses w above line why = RegretHolds w (first_said 0 regret_in above) (pairs_in above) line why
