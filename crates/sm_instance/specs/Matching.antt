-- Assignments and matchings of an instance, as the place that each proposer holds on its written list.
use Rattle.std.specs.Prelude.{◌≡◌, ℕ, ◌<◌, ◌≤◌, ◌==◌, ◌⊎◌, Bool, false, if◌then◌else◌, List, length, map, sum, slice_index_or, Option, Some, None, unwrap_or}
use Rattle.std.specs.List.{range_with_len}
use Rattle.sm_agents.specs.Written.{Written, row, entry, capacity_of, IsAcceptable}

-- the place that a proposer holds, if it is matched
abbrev pub held : List (Option ℕ) → ℕ → Option ℕ
held places p = slice_index_or places p None

-- how a proposer stands: the place that it holds, or one past its list where it is unmatched. Lower is better.
abbrev pub standing : Written → List (Option ℕ) → ℕ → ℕ
standing w places p = unwrap_or (held places p) (length (row w.proposers p))

-- one item for each proposer, and each place is on its list
pub record IsAssignment (w : Written) (places : List (Option ℕ)) : Type 0 where
  pub one_each : length places ≡ length w.proposers
  pub on_lists : (p i : ℕ) → held places p ≡ Some i → i < length (row w.proposers p)

-- whether a proposer that holds this place has the reviewer r
abbrev pub leads_to : Written → ℕ → ℕ → Option ℕ → Bool
leads_to w p r None = false
leads_to w p r (Some i) = entry w.proposers p i == r

-- whether p is at r
abbrev pub is_at : Written → List (Option ℕ) → ℕ → ℕ → Bool
is_at w places p r = leads_to w p r (held places p)

-- how many of the proposers below k are at r, and how many of all are
abbrev pub load_before : Written → List (Option ℕ) → ℕ → ℕ → ℕ
load_before w places k r = sum (map (λ q. if is_at w places q r then 1 else 0) (range_with_len 0 k))

-- how many of all proposers are at r
abbrev pub load : Written → List (Option ℕ) → ℕ → ℕ
load w places r = load_before w places (length w.proposers) r

-- a matching: each proposer has nobody, or a reviewer that is acceptable to it, and no reviewer has more proposers than
-- its capacity (Manlove 2013, section 3.2; for capacities of 1 Gusfield and Irving 1989, section 1.1)
pub record IsMatching (w : Written) (places : List (Option ℕ)) : Type 0 where
  pub assigned : IsAssignment w places
  pub acceptable : (p i : ℕ) → held places p ≡ Some i → IsAcceptable w p (entry w.proposers p i)
  pub within : (r : ℕ) → load w places r ≤ capacity_of w.reviewers r

-- p can't be at the reviewer whose place it holds: the pair isn't acceptable, or earlier proposers fill the reviewer
pub record IsBreach (w : Written) (places : List (Option ℕ)) (p : ℕ) : Type 0 where
  pub at : ℕ
  pub holds : held places p ≡ Some at
  pub cause : let r = entry w.proposers p at in (¬ IsAcceptable w p r) ⊎ (capacity_of w.reviewers r ≤ load_before w places p r)

-- p is the first proposer that can't be where it is
pub record IsFirstBreach (w : Written) (places : List (Option ℕ)) (p : ℕ) : Type 0 where
  pub breach : IsBreach w places p
  pub earlier_proposers : (q : ℕ) → q < p → ¬ IsBreach w places q
