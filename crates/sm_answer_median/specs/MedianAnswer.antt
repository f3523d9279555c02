-- The answer of `median`.
use Rattle.std.specs.Prelude.{◌≡◌, ℕ, ◌<◌, true, false, List, [], ◌∷◌, ◌++◌, length, Option, None}
use Rattle.sm_answer.specs.Lines.{lines_from}
use Rattle.sm_answer.specs.MatchingLines.{pair_line}
use Rattle.sm_agents.specs.Written.{Written}
use Rattle.sm_instance.specs.Stable.{IsStable}
use Rattle.sm_instance.specs.Allowed.{IsAllowed}
use Rattle.sm_instance.specs.Ranks.{IsBefore, rank_vector_of, order_of}
use Rattle.sm_report.specs.Heads.{HeadData}
use Rattle.sm_report.specs.Lines.{LineData}
use Rattle.sm_theory.specs.Listings.{IsListing}
use Rattle.sm_theory.specs.Medians.{IsMedianVector}
use Rattle.sm_seats.specs.Vectors.{IsAllowedRankVector}

-- the median of at most so many stable matchings is looked for
abbrev pub most_listed : ℕ
most_listed = 100000

-- the rank vectors of all allowed stable matchings, each once: a listing from the first one on, behind which no more follow
abbrev pub AreAllListed : Written → List (List ℕ) → Type 0
AreAllListed w vectors = IsListing (IsBefore (order_of w)) (IsAllowedRankVector w) None most_listed vectors false

-- the allowed stable matching that gives each proposer the partner in the middle when its partners in all allowed stable
-- matchings stand best first with repeats (Teo and Sethuraman 1998)
pub record IsMedianOfAllowed (w : Written) (vectors : List (List ℕ)) (places : List (Option ℕ)) : Type 0 where
  pub all : AreAllListed w vectors
  pub some : 0 < length vectors
  pub stable : IsStable w places
  pub allowed : IsAllowed w places
  pub median : IsMedianVector (length w.proposers) vectors (rank_vector_of w places)

-- how many stable matchings are allowed, and the pairs of their median
abbrev pub median_lines : Written → ℕ → List (Option ℕ) → List LineData
median_lines w listed places =
    LineData.Answer HeadData.Median ∷ LineData.Listed listed ∷ (lines_from (pair_line w places) 0 (length w.proposers) ++ LineData.End ∷ [])

-- the lines are those of the median of the allowed stable matchings
pub record IsMedianAnswer (w : Written) (answer : List LineData) : Type 0 where
  pub vectors : List (List ℕ)
  pub places : List (Option ℕ)
  pub median : IsMedianOfAllowed w vectors places
  pub shows : answer ≡ median_lines w (length vectors) places

-- more stable matchings are allowed than a median is looked for of: behind as many of them as that, more follow
pub record AreTooMany (w : Written) : Type 0 where
  pub vectors : List (List ℕ)
  pub cut : IsListing (IsBefore (order_of w)) (IsAllowedRankVector w) None most_listed vectors true
