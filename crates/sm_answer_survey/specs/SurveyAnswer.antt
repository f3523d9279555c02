-- The answer of `survey`.
use Rattle.std.specs.Prelude.{◌≡◌, ℕ, Bool, List, [], ◌∷◌, ◌++◌, map, length, Option, None}
use Rattle.std.specs.List.{All}
use Rattle.sm_tally.specs.Fold.{Feed, Shown, all_after_feeds}
use Rattle.sm_agents.specs.Written.{Written}
use Rattle.sm_instance.specs.Stable.{IsStable}
use Rattle.sm_instance.specs.Allowed.{IsAllowed}
use Rattle.sm_instance.specs.Ranks.{IsBefore, rank_vector_of, regret_of, order_of}
use Rattle.sm_report.specs.Heads.{HeadData}
use Rattle.sm_report.specs.Lines.{LineData}
use Rattle.sm_theory.specs.Listings.{end_of, IsListing}
use Rattle.sm_seats.specs.Vectors.{IsAllowedRankVector}
use Rattle.sm_answer_list.specs.ListAnswer.{last_line}

-- what a tally is told of a stable matching that the conditions of the instance allow: its rank vector and its regret
-- (Gusfield and Irving 1989, section 3.4.1)
pub record IsFeedOf (w : Written) (feed : Feed) : Type 0 where
  pub places : List (Option ℕ)
  pub stable : IsStable w places
  pub allowed : IsAllowed w places
  pub vector : feed.vector ≡ rank_vector_of w places
  pub regret : feed.regret ≡ regret_of w places

-- the rank vectors of what a tally is told
abbrev pub vectors_of : List Feed → List (List ℕ)
vectors_of feeds = map (λ feed. feed.vector) feeds

-- the allowed stable matchings that are listed from the first one on, in the order of the instance and up to a limit,
-- each with its regret; and more is said to follow exactly where more follow (after Gusfield and Irving 1989, section 3.3)
pub record AreSurveyed (w : Written) (limit : ℕ) (feeds : List Feed) (more : Bool) : Type 0 where
  pub listing : IsListing (IsBefore (order_of w)) (IsAllowedRankVector w) None limit (vectors_of feeds) more
  pub each : All (IsFeedOf w) feeds

-- what a tally shows
abbrev pub tally_line : Shown → LineData
tally_line tally = LineData.TallyLine tally.tag tally.figures

-- how many matchings are listed, what each tally shows, and the last line
abbrev pub survey_lines : (limit listed : ℕ) → (tallies : List Shown) → (last : LineData) → List LineData
survey_lines limit listed tallies last =
    LineData.Answer (HeadData.Survey limit) ∷ LineData.Listed listed ∷ (map tally_line tallies ++ last ∷ [])

-- the lines are how many matchings are listed, what the tallies, which showed this before, show once they were told of each of
-- these in turn, and the end of the listing
pub record IsSurveyAnswer (shown : List Shown) (limit : ℕ) (w : Written) (answer : List LineData) : Type 0 where
  pub feeds : List Feed
  pub more : Bool
  pub surveyed : AreSurveyed w limit feeds more
  pub shows : answer ≡ survey_lines limit (length feeds) (all_after_feeds feeds shown) (last_line (end_of None (vectors_of feeds)) more)
