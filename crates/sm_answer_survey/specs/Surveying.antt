-- How a survey comes about.
use Rattle.std.specs.Prelude.{◌≡◌, ℕ, ◌<◌, ◌≤◌, Bool, List, [], length, Vec, Option}
use Rattle.std.specs.List.{All}
use Rattle.std.specs.declared.alloc.Global.{Global}
use Rattle.sm_tally.specs.Fold.{Feed, Shown, all_after_feed, all_after_feeds}
use Rattle.sm_agents.specs.Written.{Written}
use Rattle.sm_lister.specs.Listers.{Lister, IsAtEnd}
use Rattle.sm_lister.specs.Rests.{IsListingOf}
use Rattle.sm_answer_list.specs.Started.{cursor_in}
use Rattle.sm_answer_list.specs.Underway.{AreListedSoFar}
use Rattle.sm_answer_survey.specs.SurveyAnswer.{IsFeedOf, vectors_of}
use Rattle.sm_answer_survey.specs.Surveys.{last_vector}

-- the tallies are told of the matching of a rank vector
pub record IsFed (w : Written) (v : List ℕ) (before after : List Shown) : Type 0 where
  pub feed : Feed
  pub is : IsFeedOf w feed
  pub vector : feed.vector ≡ v
  pub fed : after ≡ all_after_feed feed before

-- the tallies were told of so many matchings, whose vectors the lister listed
pub record IsUnderway (w : Written) (t : Lister) (listed : ℕ) (before after : List Shown) : Type 0 where
  pub feeds : List Feed
  pub vectors : AreListedSoFar w t (vectors_of feeds)
  pub each : All (IsFeedOf w) feeds
  pub fed : after ≡ all_after_feeds feeds before
  pub count : listed ≡ length feeds

-- as many as the limit, or all that there are
pub record AreTold (w : Written) (limit : ℕ) (t : Lister) (listed : ℕ) (before after : List Shown) : Type 0 where
  pub underway : IsUnderway w t listed before after
  pub within : listed ≤ limit
  pub all : listed < limit → IsAtEnd t

-- the last vector of a lister, where another one follows it
pub record IsLastVector (s : Lister) (last : Option (Vec ℕ Global)) : Type 0 where
  pub more : Bool
  pub listing : IsListingOf s s.cursor 0 [] more
  pub is : cursor_in last ≡ last_vector s.cursor more
