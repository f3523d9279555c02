-- Rounds in which lists are cut, and how many there are.
use Rattle.std.specs.Prelude.{◌≡◌, ◌⊎◌, ℕ, zero, suc, ◌<◌, ◌≤◌, length}
use Rattle.sm_agents.specs.Written.{Written, row}
use Rattle.sm_trim.specs.Cuts.{IsCut}
use Rattle.sm_trim.specs.Ends.{MayReviewerEnd, MayProposerEnd, IsSettled, DoReviewersEnd, DoProposersEnd}

-- there are no more rounds than these
abbrev pub most_rounds : ℕ
most_rounds = 1000

-- the list of each reviewer ends at the first place where it may
pub record AreReviewersEnded (w t : Written) : Type 0 where
  pub cut : IsCut w t
  pub ends : DoReviewersEnd w t
  pub first : (r end : ℕ) → end < length (row t.reviewers r) → ¬ MayReviewerEnd w r end

-- the list of each proposer ends at the first place where it may
pub record AreProposersEnded (w t : Written) : Type 0 where
  pub cut : IsCut w t
  pub ends : DoProposersEnd w t
  pub first : (p end : ℕ) → end < length (row t.proposers p) → ¬ MayProposerEnd w p end

-- a round cuts the lists of the reviewers, and then those of the proposers
pub record IsRound (w t : Written) : Type 0 where
  pub between : Written
  pub reviewers : AreReviewersEnded w between
  pub proposers : AreProposersEnded between t

-- t is w after so many rounds
abbrev pub IsAfterRounds : ℕ → Written → Written → Type 0
IsAfterRounds zero w t = t ≡ w
IsAfterRounds (suc n) w t = (u : Written) × IsAfterRounds n w u × IsRound u t

-- rounds go on until neither rule ends a list earlier, or there were as many as there may be
pub record IsCutFar (w t : Written) : Type 0 where
  pub rounds : ℕ
  pub after : IsAfterRounds rounds w t
  pub few : rounds ≤ most_rounds
  pub over : IsSettled t ⊎ (rounds ≡ most_rounds)
