-- Blocking pairs, stable matchings, and the best of these for each side.
use Rattle.std.specs.Prelude.{ℕ, ◌<◌, ◌≤◌, length}
use Rattle.sm_market.specs.Lists.{Lists, row, entry, place_of}
use Rattle.sm_market.specs.Matching.{Places, IsMatching, standing}

-- p and the reviewer r at place i of p's list block a matching: each of the two would rather have the other than
-- stay as it stands (Gusfield and Irving 1989, section 1.1.1; Manlove 2013, section 2.2)
pub record Blocks (l : Lists) (m : Places) (p i : ℕ) : Type 0 where
  pub on_list : i < length (row l.proposers p)
  pub proposer_gains : i < standing l.proposers m.proposers p
  pub reviewer_gains : let r = entry l.proposers p i in place_of l.reviewers r p < standing l.reviewers m.reviewers r

-- a stable matching: no pair blocks it
pub record IsStable (l : Lists) (m : Places) : Type 0 where
  pub matching : IsMatching l m
  pub unblocked : (p i : ℕ) → ¬ Blocks l m p i

-- the stable matching in which every proposer stands as well as in any stable matching
-- (Gale and Shapley 1962; Gusfield and Irving 1989, theorem 1.2.2)
pub record IsProposersBest (l : Lists) (m : Places) : Type 0 where
  pub stable : IsStable l m
  pub best : (n : Places) → IsStable l n → (p : ℕ) → standing l.proposers m.proposers p ≤ standing l.proposers n.proposers p

-- the stable matching in which every proposer stands as badly as in any stable matching. That every reviewer then
-- stands as well as in any is a theorem, `ReviewersBestIsBest` of Laws (Gusfield and Irving 1989, theorem 1.2.3).
pub record IsReviewersBest (l : Lists) (m : Places) : Type 0 where
  pub stable : IsStable l m
  pub worst : (n : Places) → IsStable l n → (p : ℕ) → standing l.proposers n.proposers p ≤ standing l.proposers m.proposers p
