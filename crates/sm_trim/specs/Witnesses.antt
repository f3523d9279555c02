-- Small instances in which both rules cut, and one in which a list stays, so that the definitions mean what they should.
use Rattle.std.specs.Prelude.{◌≡◌, ℕ, List, [], ◌∷◌, Option, Some, None, length}
use Rattle.sm_agents.specs.Written.{AgentData, Written, plain_written, row}
use Rattle.sm_agents.specs.declared.kinds.Kind.TheVariants.{Hospitals}
use Rattle.sm_instance.specs.Witnesses.{agent}
use Rattle.sm_instance.specs.Stable.{IsStable}
use Rattle.sm_trim.specs.Ends.{IsFirstChoice, MayReviewerEnd, MayProposerEnd}

-- residents a: h k, b: h k and c: h k; hospitals h of 1 place: a b c, and k of 1: a b c. So c is matched nowhere.
abbrev pub crowded : Written
crowded = plain_written Hospitals
    (agent 97 1 (0 ∷ 1 ∷ []) ∷ agent 98 1 (0 ∷ 1 ∷ []) ∷ agent 99 1 (0 ∷ 1 ∷ []) ∷ [])
    (agent 104 1 (0 ∷ 1 ∷ 2 ∷ []) ∷ agent 107 1 (0 ∷ 1 ∷ 2 ∷ []) ∷ [])
    [] [] []

-- h is a's first choice, so its list may end behind a, and not before
abbrev pub ReviewersListEnds : Type 0
ReviewersListEnds = IsFirstChoice crowded 0 0 × MayReviewerEnd crowded 0 1 × (¬ MayReviewerEnd crowded 0 0)

-- a is dearest to h, so its list may end behind h, and not before; b's rule says nothing of h, to which a is dearer
abbrev pub ProposersListEnds : Type 0
ProposersListEnds = MayProposerEnd crowded 0 1 × (¬ MayProposerEnd crowded 0 0) × (¬ MayProposerEnd crowded 1 1)

-- c is unmatched, and its list ends nowhere early
abbrev pub UnmatchedListStays : Type 0
UnmatchedListStays = ((end : ℕ) → ¬ MayProposerEnd crowded 2 end)
