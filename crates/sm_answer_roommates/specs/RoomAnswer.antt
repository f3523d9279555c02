-- The answer of `solve` for roommates.
use Rattle.std.specs.Prelude.{◌≡◌, ℕ, nat_lt, if◌then◌else◌, List, [], ◌∷◌, ◌++◌, length, Option, Some, None}
use Rattle.sm_answer.specs.Lines.{lines_from}
use Rattle.sm_agents.specs.Written.{AgentData, lists_of}
use Rattle.sm_lists.specs.Rows.{row}
use Rattle.sm_report.specs.Heads.{HeadData}
use Rattle.sm_report.specs.Lines.{LineData}
use Rattle.sm_theory.specs.Rooms.{mate_of, IsRoomStable}
use Rattle.sm_theory.specs.Partitions.{IsStablePartition, IsInOddParty}
use Rattle.sm_answer_roommates.specs.Parties.{AreParties}

-- the head, what is said of there being no stable matching, the lines that numbers below `count` have, and `end`
abbrev pub answer_lines : (none : List LineData) → (line : ℕ → Option LineData) → (count : ℕ) → List LineData
answer_lines none line count = LineData.Answer (HeadData.Solve None) ∷ (none ++ (lines_from line 0 count ++ LineData.End ∷ []))

-- the couple of a person whose mate has a higher number
abbrev pub couple_with : ℕ → Option ℕ → Option LineData
couple_with x None = None
couple_with x (Some y) = if nat_lt x y then Some (LineData.Pair x y) else None

-- the line of person x and its mate, if that has the higher number
abbrev pub couple_line : List (Option ℕ) → ℕ → Option LineData
couple_line mates x = couple_with x (mate_of mates x)

-- the couples of a matching, the lower-numbered person first, in the order of these
abbrev pub couple_lines : List (Option ℕ) → List LineData
couple_lines mates = answer_lines [] (couple_line mates) (length mates)

-- every party has a line
abbrev pub party_line : List (List ℕ) → ℕ → Option LineData
party_line parties k = Some (LineData.Party (row parties k))

-- there is no stable matching, and these are the parties that show it
abbrev pub party_lines : List (List ℕ) → List LineData
party_lines parties = answer_lines (LineData.Nothing ∷ []) (party_line parties) (length parties)

-- the parties of a stable partition of which one has an odd number of three or more members; so there is no stable matching
-- (Tan 1991)
pub record AreExcluding (rows parties : List (List ℕ)) : Type 0 where
  pub next : List ℕ
  pub partition : IsStablePartition rows next
  pub all : AreParties next parties
  pub member : ℕ
  pub odd : IsInOddParty rows next member
  pub none_stable : (mates : List (Option ℕ)) → ¬ IsRoomStable rows mates

-- the lines are the couples of a stable matching
pub record IsMatched (persons : List AgentData) (answer : List LineData) : Type 0 where
  pub mates : List (Option ℕ)
  pub stable : IsRoomStable (lists_of persons) mates
  pub shows : answer ≡ couple_lines mates

-- the lines say that there is no stable matching, and show why
pub record IsUnmatchable (persons : List AgentData) (answer : List LineData) : Type 0 where
  pub parties : List (List ℕ)
  pub excluding : AreExcluding (lists_of persons) parties
  pub shows : answer ≡ party_lines parties
