-- The answer of `rest`.
use Rattle.std.specs.Prelude.{◌≡◌, ℕ, ◌<◌, List, [], ◌∷◌, ◌++◌, Contains, Option, None, Some, length, slice_index}
use Rattle.sm_answer.specs.Lines.{lines_from}
use Rattle.sm_agents.specs.Written.{AgentData, lists_of}
use Rattle.sm_report.specs.Heads.{HeadData}
use Rattle.sm_report.specs.Lines.{LineData}
use Rattle.sm_theory.specs.Rooms.{mate_of, IsRoomMatching, RoomBlocks}
use Rattle.sm_theory.specs.Partitions.{IsStablePartition, IsLowestOfOdd}
use Rattle.sm_answer_roommates.specs.RoomAnswer.{couple_line}

-- the lowest members of the odd parties of three or more, rising (Tan 1991)
pub record AreLeftOut (rows : List (List ℕ)) (next out : List ℕ) : Type 0 where
  pub rising : (i j : ℕ) → i < j → j < length out → slice_index out i < slice_index out j
  pub each : (i : ℕ) → i < length out → IsLowestOfOdd rows next (slice_index out i)
  pub all : (x : ℕ) → IsLowestOfOdd rows next x → Contains out x

-- a matching of the others, which no two of them block
pub record IsRestMatching (rows : List (List ℕ)) (next : List ℕ) (mates : List (Option ℕ)) : Type 0 where
  pub matching : IsRoomMatching rows mates
  pub alone : (x : ℕ) → IsLowestOfOdd rows next x → mate_of mates x ≡ None
  pub unblocked : (x y : ℕ) → ¬ IsLowestOfOdd rows next x → ¬ IsLowestOfOdd rows next y → ¬ RoomBlocks rows mates x y

-- of a stable partition those who are left out, and a matching of the others
pub record IsRestOf (rows : List (List ℕ)) (out : List ℕ) (mates : List (Option ℕ)) : Type 0 where
  pub next : List ℕ
  pub partition : IsStablePartition rows next
  pub left_out : AreLeftOut rows next out
  pub rest : IsRestMatching rows next mates

-- everybody who is left out has a line
abbrev pub out_line : List ℕ → ℕ → Option LineData
out_line out k = Some (LineData.Out (slice_index out k))

-- the head, those who are left out, the couples of the others, the lower-numbered person first, and `end`
abbrev pub rest_lines : List ℕ → List (Option ℕ) → List LineData
rest_lines out mates = LineData.Answer HeadData.Rest
    ∷ (lines_from (out_line out) 0 (length out) ++ (lines_from (couple_line mates) 0 (length mates) ++ LineData.End ∷ []))

-- the lines are those of a right answer
pub record IsRest (persons : List AgentData) (answer : List LineData) : Type 0 where
  pub out : List ℕ
  pub mates : List (Option ℕ)
  pub found : IsRestOf (lists_of persons) out mates
  pub shows : answer ≡ rest_lines out mates
