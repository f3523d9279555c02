-- The answer of `list` for roommates.
use Rattle.std.specs.Prelude.{ℕ, List, length, Option}
use Rattle.sm_lists.specs.Rows.{agents}
use Rattle.sm_agents.specs.Written.{AgentData, lists_of}
use Rattle.sm_report.specs.Lines.{LineData}
use Rattle.sm_room_list.specs.RoomVectors.{IsRoomVector}
use Rattle.sm_answer_vectors.specs.VectorAnswer.{IsCursor, IsVectorAnswer}

-- the lines are the rank vectors of a listing of the stable matchings, in the order of the file's persons, and its end
pub record IsRoomListAnswer (after : Option (List ℕ)) (limit : ℕ) (persons : List AgentData) (answer : List LineData) : Type 0 where
  pub cursor : IsCursor (length persons) after
  pub listed : IsVectorAnswer (agents (lists_of persons)) (IsRoomVector (lists_of persons)) after limit answer
