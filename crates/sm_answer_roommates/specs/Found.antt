-- What `find_roommates` finds.
use Rattle.std.specs.Prelude.{ℕ, List}
use Rattle.sm_lists.specs.Rows.{rows_of}
use Rattle.sm_theory.specs.Rooms.{IsRoomStable}
use Rattle.sm_answer_roommates.specs.RoomAnswer.{AreExcluding}
use Rattle.sm_answer_roommates.specs.declared.solution.RoomSolution.{RoomSolution}
use Rattle.sm_answer_roommates.specs.declared.solution.RoomSolution.TheVariants.{Matching, Parties}

-- a stable matching, or parties that exclude one
abbrev pub IsFoundIn : List (List ℕ) → RoomSolution → Type 0
IsFoundIn rows (Matching mates) = IsRoomStable rows mates.items
IsFoundIn rows (Parties parties) = AreExcluding rows (rows_of parties.items)
