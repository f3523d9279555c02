-- The answer of `list` for roommates, by what a lister gives.
use Rattle.std.proofs.Common.{◌≡◌, ℕ, List, Option, length, sym, ap, ◌∙◌, subst, arith}
use Rattle.std.specs.List.{All}
use Rattle.std.proofs.lemmas.List.{length-map}
use Rattle.std.proofs.lemmas.List.Elements.{All-from_get_or}
use Rattle.sm_answer.specs.Printing.{IsShown}
use Rattle.sm_lists.specs.Rows.{agents}
use Rattle.sm_lists.specs.Limits.{AreWithinLimits}
use Rattle.sm_lists.proofs.RowLemmas.{row_fits}
use Rattle.sm_agents.specs.Written.{AgentData, lists_of}
use Rattle.sm_agents.specs.Sound.{ArePersons}
use Rattle.sm_instance.specs.declared.inputs.Input.{Input}
use Rattle.sm_report.specs.Sound.{IsSmall}
use Rattle.sm_room_list.specs.RoomVectors.{IsRoomVector}
use Rattle.sm_room_list.specs.RoomListers.{RoomLister, IsRoomStarted}
use Rattle.sm_room_list.proofs.NextLemmas.{room_rank_within}
use Rattle.sm_answer_vectors.specs.Stepping.{AreSameVectors}
use Rattle.sm_answer_vectors.specs.VectorAnswer.{IsCursor, IsVectorAnswer}
use Rattle.sm_answer_roommates.specs.RoomListAnswer.{IsRoomListAnswer}
use Rattle.sm_answer_roommates.proofs.PersonLemmas.{persons_within}

-- the same lists have the same vectors
pub same_vectors : {rows then : List (List ℕ)} → then ≡ rows → AreSameVectors (agents rows) (agents then) (IsRoomVector rows) (IsRoomVector then)
same_vectors {rows} {then} e = record { same_order = ap (λ (r : List (List ℕ)). agents r) e; vectors = λ v. (subst (λ r. IsRoomVector r v) e, subst (λ r. IsRoomVector r v) (sym e)) }

-- there are as many persons as lists
pub one_list_each : {rows : List (List ℕ)} (persons : List AgentData) → rows ≡ lists_of persons → length persons ≡ length rows
one_list_each persons e = sym (ap (λ (r : List (List ℕ)). length r) e ∙ length-map persons (λ (person : AgentData). person.entries))

-- rank vectors have numbers of 32 bits
room_small : {rows : List (List ℕ)} → AreWithinLimits rows → (v : List ℕ) → IsRoomVector rows v → All IsSmall v
room_small {rows} within v one = All-from_get_or IsSmall v 0 (λ x l. omega (arith, room_rank_within one x l, row_fits within x))

-- so those of a lister of persons have
pub lister_small : {persons : List AgentData} {after : Option (List ℕ)} {s : RoomLister} → ArePersons persons → IsRoomStarted (lists_of persons) after s → (v : List ℕ) → IsRoomVector s.rows v → All IsSmall v
lister_small h started v one = room_small (subst AreWithinLimits (sym started.rows_are) (persons_within h)) v one

-- what is shown of a lister of persons is a right answer
pub room_list_shown : {persons : List AgentData} {after : Option (List ℕ)} {s : RoomLister} (input : Input) (limit : ℕ) → IsCursor (length persons) after → IsRoomStarted (lists_of persons) after s
    → (lines : List (List ℕ)) → IsShown input (IsVectorAnswer (agents s.rows) (IsRoomVector s.rows) after limit) lines → IsShown input (IsRoomListAnswer after limit persons) lines
room_list_shown {persons} {after} {s} input limit fits started lines x = record {
  answer = x.answer;
  is_right = record { cursor = fits; listed = subst (λ r. IsVectorAnswer (agents r) (IsRoomVector r) after limit x.answer) started.rows_are x.is_right };
  shows = x.shows;
}
