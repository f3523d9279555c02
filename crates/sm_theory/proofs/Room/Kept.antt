-- What is kept of roommates' lists is what their cross places say.
use Rattle.std.proofs.Common.{◌≡◌, ℕ, List, [], length, map, sym, ap, ◌∙◌, arith, ⊎_elim}
use Rattle.std.proofs.lemmas.Bool.{cases_lt}
use Rattle.std.proofs.lemmas.List.{length-map, get_or_past}
use Rattle.sm_lists.specs.Rows.{row}
use Rattle.sm_lists.specs.Limits.{AreWithinLimits}
use Rattle.sm_lists.specs.Crosses.{AreCrossPlaces}
use Rattle.sm_lists.specs.Held.{held_in, place_in}
use Rattle.sm_lists.proofs.RowLemmas.{row_in_range}
use Rattle.sm_market.proofs.WalkLemmas.{cross_at, crosses_read}
use Rattle.sm_theory.specs.Rooms.{AreRoomLists}
use Rattle.sm_theory.specs.RoomsKept.{AreRoomsKept}

-- cross places of sound lists, as they are kept
pub rooms_kept : {rows : List (List ℕ)} (crosses : List (List ℕ)) → AreRoomLists rows → AreWithinLimits rows → AreCrossPlaces rows rows (held_in place_in crosses)
    → AreRoomsKept rows crosses
rooms_kept {rows} crosses lists limits c =
    let long : length crosses ≡ length rows = sym (length-map crosses (map place_in)) ∙ c.one_each in
    record {
      lists = lists;
      limits = limits;
      one_each = long;
      as_long = λ x. ⊎_elim
          (λ inside. sym (length-map (row crosses x) place_in) ∙ (crosses_read crosses x c inside).as_long)
          (λ past. ap length (get_or_past crosses x [] (omega arith)) ∙ sym (ap length (get_or_past rows x [] past)))
          (cases_lt x (length rows));
      places = λ x i on. cross_at (row crosses x) (crosses_read crosses x c (row_in_range rows x i on)) i on;
    }
