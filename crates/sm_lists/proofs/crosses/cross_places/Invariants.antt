use Rattle.std.proofs.Common.{◌≡◌, ℕ, ◌+◌, ◌<◌, ◌≤◌, None, [], length, get_or}
use Rattle.sm_lists.specs.Crosses.{AreCrossPlacesOf}
use Rattle.sm_lists.specs.Rows.{row, lists_in}
use Rattle.sm_lists.specs.Held.{held_in}
use Rattle.sm_lists.specs.Kept.{ArePlacesBefore}
use Rattle.sm_lists.proofs.crosses.cross_places.Given as goal

abbrev pub invariant-loop-b : goal.invariant-loop-b
invariant-loop-b g l = record {
  listed_rounds : l.listed.rounds ≡ l.b + 1;
  listed_long : length l.listed.places ≡ length l.rows;
  before : ArePlacesBefore (lists_in l.rows) (lists_in l.others) l.b (held_in g.C.KeptPlace.kept l.of_rows);
  back_each : length (held_in g.C.KeptPlace.kept l.of_others) ≡ length (lists_in l.others);
  back_long : (c : ℕ) → length (get_or (held_in g.C.KeptPlace.kept l.of_others) c []) ≡ length (row (lists_in l.others) c);
  back_of : (c : ℕ) → c < l.b → AreCrossPlacesOf (lists_in l.others) (lists_in l.rows) c (get_or (held_in g.C.KeptPlace.kept l.of_others) c []);
  back_none : (c k : ℕ) → l.b ≤ c → get_or (get_or (held_in g.C.KeptPlace.kept l.of_others) c []) k None ≡ None;
}
