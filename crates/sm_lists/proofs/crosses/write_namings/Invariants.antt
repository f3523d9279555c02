use Rattle.std.proofs.Common.{◌≡◌, ℕ, ◌<◌, List, [], None, length, map, get_or}
use Rattle.sm_lists.specs.Rows.{row, place_on}
use Rattle.sm_lists.specs.Crosses.{cross_place}
use Rattle.sm_lists.specs.Namings.{naming_at, AreNamingsOf}
use Rattle.sm_lists.specs.Held.{held_in}
use Rattle.sm_lists.specs.Kept.{noted_of, ArePlacesBefore, AreKeptBut}
use Rattle.sm_lists.proofs.CrossLemmas.{AreWritten}
use Rattle.sm_lists.proofs.FirstLemmas.{AreFirst}
use Rattle.sm_lists.proofs.BackLemmas.{IsLast}
use Rattle.sm_lists.proofs.crosses.write_namings.Given as goal

abbrev pub invariant-loop-naming : goal.invariant-loop-naming
invariant-loop-naming g l = record {
  last : IsLast (map g.N.KeptNaming.kept l.namings) l.naming-index l.last;
  one_each : length l.of_rows ≡ length l.fn.of_rows;
  as_long : (a : ℕ) → length (get_or (held_in g.C.KeptPlace.kept l.of_rows) a []) ≡ length (get_or (held_in g.C.KeptPlace.kept l.fn.of_rows) a []);
  written : (rows others : List (List ℕ)) → AreNamingsOf rows (length rows) 0 l.b (map g.N.KeptNaming.kept l.namings)
      → ((a : ℕ) → a < length rows → noted_of l.listed.places a ≡ cross_place others l.b a)
      → ArePlacesBefore rows others l.b (held_in g.C.KeptPlace.kept l.fn.of_rows)
      → AreWritten rows others l.b (map g.N.KeptNaming.kept l.namings) l.naming-index (held_in g.C.KeptPlace.kept l.of_rows);
  kept : AreKeptBut l.b (held_in g.C.KeptPlace.kept l.fn.of_others) (held_in g.C.KeptPlace.kept l.of_others);
  first : (rows others : List (List ℕ)) → AreNamingsOf rows (length rows) 0 l.b (map g.N.KeptNaming.kept l.namings)
      → ((a : ℕ) → a < length rows → noted_of l.listed.places a ≡ cross_place others l.b a)
      → length (get_or (held_in g.C.KeptPlace.kept l.fn.of_others) l.b []) ≡ length (row others l.b)
      → ((k : ℕ) → get_or (get_or (held_in g.C.KeptPlace.kept l.fn.of_others) l.b []) k None ≡ None)
      → AreFirst (λ e. place_on (row others l.b) (naming_at (map g.N.KeptNaming.kept l.namings) e).by) (λ e. (naming_at (map g.N.KeptNaming.kept l.namings) e).place) l.naming-index
      (get_or (held_in g.C.KeptPlace.kept l.of_others) l.b []);
}
