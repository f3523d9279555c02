-- How places and namings are held.
use Rattle.std.specs.Prelude.{ℕ, ◌≤◌, ◌==◌, List, Option, Some, None, length, map, if◌then◌else◌}
use Rattle.sm_lists.specs.Rows.{row}

-- what the items of some lists stand for
abbrev pub held_in : {X Y : Type 0} → (X → Y) → List (List X) → List (List Y)
held_in f lists = map (map f) lists

-- the place that a number of four bytes stands for: itself, and none where it is the greatest
abbrev pub place_in : ℕ → Option ℕ
place_in n = if n == 4294967295 then None else Some n

-- at most so many agents have lists, and none of these has more entries
pub record AreShort (rows : List (List ℕ)) (most : ℕ) : Type 0 where
  pub agents : length rows ≤ most
  pub lists : (a : ℕ) → length (row rows a) ≤ most
