use Rattle.std.proofs.Common.{◌≡◌, ◌<◌, ◌≤◌, ◌-◌, ℕ, List, length, map, false, take, get_or}
use Rattle.indexmap.specs.IndexSet.{keys}
use Rattle.sm_text.specs.Slices.{texts_of}
use Rattle.sm_keys.specs.Keys.{spellings}
use Rattle.sm_keys.specs.Tables.{has_repeated}
use Rattle.sm_keys.specs.Repeats.{of_class}
use Rattle.sm_keys.proofs.repeats.is_repeated_in.Given as goal

-- the names of the class so far, which differ, and the place of the next one
abbrev pub invariant-names : goal.invariant-names
invariant-names l = record {
  seen : (class_of : List ℕ → ℕ) → l.classes ≡ map class_of (texts_of l.names) → spellings (keys l.seen) ≡ of_class class_of l.class (take l.place (texts_of l.names));
  differ : has_repeated (spellings (keys l.seen)) ≡ false;
  within : l.place ≤ length l.classes;
  there : l.place < length l.classes → get_or l.classes l.place 0 ≡ l.class;
}

abbrev pub decreases-names : goal.decreases-names
decreases-names l = length l.classes - l.place
