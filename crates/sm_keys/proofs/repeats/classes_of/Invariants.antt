use Rattle.std.proofs.Common.{◌≡◌, ◌≤◌, length, map, take}
use Rattle.std.specs.Prelude.{vec_len, vec_capacity}
use Rattle.sm_text.specs.Slices.{texts_of}
use Rattle.sm_keys.specs.Repeats.{class_in}
use Rattle.sm_keys.proofs.repeats.classes_of.Given as goal

-- the names so far have their classes, and there is room for the others
abbrev pub invariant-names : goal.invariant-names
invariant-names l = record {
  each : l.classes.items ≡ map (class_in l.start l.count) (take l.place (texts_of l.names));
  place : vec_len l.classes ≡ l.place;
  room : length l.names ≤ vec_capacity l.classes;
}
