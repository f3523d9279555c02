use Rattle.std.proofs.Common.{◌≡◌, ◌<◌, ℕ, List, map, false}
use Rattle.sm_text.specs.Slices.{texts_of}
use Rattle.sm_keys.specs.Tables.{has_repeated}
use Rattle.sm_keys.specs.Repeats.{of_class}
use Rattle.sm_keys.proofs.repeats.is_repeated_by_class.Given as goal

-- the names of each class so far differ
abbrev pub invariant-classes : goal.invariant-classes
invariant-classes l = (class_of : List ℕ → ℕ) → l.classes ≡ map class_of (texts_of l.names)
    → (class : ℕ) → class < l.class → has_repeated (of_class class_of class (texts_of l.names)) ≡ false
