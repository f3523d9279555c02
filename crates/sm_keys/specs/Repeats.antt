-- Names by classes.
use Rattle.std.specs.Prelude.{◌≡◌, ℕ, ◌<◌, ◌==◌, ◌%◌, List, map, filter}
use Rattle.std.specs.Hash.DefaultHasher.{write, finish}
use Rattle.std.specs.declared.hash.DefaultHasher.{DefaultHasher}

-- the class of a name, one of so many, by the hash that it has where a hasher starts so
abbrev pub class_in : DefaultHasher → ℕ → List ℕ → ℕ
class_in start count name = finish (write start name) % count

-- those of the names that are of a class
abbrev pub of_class : (List ℕ → ℕ) → ℕ → List (List ℕ) → List (List ℕ)
of_class class_of class names = filter (λ name. class_of name == class) names

-- each name has a class, one of so many, which its bytes alone decide
pub record HaveClasses (names : List (List ℕ)) (classes : List ℕ) (count : ℕ) : Type 0 where
  pub class_of : List ℕ → ℕ
  pub each : classes ≡ map class_of names
  pub few : (name : List ℕ) → class_of name < count
