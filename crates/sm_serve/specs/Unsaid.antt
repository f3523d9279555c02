-- One line, until it is said.
use Rattle.std.specs.Prelude.{ℕ, Bool, true, false, List, [], ◌∷◌}

-- the line that is left, until it is said
abbrev pub lines_unsaid : Bool → List ℕ → List (List ℕ)
lines_unsaid false line = line ∷ []
lines_unsaid true line = []

-- how many lines are left at most
abbrev pub most_unsaid : Bool → ℕ
most_unsaid false = 1
most_unsaid true = 0
