-- The lines of numbers.
use Rattle.std.specs.Prelude.{ℕ, List, [], ◌∷◌, Option, Some, None}
use Rattle.std.specs.List.{flat_map, range_with_len}
use Rattle.std.specs.Option.{option_map}
use Rattle.sm_report.specs.Lines.{LineData, line_of}
use Rattle.sm_report.specs.declared.lines.Line.{Line}

-- the lines that numbers have, of which some have none: those of n numbers from a on
abbrev pub line_or_none : Option LineData → List LineData
line_or_none None = []
line_or_none (Some line) = line ∷ []

-- the lines of n numbers from a on, of which some have none
abbrev pub lines_from : (ℕ → Option LineData) → (a n : ℕ) → List LineData
lines_from line a n = flat_map (λ i. line_or_none (line i)) (range_with_len a n)

-- a line that isn't given yet, if it isn't
abbrev pub line_left : Option Line → List LineData
line_left line = line_or_none (option_map line_of line)
