use Rattle.std.proofs.Common.{◌≡◌, ◌++◌, length, option_map}
use Rattle.std.specs.List.{slice_split}
use Rattle.sm_report.specs.Vectors.{is_comma, numbers_in}
use Rattle.sm_report.proofs.vectors.numbers_in.Given as goal

-- the numbers so far, and those that are left
abbrev pub invariant-parts : goal.invariant-parts
invariant-parts l = option_map (λ ns. l.numbers.items ++ ns) (numbers_in (slice_split is_comma l.rest)) ≡ numbers_in (slice_split is_comma l.text)

abbrev pub decreases-parts : goal.decreases-parts
decreases-parts l = length l.rest
