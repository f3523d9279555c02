use Rattle.std.proofs.Common.{◌≡◌, map, take}
use Rattle.sm_lists.specs.Rows.{rows_of}
use Rattle.sm_report.specs.Lines.{line_of}
use Rattle.sm_check_clauses.specs.Said.{all_needs_in}
use Rattle.sm_check_weight.proofs.gains.all_needs.Given as goal

-- the needs of the lines so far
abbrev pub invariant-loop-line : goal.invariant-loop-line
invariant-loop-line l = rows_of l.needs.items ≡ all_needs_in (map line_of (take l.line-index l.lines))
