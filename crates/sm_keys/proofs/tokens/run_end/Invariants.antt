use Rattle.std.proofs.Common.{◌≡◌, ◌-◌, ◌≤◌, length}
use Rattle.sm_text.specs.Tokens.{run_end}
use Rattle.sm_keys.proofs.tokens.run_end.Given as goal

-- the run that goes on here ends where that from the start does
abbrev pub invariant-fours : goal.invariant-fours
invariant-fours l = record {
  same : run_end l.line l.at ≡ run_end l.line l.from;
  within : l.at ≤ length l.line;
}

abbrev pub decreases-fours : goal.decreases-fours
decreases-fours l = length l.line - l.at

-- and so it does byte by byte
abbrev pub invariant-ones : goal.invariant-ones
invariant-ones l = run_end l.line l.at ≡ run_end l.line l.from

abbrev pub decreases-ones : goal.decreases-ones
decreases-ones l = length l.line - l.at
