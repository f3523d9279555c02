use Rattle.std.proofs.Common.{◌≡◌, take}
use Rattle.sm_check_clauses.specs.Flows.{set_of_numbers}
use Rattle.sm_check_weight.proofs.taken.set_of.Given as goal

-- the set by the numbers so far
abbrev pub invariant-loop-number : goal.invariant-loop-number
invariant-loop-number l = l.set.items ≡ set_of_numbers l.size (take l.number-index l.numbers)
