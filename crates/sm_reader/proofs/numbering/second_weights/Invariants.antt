use Rattle.std.proofs.Common.{◌≡◌, ◌++◌, map}
use Rattle.sm_reader.specs.Numbering.{second_of}
use Rattle.sm_reader.proofs.numbering.second_weights.Given as goal

-- the second weights so far, and then those that are to come
abbrev pub invariant-weights : goal.invariant-weights
invariant-weights l = l.seconds.items ++ map second_of l.given-iterator ≡ map second_of l.weights.entries
