use Rattle.std.proofs.Common.{◌≡◌, ◌++◌, map}
use Rattle.sm_reader.specs.Draft.{given_in}
use Rattle.sm_reader.specs.Numbering.{weight_among}
use Rattle.sm_reader.proofs.numbering.number_weights.Given as goal

-- the weights so far, and then those that are to come
abbrev pub invariant-weights : goal.invariant-weights
invariant-weights l =
    let p = l.proposers.declared in
    let r = l.reviewers.declared in
    l.numbers.items ++ map (weight_among p r) (map given_in l.names-iterator) ≡ map (weight_among p r) (map given_in l.weights.entries)
