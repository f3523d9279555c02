use Rattle.std.proofs.Common.{◌≡◌, map}
use Rattle.sm_lists.specs.Earlier.{earlier_of}
use Rattle.sm_reader.specs.InstanceText.{pairs_with_unknown, least}
use Rattle.sm_reader.specs.Numbering.{weighed_pair}
use Rattle.sm_reader.proofs.numbering.first_in_weights.Given as goal

-- the first line so far, and then those that are to come
abbrev pub invariant-weights : goal.invariant-weights
invariant-weights l =
    let p = l.proposers.declared in
    let r = l.reviewers.declared in
    earlier_of l.first (least (pairs_with_unknown p r (map weighed_pair l.names-iterator))) ≡ least (pairs_with_unknown p r (map weighed_pair l.weights.entries))
