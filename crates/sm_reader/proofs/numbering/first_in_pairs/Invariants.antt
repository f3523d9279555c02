use Rattle.std.proofs.Common.{◌≡◌, map, drop}
use Rattle.sm_lists.specs.Earlier.{earlier_of}
use Rattle.sm_reader.specs.InstanceText.{pairs_with_unknown, least}
use Rattle.sm_reader.specs.Draft.{pair_in}
use Rattle.sm_reader.proofs.numbering.first_in_pairs.Given as goal

-- the first line so far, and then those that are to come
abbrev pub invariant-pairs : goal.invariant-pairs
invariant-pairs l =
    let p = l.proposers.declared in
    let r = l.reviewers.declared in
    earlier_of l.first (least (pairs_with_unknown p r (map pair_in (drop l.pair-index l.pairs)))) ≡ least (pairs_with_unknown p r (map pair_in l.pairs))
