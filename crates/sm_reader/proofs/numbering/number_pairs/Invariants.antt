use Rattle.std.proofs.Common.{◌≡◌, ◌++◌, map}
use Rattle.std.specs.Vec.Iter.{into_iter_items}
use Rattle.sm_reader.specs.Draft.{pair_in}
use Rattle.sm_reader.specs.Numbering.{pair_among}
use Rattle.sm_reader.proofs.numbering.number_pairs.Given as goal

-- the pairs so far, and then those that are to come
abbrev pub invariant-pairs : goal.invariant-pairs
invariant-pairs l =
    let p = l.proposers.declared in
    let r = l.reviewers.declared in
    l.numbers.items ++ map (pair_among p r) (map pair_in (into_iter_items l.pair-iterator)) ≡ map (pair_among p r) (map pair_in l.fn.pairs.items)
