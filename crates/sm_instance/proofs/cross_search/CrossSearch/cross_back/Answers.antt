use Rattle.std.proofs.Common.{arith}
use Rattle.sm_instance.proofs.PlaceLemmas.{length-list-le}
use Rattle.sm_instance.proofs.cross_search.CrossSearch.cross_back.Goals as goal

pub first_place-back-requires : goal.first_place-back-requires
first_place-back-requires c = let short = length-list-le c.self.invariant.instance.proposer_entries c.self.invariant.instance.limits.reviewers c.proposer_at.result c.proposer_list-list.ensures in omega arith
