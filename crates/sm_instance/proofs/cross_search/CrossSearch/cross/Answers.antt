use Rattle.std.proofs.Common.{arith}
use Rattle.std.proofs.lemmas.Grind.{common_steps}
use Rattle.sm_agents.specs.Written.{entry}
use Rattle.sm_instance.proofs.AcceptLemmas.{cross_fits, fits_more}
use Rattle.sm_instance.proofs.PlaceLemmas.{length-list-le}
use Rattle.sm_instance.proofs.cross_search.CrossSearch.cross.Goals as goal

pub first_place-back-requires : goal.first_place-back-requires
first_place-back-requires c = let short = length-list-le c.self.invariant.instance.reviewer_entries c.self.invariant.instance.limits.proposers c.reviewer_at.result c.reviewer_list-list.ensures in omega arith

pub returns-clause-fits : goal.returns-clause-fits
returns-clause-fits c = fits_more c.first_place-back.result (length-list-le c.self.invariant.instance.reviewer_entries c.self.invariant.instance.limits.proposers c.reviewer_at.result c.reviewer_list-list.ensures) c.first_place-back.ensures.on_list

pub returns-in-Some-clause-fits : goal.returns-in-Some-clause-fits
returns-in-Some-clause-fits c =
    cross_fits c.self.invariant.instance (entry c.self.inside.instance.now.proposers c.args.p c.args.place) c.args.p c.place.result (grind (arith, common_steps))
