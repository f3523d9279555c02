use Rattle.sm_market.specs.Vectors.{rows_of}
use Rattle.sm_poset.proofs.SetLemmas.{closed_from, closed_gives, needs_in_range}
use Rattle.sm_poset.proofs.poset.Poset.is_closed.Goals as goal

pub are_closed-requires-clause-in_range : goal.are_closed-requires-clause-in_range
are_closed-requires-clause-in_range c =
    let needs = c.all_needs.ensures in
    rw c.deref.ensures.value (needs_in_range (rows_of c.all_needs.result.now) c.args.set.now.members.items c.requires needs.one_each needs.each)

pub returns : goal.returns
returns c =
    let needs = c.all_needs.ensures in
    let told = rw c.deref.ensures.value at c.are_closed.ensures in (
      λ yes. closed_from (rows_of c.all_needs.result.now) c.args.set.now.members.items c.requires needs.each (told.0 yes),
      λ closed. told.1 (closed_gives (rows_of c.all_needs.result.now) c.args.set.now.members.items needs.each closed),
    )
