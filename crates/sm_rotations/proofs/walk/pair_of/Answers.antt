use Rattle.std.proofs.Common.{◌≡◌, Some, sym, ap, ◌∙◌}
use Rattle.sm_market.specs.Matching.{held}
use Rattle.sm_market.proofs.PlaceLemmas.{place_of-entry}
use Rattle.sm_rotations.proofs.walk.pair_of.Goals as goal

pub returns-clause-paired : goal.returns-clause-paired
returns-clause-paired c =
    let is : held c.args.m.now.places.proposers c.args.p ≡ Some c.unwrap-place.result = sym c.place.ensures ∙ c.unwrap-place.ensures in
    rw c.reviewer_at.ensures.named (is ∙ ap Some (sym (place_of-entry c.requires.market.proposers c.args.p c.unwrap-place.result (c.requires.made.matching.proposers.on_list c.args.p c.unwrap-place.result is))))
