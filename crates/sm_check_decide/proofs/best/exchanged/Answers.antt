use Rattle.std.proofs.Common.{◌≡◌, ◌∙◌}
use Rattle.sm_market.specs.Lists.{reversed_lists}
use Rattle.sm_market.specs.Matching.{reversed}
use Rattle.sm_market.proofs.Bridge.{IsMatching-reversed}
use Rattle.sm_market.proofs.PairingLemmas.{held_of_matching, one_matching}
use Rattle.sm_lists.proofs.ResultLemmas.{IfOk-both}
use Rattle.sm_check_decide.proofs.best.exchanged.Goals as goal

-- what is handed on
places_are : (c : goal.After-deref) → c.deref.result.now ≡ c.args.m.now.places.reviewers
places_are c = c.deref.ensures.value ∙ c.in_ok-places.ensures

pub held-requires : goal.held-requires
held-requires c = rw (c.requires.swapped, places_are c)
    (held_of_matching {l = reversed_lists c.args.market.now} {m = reversed c.args.m.now.places} (IsMatching-reversed c.requires.made.matching))

pub returns-clause-places : goal.returns-clause-places
returns-clause-places c = IfOk-both c.held.result _ _ _
    (λ back made places. one_matching made.matching (IsMatching-reversed c.requires.made.matching) (places ∙ c.deref.ensures.value ∙ c.in_ok-places.ensures))
    (rw c.requires.swapped at c.held.ensures.pairing) c.held.ensures.places
