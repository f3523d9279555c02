use Rattle.std.proofs.Common.{◌≡◌, length, ◌∙◌, arith}
use Rattle.sm_market.specs.Lists.{reversed_lists}
use Rattle.sm_market.specs.Matching.{reversed}
use Rattle.sm_market.specs.Stable.{IsProposersBest}
use Rattle.sm_market.proofs.Bridge.{IsMatching-reversed}
use Rattle.sm_market.proofs.PairingLemmas.{held_of_matching}
use Rattle.sm_lists.proofs.ResultLemmas.{IfOk-both, take-append_at_length}
use Rattle.sm_accept.proofs.BestLemmas.{reviewers_best_of, best_of_reviewers}
use Rattle.sm_accept.proofs.accept.reviewer_best.Goals as goal

-- the best with the sides exchanged
best_is : (c : goal.After-deref) → IsProposersBest (reversed_lists c.args.market.now) c.in_ok-best.best.places
best_is c = rw c.in_ok-swapped.ensures at c.in_ok-best.ensures.best

-- what the slice holds
places_are : (c : goal.After-deref) → c.deref.result.now ≡ c.in_ok-best.best.places.reviewers
places_are c =
    let long : length c.copy_places.new.places ≡ c.in_ok-places.places.len = let len = c.in_ok-places.ensures.len in let auto = c.copy_places.auto.places in let also = c.deref_mut.ensures.len in omega arith in
    c.deref.ensures.value ∙ take-append_at_length c.in_ok-places.places.len c.copy_places.new.places _ long ∙ c.copy_places.ensures

pub held-requires : goal.held-requires
held-requires c = rw (places_are c) (held_of_matching {l = c.args.market.now} {m = reversed c.in_ok-best.best.places} (IsMatching-reversed (best_is c).stable.matching))

pub returns-clause-worst : goal.returns-clause-worst
returns-clause-worst c =
    let long : length c.copy_places.new.places ≡ c.in_ok-places.places.len = let len = c.in_ok-places.ensures.len in let auto = c.copy_places.auto.places in let also = c.deref_mut.ensures.len in omega arith in
    IfOk-both c.held.result _ _ _
    (λ m made places. reviewers_best_of c.proposers.ensures.market (rw c.in_ok-swapped.ensures at c.in_ok-best.ensures.best) made.matching
    (places ∙ c.deref.ensures.value ∙ take-append_at_length c.in_ok-places.places.len c.copy_places.new.places _ long ∙ c.copy_places.ensures))
    c.held.ensures.pairing c.held.ensures.places

pub returns-clause-best : goal.returns-clause-best
returns-clause-best c =
    let long : length c.copy_places.new.places ≡ c.in_ok-places.places.len = let len = c.in_ok-places.ensures.len in let auto = c.copy_places.auto.places in let also = c.deref_mut.ensures.len in omega arith in
    IfOk-both c.held.result _ _ _
    (λ m made places. best_of_reviewers c.proposers.ensures.market (rw c.in_ok-swapped.ensures at c.in_ok-best.ensures.best) made.matching
    (places ∙ c.deref.ensures.value ∙ take-append_at_length c.in_ok-places.places.len c.copy_places.new.places _ long ∙ c.copy_places.ensures))
    c.held.ensures.pairing c.held.ensures.places
