use Rattle.std.proofs.Common.{◌≡◌, ℕ, sym, ◌∙◌}
use Rattle.sm_market.specs.Lists.{entry, place_of}
use Rattle.sm_market.specs.Reduced.{is_no_worse}
use Rattle.sm_market.proofs.PlaceLemmas.{place_of-entry}
use Rattle.sm_market.proofs.ReducedLemmas.{no_worse_is, and_true, and_false}
use Rattle.sm_market.proofs.reduced.is_between.Goals as goal

pub returns-then-is_as_good : goal.returns-then-is_as_good
returns-then-is_as_good c =
    let l = c.args.market.now in
    let r : ℕ = entry l.proposers c.args.p c.args.place in
    let here : c.args.place ≡ place_of l.proposers c.args.p r = sym (place_of-entry c.reviewer_at-r.ensures.market.proposers c.args.p c.args.place c.requires.on_list) in
    let one : c.is_as_good.result ≡ is_no_worse l.proposers c.args.last.now.places.proposers c.args.p r =
    no_worse_is l.proposers c.args.last.now.places.proposers c.args.p r c.args.place _ here (rw c.place.ensures at c.is_as_good.ensures) in
    let two : c.is_as_good-then-is_as_good.result ≡ is_no_worse l.reviewers c.args.first.now.places.reviewers r c.args.p =
    no_worse_is l.reviewers c.args.first.now.places.reviewers r c.args.p c.cross.result _ c.cross.ensures.place
    (rw (c.reviewer_place.ensures, c.reviewer_at-r.ensures.named) at c.is_as_good-then-is_as_good.ensures) in
    two ∙ sym (and_true c.is_as_good.result (is_no_worse l.proposers c.args.last.now.places.proposers c.args.p r) (is_no_worse l.reviewers c.args.first.now.places.reviewers r c.args.p) c.if-is_as_good.true one)

pub returns-else-is_as_good : goal.returns-else-is_as_good
returns-else-is_as_good c =
    let l = c.args.market.now in
    let r : ℕ = entry l.proposers c.args.p c.args.place in
    let here : c.args.place ≡ place_of l.proposers c.args.p r = sym (place_of-entry c.reviewer_at-r.ensures.market.proposers c.args.p c.args.place c.requires.on_list) in
    let one : c.is_as_good.result ≡ is_no_worse l.proposers c.args.last.now.places.proposers c.args.p r =
    no_worse_is l.proposers c.args.last.now.places.proposers c.args.p r c.args.place _ here (rw c.place.ensures at c.is_as_good.ensures) in
    c.if-is_as_good.false ∙ sym (and_false c.is_as_good.result (is_no_worse l.proposers c.args.last.now.places.proposers c.args.p r) (is_no_worse l.reviewers c.args.first.now.places.reviewers r c.args.p) c.if-is_as_good.false one)
