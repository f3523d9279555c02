use Rattle.std.proofs.Common.{◌≡◌, ◌↔◌, sym, subst, ap, ◌∙◌, IsTrue}
use Rattle.std.proofs.lemmas.Result.{IfOk-weaker}
use Rattle.sm_agents.specs.Written.{Written}
use Rattle.sm_instance.specs.Matching.{IsMatching}
use Rattle.sm_market.specs.Lists.{Lists}
use Rattle.sm_market.specs.Stable.{IsStable, IsProposersBest, IsReviewersBest}
use Rattle.sm_seats.specs.Seating.{Seating}
use Rattle.sm_seats.specs.Taken.{places_taken}
use Rattle.sm_check_answers.proofs.SolvingLemmas.{seats_stable, proposers_best_is, reviewers_best_is}
use Rattle.sm_check_answers.proofs.solving.is_best.Goals as goal

pub to_seats-requires : goal.to_seats-requires
to_seats-requires c =
    subst (λ (w : Written). IsMatching w c.args.matching.now.places.items) (sym (ap (λ (s : Seating). s.written) c.requires.seats)) c.requires.stable.matching

pub is_proposers_best-requires-clause-stable : goal.is_proposers_best-requires-clause-stable
is_proposers_best-requires-clause-stable c =
    let taken = c.in_ok-seated.ensures.places ∙ ap (λ (s : Seating). places_taken s.written c.args.matching.now.places.items) c.requires.seats in
    subst (λ (l : Lists). IsStable l c.in_ok-seated.seated.places) (sym c.market.ensures)
    (seats_stable c.proposer_count.ensures.instance c.requires.seats c.requires.stable c.in_ok-seated.ensures.pairing taken)

pub returns-in-Proposers : goal.returns-in-Proposers
returns-in-Proposers c =
    let taken = c.in_ok-seated.ensures.places ∙ ap (λ (s : Seating). places_taken s.written c.args.matching.now.places.items) c.requires.seats in
    let is = proposers_best_is c.proposer_count.ensures.instance c.requires.seats c.requires.stable c.in_ok-seated.ensures.pairing taken in
    rw c.in-Proposers.is (IfOk-weaker c.is_proposers_best.result _ _
    (λ best h. let at = subst (λ (l : Lists). IsTrue best ↔ IsProposersBest l c.in_ok-seated.seated.places) c.market.ensures h in (λ t. is.0 (at.0 t), λ b. at.1 (is.1 b)))
    c.is_proposers_best.ensures)

pub is_reviewers_best-requires-clause-stable : goal.is_reviewers_best-requires-clause-stable
is_reviewers_best-requires-clause-stable c =
    let taken = c.in_ok-seated.ensures.places ∙ ap (λ (s : Seating). places_taken s.written c.args.matching.now.places.items) c.requires.seats in
    subst (λ (l : Lists). IsStable l c.in_ok-seated.seated.places) (sym c.market-in-Reviewers.ensures)
    (seats_stable c.proposer_count.ensures.instance c.requires.seats c.requires.stable c.in_ok-seated.ensures.pairing taken)

pub returns : goal.returns
returns c =
    let taken = c.in_ok-seated.ensures.places ∙ ap (λ (s : Seating). places_taken s.written c.args.matching.now.places.items) c.requires.seats in
    let is = reviewers_best_is c.proposer_count.ensures.instance c.requires.seats c.requires.stable c.in_ok-seated.ensures.pairing taken in
    rw c.in-Reviewers.is (IfOk-weaker c.is_reviewers_best.result _ _
    (λ best h. let at = subst (λ (l : Lists). IsTrue best ↔ IsReviewersBest l c.in_ok-seated.seated.places) c.market-in-Reviewers.ensures h in (λ t. is.0 (at.0 t), λ b. at.1 (is.1 b)))
    c.is_reviewers_best.ensures)
