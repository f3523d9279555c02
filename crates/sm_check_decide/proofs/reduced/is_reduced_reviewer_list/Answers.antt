use Rattle.std.proofs.Common.{◌≡◌, ◌<◌, ◌≤◌, length, sym, ◌∙◌, arith, eqb-true, eq-eqb, true, false, true≢false}
use Rattle.sm_market.specs.Lists.{row, place_of}
use Rattle.sm_check_decide.proofs.ReducedLemmas.{stays, same_begins, same_passes, same_keeps, same_not, same_ends, row_is, seen_back}
use Rattle.sm_check_decide.proofs.reduced.is_reduced_reviewer_list.Goals as goal
use Rattle.sm_check_decide.proofs.reduced.is_reduced_reviewer_list.Goals.{then-is_between+else-not-stands_at, else-is_between}

pub loop-place-init : goal.loop-place-init
loop-place-init c = same_begins _ _ _

pub returns-then-not-stands_at : goal.returns-then-not-stands_at
returns-then-not-stands_at c =
    let l = c.args.market.now in
    let is = row_is l.reviewers l.proposers c.args.first.now.places.reviewers c.args.last.now.places.proposers c.args.r c.requires.in_range in
    let on' : c.reviewer_cross.result < length (row l.proposers c.proposer_at-p.result) = rw c.proposer_at-p.ensures.named c.reviewer_cross.ensures.on_list in
    let at' : c.reviewer_cross.result ≡ place_of l.proposers c.proposer_at-p.result c.args.r = rw c.proposer_at-p.ensures.named c.reviewer_cross.ensures.place in
    let passes : stays l.reviewers l.proposers c.args.first.now.places.reviewers c.args.last.now.places.proposers c.args.r c.proposer_at-p.result ≡ true = seen_back l.proposers l.reviewers c.args.last.now.places.proposers c.args.first.now.places.reviewers c.proposer_at-p.result c.args.r on' at' c.is_between.ensures ∙ c.if-is_between.true in
    let on : c.loop-place.place < length (row l.reviewers c.args.r) = omega (arith, c.loop-place-test.true, c.reviewer_len-place-end.ensures) in (
      (λ e. absurd (true≢false (sym e))),
      (λ e. absurd (same_not c.loop-place.invariant c.proposer_at-p.result on c.proposer_at-p.ensures.named passes (λ w. true≢false (sym (c.stands_at.ensures.1 w) ∙ c.if-not-stands_at.true)) (e ∙ is))),
    )

pub loop-place-preserved : goal.loop-place-preserved
loop-place-preserved c =
    let l = c.args.market.now in
    let on : c.loop-place.place < length (row l.reviewers c.args.r) = omega (arith, c.loop-place-test.true, c.reviewer_len-place-end.ensures) in
    let on' : c.reviewer_cross.result < length (row l.proposers c.proposer_at-p.result) = rw c.proposer_at-p.ensures.named c.reviewer_cross.ensures.on_list in
    let at' : c.reviewer_cross.result ≡ place_of l.proposers c.proposer_at-p.result c.args.r = rw c.proposer_at-p.ensures.named c.reviewer_cross.ensures.place in
    elim c.if-is_between.branch [
      | then-is_between+else-not-stands_at w ↦
          let passes : stays l.reviewers l.proposers c.args.first.now.places.reviewers c.args.last.now.places.proposers c.args.r c.proposer_at-p.result ≡ true = seen_back l.proposers l.reviewers c.args.last.now.places.proposers c.args.first.now.places.reviewers c.proposer_at-p.result c.args.r on' at' c.is_between.ensures ∙ w.if-is_between.true in
          let there = w.stands_at.ensures.0 w.if-not-stands_at.false in
          rw w.next-is (same_keeps c.loop-place.invariant c.proposer_at-p.result on c.proposer_at-p.ensures.named passes there.0 there.1)
      | else-is_between w ↦
          let fails : stays l.reviewers l.proposers c.args.first.now.places.reviewers c.args.last.now.places.proposers c.args.r c.proposer_at-p.result ≡ false = seen_back l.proposers l.reviewers c.args.last.now.places.proposers c.args.first.now.places.reviewers c.proposer_at-p.result c.args.r on' at' c.is_between.ensures ∙ w.if-is_between.false in
          rw w.next-is (same_passes c.loop-place.invariant c.proposer_at-p.result on c.proposer_at-p.ensures.named fails)
    ]

pub returns : goal.returns
returns c =
    let l = c.args.market.now in
    let is = row_is l.reviewers l.proposers c.args.first.now.places.reviewers c.args.last.now.places.proposers c.args.r c.requires.in_range in
    let past : length (row l.reviewers c.args.r) ≤ c.loop-place.place = omega (arith, c.loop-place-test.false, c.reviewer_len-place-end.ensures) in
    let ends = same_ends c.loop-place.invariant past in
    ((λ e. ends.0 (eqb-true _ _ e) ∙ sym is), (λ e. eq-eqb _ _ (ends.1 (e ∙ is))))
