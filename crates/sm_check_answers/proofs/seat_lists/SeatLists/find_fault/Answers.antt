use Rattle.std.proofs.Common.{◌≡◌, ℕ, [], ◌∷◌, ◌++◌, length, arith, refl, sym, ap, ◌∙◌, subst}
use Rattle.std.proofs.lemmas.Bool.{false≢true}
use Rattle.sm_market.specs.Lists.{Lists}
use Rattle.sm_seats.proofs.MarketLaws.{length-proposers}
use Rattle.sm_seats.specs.SeatMarket.{seat_market}
use Rattle.sm_report.specs.Lines.{LineData, line_of}
use Rattle.sm_check_forms.specs.Seats.{seat_numbers}
use Rattle.sm_check_clauses.specs.Said.{proposer_lists_in, reviewer_lists_in}
use Rattle.sm_check_clauses.specs.Chain.{owners}
use Rattle.sm_check_answers.specs.ListsKept.{AreTimes}
use Rattle.sm_check_answers.proofs.SeatListLemmas.{proposers_once, seats_once, lists_fail, proposer_right, reviewer_right, no_list, no_list_in}
use Rattle.sm_check_answers.proofs.seat_lists.SeatLists.find_fault.Goals as goal

pub is_reduced_proposer_list-requires-clause-in_range : goal.is_reduced_proposer_list-requires-clause-in_range
is_reduced_proposer_list-requires-clause-in_range c =
    let own = rw c.in-ProposerList.is at c.requires.own.right.printable in
    let there = own.0 in
    omega (arith, there, ap (λ (l : Lists). length l.proposers) c.requires.market, length-proposers c.args.instance.now)

pub once_more-requires : goal.once_more-requires
once_more-requires c =
    let own = rw c.in-ProposerList.is at c.requires.own.right.printable in
    let there = own.0 in
    let long = c.requires.proposers in
    omega (arith, there, ap (λ (l : Lists). length l.proposers) c.requires.market, length-proposers c.args.instance.now, long)

pub returns-then-not-is_once_each : goal.returns-then-not-is_once_each
returns-then-not-is_once_each c = λ above k.
    let w = c.args.instance.now in
    rw c.in-End.is (lists_fail w above LineData.End (λ right.
    let all = proposers_once w above k c.args.market.now c.requires.market c.deref-in-End.result.now c.deref-in-End.ensures.value c.requires.proposers c.is_once_each.result c.is_once_each.ensures in
    false≢true (sym c.if-not-is_once_each.true ∙ all.1 (right.all_proposers refl))))

pub returns-then-not-is_once_each-2 : goal.returns-then-not-is_once_each-2
returns-then-not-is_once_each-2 c = λ above k.
    let w = c.args.instance.now in
    rw c.in-End.is (lists_fail w above LineData.End (λ right.
    let all = seats_once w above k c.args.market.now c.requires.market c.deref-in-End-2.result.now c.deref-in-End-2.ensures.value c.requires.seats c.is_once_each-in-End.result c.is_once_each-in-End.ensures in
    false≢true (sym c.if-not-is_once_each-2.true ∙ all.1 (right.all_reviewers refl))))

pub returns-else-not-is_once_each-2 : goal.returns-else-not-is_once_each-2
returns-else-not-is_once_each-2 c = λ above k.
    let w = c.args.instance.now in
    let proposers = proposers_once w above k c.args.market.now c.requires.market c.deref-in-End.result.now c.deref-in-End.ensures.value c.requires.proposers c.is_once_each.result c.is_once_each.ensures in
    let seats = seats_once w above k c.args.market.now c.requires.market c.deref-in-End-2.result.now c.deref-in-End-2.ensures.value c.requires.seats c.is_once_each-in-End.result c.is_once_each-in-End.ensures in
    rw c.in-End.is (no_list w above k LineData.End refl refl (λ _. proposers.0 c.if-not-is_once_each.false) (λ _. seats.0 c.if-not-is_once_each-2.false))

pub returns-in_default : goal.returns-in_default
returns-in_default c = λ above k.
    let w = c.args.instance.now in
    let none = no_list_in w c.args.line.now c.in_default.not-ProposerList c.in_default.not-ReviewerList c.in_default.not-End in
    no_list w above k (line_of c.args.line.now) none.0 none.1 (λ e. absurd (false≢true (sym none.2 ∙ e))) (λ e. absurd (false≢true (sym none.2 ∙ e)))

pub returns-else-not-is_reduced_proposer_list : goal.returns-else-not-is_reduced_proposer_list
returns-else-not-is_reduced_proposer_list c = λ above k.
    let w = c.args.instance.now in
    let right = (rw c.requires.market at c.if-not-is_reduced_proposer_list.ensures).0 refl in
    let long : length c.args.self.now.proposers.items ≡ length (seat_market w).proposers = c.requires.proposers ∙ ap (λ (l : Lists). length l.proposers) c.requires.market in
    rw c.in-ProposerList.is
    (proposer_right w above k c.in-ProposerList.p c.in-ProposerList.seats.items c.in_ok-list-in-ProposerList.list.items (c.in_ok-list-in-ProposerList.ensures ∙ ap (seat_numbers w) c.deref.ensures.value)
    (sym c.deref-in-ProposerList.ensures.value ∙ right) c.once_more.new.times
    (subst (λ (n : ℕ). AreTimes n (owners (proposer_lists_in w above) ++ c.in-ProposerList.p ∷ []) c.once_more.new.times.items) long
    (c.once_more.ensures (owners (proposer_lists_in w above)) (subst (λ (n : ℕ). AreTimes n (owners (proposer_lists_in w above)) c.args.self.now.proposers.items) (sym long) k.proposer_times))))

pub returns-else-not-is_reduced_reviewer_list : goal.returns-else-not-is_reduced_reviewer_list
returns-else-not-is_reduced_reviewer_list c = λ above k.
    let w = c.args.instance.now in
    let right = (rw c.requires.market at c.if-not-is_reduced_reviewer_list.ensures).0 refl in
    let long : length c.args.self.now.seats.items ≡ length (seat_market w).reviewers = c.requires.seats ∙ ap (λ (l : Lists). length l.reviewers) c.requires.market in
    rw c.in-ReviewerList.is
    (reviewer_right w above k c.in-ReviewerList.seat c.in-ReviewerList.proposers.items c.seat_number-number.result c.seat_number-number.ensures.number
    (sym c.deref-in-ReviewerList.ensures.value ∙ right) c.once_more-in-ReviewerList.new.times
    (subst (λ (n : ℕ). AreTimes n (owners (reviewer_lists_in w above) ++ c.seat_number-number.result ∷ []) c.once_more-in-ReviewerList.new.times.items) long
    (c.once_more-in-ReviewerList.ensures (owners (reviewer_lists_in w above)) (subst (λ (n : ℕ). AreTimes n (owners (reviewer_lists_in w above)) c.args.self.now.seats.items) (sym long) k.seat_times))))
