use Rattle.std.proofs.Common.{sym, ◌∙◌}
use Rattle.std.proofs.lemmas.Bool.{false≢true}
use Rattle.sm_report.specs.Lines.{line_of}
use Rattle.sm_check_clauses.specs.Said.{firsts_in, lasts_in}
use Rattle.sm_check_answers.proofs.ReducedLemmas.{first_blocked, last_blocked, first_not_best, last_not_best, lists_begin, lists_go}
use Rattle.sm_check_answers.proofs.reduced.ReducedJudge.behind_fault.Goals as goal

pub returns-then-not-is_unblocked-clause-found : goal.returns-then-not-is_unblocked-clause-found
returns-then-not-is_unblocked-clause-found c = λ above k.
    let self = c.args.self.now in
    let w = self.instance.now in
    let market = c.requires.known.known.market_is in
    let first = (rw market at c.in_ok-first.ensures.places) (firsts_in w above) k.firsts in
    let stable = rw first at (rw market at c.is_unblocked.ensures) in
    first_blocked w above (line_of c.args.line.now) c.requires.behind self.first self.last self.group c.requires.going k (λ s. false≢true (sym c.if-not-is_unblocked.true ∙ stable.1 s))

pub returns-then-not-is_unblocked-2-clause-found : goal.returns-then-not-is_unblocked-2-clause-found
returns-then-not-is_unblocked-2-clause-found c = λ above k.
    let self = c.args.self.now in
    let w = self.instance.now in
    let market = c.requires.known.known.market_is in
    let first = (rw market at c.in_ok-first.ensures.places) (firsts_in w above) k.firsts in
    let last = (rw market at c.in_ok-last.ensures.places) (lasts_in w above) k.lasts in
    let stable = rw first at (rw market at c.is_unblocked.ensures) in
    let stable' = rw last at (rw market at c.is_unblocked-2.ensures) in
    last_blocked w above (line_of c.args.line.now) c.requires.behind self.first self.last self.group c.requires.going k (stable.0 c.if-not-is_unblocked.false) (λ s. false≢true (sym c.if-not-is_unblocked-2.true ∙ stable'.1 s))

pub returns-then-not-branch-clause-found : goal.returns-then-not-branch-clause-found
returns-then-not-branch-clause-found c = λ above k.
    let self = c.args.self.now in
    let w = self.instance.now in
    let market = c.requires.known.known.market_is in
    let first = (rw market at c.in_ok-first.ensures.places) (firsts_in w above) k.firsts in
    let last = (rw market at c.in_ok-last.ensures.places) (lasts_in w above) k.lasts in
    let stable = rw first at (rw market at c.is_unblocked.ensures) in
    let stable' = rw last at (rw market at c.is_unblocked-2.ensures) in
    let best = rw first at (rw market at c.in_ok-is_proposers_best.ensures) in
    first_not_best w above (line_of c.args.line.now) c.requires.behind self.first self.last self.group c.requires.going k (stable.0 c.if-not-is_unblocked.false) (stable'.0 c.if-not-is_unblocked-2.false)
    (λ b. false≢true (sym c.if-not-branch.true ∙ best.1 b))

pub returns-then-not-branch-2-clause-found : goal.returns-then-not-branch-2-clause-found
returns-then-not-branch-2-clause-found c = λ above k.
    let self = c.args.self.now in
    let w = self.instance.now in
    let market = c.requires.known.known.market_is in
    let first = (rw market at c.in_ok-first.ensures.places) (firsts_in w above) k.firsts in
    let last = (rw market at c.in_ok-last.ensures.places) (lasts_in w above) k.lasts in
    let stable = rw first at (rw market at c.is_unblocked.ensures) in
    let stable' = rw last at (rw market at c.is_unblocked-2.ensures) in
    let worst = rw last at (rw market at c.in_ok-is_reviewers_best.ensures) in
    last_not_best w above (line_of c.args.line.now) c.requires.behind self.first self.last self.group c.requires.going k (stable.0 c.if-not-is_unblocked.false) (stable'.0 c.if-not-is_unblocked-2.false)
    (λ b. false≢true (sym c.if-not-branch-2.true ∙ worst.1 b))

pub returns-clause-found : goal.returns-clause-found
returns-clause-found c = λ above k.
    let self = c.args.self.now in
    let w = self.instance.now in
    let market = c.requires.known.known.market_is in
    let first = (rw market at c.in_ok-first.ensures.places) (firsts_in w above) k.firsts in
    let last = (rw market at c.in_ok-last.ensures.places) (lasts_in w above) k.lasts in
    let best = (rw first at (rw market at c.in_ok-is_proposers_best.ensures)).0 c.if-not-branch.false in
    let worst = (rw last at (rw market at c.in_ok-is_reviewers_best.ensures)).0 c.if-not-branch-2.false in
    let lists = lists_begin w above (line_of c.args.line.now) c.requires.behind self.first self.last self.group c.requires.going k c.in_ok-lists.lists (rw (first, last) at (rw market at c.in_ok-lists.ensures)) in
    lists_go w above (line_of c.args.line.now) c.requires.behind self.first self.last best worst k.firsts k.lasts c.find_fault.new.self c.in_ok-why.why (c.in_ok-why.ensures above lists)
