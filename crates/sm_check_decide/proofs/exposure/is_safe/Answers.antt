use Rattle.std.proofs.Common.{arith, sym, ◌∙◌, ◌∷◌, [], true≢false}
use Rattle.std.proofs.lemmas.List.Elements.{Contains-append_left}
use Rattle.sm_check_decide.proofs.AmongLemmas.{contains_at}
use Rattle.sm_check_decide.proofs.SafeLemmas.{safe_at_end}
use Rattle.sm_check_decide.proofs.PathLemmas.{begin_on, closed_there, closed_pushed, early_pushed, path_goes_on, begin_safe, all_safe, before_pushed, all_pushed, round_safe, round_below}
use Rattle.sm_check_decide.proofs.exposure.is_safe.Goals as goal

pub returns-in_default-clause-safe : goal.returns-in_default-clause-safe
returns-in_default-clause-safe c = λ _. begin_safe c.requires.market c.requires.made.matching c.steps.invariant.path (safe_at_end c.requires.market c.requires.made.matching c.in_default.ensures.next)

pub steps-preserved : goal.steps-preserved
steps-preserved c = rw c.push.ensures.pushed (record {
  proposers = c.steps.invariant.proposers;
  in_range = c.in-Some.ensures.in_range;
  search = c.next_proposer.ensures.search;
  kept = λ x v. Contains-append_left c.steps.trail.items (c.steps.q ∷ []) x (c.steps.invariant.kept x v);
  early = λ closed. early_pushed c.steps.q c.steps.invariant.path.start_in (c.steps.invariant.early closed);
  before = before_pushed c.steps.invariant.path c.steps.invariant.before;
  path = path_goes_on c.steps.invariant.path c.in-Some.ensures.next;
})

pub returns-then-spot-start-clause-safe : goal.returns-then-spot-start-clause-safe
returns-then-spot-start-clause-safe c = λ _. begin_safe c.requires.market c.requires.made.matching c.steps.invariant.path
    (rw c.spot-spot.ensures.is at (c.steps.invariant.before c.spot-spot.result c.if-spot-start.true))

pub returns-else-spot-start-clause-safe : goal.returns-else-spot-start-clause-safe
returns-else-spot-start-clause-safe c = λ yes'. begin_safe c.requires.market c.requires.made.matching c.steps.invariant.path
    (round_safe c.requires.market c.requires.made.matching c.steps.invariant.path c.spot-spot.ensures.trail.distinct c.spot-spot.result (omega (arith, c.if-spot-start.false)) c.spot-spot.ensures.in_trail c.spot-spot.ensures.is (c.none_is_below.ensures.0 yes'))

pub returns-else-spot-start-clause-found : goal.returns-else-spot-start-clause-found
returns-else-spot-start-clause-found c = λ no' none. true≢false (sym (c.none_is_below.ensures.1
    (round_below c.requires.market c.requires.made.matching c.steps.invariant.path c.spot-spot.ensures.trail.distinct c.spot-spot.result (omega (arith, c.if-spot-start.false)) c.spot-spot.ensures.in_trail c.spot-spot.ensures.is none)) ∙ no')

pub returns-in_default-clause-all : goal.returns-in_default-clause-all
returns-in_default-clause-all c = λ _. rw c.push.ensures.pushed
    (all_pushed c.requires.market c.requires.made.matching c.steps.invariant.path c.steps.invariant.before (safe_at_end c.requires.market c.requires.made.matching c.in_default.ensures.next))

pub returns-then-spot-start-clause-all : goal.returns-then-spot-start-clause-all
returns-then-spot-start-clause-all c = λ _. all_safe c.requires.market c.requires.made.matching c.steps.invariant.path c.steps.invariant.before
    (rw c.spot-spot.ensures.is at (c.steps.invariant.before c.spot-spot.result c.if-spot-start.true))

pub returns-else-spot-start-clause-all : goal.returns-else-spot-start-clause-all
returns-else-spot-start-clause-all c = λ yes'. all_safe c.requires.market c.requires.made.matching c.steps.invariant.path c.steps.invariant.before
    (round_safe c.requires.market c.requires.made.matching c.steps.invariant.path c.spot-spot.ensures.trail.distinct c.spot-spot.result (omega (arith, c.if-spot-start.false)) c.spot-spot.ensures.in_trail c.spot-spot.ensures.is (c.none_is_below.ensures.0 yes'))

pub returns-in_default-clause-kept : goal.returns-in_default-clause-kept
returns-in_default-clause-kept c = λ x v. rw c.push.ensures.pushed (Contains-append_left c.steps.trail.items (c.steps.q ∷ []) x (c.steps.invariant.kept x v))

pub returns-in_default-clause-closed : goal.returns-in_default-clause-closed
returns-in_default-clause-closed c = λ _ closed. rw c.push.ensures.pushed (closed_pushed c.steps.invariant.path (c.steps.invariant.early closed) c.in_default.ensures.next)

pub returns-then-spot-start-clause-on : goal.returns-then-spot-start-clause-on
returns-then-spot-start-clause-on c = λ _. begin_on c.steps.invariant.path c.steps.trail.items (λ x v. v) (contains_at c.steps.trail.items c.steps.q c.spot-spot.result c.spot-spot.ensures.in_trail c.spot-spot.ensures.is)

pub returns-then-spot-start-clause-closed : goal.returns-then-spot-start-clause-closed
returns-then-spot-start-clause-closed c = λ _ closed. closed_there c.steps.invariant.path (c.steps.invariant.early closed) (contains_at c.steps.trail.items c.steps.q c.spot-spot.result c.spot-spot.ensures.in_trail c.spot-spot.ensures.is)

pub returns-else-spot-start-clause-closed : goal.returns-else-spot-start-clause-closed
returns-else-spot-start-clause-closed c = λ _ closed. closed_there c.steps.invariant.path (c.steps.invariant.early closed) (contains_at c.steps.trail.items c.steps.q c.spot-spot.result c.spot-spot.ensures.in_trail c.spot-spot.ensures.is)
