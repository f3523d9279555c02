use Rattle.std.proofs.Common.{refl}
use Rattle.std.proofs.lemmas.Bool.{false≢true}
use Rattle.sm_check_answers.proofs.TriedLemmas.{matching_again, stable_again, untouched_limit, blocked_first, stable_holds}
use Rattle.sm_check_answers.proofs.tried.next_fault.Goals as goal

pub set_limits-requires-clause-matching : goal.set_limits-requires-clause-matching
set_limits-requires-clause-matching c =
    matching_again c.requires.stable.matching c.requires.assignment c.touch_changed.ensures (c.if-not-are_acceptable.ensures.0 refl) (c.if-not-are_within.ensures.0 refl)

pub set_limits-requires-clause-others : goal.set_limits-requires-clause-others
set_limits-requires-clause-others c = untouched_limit c.requires.stable.matching.assigned c.requires.assignment c.touch_changed.ensures c.requires.limits

pub returns-then-not-set_limits-clause-found : goal.returns-then-not-set_limits-clause-found
returns-then-not-set_limits-clause-found c =
    blocked_first
    (matching_again c.requires.stable.matching c.requires.assignment c.touch_changed.ensures (c.if-not-are_acceptable.ensures.0 refl) (c.if-not-are_within.ensures.0 refl))
    (λ s. false≢true (c.if-not-set_limits.ensures.unblocked.1 (λ r h q behind. s.unblocked q r)))

pub returns-then-not-are_unblocked-clause-found : goal.returns-then-not-are_unblocked-clause-found
returns-then-not-are_unblocked-clause-found c =
    blocked_first
    (matching_again c.requires.stable.matching c.requires.assignment c.touch_changed.ensures (c.if-not-are_acceptable.ensures.0 refl) (c.if-not-are_within.ensures.0 refl))
    (λ s. false≢true (c.if-not-are_unblocked.ensures.1 (λ p h r behind. s.unblocked p r)))

pub returns-clause-found : goal.returns-clause-found
returns-clause-found c =
    stable_holds (stable_again c.requires.stable c.requires.limits
    (matching_again c.requires.stable.matching c.requires.assignment c.touch_changed.ensures (c.if-not-are_acceptable.ensures.0 refl) (c.if-not-are_within.ensures.0 refl))
    (c.if-not-set_limits.ensures.unblocked.0 refl) (c.if-not-are_unblocked.ensures.0 refl))
