use Rattle.std.proofs.Common.{◌≡◌, ◌∙◌, sym, ap, length}
use Rattle.sm_poset.specs.Posets.{RotationPoset}
use Rattle.sm_market.specs.Lists.{Lists}
use Rattle.sm_answer_rotations.proofs.ConditionLemmas.{forced_named, forbidden_named}
use Rattle.sm_answer_vectors.proofs.CursorLemmas.{cursor_long}
use Rattle.sm_answer_list.proofs.StartLemmas.{each_once_is_order}
use Rattle.sm_answer_list.proofs.start.start_list.Goals.{In_ok-after}
use Rattle.sm_answer_list.proofs.start.start_list.Goals as goal

-- as many as the proposers of the instance
count : (c : In_ok-after) → length c.args.instance.now.proposers ≡ length c.in_ok-least.least.poset.lists.proposers
count c =
    sym (ap (λ (poset : RotationPoset). length poset.lists.proposers) c.in_ok-least.ensures.poset ∙ ap (λ (l : Lists). length l.proposers) c.in_ok-poset.ensures ∙ c.requires.seating.proposers)

pub start-requires-2-clause-order : goal.start-requires-2-clause-order
start-requires-2-clause-order c = rw (sym (count c), c.in_ok-order.ensures.copied, c.order.ensures.order) (each_once_is_order c.order.ensures.instance.order)

pub start-requires-2-clause-after : goal.start-requires-2-clause-after
start-requires-2-clause-after c = cursor_long c.in_ok-after.after c.args.after.now c.in_ok-after.ensures.copied (count c) c.requires.after

pub start-requires-2-clause-forced : goal.start-requires-2-clause-forced
start-requires-2-clause-forced c = rw (c.in_ok-conditions.ensures.forced, sym (count c)) (forced_named c.in_ok-conditions.ensures.instance)

pub start-requires-2-clause-forbidden : goal.start-requires-2-clause-forbidden
start-requires-2-clause-forbidden c = rw (c.in_ok-conditions.ensures.forbidden, sym (count c)) (forbidden_named c.in_ok-conditions.ensures.instance)
