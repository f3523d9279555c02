use Rattle.std.proofs.Common.{◌≡◌, length, subst, arith}
use Rattle.sm_accept.specs.Linking.{AreLinkedBelow}
use Rattle.sm_accept.proofs.LinkSteps.{linked_none}
use Rattle.sm_accept.proofs.linked.link_held.Goals as goal

pub loop-p-init : goal.loop-p-init
loop-p-init c = record { linked = linked_none _ _ _ _ _; next_each = c.requires.next_each; before_each = c.requires.before_each }

pub returns-clause-linked : goal.returns-clause-linked
returns-clause-linked c =
    let all : c.loop-p.p ≡ length c.args.market.now.proposers = omega (arith, c.loop-p-test.false, c.loop-p.auto.p-end, c.proposers-p-end.ensures.count) in
    subst (λ n. AreLinkedBelow c.args.market.now c.args.ends.now c.args.starts.now n c.loop-p.links.next.items c.loop-p.links.before.items) all c.loop-p.invariant.linked
