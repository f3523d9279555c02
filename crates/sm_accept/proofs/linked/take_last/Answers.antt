use Rattle.std.proofs.Common.{length, arith}
use Rattle.sm_accept.proofs.LinkSteps.{ahead, behind, number_fits, before_in_range, next_in_range, unlinked}
use Rattle.sm_accept.proofs.linked.take_last.Goals as goal

pub overflow_add-number : goal.overflow_add-number
overflow_add-number c = omega (arith, number_fits c.args.last c.proposer_at-p.ensures.market c.requires.made c.requires.in_range c.requires.last c.proposer_at-p.ensures.named c.reviewer_cross-number.ensures.place, c.type_inv.starts (length c.args.market.now.proposers))

pub behind-behind-requires-clause-there : goal.behind-behind-requires-clause-there
behind-behind-requires-clause-there c = omega (arith, number_fits c.args.last c.proposer_at-p.ensures.market c.requires.made c.requires.in_range c.requires.last c.proposer_at-p.ensures.named c.reviewer_cross-number.ensures.place, c.requires.made.next_each)

pub ahead-ahead-requires-clause-there : goal.ahead-ahead-requires-clause-there
ahead-ahead-requires-clause-there c = omega (arith, number_fits c.args.last c.proposer_at-p.ensures.market c.requires.made c.requires.in_range c.requires.last c.proposer_at-p.ensures.named c.reviewer_cross-number.ensures.place, c.requires.made.before_each)

pub join-requires-clause-next : goal.join-requires-clause-next
join-requires-clause-next c =
    let f = ahead c.args.last c.proposer_at-p.ensures.market c.requires.made c.requires.in_range c.requires.last c.proposer_at-p.ensures.named c.reviewer_cross-number.ensures.place c.ahead-ahead.ensures in
    let g = behind c.args.last c.proposer_at-p.ensures.market c.requires.made c.requires.in_range c.requires.last c.proposer_at-p.ensures.named c.reviewer_cross-number.ensures.place c.behind-behind.ensures in
    before_in_range c.args.last c.proposer_at-p.ensures.market c.requires.made c.requires.in_range c.requires.last c.proposer_at-p.ensures.named f g

pub join-requires-clause-before : goal.join-requires-clause-before
join-requires-clause-before c =
    let f = ahead c.args.last c.proposer_at-p.ensures.market c.requires.made c.requires.in_range c.requires.last c.proposer_at-p.ensures.named c.reviewer_cross-number.ensures.place c.ahead-ahead.ensures in
    let g = behind c.args.last c.proposer_at-p.ensures.market c.requires.made c.requires.in_range c.requires.last c.proposer_at-p.ensures.named c.reviewer_cross-number.ensures.place c.behind-behind.ensures in
    next_in_range c.args.last c.proposer_at-p.ensures.market c.requires.made c.requires.in_range c.requires.last c.proposer_at-p.ensures.named f g

pub returns-clause-made : goal.returns-clause-made
returns-clause-made c =
    let f = ahead c.args.last c.proposer_at-p.ensures.market c.requires.made c.requires.in_range c.requires.last c.proposer_at-p.ensures.named c.reviewer_cross-number.ensures.place c.ahead-ahead.ensures in
    let g = behind c.args.last c.proposer_at-p.ensures.market c.requires.made c.requires.in_range c.requires.last c.proposer_at-p.ensures.named c.reviewer_cross-number.ensures.place c.behind-behind.ensures in
    rw (c.join.ensures.next, c.join.ensures.before)
    (unlinked c.args.last c.proposer_at-p.ensures.market c.requires.made c.requires.in_range c.requires.last c.proposer_at-p.ensures.named f g)
