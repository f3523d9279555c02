use Rattle.std.proofs.Common.{◌≡◌, ◌<◌, length, ap, sym, ◌∙◌, arith}
use Rattle.sm_market.specs.Lists.{row, entry}
use Rattle.sm_market.specs.Matching.{held}
use Rattle.sm_successors.proofs.NextLemmas.{next_answer}
use Rattle.sm_successors.proofs.search.next_proposer.Goals as goal

pub returns-clause-next : goal.returns-clause-next
returns-clause-next c =
    let place = c.first_taker-place in
    let on : c.first_taker-place.result < length (row c.args.market.now.proposers c.args.p) = omega (arith, c.if-place-proposer_len.false, c.proposer_len.ensures) in
    let holder : held c.args.m.now.holders (entry c.args.market.now.proposers c.args.p c.first_taker-place.result) ≡ c.holder.result = ap (held c.args.m.now.holders) (sym c.reviewer_at.ensures.named) ∙ sym c.holder.ensures in
    next_answer c.reviewer_at.ensures.market c.requires.made c.args.p c.first_taker-place.result on (place.ensures.behind on) (place.ensures.takes on) place.ensures.passed c.holder.result holder
