use Rattle.std.proofs.Common.{sym, arith}
use Rattle.sm_answer_list.proofs.RankLemmas.{held_at, alone_at}
use Rattle.sm_answer_median.proofs.MedianLemmas.{rank_is}
use Rattle.sm_answer_median.proofs.counting.counted_place.Goals as goal

pub number_at_place-rank-requires : goal.number_at_place-rank-requires
number_at_place-rank-requires c = omega (arith, c.requires.counted.long, c.proposer_len-len.ensures.length, c.proposer_len-len.ensures.fits)

pub overflow_sub-result : goal.overflow_sub-result
overflow_sub-result c = omega (arith, rank_is c.requires.counted c.number_at_place-rank.ensures)

pub returns-then-rank-len : goal.returns-then-rank-len
returns-then-rank-len c = λ m. sym (held_at c.args.instance.now m.places c.args.p (rank_is m c.number_at_place-rank.ensures) (omega (arith, c.if-rank-len.true, c.proposer_len-len.ensures.length)))

pub returns-else-rank-len : goal.returns-else-rank-len
returns-else-rank-len c = λ m. sym (alone_at c.args.instance.now m.places m.matching c.args.p (rank_is m c.number_at_place-rank.ensures) (omega (arith, c.if-rank-len.false, c.proposer_len-len.ensures.length)))
