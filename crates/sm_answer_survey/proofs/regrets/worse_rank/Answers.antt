use Rattle.std.proofs.Common.{◌-◌, ◌∙◌, sym, ap, arith, slice_index}
use Rattle.sm_instance.specs.Ranks.{worse_rank}
use Rattle.sm_answer_list.proofs.RankLemmas.{vector_long, rank_at, held_at, alone_at}
use Rattle.sm_answer_survey.proofs.regrets.worse_rank.Goals as goal

pub bounds-ranks-p : goal.bounds-ranks-p
bounds-ranks-p c = let long = vector_long c.requires.vector in omega (arith, long, c.requires.in_range)

pub returns-then-rank-proposer_len : goal.returns-then-rank-proposer_len
returns-then-rank-proposer_len c = λ places m is.
    let past = c.if-rank-proposer_len.true in
    sym (ap (worse_rank c.args.instance.now c.args.p) (alone_at c.args.instance.now places m c.args.p is (omega (arith, past, c.proposer_len.ensures.length))))

pub overflow_sub-rank : goal.overflow_sub-rank
overflow_sub-rank c = let e = rank_at c.args.instance.now c.requires.vector.places c.requires.vector.vector c.args.p c.requires.in_range in omega (arith, e)

pub worse_rank-requires-clause-on_list : goal.worse_rank-requires-clause-on_list
worse_rank-requires-clause-on_list c =
    let e = rank_at c.args.instance.now c.requires.vector.places c.requires.vector.vector c.args.p c.requires.in_range in omega (arith, e, c.if-rank-proposer_len.false, c.proposer_len.ensures.length)

pub worse_rank-requires-clause-acceptable : goal.worse_rank-requires-clause-acceptable
worse_rank-requires-clause-acceptable c =
    let w = c.args.instance.now in
    let p = c.args.p in
    let a = c.requires.vector in
    let rank = rank_at w a.places a.vector p c.requires.in_range in
    a.stable.matching.acceptable p (slice_index c.args.ranks.now p - 1) (held_at w a.places p (sym rank) (omega (arith, c.if-rank-proposer_len.false, c.proposer_len.ensures.length)))

pub returns : goal.returns
returns c = λ places m is.
    let w = c.args.instance.now in
    let p = c.args.p in
    let held = held_at w places p is (omega (arith, c.if-rank-proposer_len.false, c.proposer_len.ensures.length)) in
    c.worse_rank.ensures ∙ sym (ap (worse_rank w p) held)
