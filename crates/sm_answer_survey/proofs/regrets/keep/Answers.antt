use Rattle.std.proofs.Common.{◌∙◌, ◌<◌, length, slice_index, arith}
use Rattle.sm_answer_list.proofs.RankLemmas.{vector_long}
use Rattle.sm_answer_survey.proofs.RegretLemmas.{one_kept, same_set, same_left, others_set, others_left, same_whole}
use Rattle.sm_answer_survey.proofs.regrets.keep.Goals.{then-ranks-p, else-ranks-p}
use Rattle.sm_answer_survey.proofs.regrets.keep.Goals as goal

pub bounds-ranks-p : goal.bounds-ranks-p
bounds-ranks-p c = let long = vector_long c.requires.vector in omega (arith, long, c.requires.piece, c.requires.worse.ranks_each)

pub loop-p-preserved : goal.loop-p-preserved
loop-p-preserved c =
    let ranks = c.args.ranks.now in
    let kept = c.loop-p.kept in
    let p = c.loop-p.p in
    let from = c.args.from in
    let i = c.loop-p.invariant in
    let stands : p < length kept = omega (arith, c.requires.piece, i.worse.ranks_each, c.requires.worse.ranks_each) in
    elim c.if-ranks-p.branch [
      | then-ranks-p w ↦
          let put = w.kept-is ∙ w.set.ensures in
          record {
            same = rw put (same_set kept ranks from p stands i.same);
            others = rw put (others_set kept c.args.kept.now from p (slice_index ranks p) (omega arith) i.others);
            others_worse = rw w.worse-is (others_set c.loop-p.worse c.args.worse.now from p w.worse_rank.result (omega arith) i.others_worse);
            worse = rw (put, w.worse-is) (one_kept p (slice_index ranks p) w.worse_rank.result i.worse (omega arith) w.worse_rank.ensures);
          }
      | else-ranks-p w ↦
          record {
            same = rw w.kept-is (same_left kept ranks from p (rw (← c.ranks.ensures) w.if-ranks-p.false) i.same);
            others = rw w.kept-is (others_left kept c.args.kept.now from p i.others);
            others_worse = rw w.worse-is (others_left c.loop-p.worse c.args.worse.now from p i.others_worse);
            worse = rw (w.kept-is, w.worse-is) i.worse;
          }
    ]

pub returns-clause-same : goal.returns-clause-same
returns-clause-same c =
    let long = vector_long c.requires.vector in
    same_whole c.loop-p.kept c.args.ranks.now c.args.from c.loop-p.p c.args.to (omega (arith, long, c.loop-p.invariant.worse.ranks_each)) (omega (arith, c.requires.piece, c.requires.worse.ranks_each, c.loop-p.invariant.worse.ranks_each)) (omega arith) c.loop-p.invariant.same
