use Rattle.std.proofs.Common.{arith, subst, sym}
use Rattle.sm_trim.specs.Cutting.{cut_written, MayProposersEnd}
use Rattle.sm_trim.proofs.SweepLemmas.{ends_same, few_before}
use Rattle.sm_trim.proofs.proposers.end_all.Goals as goal

pub loop-r-init : goal.loop-r-init
loop-r-init c = record {
  may = subst (λ x. MayProposersEnd (cut_written c.args.instance.now c.args.proposers.now c.args.reviewers.now) c.args.proposers.now x) (sym c.requires.same) (ends_same (cut_written c.args.instance.now c.args.proposers.now c.args.reviewers.now) c.args.proposers.now);
  few = λ s on. absurd (omega (arith, on));
}

pub loop-r-preserved : goal.loop-r-preserved
loop-r-preserved c = record {
  may = c.end_behind.ensures.may;
  few = few_before (cut_written c.args.instance.now c.args.proposers.now c.args.reviewers.now) c.loop-r.after c.end_behind.new.after c.loop-r.r c.loop-r.invariant.few c.end_behind.ensures.no_later c.end_behind.ensures.few;
}

pub returns-clause-few : goal.returns-clause-few
returns-clause-few c s on = c.loop-r.invariant.few s (omega (arith, on, c.loop-r-test.false, c.reviewer_count-r-end.ensures.count))
