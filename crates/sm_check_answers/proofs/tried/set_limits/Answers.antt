use Rattle.std.proofs.Common.{◌<◌, arith, refl, sym, ◌∙◌, length}
use Rattle.sm_check_answers.proofs.TriedLemmas.{set_same, set_more}
use Rattle.sm_check_answers.proofs.tried.set_limits.Goals as goal
use Rattle.sm_check_answers.proofs.tried.set_limits.Goals.{then-touched-r+else-not-is_unblocked_from, else-touched-r}

pub loop-r-preserved : goal.loop-r-preserved
loop-r-preserved c =
    let s = c.loop-r.invariant in
    let in_range : c.loop-r.r < length c.args.instance.now.reviewers = omega (arith, c.loop-r-test.true, c.reviewer_count-r-end.ensures.count) in
    elim c.if-touched-r.branch [
      | then-touched-r+else-not-is_unblocked_from w ↦ rw (w.limits-is, w.touched-is) (set_more s w.gain_limit-limit.result in_range w.gain_limit-limit.ensures (w.if-not-is_unblocked_from.ensures.0 refl))
      | else-touched-r w ↦ rw (w.limits-is, w.touched-is) (set_same s (c.requires.others c.loop-r.r in_range (sym (s.kept_touched c.loop-r.r (omega arith)) ∙ w.if-touched-r.false)))
    ]
