use Rattle.std.proofs.Common.{ℕ, ◌∙◌}
use Rattle.sm_theory.specs.Rotations.{proposer_at}
use Rattle.sm_check_decide.proofs.ChangeLemmas.{changed_step}
use Rattle.sm_check_decide.proofs.exposure.add_changed.Goals as goal

pub loop-i-preserved : goal.loop-i-preserved
loop-i-preserved c =
    let span = c.passed_span-reviewer.result in
    let passed = c.passed_span-reviewer.ensures in
    let p : ℕ = proposer_at c.args.pairs.now c.loop-i.i in
    record {
      proposers = c.add_span.ensures.proposers ∙ c.put.ensures.bound ∙ c.loop-i.invariant.proposers;
      kept = λ q w. c.add_span.ensures.kept q (c.put.ensures.kept q (c.loop-i.invariant.kept q w));
      added = changed_step passed.market span.reviewer span.better span.worse passed.reviewer passed.better passed.worse c.loop-i.invariant.added
          (λ q w. c.add_span.ensures.kept q (c.put.ensures.kept q w))
          (c.add_span.ensures.kept p c.put.ensures.has)
          c.add_span.ensures.added;
    }
