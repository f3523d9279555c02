use Rattle.std.proofs.Common.{ap, refl, ◌∙◌}
use Rattle.sm_instance.specs.declared.inputs.Input.{Input}
use Rattle.sm_text.specs.declared.refusal.RefusalKind.TheVariants.{NotStable}
use Rattle.sm_top.specs.Outcome.{unstable_fields, bad, unstable}
use Rattle.sm_serve.specs.Texts.{with_detail, are_plain}
use Rattle.sm_top.proofs.BehindLemmas.{unstable_plain}
use Rattle.sm_top.proofs.behind.given_behind.Goals as goal

pub returns-in-Err-BadAnswer-clause-stop : goal.returns-in-Err-BadAnswer-clause-stop
returns-in-Err-BadAnswer-clause-stop c =
    bad c.in-Err-BadAnswer.line (rw c.in-Err-BadAnswer.field-0-is at c.in-Err-BadAnswer.ensures.fault) refl

pub returns-in_ok-fields-in-Err-NotStable-clause-stop : goal.returns-in_ok-fields-in-Err-NotStable-clause-stop
returns-in_ok-fields-in-Err-NotStable-clause-stop c =
    let u = c.in-Err-NotStable.unstable in
    let input = c.args.given.now.read.now.input in
    let shown = c.in_ok-fields-in-Err-NotStable.ensures in (
      unstable u (rw c.in-Err-NotStable.field-0-is at c.in-Err-NotStable.ensures.fault)
          (ap (with_detail NotStable u.line) (shown ∙ ap (λ (i : Input). unstable_fields i u) c.args.given.now.counted.two)),
      ap are_plain shown ∙ unstable_plain input c.kind-kind.ensures.sound u,
    )
