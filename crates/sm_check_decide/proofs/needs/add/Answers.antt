use Rattle.std.proofs.Common.{◌≡◌, Some, sym, ◌∙◌}
use Rattle.std.proofs.lemmas.Option.{same_Some}
use Rattle.sm_theory.proofs.Chains.Marking.{adds_one}
use Rattle.sm_check_decide.proofs.needs.add.Goals as goal

pub returns-then-not-has-clause-added : goal.returns-then-not-has-clause-added
returns-then-not-has-clause-added c = rw c.push.ensures.pushed
    (adds_one (λ i. c.args.note ≡ Some i) c.args.found.now.items c.in-Some.i c.in-Some.is (λ i e. same_Some _ _ (sym e ∙ c.in-Some.is)))
