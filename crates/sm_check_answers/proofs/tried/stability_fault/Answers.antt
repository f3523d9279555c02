use Rattle.std.proofs.Common.{◌∙◌, Option, sym, ap, subst}
use Rattle.std.proofs.lemmas.List.{with_items_is}
use Rattle.sm_check_clauses.specs.Verdicts.{Finds}
use Rattle.sm_check_answers.specs.Tried.{StableHolds, AreLimits}
use Rattle.sm_check_answers.specs.declared.tried.Tried.{Tried}
use Rattle.sm_check_clauses.specs.declared.verdicts.Reason.{Reason}
use Rattle.sm_check_clauses.specs.declared.verdicts.Reason.TheVariants as reason
use Rattle.sm_check_answers.proofs.tried.stability_fault.Goals as goal
use Rattle.sm_check_answers.proofs.tried.stability_fault.Goals.{then-count-eq0, else-count-eq0}

pub returns-clause-kept : goal.returns-clause-kept
returns-clause-kept c = λ none.
    let w = c.args.instance.now in
    let places = c.args.tried.now.next.places.items in
    let Limits : Tried → Type 0 = λ t. AreLimits w places t.limits.items in
    let Found : Option Reason → Type 0 = λ why. Finds (StableHolds w places) why in
    let copied = c.copy_from_slice.ensures.items ∙ c.deref.ensures.value in
    elim c.if-count-eq0.branch [
      | then-count-eq0 b ↦
          let long = b.first_fault-why.auto.limits ∙ b.deref_mut.ensures.len in
          let written = with_items_is c.args.tried.now.limits b.first_fault-why.new.limits long in
          record {
            matching = copied ∙ ap (λ (t : Tried). t.next.places.items) b.tried-is;
            stable = (subst Found (sym b.why-is ∙ none) b.first_fault-why.ensures.found) reason.Blocked;
            limits = subst Limits (sym b.tried-is) (subst (AreLimits w places) (sym written) (b.first_fault-why.ensures.limits (sym b.why-is ∙ none)));
          }
      | else-count-eq0 b ↦
          let long = b.next_fault-why.auto.limits ∙ b.deref_mut-else-count-eq0.ensures.len in
          let written = with_items_is c.args.tried.now.limits b.next_fault-why.new.limits long in
          record {
            matching = copied ∙ ap (λ (t : Tried). t.next.places.items) b.tried-is;
            stable = (subst Found (sym b.why-is ∙ none) b.next_fault-why.ensures.found) reason.Blocked;
            limits = subst Limits (sym b.tried-is) (subst (AreLimits w places) (sym written) (b.next_fault-why.ensures.limits (sym b.why-is ∙ none)));
          }
    ]
