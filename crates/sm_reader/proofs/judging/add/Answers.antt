use Rattle.std.proofs.Common.{ℕ, List, refl, sym, subst, ◌∙◌}
use Rattle.std.specs.Borrow.{Bor}
use Rattle.std.specs.Option.{option_map}
use Rattle.sm_reader.specs.Judging.{fault_of}
use Rattle.sm_text.specs.Slices.{texts_of}
use Rattle.sm_reader.specs.Draft.{said_of, IsMaster, AddsForm, AddsBy, IsLineFault}
use Rattle.sm_forms.specs.Forms.{form_of}
use Rattle.sm_reader.specs.declared.judging.Judged.TheVariants.{Orders}
use Rattle.sm_reader.proofs.JudgeLemmas.{fault_of-weighs}
use Rattle.sm_reader.proofs.PairLemmas.{weight_added, condition_added, pair_refused}
use Rattle.sm_reader.proofs.MasterLemmas.{uses_added, uses_refused, no_master_refused, order_faults, order_refused}
use Rattle.sm_reader.proofs.ResultLemmas.{on_err}
use Rattle.sm_reader.proofs.judging.add.Goals as goal

pub returns-in_err-entries-in-Use-clause-fault : goal.returns-in_err-entries-in-Use-clause-fault
returns-in_err-entries-in-Use-clause-fault c =
    let a = c.in-Use in
    let said = said_of c.args.kind c.args.draft.now in
    let f = c.in_err-entries-in-Use.field-0.0 in
    on_err (λ f. IsLineFault (fault_of said (form_of c.args.form)) c.args.line f) c.from_residual-in_err-entries-in-Use.result f c.from_residual-in_err-entries-in-Use.ensures.1
    (subst (λ form. IsLineFault (fault_of said (form_of form)) c.args.line f) (sym a.is)
    (no_master_refused c.args.kind c.args.line c.args.draft.now a.side a.name.now (option_map (λ x. x.now) a.capacity) a.master.now f c.in_err-entries-in-Use.ensures.refused))

pub returns-in_err-add_runs-in-Use-clause-fault : goal.returns-in_err-add_runs-in-Use-clause-fault
returns-in_err-add_runs-in-Use-clause-fault c =
    let a = c.in-Use in
    let d = c.args.draft.now in
    let said = said_of c.args.kind d in
    let f = c.in_err-add_runs-in-Use.field-0.0 in
    let capacity = option_map (λ (x : Bor (List ℕ)). x.now) a.capacity in
    let entries = texts_of c.deref.result.now in
    let is = subst (λ (xs : List (Bor (List ℕ))). IsMaster d a.master.now (texts_of xs)) (sym c.deref.ensures.value) c.in_ok-entries-in-Use.ensures.found in
    on_err (λ f. IsLineFault (fault_of said (form_of c.args.form)) c.args.line f) c.from_residual-in_err-add_runs-in-Use.result f c.from_residual-in_err-add_runs-in-Use.ensures.1
    (subst (λ form. IsLineFault (fault_of said (form_of form)) c.args.line f) (sym a.is)
    (uses_refused c.args.kind c.args.line d a.side a.name.now capacity a.master.now entries f is c.in_err-add_runs-in-Use.ensures.fault))

pub returns-in_err-check_order-in-Order-clause-fault : goal.returns-in_err-check_order-in-Order-clause-fault
returns-in_err-check_order-in-Order-clause-fault c =
    let a = c.in-Order in
    let d = c.args.draft.now in
    let said = said_of c.args.kind d in
    let f = c.in_err-check_order-in-Order.field-0.0 in
    on_err (λ f. IsLineFault (fault_of said (form_of c.args.form)) c.args.line f) c.from_residual-in_err-check_order-in-Order.result f c.from_residual-in_err-check_order-in-Order.ensures.1
    (subst (λ form. IsLineFault (fault_of said (form_of form)) c.args.line f) (sym a.is)
    (order_refused c.args.kind c.args.line d (texts_of a.proposers.now) f c.in_err-check_order-in-Order.ensures.fault))

pub returns-in_err-add_weight-in-Weight-clause-fault : goal.returns-in_err-add_weight-in-Weight-clause-fault
returns-in_err-add_weight-in-Weight-clause-fault c =
    let a = c.in-Weight in
    let said = said_of c.args.kind c.args.draft.now in
    let f = c.in_err-add_weight-in-Weight.field-0.0 in
    let second = option_map (λ (x : Bor (List ℕ)). x.now) a.second in
    on_err (λ f. IsLineFault (fault_of said (form_of c.args.form)) c.args.line f) c.from_residual-in_err-add_weight-in-Weight.result f c.from_residual-in_err-add_weight-in-Weight.ensures.1
    (subst (λ form. IsLineFault (fault_of said (form_of form)) c.args.line f) (sym a.is)
    (subst (λ o. IsLineFault o c.args.line f) (sym (fault_of-weighs said a.proposer.now a.reviewer.now a.weight.now second)) c.in_err-add_weight-in-Weight.ensures.fault))

pub returns-in_err-add_condition-in-Pair-clause-fault : goal.returns-in_err-add_condition-in-Pair-clause-fault
returns-in_err-add_condition-in-Pair-clause-fault c =
    let a = c.in-Pair in
    let said = said_of c.args.kind c.args.draft.now in
    let f = c.in_err-add_condition-in-Pair.field-0.0 in
    on_err (λ f. IsLineFault (fault_of said (form_of c.args.form)) c.args.line f) c.from_residual-in_err-add_condition-in-Pair.result f c.from_residual-in_err-add_condition-in-Pair.ensures.1
    (subst (λ form. IsLineFault (fault_of said (form_of form)) c.args.line f) (sym a.is)
    (pair_refused said c.args.line a.condition a.proposer.now a.reviewer.now f c.in_err-add_condition-in-Pair.ensures.refused))

pub returns-in_ok-add_runs-in-Use-clause-added : goal.returns-in_ok-add_runs-in-Use-clause-added
returns-in_ok-add_runs-in-Use-clause-added c =
    let a = c.in-Use in
    let d = c.args.draft.now in
    let new = c.add_runs-in-Use.new.draft in
    let capacity = option_map (λ (x : Bor (List ℕ)). x.now) a.capacity in
    let entries = texts_of c.deref.result.now in
    let is = subst (λ (xs : List (Bor (List ℕ))). IsMaster d a.master.now (texts_of xs)) (sym c.deref.ensures.value) c.in_ok-entries-in-Use.ensures.found in
    subst (λ form. AddsForm c.args.kind c.args.line (form_of form) d new) (sym a.is)
    (uses_added c.args.kind c.args.line d new a.side a.name.now capacity a.master.now entries is c.in_ok-add_runs-in-Use.ensures.added)

pub returns-in_ok-check_order-in-Order-clause-added : goal.returns-in_ok-check_order-in-Order-clause-added
returns-in_ok-check_order-in-Order-clause-added c =
    let a = c.in-Order in
    let d = c.args.draft.now in
    subst (λ form. AddsBy c.args.kind c.args.line form d d Orders) (sym a.is)
    (order_faults c.args.kind d (texts_of a.proposers.now) ∙ c.in_ok-check_order-in-Order.ensures.faultless, tt, refl)

pub returns-in_ok-add_weight-in-Weight-clause-added : goal.returns-in_ok-add_weight-in-Weight-clause-added
returns-in_ok-add_weight-in-Weight-clause-added c =
    let a = c.in-Weight in
    let d = c.args.draft.now in
    let new = c.add_weight.new.draft in
    let second = option_map (λ (x : Bor (List ℕ)). x.now) a.second in
    subst (λ form. AddsForm c.args.kind c.args.line (form_of form) d new) (sym a.is)
    (weight_added c.args.kind c.args.line d new a.proposer.now a.reviewer.now a.weight.now second c.requires.draft c.in_ok-add_weight-in-Weight.ensures.put)

pub returns-in_ok-add_condition-in-Pair-clause-added : goal.returns-in_ok-add_condition-in-Pair-clause-added
returns-in_ok-add_condition-in-Pair-clause-added c =
    let a = c.in-Pair in
    let d = c.args.draft.now in
    let new = c.add_condition.new.draft in
    subst (λ form. AddsForm c.args.kind c.args.line (form_of form) d new) (sym a.is)
    (condition_added c.args.kind c.args.line d new a.condition a.proposer.now a.reviewer.now c.requires.draft c.in_ok-add_condition-in-Pair.ensures.bound)
