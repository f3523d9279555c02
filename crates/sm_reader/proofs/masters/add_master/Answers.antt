use Rattle.sm_text.specs.Slices.{texts_of}
use Rattle.sm_agents.specs.declared.kinds.Kind.{Kind}
use Rattle.sm_forms.specs.Forms.{shares}
use Rattle.sm_reader.specs.Judging.{fault_of}
use Rattle.sm_reader.specs.Draft.{said_of, IsDraft, IsLineFault}
use Rattle.sm_reader.specs.declared.faults.TextFault.{TextFault}
use Rattle.sm_reader.proofs.MasterLemmas.{master_runs_refused, master_refused, master_added, runs_are_names}
use Rattle.sm_reader.proofs.ResultLemmas.{on_err}
use Rattle.sm_reader.proofs.masters.add_master.Goals as goal

pub returns-in_err-checked_capacity-clause-fault : goal.returns-in_err-checked_capacity-clause-fault
returns-in_err-checked_capacity-clause-fault c =
    let d = c.args.draft.now in
    let name = c.args.master.name.now in
    let entries = texts_of c.args.master.entries.now in
    let f = c.in_err-checked_capacity.field-0.0 in
    on_err (λ (f : TextFault). (kind : Kind) → IsDraft kind c.args.line d → IsLineFault (fault_of (said_of kind d) (shares name entries)) c.args.line f) c.from_residual.result f c.from_residual.ensures.1
    (λ kind draft. master_runs_refused kind c.args.line d name entries draft f c.in_err-checked_capacity.ensures.fault)

pub returns-in_err-check_master-clause-fault : goal.returns-in_err-check_master-clause-fault
returns-in_err-check_master-clause-fault c =
    let d = c.args.draft.now in
    let name = c.args.master.name.now in
    let entries = texts_of c.args.master.entries.now in
    let f = c.in_err-check_master.field-0.0 in
    on_err (λ (f : TextFault). (kind : Kind) → IsDraft kind c.args.line d → IsLineFault (fault_of (said_of kind d) (shares name entries)) c.args.line f) c.from_residual-in_err-check_master.result f c.from_residual-in_err-check_master.ensures.1
    (λ kind draft. master_refused kind c.args.line d name entries draft c.in_ok-checked_capacity.ensures.checked.faultless f c.in_err-check_master.ensures.fault)

pub returns-clause-added : goal.returns-clause-added
returns-clause-added c =
    let d = c.args.draft.now in
    let name = c.args.master.name.now in
    let entries = texts_of c.args.master.entries.now in
    let right = c.in_ok-checked_capacity.ensures.checked.faultless in
    λ kind draft. master_added kind c.args.line d name entries draft right c.put_master.new.draft (runs_are_names name entries right) c.in_ok-put_master.ensures
