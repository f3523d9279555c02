use Rattle.std.specs.Option.{option_map}
use Rattle.sm_reader.specs.Judging.{fault_of}
use Rattle.sm_text.specs.Slices.{texts_of}
use Rattle.sm_reader.specs.Draft.{said_of, runs_form, AddsForm, IsLineFault}
use Rattle.sm_reader.proofs.PairLemmas.{adds_agent, agent_refused, runs_refused}
use Rattle.sm_reader.proofs.ResultLemmas.{if_ok, if_err, on_err}
use Rattle.sm_reader.proofs.judging.add_runs.Goals as goal

pub returns-in_err-capacity-clause-fault : goal.returns-in_err-capacity-clause-fault
returns-in_err-capacity-clause-fault c =
    let a = c.args.agent in
    let said = said_of c.args.kind c.args.draft.now in
    let f = c.in_err-capacity.field-0.0 in
    on_err (λ f. IsLineFault (fault_of said (runs_form a)) c.args.line f) c.from_residual.result f c.from_residual.ensures.1
    (runs_refused c.args.kind c.args.line c.args.draft.now a.side a.name.now (option_map (λ x. x.now) a.capacity) (texts_of a.entries.now) c.requires.draft f c.in_err-capacity.ensures.fault)

pub returns-clause-added : goal.returns-clause-added
returns-clause-added c =
    let a = c.args.agent in
    let d = c.args.draft.now in
    let new = c.add_agent.new.draft in
    if_ok _ (λ _. AddsForm c.args.kind c.args.line (runs_form a) d new) c.add_agent.result c.add_agent.ensures.added
    (λ _ adds. adds_agent c.args.kind c.args.line d a.side a.name.now (option_map (λ x. x.now) a.capacity) (texts_of a.entries.now) c.requires.draft c.in_ok-capacity.capacity new c.in_ok-capacity.ensures.checked adds)

pub returns-clause-fault : goal.returns-clause-fault
returns-clause-fault c =
    let a = c.args.agent in
    let d = c.args.draft.now in
    let said = said_of c.args.kind d in
    if_err _ (λ f. IsLineFault (fault_of said (runs_form a)) c.args.line f) c.add_agent.result c.add_agent.ensures.fault
    (λ f h. agent_refused c.args.kind c.args.line d a.side a.name.now (option_map (λ x. x.now) a.capacity) (texts_of a.entries.now) c.requires.draft c.in_ok-capacity.capacity f c.in_ok-capacity.ensures.checked h)
