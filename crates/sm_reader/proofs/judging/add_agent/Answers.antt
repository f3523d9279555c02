use Rattle.std.proofs.Common.{subst}
use Rattle.sm_text.specs.Slices.{texts_of}
use Rattle.sm_reader.specs.Draft.{AddsAgent, ListsOn}
use Rattle.sm_reader.proofs.AddLemmas.{agent_added}
use Rattle.sm_reader.proofs.ResultLemmas.{if_ok}
use Rattle.sm_reader.proofs.judging.add_agent.Goals as goal

pub returns-clause-added : goal.returns-clause-added
returns-clause-added c =
    let d = c.args.draft.now in
    let d1 = c.declare.new.draft in
    let d2 = c.listed.new.draft in
    let d3 = c.put_agent.new.draft in
    let entries = texts_of c.args.agent.entries.now in
    let ids = c.in_ok-entries.entries in
    let lists = subst (λ side. ListsOn side d1 d2 entries c.args.line ids.items) c.listed_side.ensures c.in_ok-entries.ensures.listed in
    if_ok _ (λ _. AddsAgent c.args.kind c.args.line c.args.agent.side c.args.agent.name.now c.args.agent.capacity entries d d3) c.put_agent.result c.put_agent.ensures.put
    (λ _ puts. agent_added c.args.line c.args.agent.capacity c.args.agent.name entries ids d d1 d2 d3 c.args.kind c.args.agent.side c.requires c.in_ok-declare.ensures.declared lists puts)
