use Rattle.std.proofs.Common.{◌<◌, ◌+◌, length, arith}
use Rattle.sm_text.specs.Limits.{most_entries}
use Rattle.sm_reader.specs.Listed.{PutsDeclared}
use Rattle.sm_reader.proofs.ListedLemmas.{past_limits}
use Rattle.sm_reader.proofs.ResultLemmas.{if_ok}
use Rattle.sm_reader.proofs.listed.put_declared.Goals as goal

pub returns-then-len-draft-clause-fault : goal.returns-then-len-draft-clause-fault
returns-then-len-draft-clause-fault c = λ entries long differ.
    let mid = c.declare.new.draft in
    let past : most_entries < mid.entries + length entries = omega (arith, long, c.len.ensures, c.if-len-draft.true, c.args.agent.entries.ok.0) in
    past_limits c.args.side c.args.draft.now mid c.args.agent.name.now entries c.args.agent.line c.beyond.result c.in_ok-declare.ensures.declared differ (c.beyond.ensures (length entries) past)

pub returns-clause-put : goal.returns-clause-put
returns-clause-put c =
    if_ok _ (λ _. PutsDeclared c.args.side c.args.draft.now c.put_agent.new.draft c.args.agent) c.put_agent.result c.put_agent.ensures.put
    (λ _ puts. record { mid = c.declare.new.draft; declares = c.in_ok-declare.ensures.declared; puts = puts })
