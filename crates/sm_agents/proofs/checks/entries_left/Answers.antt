use Rattle.std.proofs.Common.{◌+◌, arith}
use Rattle.sm_agents.proofs.AgentLemmas.{entries_of-take_suc, entries_front}
use Rattle.sm_agents.proofs.checks.entries_left.Goals as goal

pub returns-then-entries-left : goal.returns-then-entries-left
returns-then-entries-left c =
    let more = entries_of-take_suc c.args.agents.now c.loop-agent.agent-index c.agent-item.result c.loop-agent-test.true c.agent-item.is in
    omega (arith, entries_front c.args.agents.now (c.loop-agent.agent-index + 1))

pub loop-agent-preserved : goal.loop-agent-preserved
loop-agent-preserved c =
    let more = entries_of-take_suc c.args.agents.now c.loop-agent.agent-index c.agent-item.result c.loop-agent-test.true c.agent-item.is in
    omega arith
