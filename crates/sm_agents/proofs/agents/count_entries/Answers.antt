use Rattle.std.proofs.Common.{arith}
use Rattle.sm_agents.proofs.AgentLemmas.{entries_of-take_suc}
use Rattle.sm_agents.proofs.agents.count_entries.Goals as goal

pub loop-agent-preserved : goal.loop-agent-preserved
loop-agent-preserved c =
    let more = entries_of-take_suc c.args.agents.now c.loop-agent.agent-index c.agent-item.result c.loop-agent-test.true c.agent-item.is in
    let is = c.loop-agent.invariant in
    omega arith
