use Rattle.std.proofs.Common.{List, length, ap, arith}
use Rattle.std.proofs.lemmas.List.{length-map}
use Rattle.sm_agents.specs.Written.{AgentData}
use Rattle.sm_agents.specs.Vectors.{agent_of}
use Rattle.sm_top.proofs.performing.count_of.Goals as goal

pub returns : goal.returns
returns c =
    let long = length-map c.persons.result.now agent_of in
    let same = ap (λ (xs : List AgentData). length xs) c.persons.ensures.agents in
    omega (arith, long, same)
