use Rattle.std.proofs.Common.{◌≡◌, ◌++◌, length, map}
use Rattle.std.specs.Vec.Iter.{into_iter_items}
use Rattle.sm_agents.specs.Vectors.{agents_of}
use Rattle.sm_reader.specs.InstanceText.{numbered}
use Rattle.sm_reader.specs.Draft.{agent_in, AreAgentsBelow}
use Rattle.sm_reader.proofs.numbering.number_agents.Given as goal

-- the agents so far, and then those that are to come
abbrev pub invariant-agents : goal.invariant-agents
invariant-agents l =
    let t = l.names in
    record {
      numbered : agents_of l.agents.items ++ map (numbered t.declared) (map (agent_in t.texts) (into_iter_items l.declared-iterator)) ≡ map (numbered t.declared) (map (agent_in t.texts) l.fn.side.items);
      in_range : AreAgentsBelow (length t.texts) (into_iter_items l.declared-iterator);
    }
