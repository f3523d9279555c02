use Rattle.std.proofs.Common.{◌≡◌, length, map, drop}
use Rattle.sm_lists.specs.Earlier.{earlier_of}
use Rattle.sm_reader.specs.InstanceText.{lines_with_unknown, least}
use Rattle.sm_reader.specs.Draft.{agent_in, AreAgentsBelow}
use Rattle.sm_reader.proofs.numbering.first_in_lists.Given as goal

-- the first line so far, and then those that are to come
abbrev pub invariant-agents : goal.invariant-agents
invariant-agents l =
    let t = l.names in
    record {
      first : earlier_of l.first (least (lines_with_unknown t.declared (map (agent_in t.texts) (drop l.agent-index l.agents)))) ≡ least (lines_with_unknown t.declared (map (agent_in t.texts) l.agents));
      in_range : AreAgentsBelow (length t.texts) (drop l.agent-index l.agents);
    }
