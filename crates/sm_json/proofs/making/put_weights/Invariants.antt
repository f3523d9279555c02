use Rattle.std.proofs.Common.{◌≡◌, map, take}
use Rattle.std.specs.List.{zip}
use Rattle.serde_json.specs.View.{view}
use Rattle.sm_agents.specs.Vectors.{agents_of}
use Rattle.sm_instance_lines.specs.Names.{said_weight}
use Rattle.sm_json.specs.Making.{weight_json}
use Rattle.sm_json.proofs.making.put_weights.Given as goal

-- the values so far
abbrev pub invariant-numbers : goal.invariant-numbers
invariant-numbers l =
    map view l.list.items ≡ map (λ x. weight_json (said_weight (agents_of l.proposers) (agents_of l.reviewers) x)) (take l.n (zip l.instance.weights l.instance.seconds))
