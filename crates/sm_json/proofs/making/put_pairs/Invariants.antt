use Rattle.std.proofs.Common.{◌≡◌, map, take}
use Rattle.serde_json.specs.View.{view}
use Rattle.sm_agents.specs.Vectors.{agents_of}
use Rattle.sm_instance_lines.specs.Names.{said_pair}
use Rattle.sm_json.specs.Making.{pair_json}
use Rattle.sm_json.proofs.making.put_pairs.Given as goal

-- the values so far
abbrev pub invariant-loop-pair : goal.invariant-loop-pair
invariant-loop-pair l = map view l.list.items ≡ map (λ x. pair_json (said_pair (agents_of l.proposers) (agents_of l.reviewers) x)) (take l.pair-index l.pairs)
