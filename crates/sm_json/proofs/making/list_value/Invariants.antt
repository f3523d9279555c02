use Rattle.std.proofs.Common.{◌≡◌, map, take}
use Rattle.serde_json.specs.Data.{string}
use Rattle.serde_json.specs.View.{view}
use Rattle.sm_agents.specs.Vectors.{agents_of}
use Rattle.sm_instance_lines.specs.Names.{name_of}
use Rattle.sm_json.proofs.making.list_value.Given as goal

-- the values so far
abbrev pub invariant-loop-a : goal.invariant-loop-a
invariant-loop-a l = map view l.list.items ≡ map (λ a. string (name_of (agents_of l.others) a)) (take l.a-index l.entries)
