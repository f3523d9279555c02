-- What an `Input` is.
use Rattle.std.specs.Prelude.{List}
use Rattle.sm_agents.specs.Written.{AgentData}
use Rattle.sm_agents.specs.Sound.{IsInstance, ArePersons}
use Rattle.sm_agents.specs.declared.kinds.Kind.{Kind}
use Rattle.sm_agents.specs.declared.kinds.Kind.TheVariants.{Roommates}
use Rattle.sm_instance.specs.declared.inputs.Input.{Input}
use Rattle.sm_instance.specs.declared.inputs.Input.TheVariants.{Two, Room}

-- an instance with two sides, or one of roommates
abbrev pub IsInput : Input → Type 0
IsInput (Two w) = IsInstance w
IsInput (Room persons) = ArePersons persons

-- the kind of an instance
abbrev pub kind_of : Input → Kind
kind_of (Two w) = w.kind
kind_of (Room _) = Roommates

-- the agents of the left and of the right: in roommates both are the persons
abbrev pub left_of : Input → List AgentData
left_of (Two w) = w.proposers
left_of (Room persons) = persons

-- the agents of the right: the reviewers, or the persons
abbrev pub right_of : Input → List AgentData
right_of (Two w) = w.reviewers
right_of (Room persons) = persons
