-- The first lines of answers as plain data.
use Rattle.std.specs.Prelude.{ℕ, List as Vector, Option}
use Rattle.std.specs.Option.{option_map}
use Rattle.sm_agents.specs.declared.kinds.Side.{Side}
use Rattle.sm_agents.specs.declared.kinds.Measure.{Measure}
use Rattle.sm_report.specs.declared.heads.Head.{Head}
use Rattle.sm_report.specs.declared.heads.Head.TheVariants as head

-- what an answer answers
pub data HeadData : Type 0 where
  Solve : Option Side → HeadData
  Reduced : HeadData
  Rotations : HeadData
  Pairs : HeadData
  List : Option (Vector ℕ) → ℕ → HeadData
  Regret : HeadData
  Weight : Measure → HeadData
  Meet : HeadData
  Join : HeadData
  Survey : ℕ → HeadData
  Check : HeadData
  Median : HeadData
  Route : HeadData
  Rest : HeadData

-- a first line as plain data
abbrev pub head_of : Head → HeadData
head_of (head.Solve side) = Solve side
head_of head.Reduced = Reduced
head_of head.Rotations = Rotations
head_of head.Pairs = Pairs
head_of (head.List after limit) = List (option_map (λ v. v.items) after) limit
head_of head.Regret = Regret
head_of (head.Weight by) = Weight by
head_of head.Meet = Meet
head_of head.Join = Join
head_of (head.Survey limit) = Survey limit
head_of head.Check = Check
head_of head.Median = Median
head_of head.Route = Route
head_of head.Rest = Rest
