-- Lists without inert entries.
use Rattle.std.specs.Prelude.{ℕ, Bool, nat_lt, List, filter, length}
use Rattle.sm_agents.specs.Written.{AgentData, row, place_of}

-- b lists a
abbrev pub lists_back : List AgentData → ℕ → ℕ → Bool
lists_back others a b = nat_lt (place_of others b a) (length (row others b))

-- a list without inert entries: those on it who list its owner
abbrev pub mutual_row : List AgentData → List AgentData → ℕ → List ℕ
mutual_row agents others a = filter (lists_back others a) (row agents a)
