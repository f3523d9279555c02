-- The limits within which inputs have to keep. Each is inclusive.
use Rattle.std.specs.Prelude.{ℕ}

-- bytes of an input, with what stands behind its line `end`
abbrev pub most_bytes : ℕ
most_bytes = 16777216

-- agents on a side, and persons in roommates
abbrev pub most_agents : ℕ
most_agents = 4096

-- entries on the lists of all agents together
abbrev pub most_entries : ℕ
most_entries = 524288

-- seat entries: the entries that lists have where each reviewer stands once for each of its places
abbrev pub most_seat_entries : ℕ
most_seat_entries = 1048576

-- places of an agent
abbrev pub most_capacity : ℕ
most_capacity = 4096

-- the size of a weight
abbrev pub most_weight : ℕ
most_weight = 1000000000

-- how many matchings may be asked for at once
abbrev pub most_limit : ℕ
most_limit = 1000000

-- bytes in a name
abbrev pub most_name_bytes : ℕ
most_name_bytes = 64
