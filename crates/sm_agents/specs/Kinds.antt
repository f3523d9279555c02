-- The names of kinds, and how many sides an instance of a kind has.
use Rattle.std.specs.Prelude.{ℕ, Bool, true, false, if◌then◌else◌, List, codes, Option, Some, None}
use Rattle.std.specs.Str.{bytes_eq}
use Rattle.sm_agents.specs.declared.kinds.Kind.{Kind}
use Rattle.sm_agents.specs.declared.kinds.Kind.TheVariants.{Marriage, Hospitals, Roommates}

-- the name of a kind
abbrev pub kind_name : Kind → List ℕ
kind_name Marriage = codes "marriage"
kind_name Hospitals = codes "hospitals"
kind_name Roommates = codes "roommates"

-- the kind of a name
abbrev pub kind_named : List ℕ → Option Kind
kind_named name =
    if bytes_eq name (kind_name Marriage) then Some Marriage else
    (if bytes_eq name (kind_name Hospitals) then Some Hospitals else
    (if bytes_eq name (kind_name Roommates) then Some Roommates else None))

-- an instance of this kind has two sides
abbrev pub has_two_sides : Kind → Bool
has_two_sides Marriage = true
has_two_sides Hospitals = true
has_two_sides Roommates = false
