-- Small instances and their lines, which were written by hand.
use Rattle.std.specs.Prelude.{◌≡◌, ℕ, List, [], ◌∷◌, pos, negsuc, codes}
use Rattle.sm_agents.specs.Written.{AgentData, Written, plain_written}
use Rattle.sm_agents.specs.declared.kinds.Kind.TheVariants.{Marriage, Hospitals}
use Rattle.sm_instance.specs.declared.inputs.Input.TheVariants.{Two, Room}
use Rattle.sm_instance_lines.specs.Printed.{lines_of}

-- an agent with a name, a capacity and a list
abbrev pub agent : List ℕ → ℕ → List ℕ → AgentData
agent name capacity entries = record { name = name; capacity = capacity; line = 0; entries = entries }

-- two proposers and two reviewers, of whom one lists nobody
abbrev pub marriage : Written
marriage = plain_written Marriage
    (agent (codes "a") 1 (1 ∷ 0 ∷ []) ∷ agent (codes "b-2") 1 (0 ∷ []) ∷ [])
    (agent (codes "a") 1 (0 ∷ 1 ∷ []) ∷ agent (codes "y") 1 [] ∷ [])
    ((1, 0, negsuc 11) ∷ (0, 1, pos 0) ∷ []) ((0, 1) ∷ (0, 1) ∷ []) ((1, 1) ∷ [])

-- the lines of the marriage, by hand
abbrev pub MarriagePrinted : Type 0
MarriagePrinted = lines_of (Two marriage) ≡
    codes "stable 1 marriage"
    ∷ codes "p a: y a" ∷ codes "p b-2: a"
    ∷ codes "r a: a b-2" ∷ codes "r y:"
    ∷ codes "weight b-2 a -12" ∷ codes "weight a y 0"
    ∷ codes "force a y" ∷ codes "force a y"
    ∷ codes "forbid b-2 y"
    ∷ codes "end" ∷ []

-- the marriage with a second weight, and its second proposer before the first
abbrev pub ordered : Written
ordered = record marriage { seconds = negsuc 4 ∷ pos 0 ∷ []; order = 1 ∷ 0 ∷ [] }

-- the lines of that marriage, by hand
abbrev pub OrderedPrinted : Type 0
OrderedPrinted = lines_of (Two ordered) ≡
    codes "stable 2 marriage"
    ∷ codes "p a: y a" ∷ codes "p b-2: a"
    ∷ codes "r a: a b-2" ∷ codes "r y:"
    ∷ codes "weight b-2 a -12 -5" ∷ codes "weight a y 0"
    ∷ codes "force a y" ∷ codes "force a y"
    ∷ codes "forbid b-2 y"
    ∷ codes "order b-2 a"
    ∷ codes "end" ∷ []

-- one resident and two hospitals, of which one lists nobody
abbrev pub hospitals : Written
hospitals = plain_written Hospitals
    (agent (codes "a") 1 (0 ∷ []) ∷ [])
    (agent (codes "h") 12 (0 ∷ []) ∷ agent (codes "i") 1 [] ∷ [])
    [] [] []

-- the lines of the hospitals, by hand
abbrev pub HospitalsPrinted : Type 0
HospitalsPrinted = lines_of (Two hospitals) ≡
    codes "stable 1 hospitals" ∷ codes "p a: h" ∷ codes "r h [12]: a" ∷ codes "r i [1]:" ∷ codes "end" ∷ []

-- two persons, of whom one lists itself and the other nobody
abbrev pub persons : List AgentData
persons = agent (codes "x") 1 (1 ∷ 0 ∷ []) ∷ agent (codes "z") 1 [] ∷ []

-- the lines of the roommates, by hand
abbrev pub RoommatesPrinted : Type 0
RoommatesPrinted = lines_of (Room persons) ≡ codes "stable 1 roommates" ∷ codes "p x: z x" ∷ codes "p z:" ∷ codes "end" ∷ []
