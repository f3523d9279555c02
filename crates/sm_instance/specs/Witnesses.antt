-- Small instances whose matchings are known by hand, so that the definitions mean what they should.
use Rattle.std.specs.Prelude.{◌≡◌, ℕ, List, [], ◌∷◌, Option, Some, None, pos, negsuc}
use Rattle.sm_agents.specs.Written.{AgentData, Written, plain_written}
use Rattle.sm_instance.specs.Matching.{load, IsMatching}
use Rattle.sm_instance.specs.Stable.{Blocks, IsStable}
use Rattle.sm_instance.specs.Ranks.{rank_vector_of, regret_of, weight_of, second_weight_of}
use Rattle.sm_instance.specs.Allowed.{IsAllowed}
use Rattle.sm_agents.specs.Sound.{ArePersons}
use Rattle.sm_lists.specs.EachOnce.{IsEachOnce}
use Rattle.sm_agents.specs.declared.kinds.Kind.TheVariants.{Marriage, Hospitals}
use Rattle.sm_agents.specs.declared.kinds.Measure.TheVariants.{Ranks, Given}

-- an agent whose name is this one byte
abbrev pub agent : ℕ → ℕ → List ℕ → AgentData
agent letter capacity entries = record { name = letter ∷ []; capacity = capacity; line = 0; entries = entries }

-- residents a: k h, b: z h and c: h k; hospitals h of 2 places: c a b, k of 1: a, and z of none: b. So k is inert on c's
-- list. The pairs (a, h) and (c, h) weigh 4 and -10; (a, h) is forced and (b, h) forbidden.
abbrev pub small_hospitals : Written
small_hospitals = plain_written Hospitals
    (agent 97 1 (1 ∷ 0 ∷ []) ∷ agent 98 1 (2 ∷ 0 ∷ []) ∷ agent 99 1 (0 ∷ 1 ∷ []) ∷ [])
    (agent 104 2 (2 ∷ 0 ∷ 1 ∷ []) ∷ agent 107 1 (0 ∷ []) ∷ agent 122 0 (1 ∷ []) ∷ [])
    ((0, 0, pos 4) ∷ (2, 0, negsuc 9) ∷ []) ((0, 0) ∷ []) ((1, 0) ∷ [])

-- a at k, b and c at h
abbrev pub settled : List (Option ℕ)
settled = Some 0 ∷ Some 1 ∷ Some 0 ∷ []

-- a and c at h, b nowhere
abbrev pub left_over : List (Option ℕ)
left_over = Some 1 ∷ None ∷ Some 0 ∷ []

-- a and b at h, c nowhere
abbrev pub passed_over : List (Option ℕ)
passed_over = Some 1 ∷ Some 1 ∷ None ∷ []

-- nobody blocks: a and c have their first choice, and b's has no place
abbrev pub NobodyBlocks : Type 0
NobodyBlocks = IsStable small_hospitals settled
    × (load small_hospitals settled 0 ≡ 2)
    × (rank_vector_of small_hospitals settled ≡ 1 ∷ 2 ∷ 1 ∷ [])
    × (regret_of small_hospitals settled ≡ 3)
    × (weight_of Ranks small_hospitals settled ≡ pos 9)
    × (weight_of Given small_hospitals settled ≡ negsuc 9)
    × (¬ IsAllowed small_hospitals settled)

-- a blocks with k, which has a free place; b blocks neither with h, which is full of better ones, nor with z, which has no
-- place
abbrev pub FreePlaceBlocks : Type 0
FreePlaceBlocks = IsAllowed small_hospitals left_over
    × Blocks small_hospitals left_over 0 1
    × (¬ Blocks small_hospitals left_over 1 0)
    × (¬ Blocks small_hospitals left_over 1 2)
    × (rank_vector_of small_hospitals left_over ≡ 2 ∷ 3 ∷ 1 ∷ [])
    × (regret_of small_hospitals left_over ≡ 2)
    × (weight_of Ranks small_hospitals left_over ≡ pos 6)
    × (weight_of Given small_hospitals left_over ≡ negsuc 5)

-- c blocks with h, which is full and likes a and b less
abbrev pub WorseResidentBlocks : Type 0
WorseResidentBlocks = IsMatching small_hospitals passed_over
    × Blocks small_hospitals passed_over 2 0
    × (rank_vector_of small_hospitals passed_over ≡ 2 ∷ 2 ∷ 3 ∷ [])
    × (¬ IsAllowed small_hospitals passed_over)

-- c can't be at k, which doesn't list it, and h has no place for three
abbrev pub NoMatchings : Type 0
NoMatchings = (¬ IsMatching small_hospitals (None ∷ None ∷ Some 1 ∷ []))
    × (¬ IsMatching small_hospitals (Some 1 ∷ Some 1 ∷ Some 0 ∷ []))

-- proposers m1: x a and m2: a; reviewers x, who lists nobody, and a: m2 m1. An inert entry counts in the ranks behind it,
-- and in that of being unmatched
abbrev pub inert_entry : Written
inert_entry = plain_written Marriage
    (agent 49 1 (0 ∷ 1 ∷ []) ∷ agent 50 1 (1 ∷ []) ∷ [])
    (agent 120 1 [] ∷ agent 97 1 (1 ∷ 0 ∷ []) ∷ [])
    [] [] []

-- the ranks and the regret of its matchings by hand
abbrev pub InertEntryCounts : Type 0
InertEntryCounts = (rank_vector_of inert_entry (None ∷ Some 0 ∷ []) ≡ 3 ∷ 1 ∷ [])
    × (rank_vector_of inert_entry (Some 1 ∷ None ∷ []) ≡ 2 ∷ 2 ∷ [])
    × (regret_of inert_entry (Some 1 ∷ None ∷ []) ≡ 2)

-- the small hospitals with the second weights 3 of (a, h) and -2 of (c, h): a second weight counts for a pair that is matched,
-- and is 0 where none is given
abbrev pub SecondsCount : Type 0
SecondsCount = let w = record small_hospitals { seconds = pos 3 ∷ negsuc 1 ∷ [] } in
    (second_weight_of w settled ≡ negsuc 1) × (second_weight_of w left_over ≡ pos 1) × (second_weight_of small_hospitals left_over ≡ pos 0)

-- 2 0 1 has each of three numbers once, and 2 0 0 3 not each of four
abbrev pub OrdersHaveEach : Type 0
OrdersHaveEach = IsEachOnce 3 (2 ∷ 0 ∷ 1 ∷ []) × (¬ IsEachOnce 4 (2 ∷ 0 ∷ 0 ∷ 3 ∷ []))

-- persons 1: 2 1 and 2: 1: a person may list itself
abbrev pub persons : List AgentData
persons = agent 49 1 (1 ∷ 0 ∷ []) ∷ agent 50 1 (0 ∷ []) ∷ []

-- these are an instance of roommates
abbrev pub OwnName : Type 0
OwnName = ArePersons persons
