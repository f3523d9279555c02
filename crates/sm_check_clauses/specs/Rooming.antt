-- The clauses on matchings of roommates, and on the parties by which there is none.
use Rattle.std.specs.Prelude.{◌≡◌, ℕ, ◌+◌, ◌*◌, ◌<◌, ◌==◌, if◌then◌else◌, List, [], ◌∷◌, ◌++◌, length, map, find, count_by, Option, IfSome, slice_index, Contains}
use Rattle.std.specs.List.{range_with_len, list_any, position_or_len, flat_map}
use Rattle.std.specs.Option.{option_map_or}
use Rattle.sm_agents.specs.Written.{AgentData, lists_of}
use Rattle.sm_theory.specs.Rooms.{IsAcceptable, IsRoomStable}
use Rattle.sm_theory.specs.Partitions.{IsStablePartition}
use Rattle.sm_report.specs.Lines.{LineData}
use Rattle.sm_check_clauses.specs.declared.verdicts.Reason.{Reason}
use Rattle.sm_check_clauses.specs.declared.verdicts.Reason.TheVariants as reason
use Rattle.sm_check_clauses.specs.Said.{pair_in, party_in, IsEnd}
use Rattle.sm_holding.specs.Held.{partner_in}

-- the persons of pairs, and the pairs with both persons first
abbrev pub persons_of : List (ℕ × ℕ) → List ℕ
persons_of pairs = flat_map (λ (pair : ℕ × ℕ). pair.0 ∷ pair.1 ∷ []) pairs

-- each pair, and behind it the same with its persons exchanged
abbrev pub both_ways : List (ℕ × ℕ) → List (ℕ × ℕ)
both_ways pairs = flat_map (λ (pair : ℕ × ℕ). pair ∷ (pair.1, pair.0) ∷ []) pairs

-- whom each person has in pairs
abbrev pub mates_in : List AgentData → List (ℕ × ℕ) → List (Option ℕ)
mates_in persons pairs = map (partner_in (both_ways pairs)) (range_with_len 0 (length persons))

-- a pair may stand behind those before it: its persons list each other and are in none of them
pub record IsFreeCouple (rows : List (List ℕ)) (before : List (ℕ × ℕ)) (pair : ℕ × ℕ) : Type 0 where
  pub acceptable : IsAcceptable rows pair.0 pair.1
  pub first_free : ¬ Contains (persons_of before) pair.0
  pub second_free : ¬ Contains (persons_of before) pair.1

-- a matching, at a line behind these pairs
abbrev pub CouplesHold : List AgentData → List (ℕ × ℕ) → LineData → Reason → Type 0
CouplesHold persons pairs line reason.NotAMatching = IfSome (pair_in line) (IsFreeCouple (lists_of persons) pairs)
CouplesHold persons pairs line reason.Blocked = IsEnd line → IsRoomStable (lists_of persons) (mates_in persons pairs)
CouplesHold persons pairs line _ = Unit {0}

-- the persons of parties, and who follows whom: the first person follows the last one
abbrev pub members_of : List (List ℕ) → List ℕ
members_of parties = flat_map (λ party. party) parties

-- who follows a person in a party
abbrev pub next_in_party : ℕ → List ℕ → ℕ
next_in_party x party =
    let i = position_or_len (λ y. y == x) party in
    if i + 1 == length party then slice_index party 0 else slice_index party (i + 1)

-- who follows a person in the party that has it; a person in no party follows itself
abbrev pub next_of : List (List ℕ) → ℕ → ℕ
next_of parties x = option_map_or (next_in_party x) (find (λ party. list_any (λ y. y == x) party) parties) x

-- who follows each person
abbrev pub nexts_of : List AgentData → List (List ℕ) → List ℕ
nexts_of persons parties = map (next_of parties) (range_with_len 0 (length persons))

-- each member of a party stands once in it and those before it
abbrev pub AreNew : List (List ℕ) → List ℕ → Type 0
AreNew before party = (x : ℕ) → Contains party x → count_by (λ y. y == x) (members_of (before ++ party ∷ [])) ≡ 1

-- all persons stand in parties, which are a stable partition
pub record IsWholePartition (persons : List AgentData) (parties : List (List ℕ)) : Type 0 where
  pub all : (x : ℕ) → x < length persons → Contains (members_of parties) x
  pub partition : IsStablePartition (lists_of persons) (nexts_of persons parties)

-- a party is odd and has three or more members
pub record HasOddParty (parties : List (List ℕ)) : Type 0 where
  pub party : List ℕ
  pub there : Contains parties party
  pub half : ℕ
  pub three : 0 < half
  pub odd : length party ≡ 2 * half + 1

-- parties, at a line behind these
abbrev pub PartiesHold : List AgentData → List (List ℕ) → LineData → Reason → Type 0
PartiesHold persons parties line reason.NotPartition =
    IfSome (party_in line) (AreNew parties) × (IsEnd line → IsWholePartition persons parties)
PartiesHold persons parties line reason.NoOddParty = IsEnd line → HasOddParty parties
PartiesHold persons parties line _ = Unit {0}
