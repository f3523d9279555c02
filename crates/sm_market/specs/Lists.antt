-- Preference lists. Agents of a side are numbered from 0, and so are the places on a list.
use Rattle.std.specs.Prelude.{◌≢◌, ℕ, ◌<◌, List, length}
-- lists by row and place, passed on
pub use Rattle.sm_lists.specs.Rows.{row, agents, entry, place_of}

-- the preference lists of both sides, best first: each entry is the number of an agent of the other side
-- (Gusfield and Irving 1989, section 1.1.1)
pub record Lists : Type 0 where
  pub proposers : List (List ℕ)
  pub reviewers : List (List ℕ)

-- the lists of both sides
abbrev pub both_sides : List (List ℕ) → List (List ℕ) → Lists
both_sides proposers reviewers = record { proposers = proposers; reviewers = reviewers }

-- the same agents and lists, with the sides exchanged
abbrev pub reversed_lists : Lists → Lists
reversed_lists l = record { proposers = l.reviewers; reviewers = l.proposers }

-- the lists of one side name agents of the other side, none of them twice, and who is named names back
pub record AreMutual (rows others : List (List ℕ)) : Type 0 where
  pub in_range : (a i : ℕ) → i < length (row rows a) → entry rows a i < length others
  pub distinct : (a i j : ℕ) → i < j → j < length (row rows a) → entry rows a i ≢ entry rows a j
  pub returned : (a i : ℕ) → i < length (row rows a) → place_of others (entry rows a i) a < length (row others (entry rows a i))

-- a market: two agents list each other or neither lists the other, so that each pair on a list is acceptable
-- (Manlove 2013, section 2.2, with lists of acceptable agents alone)
pub record IsMarket (l : Lists) : Type 0 where
  pub proposers : AreMutual l.proposers l.reviewers
  pub reviewers : AreMutual l.reviewers l.proposers
