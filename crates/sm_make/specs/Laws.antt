-- What lemmas say of made lists and sides.
use Rattle.std.specs.Prelude.{◌≡◌, ◌≢◌, ℕ, ◌+◌, ◌*◌, ◌<◌, ◌≤◌, ◌^◌, List, length, slice_index, true, decimal}
use Rattle.sm_agents.specs.Written.{agent_at}
use Rattle.sm_agents.specs.Sound.{AreSoundEntries, entries_of}
use Rattle.sm_text.specs.Name.{is_name_byte}
use Rattle.std.specs.List.{list_all}
use Rattle.sm_make.specs.Made.{agents_made}
use Rattle.sm_make.specs.Shuffle.{shuffled}
use Rattle.sm_make.specs.Lists.{rising, rising_without, turn_from, copy_list, copy_list_back}

-- a list of n agents, each at one place
pub record IsSoundList (n : ℕ) (xs : List ℕ) : Type 0 where
  pub in_range : (i : ℕ) → i < length xs → slice_index xs i < n
  pub once : (i j : ℕ) → i < length xs → j < length xs → slice_index xs i ≡ slice_index xs j → i ≡ j

-- whatever the words, a shuffled list of n agents names each of them once
pub record IsWhole (n : ℕ) (xs : List ℕ) : Type 0 where
  pub long : length xs ≡ n
  pub sound : IsSoundList n xs

-- a shuffle of n agents names each of them once
abbrev pub ShufflesAreWhole : Type 0
ShufflesAreWhole = (n : ℕ) (words : List ℕ) → IsWhole n (shuffled words (rising n))

-- no two agents of a side have one name
abbrev pub NamesDiffer : Type 0
NamesDiffer = (letter capacity count : ℕ) (list : ℕ → List ℕ) → count < 2 ^ 24 → (a b : ℕ) → b < a → a < count
    → (agent_at (agents_made letter capacity list count) b).name ≢ (agent_at (agents_made letter capacity list count) a).name

-- a side's entries are sound where its lists are
abbrev pub EntriesAreSound : Type 0
EntriesAreSound = (letter capacity count others : ℕ) (list : ℕ → List ℕ) → ((a : ℕ) → a < count → IsSoundList others (list a))
    → AreSoundEntries (agents_made letter capacity list count) others

-- whatever the words, a shuffled list of the others of m + 1 persons names each person once at most
abbrev pub OthersAreSound : Type 0
OthersAreSound = (a m : ℕ) (words : List ℕ) → IsSoundList (m + 1) (shuffled words (rising_without a m))

-- in a cycle each list names each agent once
abbrev pub TurnsAreWhole : Type 0
TurnsAreWhole = (n first : ℕ) → first ≤ n → IsWhole n (turn_from n first)

-- the lists of copies are sound
abbrev pub CopiesAreSound : Type 0
CopiesAreSound = (n a : ℕ) → a < 2 * n → IsSoundList (2 * n) (copy_list a) × IsSoundList (2 * n) (copy_list_back a)

-- a side has so many entries at most
abbrev pub EntriesAreFew : Type 0
EntriesAreFew = (letter capacity count most : ℕ) (list : ℕ → List ℕ) → ((a : ℕ) → a < count → length (list a) ≤ most)
    → entries_of (agents_made letter capacity list count) ≤ count * most

-- the digits of a number are bytes of names
abbrev pub DigitsAreNameBytes : Type 0
DigitsAreNameBytes = (k : ℕ) → k < 2 ^ 64 → list_all is_name_byte (decimal k) ≡ true
