-- Sets of pairs of a market that hold a front of each reviewer's list, and how their places are linked.
use Rattle.std.specs.Prelude.{◌≡◌, ℕ, ◌+◌, ◌<◌, ◌≤◌, ◌⊎◌, min, List, map, length, slice_index, slice_set}
use Rattle.sm_market.specs.Lists.{Lists, row, entry, place_of}

-- A set of pairs: how many it holds of each reviewer's list, always the first ones. The other lists tell how the places
-- that it holds of each proposer's list are linked: only `IsLinkedOf` reads them.
pub record Linking : Type 0 where
  pub ends : List ℕ
  pub starts : List ℕ
  pub next : List ℕ
  pub before : List ℕ

-- the set with these ends, starts and links
abbrev pub linking : (ends starts next before : List ℕ) → Linking
linking ends starts next before = record { ends = ends; starts = starts; next = next; before = before }

-- a set with these ends holds the pair at place i of p's list
pub record HoldsPair (l : Lists) (ends : List ℕ) (p i : ℕ) : Type 0 where
  pub on_list : i < length (row l.proposers p)
  pub in_front : let r = entry l.proposers p i in place_of l.reviewers r p < slice_index ends r

-- the ends of the set of all pairs
abbrev pub all_ends : Lists → List ℕ
all_ends l = map (λ list. length list) l.reviewers

-- the ends once the pairs of r that stand behind a place of its list are taken out
abbrev pub cut_ends : List ℕ → (r place : ℕ) → List ℕ
cut_ends ends r place = slice_set ends r (min (slice_index ends r) (place + 1))

-- i is p's first held place
pub record IsFirstHeld (l : Lists) (ends : List ℕ) (p i : ℕ) : Type 0 where
  pub held : HoldsPair l ends p i
  pub earlier : (j : ℕ) → j < i → ¬ HoldsPair l ends p j

-- k is p's first held place behind its place i
pub record IsHeldBehind (l : Lists) (ends : List ℕ) (p i k : ℕ) : Type 0 where
  pub held : HoldsPair l ends p k
  pub behind : i < k
  pub between : (j : ℕ) → i < j → j < k → ¬ HoldsPair l ends p j

-- Links go over numbers: 0 stands in front of a proposer's list, i + 1 for its place i, and one more behind the list.
-- A number is in where its place is held; the first and the last are always in.
pub record IsHeldNumber (l : Lists) (ends : List ℕ) (p j : ℕ) : Type 0 where
  pub place : ℕ
  pub number : j ≡ place + 1
  pub held : HoldsPair l ends p place

-- number j of p's list is in: it is the first or the last, or its place is held
abbrev pub IsNumberIn : Lists → List ℕ → (p j : ℕ) → Type 0
IsNumberIn l ends p j = ((j ≡ 0) ⊎ (j ≡ length (row l.proposers p) + 1)) ⊎ IsHeldNumber l ends p j

-- k follows j among the numbers that are in
pub record Follows (l : Lists) (ends : List ℕ) (p j k : ℕ) : Type 0 where
  pub lower : IsNumberIn l ends p j
  pub upper : IsNumberIn l ends p k
  pub rising : j < k
  pub between : (x : ℕ) → j < x → x < k → ¬ IsNumberIn l ends p x

-- the links of all proposers stand in one list, those of each behind those of the one before it
pub record AreStarts (l : Lists) (starts : List ℕ) : Type 0 where
  pub one_each : length starts ≡ length l.proposers + 1
  pub zero : slice_index starts 0 ≡ 0
  pub step : (p : ℕ) → p < length l.proposers → slice_index starts (p + 1) ≡ slice_index starts p + (length (row l.proposers p) + 2)

-- the link of number j of p's list
abbrev pub link_at : (starts links : List ℕ) (p j : ℕ) → ℕ
link_at starts links p j = slice_index links (slice_index starts p + j)

-- each number of the proposers below n that is in is linked with the ones that follow it and that it follows
pub record AreLinkedBelow (l : Lists) (ends starts : List ℕ) (n : ℕ) (next before : List ℕ) : Type 0 where
  pub forward : (p j : ℕ) → p < n → j ≤ length (row l.proposers p) → IsNumberIn l ends p j → Follows l ends p j (link_at starts next p j)
  pub back : (p j : ℕ) → p < n → 0 < j → j ≤ length (row l.proposers p) + 1 → IsNumberIn l ends p j → Follows l ends p (link_at starts before p j) j

-- a set of pairs that was made for these lists: of each reviewer's list it holds no more than there is, and each number
-- that is in is linked with the ones that follow it and that it follows
pub record IsLinkedOf (l : Lists) (v : Linking) : Type 0 where
  pub ends_each : length v.ends ≡ length l.reviewers
  pub ends_on_lists : (r : ℕ) → slice_index v.ends r ≤ length (row l.reviewers r)
  pub starts : AreStarts l v.starts
  pub next_each : length v.next ≡ slice_index v.starts (length l.proposers)
  pub before_each : length v.before ≡ slice_index v.starts (length l.proposers)
  pub next : (p j : ℕ) → p < length l.proposers → j ≤ length (row l.proposers p) → IsNumberIn l v.ends p j → Follows l v.ends p j (link_at v.starts v.next p j)
  pub before : (p j : ℕ) → p < length l.proposers → 0 < j → j ≤ length (row l.proposers p) + 1 → IsNumberIn l v.ends p j → Follows l v.ends p (link_at v.starts v.before p j) j
