-- How far the offers of places have come over the written lists.
use Rattle.std.specs.Prelude.{◌≡◌, ℕ, ◌+◌, ◌<◌, ◌≤◌, ◌⊎◌, ◌==◌, List, Option, Some, None, map, length, slice_index, slice_set, cond, nat_lt}
use Rattle.std.specs.List.{range_with_len}
use Rattle.std.specs.Option.{option_map}
use Rattle.sm_agents.specs.Written.{Written, row, entry, place_of, capacity_of, IsAcceptable}
use Rattle.sm_instance.specs.Matching.{standing, load}
use Rattle.sm_instance.specs.Stable.{IsStable}
use Rattle.sm_answer_solve.specs.Ends.{end_at, ended_places}

-- how many places of r are free and on their way: one where r is the one that is away
abbrev pub on_its_way : Option ℕ → ℕ → ℕ
on_its_way None r = 0
on_its_way (Some away) r = cond (away == r) 1 0

-- `begun r` places of each reviewer r have begun to be offered, and a free place of the one that is away, if any, is on its
-- way. Reviewers have come to these places of their written lists. Proposers hold the offers at these places of theirs, or are
-- one past their list and hold none.
pub record IsOffering (w : Written) (begun : ℕ → ℕ) (away : Option ℕ) (nexts places : List ℕ) : Type 0 where
  pub reviewers_each : length nexts ≡ length w.reviewers
  pub proposers_each : length places ≡ length w.proposers
  pub on_lists : (r : ℕ) → slice_index nexts r ≤ length (row w.reviewers r)
  -- a proposer holds an offer of a reviewer that is acceptable to it, and has come past it
  pub acceptable : (p : ℕ) → slice_index places p < length (row w.proposers p) → IsAcceptable w p (entry w.proposers p (slice_index places p))
  pub offered : (p : ℕ) → slice_index places p < length (row w.proposers p)
      → let r = entry w.proposers p (slice_index places p) in place_of w.reviewers r p < slice_index nexts r
  -- whoever has had an offer holds that or a better one
  pub answered : (p r : ℕ) → IsAcceptable w p r → place_of w.reviewers r p < slice_index nexts r → slice_index places p ≤ place_of w.proposers p r
  -- no more places have begun than there are, and each of them is held or on its way, but for a reviewer at the end of its list
  pub few : (r : ℕ) → begun r ≤ capacity_of w.reviewers r
  pub within : (r : ℕ) → load w (ended_places w places) r + on_its_way away r ≤ begun r
  pub settled : (r : ℕ) → (load w (ended_places w places) r + on_its_way away r ≡ begun r) ⊎ (length (row w.reviewers r) ≤ slice_index nexts r)
  -- in no stable matching does a proposer stand worse
  pub worst : (others : List (Option ℕ)) → IsStable w others → (p : ℕ) → standing w others p ≤ slice_index places p

-- a free place of r is on its way, after some places have begun
pub record IsOnItsWay (w : Written) (r : ℕ) (nexts places : List ℕ) : Type 0 where
  pub begun : ℕ → ℕ
  pub offering : IsOffering w begun (Some r) nexts places

-- all places of the reviewers before r have begun, and k of those of r
abbrev pub begun_till : Written → ℕ → ℕ → ℕ → ℕ
begun_till w r k s = cond (s == r) k (cond (nat_lt s r) (capacity_of w.reviewers s) 0)

-- one past the list of each proposer
abbrev pub past_lists : Written → List ℕ
past_lists w = map (λ p. length (row w.proposers p)) (range_with_len 0 (length w.proposers))

-- whose place a proposer gives up that holds the offer at a place of its list, if it holds one
abbrev pub given_up : Written → ℕ → ℕ → Option ℕ
given_up w p place = option_map (entry w.proposers p) (end_at (length (row w.proposers p)) place)

-- p declines the offer of r, which stands at a place of its list: it holds that one or a better one
pub record IsDeclined (r p place : ℕ) (before places : List ℕ) (away : Option ℕ) : Type 0 where
  pub holds : slice_index before p ≤ place
  pub same : places ≡ before
  pub away_is : away ≡ Some r

-- p takes the offer at a place of its list, which is better than what it holds, and gives that up
pub record IsTaken (w : Written) (p place : ℕ) (before places : List ℕ) (away : Option ℕ) : Type 0 where
  pub gains : place < slice_index before p
  pub takes : places ≡ slice_set before p place
  pub away_is : away ≡ given_up w p (slice_index before p)

-- the answer of a proposer to an offer, and whose place is free then
abbrev pub IsAnswer : Written → ℕ → ℕ → ℕ → List ℕ → List ℕ → Option ℕ → Type 0
IsAnswer w r p place before places away = IsDeclined r p place before places away ⊎ IsTaken w p place before places away
