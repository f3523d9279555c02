-- A matching that grows by pairs.
use Rattle.std.specs.Prelude.{◌≡◌, ℕ, ◌<◌, ◌≤◌, Bool, true, false, List, length, map, slice_set, Option, Some, None, IsSome}
use Rattle.std.specs.List.{range_with_len}
use Rattle.sm_agents.specs.Written.{Written, row, entry, place_of, capacity_of, IsAcceptable}
use Rattle.sm_instance.specs.Matching.{held, load, IsMatching}
use Rattle.sm_holding.specs.declared.holding.Holding.{Holding}

-- the place of r on the list of p, to which it is acceptable
pub record IsAcceptableAt (w : Written) (p r place : ℕ) : Type 0 where
  pub at : place ≡ place_of w.proposers p r
  pub there : entry w.proposers p place ≡ r
  pub on_list : place < length (row w.proposers p)
  pub acceptable : IsAcceptable w p r

-- the load of each reviewer
abbrev pub loads_of : Written → List (Option ℕ) → List ℕ
loads_of w places = map (load w places) (range_with_len 0 (length w.reviewers))

-- a matching, with the loads of the reviewers
pub record IsHolding (w : Written) (holding : Holding) : Type 0 where
  pub matching : IsMatching w holding.matching.places.items
  pub loads : holding.loads.items ≡ loads_of w holding.matching.places.items

-- a pair can't be added: it isn't acceptable, its proposer is matched, or its reviewer is full
pub data CantAdd (w : Written) (places : List (Option ℕ)) (p r : ℕ) : Type 0 where
  unacceptable : ¬ IsAcceptable w p r → CantAdd w places p r
  taken : IsSome (held places p) → CantAdd w places p r
  full : capacity_of w.reviewers r ≤ load w places r → CantAdd w places p r

-- or it was added
pub record Added (w : Written) (before after : Holding) (p r : ℕ) : Type 0 where
  pub acceptable : IsAcceptable w p r
  pub free : held before.matching.places.items p ≡ None
  pub room : load w before.matching.places.items r < capacity_of w.reviewers r
  pub places : after.matching.places.items ≡ slice_set before.matching.places.items p (Some (place_of w.proposers p r))
  pub held : IsHolding w after

-- true says that the pair was added, and false that it can't be and that nothing was changed
abbrev pub AddsPair : Written → (before after : Holding) → (p r : ℕ) → Bool → Type 0
AddsPair w before after p r true = Added w before after p r
AddsPair w before after p r false = CantAdd w before.matching.places.items p r × (after ≡ before)
