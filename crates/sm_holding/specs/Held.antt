-- The matching that pairs give, and what keeps it from being a stable one.
use Rattle.std.specs.Prelude.{◌≡◌, ℕ, ◌<◌, ◌==◌, if◌then◌else◌, List, [], ◌∷◌, length, map, take, count_by, Option, Some, None}
use Rattle.std.specs.List.{range_with_len}
use Rattle.std.specs.Option.{option_map}
use Rattle.sm_lists.specs.Pairs.{pair_at}
use Rattle.sm_agents.specs.Written.{Written, place_of, capacity_of, IsAcceptable}
use Rattle.sm_instance.specs.Stable.{IsStable}

-- the reviewer that pairs give a proposer, if they give it one
abbrev pub partner_in : List (ℕ × ℕ) → ℕ → Option ℕ
partner_in [] p = None
partner_in (pair ∷ pairs) p = if pair.0 == p then Some pair.1 else partner_in pairs p

-- the matching that pairs give: for each proposer the place of its reviewer
abbrev pub paired_place : Written → List (ℕ × ℕ) → ℕ → Option ℕ
paired_place w pairs p = option_map (place_of w.proposers p) (partner_in pairs p)

-- the places of all proposers
abbrev pub places_in : Written → List (ℕ × ℕ) → List (Option ℕ)
places_in w pairs = map (paired_place w pairs) (range_with_len 0 (length w.proposers))

-- in how many pairs b stands second
abbrev pub times_second : List (ℕ × ℕ) → ℕ → ℕ
times_second pairs b = count_by (λ (pair : ℕ × ℕ). pair.1 == b) pairs

-- a pair may stand behind those before it: it is acceptable, its proposer isn't in one of them, and its reviewer isn't full
pub record CanFollow (w : Written) (before : List (ℕ × ℕ)) (pair : ℕ × ℕ) : Type 0 where
  pub acceptable : IsAcceptable w pair.0 pair.1
  pub proposer_free : partner_in before pair.0 ≡ None
  pub place_free : times_second before pair.1 < capacity_of w.reviewers pair.1

-- each of the first n pairs may stand behind those before it
abbrev pub EachCanFollow : Written → List (ℕ × ℕ) → ℕ → Type 0
EachCanFollow w pairs n = (k : ℕ) → k < n → CanFollow w (take k pairs) (pair_at pairs k)

-- all can be held
abbrev pub CanHold : Written → List (ℕ × ℕ) → Type 0
CanHold w pairs = EachCanFollow w pairs (length pairs)

-- the pair of this number is the first that can't be held
pub record IsFirstBreach (w : Written) (pairs : List (ℕ × ℕ)) (k : ℕ) : Type 0 where
  pub in_range : k < length pairs
  pub breach : ¬ CanFollow w (take k pairs) (pair_at pairs k)
  pub earlier : EachCanFollow w pairs k

-- and no pair blocks their matching
pub record GiveStable (w : Written) (pairs : List (ℕ × ℕ)) : Type 0 where
  pub can_hold : CanHold w pairs
  pub stable : IsStable w (places_in w pairs)
