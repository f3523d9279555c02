-- How the stable matchings of a market of seats and those of its instance correspond.
use Rattle.std.specs.Prelude.{◌≡◌, ℕ, ◌+◌, ◌<◌, ◌≤◌, ◌↔◌, IsTrue, ℤ, List, map, length, Option, Some, slice_index}
use Rattle.sm_agents.specs.Written.{Written, place_of, capacity_of, lists_of}
use Rattle.sm_instance.specs.Matching.{is_at, IsMatching as IsWrittenMatching}
use Rattle.sm_instance.specs.Stable.{IsStable as IsWrittenStable}
use Rattle.sm_instance.specs.Ranks.{rank_vector_of, worse_rank, regret_of as written_regret, pair_weight, weight_of as written_weight, pair_second, second_weight_of}
use Rattle.sm_instance.specs.Allowed.{IsAllowed as IsWrittenAllowed}
use Rattle.sm_agents.specs.declared.kinds.Measure.{Measure}
use Rattle.sm_market.specs.Lists.{row, entry, agents, IsMarket}
use Rattle.sm_market.specs.Matching.{Places, IsMatching}
use Rattle.sm_market.specs.Stable.{IsStable}
use Rattle.sm_theory.specs.Vectors.{AreLevels, HasLevel, IsAllowed, level_vector_of}
use Rattle.sm_theory.specs.Weights.{weight_of, regret_of}
use Rattle.sm_seats.specs.Seating.{Seating, reviewer_of, number_of, written_place, written_of, at_places, levels_of}
use Rattle.sm_seats.specs.Taken.{places_taken}

-- for each place of the lists what a proposer and its seat's reviewer weigh
abbrev pub weights_by : (ℕ → Option ℕ → ℤ) → Seating → List (List ℤ)
weights_by weigh s = map (at_places s (λ p i. weigh p (Some i))) (agents s.market.proposers)

-- the weights of the places
abbrev pub weights_of : Measure → Written → Seating → List (List ℤ)
weights_of by w s = weights_by (pair_weight by w) s

-- the second weights of the places
abbrev pub seconds_of : Written → Seating → List (List ℤ)
seconds_of w s = weights_by (pair_second w) s

-- the worse of the two ranks that a proposer and its seat's reviewer give each other, for each place of the lists
abbrev pub worse_ranks_of : Written → Seating → List (List ℕ)
worse_ranks_of w s = map (at_places s (λ p i. worse_rank w p (Some i))) (agents s.market.proposers)

-- pairs of a proposer and a reviewer as pairs of a proposer and a level
abbrev pub leveled : Written → List (ℕ × ℕ) → List (ℕ × ℕ)
leveled w pairs = map (λ pair. (pair.0, place_of w.proposers pair.0 pair.1 + 1)) pairs

-- places of one level on a proposer's list are seats with equal lists
abbrev pub AreLevelsOfSeats : Seating → Type 0
AreLevelsOfSeats s = (p i j : ℕ) → i < length (row s.market.proposers p) → j < length (row s.market.proposers p)
    → slice_index (row (levels_of s) p) i ≡ slice_index (row (levels_of s) p) j
    → row s.market.reviewers (entry s.market.proposers p i) ≡ row s.market.reviewers (entry s.market.proposers p j)

-- a seat has a number from 1 on, up to its reviewer's capacity
pub record IsNumberAt (w : Written) (s : Seating) (seat : ℕ) : Type 0 where
  pub least : 1 ≤ number_of s seat
  pub greatest : number_of s seat ≤ capacity_of w.reviewers (reviewer_of s seat)

-- the matching of seats in which a matching of the instance seats its proposers
pub record IsSeatedAs (w : Written) (s : Seating) (places : List (Option ℕ)) : Type 0 where
  pub matching : Places
  pub stable : IsStable s.market matching
  pub taken : matching.proposers ≡ places_taken w places
  pub forgets : written_of s matching.proposers ≡ places

-- The stable matchings of the seats and those of the instance, by blocking with capacities over the written lists,
-- correspond one to one: to forget seat numbers, and to seat each reviewer's proposers in its order of preference, are
-- inverse to each other. Matchings go to matchings, their level vectors are the rank vectors, and pairs, conditions, weights
-- and regrets are the same (Gusfield and Irving 1989, section 1.6.1; Manlove 2013, section 3.2).
pub record IsSeating (w : Written) (s : Seating) : Type 0 where
  -- the market, the proposers' written lists, and the names of seats
  pub market : IsMarket s.market
  pub proposers : length s.market.proposers ≡ length w.proposers
  pub seats : length s.market.reviewers ≡ length s.seats
  pub lists : s.lists ≡ lists_of w.proposers
  pub reviewers : (seat : ℕ) → seat < length s.seats → reviewer_of s seat < length w.reviewers
  pub numbers : (seat : ℕ) → seat < length s.seats → IsNumberAt w s seat
  pub on_lists : (p i : ℕ) → i < length (row s.market.proposers p) → written_place s p i < length (row s.lists p)
  -- levels, by which a stable matching is determined
  pub levels : AreLevels s.market (levels_of s)
  pub alike : AreLevelsOfSeats s
  -- to forget seat numbers, and to take seats
  pub matched : (m : Places) → IsMatching s.market m → IsWrittenMatching w (written_of s m.proposers)
  pub kept : (places : List (Option ℕ)) → IsWrittenMatching w places → written_of s (places_taken w places) ≡ places
  pub forgotten : (m : Places) → IsStable s.market m → IsWrittenStable w (written_of s m.proposers)
  pub seated : (places : List (Option ℕ)) → IsWrittenStable w places → IsSeatedAs w s places
  pub one : (m n : Places) → IsStable s.market m → IsStable s.market n
      → written_of s m.proposers ≡ written_of s n.proposers → m ≡ n
  pub taken : (m : Places) → IsStable s.market m → places_taken w (written_of s m.proposers) ≡ m.proposers
  -- what is the same of both
  pub ranks : (m : Places) → IsMatching s.market m
      → level_vector_of s.market (levels_of s) m ≡ rank_vector_of w (written_of s m.proposers)
  pub holds : (m : Places) → IsMatching s.market m → (p r : ℕ)
      → HasLevel (levels_of s) m p (place_of w.proposers p r + 1) ↔ IsTrue (is_at w (written_of s m.proposers) p r)
  pub allowed : (m : Places) → IsMatching s.market m
      → IsAllowed (levels_of s) (leveled w w.forced) (leveled w w.forbidden) m ↔ IsWrittenAllowed w (written_of s m.proposers)
  pub weights : (by : Measure) (m : Places) → IsMatching s.market m
      → weight_of s.market (weights_of by w s) m ≡ written_weight by w (written_of s m.proposers)
  pub seconds : (m : Places) → IsMatching s.market m
      → weight_of s.market (seconds_of w s) m ≡ second_weight_of w (written_of s m.proposers)
  pub regrets : (m : Places) → IsMatching s.market m
      → regret_of s.market (worse_ranks_of w s) m ≡ written_regret w (written_of s m.proposers)
