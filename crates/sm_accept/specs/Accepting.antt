-- How far the proposals have come, what a reviewer answers to one more, and where the proposers end.
use Rattle.std.specs.Prelude.{◌≡◌, ◌≢◌, ℕ, ◌<◌, ◌≤◌, List, Option, Some, None, length, slice_index, slice_set}
use Rattle.sm_market.specs.Lists.{Lists, row, entry, place_of}
use Rattle.sm_market.specs.Matching.{Places, IsMatching, held, standing}
use Rattle.sm_market.specs.Stable.{IsStable, IsProposersBest}
use Rattle.sm_market.specs.PairingFaults.{AreHeld}
use Rattle.sm_accept.specs.Bests.{IsWorstOfReviewers}

-- a reviewer's standing is the place of the proposer that it holds, or one past its list while it is free
abbrev pub IsHolding : Lists → List ℕ → ℕ → Type 0
IsHolding l standings r = slice_index standings r < length (row l.reviewers r)

-- the proposer that a reviewer holds
abbrev pub holds : Lists → List ℕ → ℕ → ℕ
holds l standings r = entry l.reviewers r (slice_index standings r)

-- every reviewer is free
pub record AreFree (l : Lists) (standings : List ℕ) : Type 0 where
  pub one_each : length standings ≡ length l.reviewers
  pub free : (r : ℕ) → slice_index standings r ≡ length (row l.reviewers r)

-- The proposers below `begun` have begun to propose. Each of them but `away` is held by the reviewer at its next place, or
-- is at the end of its list, and nobody holds `away`, who may be `begun` itself. Who turned a proposer down holds somebody
-- that it prefers. Nobody is past a partner that it has in some stable matching (Gale and Shapley 1962, theorem 2;
-- Gusfield and Irving 1989, theorem 1.2.2).
pub record IsProgress (l : Lists) (begun away : ℕ) (next standings : List ℕ) : Type 0 where
  pub proposers_each : length next ≡ length l.proposers
  pub reviewers_each : length standings ≡ length l.reviewers
  pub next_on_list : (p : ℕ) → slice_index next p ≤ length (row l.proposers p)
  pub standing_on_list : (r : ℕ) → slice_index standings r ≤ length (row l.reviewers r)
  pub holds_next : (r : ℕ) → IsHolding l standings r → let p = holds l standings r in slice_index next p ≡ place_of l.proposers p r
  pub holds_begun : (r : ℕ) → IsHolding l standings r → holds l standings r < begun
  pub away_is_free : (r : ℕ) → IsHolding l standings r → holds l standings r ≢ away
  pub others_rest : (p : ℕ) → p < begun → p ≢ away → slice_index next p < length (row l.proposers p)
      → let r = entry l.proposers p (slice_index next p) in slice_index standings r ≡ place_of l.reviewers r p
  pub turned_down : (p i : ℕ) → i < slice_index next p
      → let r = entry l.proposers p i in slice_index standings r < place_of l.reviewers r p
  pub best : (n : Places) → IsStable l n → (p : ℕ) → slice_index next p ≤ standing l.proposers n.proposers p

-- the reviewer takes p in the place of whom it holds, if anybody
pub record TakesProposal (l : Lists) (p r : ℕ) (before after : List ℕ) : Type 0 where
  pub prefers : place_of l.reviewers r p < slice_index before r
  pub stands : after ≡ slice_set before r (place_of l.reviewers r p)

-- a free reviewer takes p
pub record IsTakenIn (l : Lists) (p r : ℕ) (before after : List ℕ) : Type 0 where
  pub takes : TakesProposal l p r before after
  pub was_free : slice_index before r ≡ length (row l.reviewers r)

-- the reviewer takes p and lets go of q
pub record IsTakenFor (l : Lists) (p r q : ℕ) (before after : List ℕ) : Type 0 where
  pub takes : TakesProposal l p r before after
  pub held_one : IsHolding l before r
  pub lets_go : q ≡ holds l before r

-- the reviewer keeps whom it holds
pub record IsRejected (l : Lists) (p r q : ℕ) (before after : List ℕ) : Type 0 where
  pub keeps : slice_index before r ≤ place_of l.reviewers r p
  pub same : after ≡ before
  pub refused : q ≡ p

-- where a proposer with a list of this length ends: at its next place, or unmatched where that is past the list
abbrev pub EndsAt : ℕ → ℕ → Option ℕ → Type 0
EndsAt len next None = len ≤ next
EndsAt len next (Some place) = (place ≡ next) × (place < len)

-- where all proposers end
pub record AreEnds (l : Lists) (next : List ℕ) (places : List (Option ℕ)) : Type 0 where
  pub one_each : length places ≡ length l.proposers
  pub ends : (p : ℕ) → p < length l.proposers → EndsAt (length (row l.proposers p)) (slice_index next p) (held places p)

-- places that no two proposers share, on their lists, and that are those of the proposers' best, the worst of reviewers
pub record AreBestPlaces (l : Lists) (places : List (Option ℕ)) : Type 0 where
  pub held : AreHeld l places
  pub best : (m : Places) → IsMatching l m → m.proposers ≡ places → IsProposersBest l m
  pub worst : (m : Places) → IsMatching l m → m.proposers ≡ places → IsWorstOfReviewers l m
