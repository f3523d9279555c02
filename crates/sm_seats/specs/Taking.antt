-- On the way to the places that a matching takes.
use Rattle.std.specs.Prelude.{◌≡◌, ℕ, ◌<◌, ◌≤◌, false, List, filter, take, length, Option, None, Some, slice_index}
use Rattle.sm_agents.specs.Written.{Written, entry}
use Rattle.sm_instance.specs.Matching.{held, is_at}
use Rattle.sm_seats.specs.Mutual.{mutual_row}
use Rattle.sm_seats.specs.SeatMarket.{seats_before}
use Rattle.sm_seats.specs.Taken.{place_taken}

-- the proposers at the reviewers whose first seats are below a number have their places, and who is unmatched has none
pub record AreSeatedBefore (w : Written) (places : List (Option ℕ)) (seat : ℕ) (taken : List (Option ℕ)) : Type 0 where
  pub long : length taken ≡ length w.proposers
  pub alone : (q : ℕ) → held places q ≡ None → held taken q ≡ None
  pub seated : (q i : ℕ) → held places q ≡ Some i → seats_before w (entry w.proposers q i) < seat
      → held taken q ≡ Some (place_taken w places q i)

-- those at r have their places, and all others what they had
pub record AreSeatedAt (w : Written) (places : List (Option ℕ)) (r : ℕ) (before after : List (Option ℕ)) : Type 0 where
  pub long : length after ≡ length before
  pub seated : (q i : ℕ) → held places q ≡ Some i → entry w.proposers q i ≡ r
      → held after q ≡ Some (place_taken w places q i)
  pub others : (q : ℕ) → is_at w places q r ≡ false → held after q ≡ held before q

-- the same of the first j on r's list, so many of whom are at r
pub record AreFirstSeatedAt (w : Written) (places : List (Option ℕ)) (r j count : ℕ) (before after : List (Option ℕ)) : Type 0 where
  pub long : length after ≡ length before
  pub few : count ≤ j
  pub counted : count ≡ length (filter (λ q. is_at w places q r) (take j (mutual_row w.reviewers w.proposers r)))
  pub seated : (k i : ℕ) → k < j → let q = slice_index (mutual_row w.reviewers w.proposers r) k in
      held places q ≡ Some i → entry w.proposers q i ≡ r → held after q ≡ Some (place_taken w places q i)
  pub others : (q : ℕ) → is_at w places q r ≡ false → held after q ≡ held before q
