-- What is kept of the lines of `list`, and what is known on the way through a vector.
use Rattle.std.specs.Prelude.{◌≡◌, ℕ, ◌+◌, ◌<◌, ◌≤◌, ◌↔◌, nat_lt, if◌then◌else◌, Bool, IsTrue, IfSome, List, length, Option, None, Some, slice_index, slice_index_or}
use Rattle.sm_agents.specs.Written.{Written, row}
use Rattle.sm_theory.specs.Listings.{end_of}
use Rattle.sm_report.specs.Lines.{LineData}
use Rattle.sm_check_clauses.specs.Said.{vectors_in}
use Rattle.sm_check_clauses.specs.Vectors.{place_of_rank, places_of_ranks}
use Rattle.sm_check_answers.specs.Tried.{HasTrialRoom, IsTried}
use Rattle.sm_check_answers.specs.declared.tried.Tried.{Tried}

-- the number is a rank of p, that of being unmatched included
pub record IsRank (w : Written) (v : List ℕ) (p : ℕ) : Type 0 where
  pub least : 1 ≤ slice_index v p
  pub greatest : slice_index v p ≤ length (row w.proposers p) + 1

-- the places of the first p proposers are written, and so far all numbers were ranks, or not
pub record ArePlaced (w : Written) (v : List ℕ) (p : ℕ) (places : List (Option ℕ)) (are_ranks : Bool) : Type 0 where
  pub one_each : length places ≡ length w.proposers
  pub placed : (q : ℕ) → q < p → slice_index_or places q None ≡ place_of_rank w v q
  pub ranks : IsTrue are_ranks ↔ ((q : ℕ) → q < p → IsRank w v q)

-- the last of so many vectors, or else the cursor
abbrev pub last_or : ℕ → List ℕ → Option (List ℕ) → Option (List ℕ)
last_or count last after = if nat_lt 0 count then Some last else after

-- of the lines of an answer of `list` behind a cursor: so many vectors, of which this is the last, with its matching
pub record AreVectorsKept (w : Written) (after : Option (List ℕ)) (above : List LineData) (count : ℕ) (last : List ℕ) (tried : Tried) : Type 0 where
  pub counted : count ≡ length (vectors_in above)
  pub last_is : last_or count last after ≡ end_of after (vectors_in above)
  pub one_each : length last ≡ length w.proposers
  pub after_each : IfSome after (λ b. length b ≡ length w.proposers)
  pub room : HasTrialRoom w tried
  pub kept : 0 < count → IsTried w (places_of_ranks w last) tried
