-- What is known of a trail along successors.
use Rattle.std.specs.Prelude.{◌≡◌, ◌+◌, ◌<◌, ◌≤◌, ◌⊎◌, ℕ, Bool, List, length, slice_index, Contains}
use Rattle.sm_market.specs.Lists.{Lists, row, entry}
use Rattle.sm_market.specs.Matching.{Places}
use Rattle.sm_theory.specs.Rotations.{IsSuccessor, IsNext}
use Rattle.sm_theory.specs.Marks.{Moves, MovesOver}
use Rattle.sm_check_decide.specs.Exposure.{IsSafe, IsPassed}

-- all of a trail are safe
pub record AreSafe (l : Lists) (m : Places) (bound : ℕ) (items : List ℕ) : Type 0 where
  pub safe : (k : ℕ) → k < length items → IsSafe l m bound (slice_index items k)

-- the proposer that has p's successor is on a trail
pub record LeadsTo (l : Lists) (m : Places) (items : List ℕ) (p : ℕ) : Type 0 where
  pub next : ℕ
  pub is : IsNext l m p next
  pub on : Contains items next

-- p has no successor, or its successor's proposer is on a trail
abbrev pub EndsOrLeads : Lists → Places → List ℕ → ℕ → Type 0
EndsOrLeads l m items p = ((i : ℕ) → ¬ IsSuccessor l m p i) ⊎ LeadsTo l m items p

-- no successor leads away from a trail
pub record AreClosed (l : Lists) (m : Places) (items : List ℕ) : Type 0 where
  pub closed : (k : ℕ) → k < length items → EndsOrLeads l m items (slice_index items k)

-- all of these are on a trail
abbrev pub AreOn : List ℕ → List ℕ → Type 0
AreOn starts items = (k : ℕ) → k < length starts → Contains items (slice_index starts k)

-- p is passed over, or is among these
abbrev pub IsStartAdded : List Bool → List ℕ → ℕ → Type 0
IsStartAdded passed items p = IsPassed passed p ⊎ Contains items p

-- all from one number on and below another are passed over, or are among these
abbrev pub AreStartsAdded : List Bool → (first bound : ℕ) → List ℕ → Type 0
AreStartsAdded passed first bound items = (p : ℕ) → first ≤ p → p < bound → IsStartAdded passed items p

-- the part of a trail from a spot on goes from p along successors, and leads to q
pub record IsSuccessorPath (l : Lists) (m : Places) (items : List ℕ) (start p q : ℕ) : Type 0 where
  pub start_in : start ≤ length items
  pub empty : start ≡ length items → q ≡ p
  pub begins : start < length items → slice_index items start ≡ p
  pub next : (k : ℕ) → start ≤ k → k + 1 < length items → IsNext l m (slice_index items k) (slice_index items (k + 1))
  pub last : (k : ℕ) → start ≤ k → k + 1 ≡ length items → IsNext l m (slice_index items k) q

-- whom the first n pairs of a rotation move, and whom they move a reviewer past, are among these
pub record AreChanged (l : Lists) (rotation : List (ℕ × ℕ)) (n : ℕ) (items : List ℕ) : Type 0 where
  pub moved : (p : ℕ) → Moves rotation n p → Contains items p
  pub passed : (p x : ℕ) → x < length (row l.proposers p) → MovesOver l rotation n p x → Contains items p

-- whom r's list names behind the place `better` and before the place `worse` are among these
abbrev pub IsSpanAdded : Lists → (r better worse : ℕ) → List ℕ → Type 0
IsSpanAdded l r better worse items = (place : ℕ) → better < place → place < worse → Contains items (entry l.reviewers r place)
