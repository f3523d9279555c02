-- The sets of a walk through all rotations: the empty one is closed, and a set by its numbers has its matching.
use Rattle.std.proofs.Common.{◌≡◌, ℕ, ◌≤◌, ◌∙◌, arith, sym, ap, subst, Bool, List, [], Option, length}
use Rattle.std.specs.Prelude.{Contains}
use Rattle.std.proofs.lemmas.Bool.{false≢true}
use Rattle.std.proofs.lemmas.List.{length-map}
use Rattle.sm_agents.specs.Written.{Written}
use Rattle.sm_instance.specs.Matching.{IsMatching}
use Rattle.sm_instance.specs.Allowed.{IsAllowed}
use Rattle.sm_market.specs.Lists.{Lists}
use Rattle.sm_theory.specs.ClosedSets.{IsClosed}
use Rattle.sm_check_net.specs.CheckedNets.{NetParts, net_of_parts, NeedsAreOf}
use Rattle.sm_seats.specs.SeatMarket.{seat_market}
use Rattle.sm_report.specs.Lines.{LineData}
use Rattle.sm_check_clauses.specs.declared.chain_walk.ChainWalk.{ChainWalk}
use Rattle.sm_check_clauses.specs.Said.{rotations_in}
use Rattle.sm_check_clauses.specs.SeatMatchings.{first_of}
use Rattle.sm_check_clauses.specs.Flows.{set_of_numbers, matching_of_set, IsAllowedSet}
use Rattle.sm_check_weight.specs.Kept.{IsWholeWalk, IsSetOf}
use Rattle.sm_check_weight.specs.declared.taken.Taken.{Taken}
use Rattle.sm_check_weight.proofs.SetLemmas.{length-set_of, none_taken}

-- there are as many rows of moves as rotations
pub walk_size : {w : Written} {above : List LineData} {walk : ChainWalk} → IsWholeWalk w above walk → length walk.moves.items ≡ length (rotations_in w above)
walk_size {w} {above} {walk} k = sym (length-map walk.moves.items (λ v. v.items)) ∙ k.is_walk.is_walk.moves.moves.one_each

-- the empty set of rotations is closed
pub empty_closed : (l : Lists) (rotations : List (List (ℕ × ℕ))) (size : ℕ) → size ≡ length rotations → IsClosed l rotations (set_of_numbers size [])
empty_closed l rotations size e = record {
  one_each = length-set_of size [] ∙ e;
  closed = λ i j inside less member needed. absurd (false≢true (sym (none_taken size j (omega (arith, e, less))) ∙ member));
}

-- a set with its numbers and with the matching that is made of it is kept as that set
pub set_made : {w : Written} {above : List LineData} {walk : ChainWalk} → IsWholeWalk w above walk → (numbers : List ℕ) (taken : Taken) → taken.set.items ≡ set_of_numbers (length walk.moves.items) numbers
    → taken.matching.places.items ≡ matching_of_set w above taken.set.items → IsMatching w taken.matching.places.items → IsSetOf w (first_of w above) (rotations_in w above) numbers taken
set_made {w} {above} {walk} k numbers taken s m i =
    let same : taken.set.items ≡ set_of_numbers (length (rotations_in w above)) numbers = s ∙ ap (λ (n : ℕ). set_of_numbers n numbers) (walk_size k) in
    record {
      set = same;
      matching = m ∙ ap (λ (set : List Bool). matching_of_set w above set) same;
      is_matching = i;
    }

module _ {w : Written} {above : List LineData} {walk : ChainWalk} (k : IsWholeWalk w above walk) (numbers : List ℕ) (set : List Bool) (s : set ≡ set_of_numbers (length walk.moves.items) numbers) where
  set_is : set ≡ set_of_numbers (length (rotations_in w above)) numbers
  set_is = s ∙ ap (λ (n : ℕ). set_of_numbers n numbers) (walk_size k)

  -- an allowed set is closed, and its matching allowed
  pub allowed_closed : IsAllowedSet w above numbers → IsClosed (seat_market w) (rotations_in w above) set
  allowed_closed a = subst (IsClosed (seat_market w) (rotations_in w above)) (sym set_is) a.closed

  -- and its matching is allowed
  pub allowed_matching : (matching : List (Option ℕ)) → matching ≡ matching_of_set w above set → IsAllowedSet w above numbers → IsAllowed w matching
  allowed_matching matching is a = subst (IsAllowed w) (sym (is ∙ ap (λ (set : List Bool). matching_of_set w above set) set_is)) a.allowed

  -- a closed set with an allowed matching is allowed
  pub is_allowed : (matching : List (Option ℕ)) → matching ≡ matching_of_set w above set → ((i : ℕ) → Contains numbers i → i ≤ length (rotations_in w above)) → IsClosed (seat_market w) (rotations_in w above) set → IsAllowed w matching
      → IsAllowedSet w above numbers
  is_allowed matching is there closed allowed = record {
    there = there;
    closed = subst (IsClosed (seat_market w) (rotations_in w above)) set_is closed;
    allowed = subst (IsAllowed w) (is ∙ ap (λ (set : List Bool). matching_of_set w above set) set_is) allowed;
  }

  -- it has an item for each rotation
  pub set_size : {parts : NetParts} → NeedsAreOf (seat_market w) (rotations_in w above) parts → length set ≡ (net_of_parts parts).size
  set_size needs = ap (λ (set : List Bool). length set) set_is ∙ length-set_of (length (rotations_in w above)) numbers ∙ needs.one_each
