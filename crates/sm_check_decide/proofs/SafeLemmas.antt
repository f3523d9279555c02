-- Proposers that are in no exposed rotation with a proposer below a bound.
use Rattle.std.proofs.Common.{◌≡◌, ℕ, ◌<◌, ◌≤◌, arith, ap, ◌∙◌, length}
use Rattle.std.proofs.lemmas.List.FromFn.{length-map-range_with_len}
use Rattle.sm_market.specs.Lists.{Lists, place_of, IsMarket}
use Rattle.sm_market.specs.Matching.{Places, IsMatching}
use Rattle.sm_market.proofs.Bridge.{sides_of, stand_of}
use Rattle.sm_theory.specs.Rotations.{IsSuccessor, IsNext, IsNoneBelow, proposer_at}
use Rattle.sm_theory.proofs.Core.Cycle.{Cycle, Exposed}
use Rattle.sm_theory.proofs.Bridge.Rotation.{cycle_of, exposed_of, exposed_back, pair_of_held, succ_at, succ_back}
use Rattle.sm_theory.proofs.Bridge.Chain.{listed, at_listed, exposed_listed}
use Rattle.sm_theory.proofs.Chains.NoneBelow.{Safe, safe_none, safe_back, safe_round}
use Rattle.sm_check_decide.specs.Exposure.{IsSafe}

-- a cycle as a list
size : (c : Cycle) → length (listed c) ≡ c.size
size c = length-map-range_with_len (λ i. (c.who i, c.has i)) 0 c.size

who : (c : Cycle) (i : ℕ) → i < c.size → proposer_at (listed c) i ≡ c.who i
who c i less = ap (λ pair. pair.0) (at_listed c i less)

-- between the lists and the functions of Core
module _ {l : Lists} (h : IsMarket l) {m : Places} where
  core_safe : {bound p : ℕ} → IsSafe l m bound p → Safe (sides_of l h) (stand_of l m) bound p
  core_safe w = record {
    safe = λ c x i less e j inside. omega (
      arith,
      who c j inside,
      w.none (listed c) (exposed_back h (listed c) (exposed_listed x)) i (omega (arith, size c)) (who c i less ∙ e) j (omega (arith, size c)),
    );
  }

  -- a rotation that is exposed has no proposer below the bound
  pub none_round : {bound : ℕ} {c : Cycle} → IsNoneBelow l m bound → Exposed (sides_of l h) (stand_of l m) c → (i : ℕ) → i < c.size → bound ≤ c.who i
  none_round {bound} {c} w x i less = omega (arith, who c i less, w.none (listed c) (exposed_back h (listed c) (exposed_listed x)) i (omega (arith, size c)))

  module _ (f : IsMatching l m) where
    list_safe : {bound p : ℕ} → Safe (sides_of l h) (stand_of l m) bound p → IsSafe l m bound p
    list_safe w = record { none = λ other x i less e j inside. w.safe (cycle_of other) (exposed_of h f x) i less e j inside }

    -- whoever is followed by somebody safe is safe
    pub safe_before : {bound p q : ℕ} → IsNext l m p q → IsSafe l m bound q → IsSafe l m bound p
    safe_before {bound} {p} {q} x w = list_safe (safe_back (succ_at h f p x.target x.next) (pair_of_held h f q x.target x.has) (core_safe w))

    -- the members of a rotation without a proposer below the bound are safe
    pub safe_in_round : {bound : ℕ} {c : Cycle} → Exposed (sides_of l h) (stand_of l m) c → ((i : ℕ) → i < c.size → bound ≤ c.who i) → (i : ℕ) → i < c.size → IsSafe l m bound (c.who i)
    safe_in_round x all i less = list_safe (safe_round x all i less)

    -- who has no successor is safe
    pub safe_at_end : {bound p : ℕ} → ((i : ℕ) → ¬ IsSuccessor l m p i) → IsSafe l m bound p
    safe_at_end {bound} {p} none = list_safe (safe_none (λ r x. none (place_of l.proposers p r) (succ_back h {m = m} p r x)))
