-- How it is decided that no exposed rotation has a proposer below a bound: a proposer is safe where each exposed rotation that
-- has it has no proposer below the bound.
use Rattle.std.proofs.Common.{◌≡◌, ℕ, ◌<◌, ◌≤◌, List, length, inl, inr, arith, sym}
use Rattle.sm_lists.proofs.Counting.{lt_or_le}
use Rattle.sm_market.proofs.Core.{Sides, Stand, Pair, one_proposer}
use Rattle.sm_market.specs.Lists.{Lists, IsMarket}
use Rattle.sm_market.specs.Matching.{Places}
use Rattle.sm_market.specs.Stable.{IsStable}
use Rattle.sm_theory.specs.Rotations.{IsExposed, proposer_at}
use Rattle.sm_theory.proofs.Bridge.Places.{row_past}
use Rattle.sm_theory.specs.Laws.{NoneBelowAll}
use Rattle.sm_theory.proofs.Core.Cycle.{Cycle, turn, turn_in, target, Succ, succ_unique, Exposed, same_cycle}

-- no exposed rotation that has x has a proposer below the bound
pub record Safe (s : Sides) (m : Stand) (bound x : ℕ) : Type 0 where
  pub safe : (c : Cycle) → Exposed s m c → (i : ℕ) → i < c.size → c.who i ≡ x → (j : ℕ) → j < c.size → bound ≤ c.who j

-- who has no successor is in no rotation
pub safe_none : {s : Sides} {m : Stand} {bound p : ℕ} → ((r : ℕ) → Succ s m p r → ⊥) → Safe s m bound p
safe_none none = record { safe = λ c x i h e j k. absurd (none (target c i) (rw e at (x.next i h))) }

-- whoever is followed by somebody safe is safe
pub safe_back : {s : Sides} {m : Stand} {bound p q r : ℕ} → Succ s m p r → Pair s m q r → Safe s m bound q → Safe s m bound p
safe_back {s} {m} {bound} {p} {q} {r} succ pair w = record {
  safe = λ c x i h e j k.
      let next : Succ s m p (target c i) = rw e at (x.next i h) in
      let same : target c i ≡ r = succ_unique next succ in
      let inside = turn_in c.size i h in
      let has : Pair s m (c.who (turn c.size i)) r = rw same at (x.paired (turn c.size i) inside) in
      w.safe c x (turn c.size i) inside (one_proposer has pair) j k;
}

-- the members of a rotation without a proposer below the bound are safe
pub safe_round : {s : Sides} {m : Stand} {bound : ℕ} {d : Cycle} → Exposed s m d → ((i : ℕ) → i < d.size → bound ≤ d.who i) → (i : ℕ) → i < d.size → Safe s m bound (d.who i)
safe_round {s} {m} {bound} {d} y all i h = record {
  safe = λ c x a b e j k.
      let w = same_cycle x y a i b h (sym e) j k in
      rw w.who_is at (all w.at w.below);
}

in_list : (l : Lists) (m : Places) (h : IsMarket l) (s : IsStable l m) (other : List (ℕ × ℕ)) → IsExposed l m other → proposer_at other 0 < length l.proposers
in_list l m h s other x = elim (lt_or_le (proposer_at other 0) (length l.proposers)) [
  | inl k ↦ k
  | inr k ↦ absurd (omega (arith, row_past l.proposers (proposer_at other 0) k, (x.next 0 x.not_empty).on_list))
]

-- where no exposed rotation has a proposer below their number, none is exposed
pub none_below_all : NoneBelowAll
none_below_all l m h s n other x = omega (arith, in_list l m h s other x, n.none other x 0 x.not_empty)
