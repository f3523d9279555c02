-- Where a proposer's partners in two stable matchings have equal lists, for all proposers, the matchings are one.
use Rattle.std.proofs.Common.{◌≡◌, ℕ, zero, suc, ◌<◌, ◌≤◌, inl, inr, arith, sym}
use Rattle.sm_lists.proofs.Counting.{lt_or_le, less_same_more}
use Rattle.sm_market.proofs.Core.{Sides, Stand, Stable, Pair, pair_of, pair_of', same_place, easy}

-- a proposer that does better in m, whom its partner there gives a better rank than p's partner gives p
record Lower (s : Sides) (m n : Stand) (p r : ℕ) : Type 0 where
  other : ℕ
  seat : ℕ
  pair : Pair s m other seat
  less : m.a other < n.a other
  lower : s.rank seat other < s.rank r p

module _ {s : Sides} {m n : Stand} (hm : Stable s m) (hn : Stable s n) (alike : (q r x : ℕ) → Pair s m q r → Pair s n q x → (p : ℕ) → s.rank r p ≡ s.rank x p) where
  -- from p's partner in m to the proposer that this one has in n
  lower_one : (p r : ℕ) → Pair s m p r → m.a p < n.a p → Lower s m n p r
  lower_one p r mp less = record { other = q; seat = s.at q (m.a q); pair = mq; less = better; lower = omega (arith, mp.rank_is, nq.rank_is, lower, alike q (s.at q (m.a q)) r mq nq q) }
    where
      lower : n.b r < m.b r
      lower = easy hn mp less

      q : ℕ
      q = s.at' r (n.b r)

      nq : Pair s n q r
      nq = pair_of' r hn.fit (omega (arith, mp.matched'))

      better : m.a q < n.a q
      better = elim (less_same_more (m.a q) (n.a q)) [
        | inl h ↦ h
        | inr e ↦ elim e [
          | inl h ↦ let w : Pair s m q r = same_place hm.fit nq (sym h) in absurd (omega (arith, w.rank_is, nq.rank_is, lower))
          | inr h ↦ absurd (hm.unblocked q r (omega (arith, nq.place_is, nq.matched)) (omega (arith, nq.place_is)) (omega (arith, nq.rank_is, lower)))
        ]
      ]

      mq : Pair s m q (s.at q (m.a q))
      mq = pair_of q hm.fit (omega (arith, better, nq.matched))

  descent : (d p r : ℕ) → s.rank r p < d → Pair s m p r → m.a p < n.a p → ⊥
  descent zero p r small mp less = omega arith
  descent (suc d) p r small mp less = let w = lower_one p r mp less in descent d w.other w.seat (omega (arith, w.lower)) w.pair w.less

  -- so no proposer does better in m than in n
  pub no_better : (p : ℕ) → n.a p ≤ m.a p
  no_better p = elim (lt_or_le (m.a p) (n.a p)) [
    | inr h ↦ h
    | inl h ↦ let w = pair_of p hm.fit (omega (arith, hn.fit.left.within p)) in absurd (descent (suc (s.rank (s.at p (m.a p)) p)) p (s.at p (m.a p)) (omega arith) w h)
  ]
