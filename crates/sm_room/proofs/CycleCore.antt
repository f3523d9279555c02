-- A walk from person to next person closes to a cycle. Where anybody on it has two left, and the last of them is on the cycle,
-- so it is for all, and whoever the walk began with is one of them.
use Rattle.std.proofs.Common.{List, ◌≡◌, ℕ, zero, suc, ◌+◌, ◌-◌, ◌<◌, ◌≤◌, inl, inr, arith, ap, ◌∙◌}
use Rattle.sm_lists.proofs.Counting.{lt_or_le, eq_or_ne}
use Rattle.sm_room.specs.Bounds.{IsNextPerson, IsGoodAt}
use Rattle.sm_room.proofs.PhaseTwoCore.{Before, After, Round, Two, has_two_back, HasTwo, before_inside}

-- the cycle at the end of a walk, over `p one` to `p end`, which has `p one` next
pub record Walk (rows : List (List ℕ)) (b : ℕ → ℕ) (p : ℕ → ℕ) (one end : ℕ) : Type 0 where
  pub order : one ≤ end
  pub steps : (i : ℕ) → one ≤ i → i < end → IsNextPerson rows b (p i) (p (suc i))
  pub closes : IsNextPerson rows b (p end) (p one)

-- u is one of the cycle
pub record On (p : ℕ → ℕ) (one end u : ℕ) : Type 0 where
  pub at : ℕ
  pub late : one ≤ at
  pub early : at ≤ end
  pub is : p at ≡ u

module _ {rows : List (List ℕ)} {b : ℕ → ℕ} {p : ℕ → ℕ} {one end : ℕ} (w : Walk rows b p one end) where
  before_on : (v : ℕ) → On p one end v → Before rows b (On p one end) v
  before_on v o = go o.at o.late o.early o.is
    where
      go : (i : ℕ) → one ≤ i → i ≤ end → p i ≡ v → Before rows b (On p one end) v
      go i late early e = elim (eq_or_ne i one) [
        | inl d ↦ let f : p one ≡ v = rw d at e in record { who = p end; here = record { at = end; late = w.order; early = omega arith; is = ap p (omega arith) }; next = rw f at w.closes }
        | inr d ↦
            let k : ℕ = i - 1 in
            let up : suc k ≡ i = omega (arith, late, d) in
            let n : IsNextPerson rows b (p k) (p (suc k)) = w.steps k (omega (arith, up, late, d)) (omega (arith, up, early)) in
            let f : p (suc k) ≡ v = ap p up ∙ e in
            record { who = p k; here = record { at = k; late = omega (arith, up, late, d); early = omega (arith, up, early); is = ap p (omega arith) }; next = rw f at n }
      ]

  after_on : (x : ℕ) → On p one end x → After rows b (On p one end) x
  after_on x o = elim (lt_or_le o.at end) [
    | inl l ↦
        let n : IsNextPerson rows b (p o.at) (p (suc o.at)) = w.steps o.at o.late l in
        record { who = p (suc o.at); here = record { at = suc o.at; late = omega (arith, o.late); early = omega (arith, l); is = ap p (omega arith) }; next = rw o.is at n }
    | inr l ↦
        let e : end ≡ o.at = omega (arith, l, o.early) in
        let f : p end ≡ x = ap p e ∙ o.is in
        record { who = p one; here = record { at = one; late = omega arith; early = w.order; is = ap p (omega arith) }; next = rw f at w.closes }
  ]

  -- each person of the cycle has another before it and another after it
  pub round_of_walk : Round rows b (On p one end)
  round_of_walk = record { before = before_on; after = after_on }

  on_walk : (i : ℕ) → one ≤ i → i ≤ end → On p one end (p i)
  on_walk i late early = record { at = i; late = late; early = early; is = ap p (omega arith) }

  module _ (good : IsGoodAt rows b) where
    abbrev Has : ℕ → Type 0
    Has u = HasTwo good round_of_walk u

    down : (d i : ℕ) → one ≤ i → d + i ≤ end → Has (p (d + i)) → Has (p i)
    down zero i late early h = let e : 0 + i ≡ i = omega arith in rw e at h
    down (suc d) i late early h =
        let e : suc d + i ≡ suc (d + i) = omega arith in
        let g : Has (p (suc (d + i))) = rw e at h in
        down d i late (omega (arith, early)) (has_two_back good round_of_walk _ g (p (d + i)) (on_walk (d + i) (omega (arith, late)) (omega (arith, early))) (w.steps (d + i) (omega (arith, late)) (omega (arith, early))))

    -- where one of the cycle has two left, the last of the cycle, so has each
    pub all_have : (i : ℕ) → one ≤ i → i ≤ end → Has (p i) → (j : ℕ) → one ≤ j → j ≤ end → Has (p j)
    all_have i late early h j late' early' =
        let d : ℕ = i - one in
        let e : d + one ≡ i = omega (arith, late) in
        let first : Has (p one) = down d one (omega arith) (omega (arith, e, early)) (rw e h) in
        let last : Has (p end) = has_two_back good round_of_walk _ first (p end) (on_walk end w.order (omega arith)) w.closes in
        let c : ℕ = end - j in
        let f : c + j ≡ end = omega (arith, early') in
        down c j late' (omega (arith, f)) (rw f last)

    -- so it is enough to ask one of them
    pub none_has_two : (Has (p one) → ⊥) → (u v : ℕ) → Two rows b (On p one end) u v → ⊥
    none_has_two none u v t =
        let o = t.here in
        none (all_have o.at o.late o.early (rw o.is (record { last = v; two = t })) one (omega arith) w.order)

    -- whoever the walk began with is on the cycle then
    module _ (h : Has (p one)) (early : (i : ℕ) → i < one → IsNextPerson rows b (p i) (p (suc i))) where
      all_of : (v : ℕ) → On p one end v → Has v
      all_of v o = let e : p o.at ≡ v = o.is in rw e at (all_have one (omega arith) w.order h o.at o.late o.early)

      to_start : (d : ℕ) → d ≤ one → On p one end (p (one - d))
      to_start zero h = let e : one - 0 ≡ one = omega arith in rw e (on_walk one (omega arith) w.order)
      to_start (suc d) h =
          let k : ℕ = one - suc d in
          let up : suc k ≡ one - d = omega (arith, h) in
          let n : IsNextPerson rows b (p k) (p (suc k)) = early k (omega (arith, up, h)) in
          let m : IsNextPerson rows b (p k) (p (one - d)) = rw up at n in
          before_inside good round_of_walk (p k) (p (one - d)) all_of m (to_start d (omega (arith, h)))

      -- whoever the walk began with has two left, the last of the cycle
      pub start_has : Has (p 0)
      start_has = let e : one - one ≡ 0 = omega arith in all_of (p 0) (rw e at (to_start one (omega arith)))
