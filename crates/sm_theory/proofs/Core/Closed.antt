-- Closed sets have stable matchings, and different ones different matchings.
use Rattle.std.proofs.Common.{◌≡◌, ℕ, zero, suc, ◌<◌, ◌≤◌, ◌⊎◌, inl, inr, arith, refl, sym, ap, ◌∙◌, le_of_eq, le_trans}
use Rattle.sm_lists.proofs.Counting.{Decided, eq_or_ne}
use Rattle.sm_market.proofs.Core.{Sides, Stand, Stable}
use Rattle.sm_theory.proofs.Core.Cycle.{Cycle, Exposed, Moves, target}
use Rattle.sm_theory.proofs.Core.Rotation.{Elim, eliminate, Elim-eliminate, elim_stable, never_up}
use Rattle.sm_theory.proofs.Core.Chain.{Chain, Closed, IsOf, Attained, Decided-moves, not_moves, up_at, needs_lower, upper, way_of}
use Rattle.sm_theory.proofs.Core.Exposure.{exposed_there, same_before}

-- the members of C below i
abbrev pub Under : (ℕ → Type 0) → ℕ → ℕ → Type 0
Under C i k = C k × (k < i)

-- a stable matching that is the matching of the members of C
pub record Built (s : Sides) (t : ℕ) (M : ℕ → Stand) (c : ℕ → Cycle) (C : ℕ → Type 0) : Type 0 where
  pub stand : Stand
  pub stable : Stable s stand
  pub of : IsOf t M c C stand

module _ {s : Sides} {t : ℕ} {M : ℕ → Stand} {c : ℕ → Cycle} (ch : Chain s t M c) where
  -- eliminating k takes its proposers where the chain takes them
  pub same_target : {n : Stand} (k p : ℕ) → k < t → Moves (c k) p → {m : Stand} → Elim s n (c k) m → m.a p ≡ (M (suc k)).a p
  same_target k p h w {m} e =
      let x : m.a p ≡ s.place p (target (c k) w.at) = rw w.holds at (e.moved w.at w.below) in
      let y : (M (suc k)).a p ≡ s.place p (target (c k) w.at) = rw w.holds at ((ch.onward k h).moved w.at w.below) in
      x ∙ sym y

  module _ {C : ℕ → Type 0} (closed : Closed s t c C) (known : (k : ℕ) → k < t → Decided (C k)) where
    Closed-under : (i : ℕ) → Closed s t c (Under C i)
    Closed-under i a b h g member need = (closed a b h g member.0 need, omega (arith, needs_lower (way_of ch) a b h g need, member.1))

    -- one more member: its elimination gives the matching of the members with it
    pub added : (i : ℕ) → i < t → C i → Built s t M c (Under C i) → Built s t M c (Under C (suc i))
    added i h member w = record { stand = next; stable = elim_stable w.stable x e; of = record { low = λ p. le_trans (w.of.low p) (up p); reach = reach; attained = λ p. attained p (Decided-moves (c i) p) } }
      where
        x : Exposed s w.stand (c i)
        x = exposed_there ch (Closed-under i) w.stable w.of i h (λ out. omega (arith, out.1))
            (λ j g need. (closed j i g h member need, needs_lower (way_of ch) j i g h need))

        next : Stand
        next = eliminate s w.stand (c i)

        e : Elim s w.stand (c i) next
        e = Elim-eliminate x

        up : (p : ℕ) → w.stand.a p ≤ next.a p
        up p = never_up w.stable.fit x e p

        reach : (p k : ℕ) → k < t → Under C (suc i) k → Moves (c k) p → (M (suc k)).a p ≤ next.a p
        reach p k g inside mv = elim (eq_or_ne k i) [
          | inl same ↦ let mv' : Moves (c i) p = rw same at mv in le_of_eq (ap (λ j. (M (suc j)).a p) same ∙ sym (same_target i p h mv' e))
          | inr other ↦ le_trans (w.of.reach p k g (inside.0, omega (arith, inside.1)) mv) (up p)
        ]

        attained : (p : ℕ) → Decided (Moves (c i) p) → (next.a p ≡ (M 0).a p) ⊎ Attained t M c (Under C (suc i)) next p
        attained p (inl mv) = inr (record { at = i; below = h; member = (member, omega arith); moves = mv; is = same_target i p h mv e })
        attained p (inr none) = elim (w.of.attained p) [
          | inl a ↦ inl (e.still p (not_moves (c i) p none) ∙ a)
          | inr a ↦ inr (record { at = a.at; below = a.below; member = (a.member.0, omega (arith, a.member.1)); moves = a.moves; is = e.still p (not_moves (c i) p none) ∙ a.is })
        ]

    -- what was added is the elimination of i, whose proposers stood as at stage i
    pub added_before : (i : ℕ) (h : i < t) (member : C i) (w : Built s t M c (Under C i)) (p : ℕ) → Moves (c i) p → w.stand.a p ≡ (M i).a p
    added_before i h member w p mv = same_before ch (Closed-under i) w.stable w.of i h (λ out. omega (arith, out.1))
        (λ j g need. (closed j i g h member need, needs_lower (way_of ch) j i g h need)) p mv

    -- the matching with one more member is the one without it, once that member is eliminated
    pub added_elim : (i : ℕ) (h : i < t) (member : C i) (w : Built s t M c (Under C i)) → Elim s w.stand (c i) (added i h member w).stand
    unfolding added
    added_elim i h member w = Elim-eliminate (exposed_there ch (Closed-under i) w.stable w.of i h (λ out. omega (arith, out.1))
        (λ j g need. (closed j i g h member need, needs_lower (way_of ch) j i g h need)))

    -- one rotation more that isn't a member: the matching stays
    pub passed_by : (i : ℕ) → i < t → (C i → ⊥) → Built s t M c (Under C i) → Built s t M c (Under C (suc i))
    passed_by i h out w = record { stand = w.stand; stable = w.stable; of = record { low = w.of.low; reach = reach; attained = attained } }
      where
        reach : (p k : ℕ) → k < t → Under C (suc i) k → Moves (c k) p → (M (suc k)).a p ≤ w.stand.a p
        reach p k g inside mv = elim (eq_or_ne k i) [
          | inl same ↦ absurd (out (rw same at inside.0))
          | inr other ↦ w.of.reach p k g (inside.0, omega (arith, inside.1)) mv
        ]

        attained : (p : ℕ) → (w.stand.a p ≡ (M 0).a p) ⊎ Attained t M c (Under C (suc i)) w.stand p
        attained p = elim (w.of.attained p) [
          | inl a ↦ inl a
          | inr a ↦ inr (record { at = a.at; below = a.below; member = (a.member.0, omega (arith, a.member.1)); moves = a.moves; is = a.is })
        ]

    -- and is the same as before
    pub passed_stand : (i : ℕ) (h : i < t) (out : C i → ⊥) (w : Built s t M c (Under C i)) → (passed_by i h out w).stand ≡ w.stand
    unfolding passed_by
    passed_stand i h out w = refl

    -- with no member it is the first
    abbrev pub built_at_first : Built s t M c (Under C 0)
    built_at_first = record {
      stand = M 0;
      stable = ch.stable 0 (omega arith);
      of = record {
        low = λ p. omega arith;
        reach = λ p k g inside mv. absurd (omega (arith, inside.1));
        attained = λ p. inl refl;
      };
    }

    built_to : (i : ℕ) → i ≤ t → Built s t M c (Under C i)
    built_to zero h = built_at_first
    built_to (suc i) h = elim (known i (omega arith)) [
      | inl member ↦ added i (omega arith) member (built_to i (omega arith))
      | inr out ↦ passed_by i (omega arith) out (built_to i (omega arith))
    ]

    -- a closed set has a stable matching
    pub built : Built s t M c C
    built = let w = built_to t (omega arith) in record {
      stand = w.stand;
      stable = w.stable;
      of = record {
        low = w.of.low;
        reach = λ p k g inside mv. w.of.reach p k g (inside, g) mv;
        attained = λ p. elim (w.of.attained p) [
          | inl a ↦ inl a
          | inr a ↦ inr (record { at = a.at; below = a.below; member = a.member.0; moves = a.moves; is = a.is })
        ];
      };
    }

  -- what a set with more members gives is no better
  pub of_more : {C D : ℕ → Type 0} {n m : Stand} → IsOf t M c C n → IsOf t M c D m → ((k : ℕ) → k < t → C k → D k) → (p : ℕ) → n.a p ≤ m.a p
  of_more on om more p = elim (on.attained p) [
    | inl e ↦ omega (arith, om.low p)
    | inr a ↦ omega (arith, a.is, om.reach p a.at a.below (more a.at a.below a.member) a.moves)
  ]

  -- a member of one closed set that another lacks makes the matchings differ
  pub differ : {C D : ℕ → Type 0} {n m : Stand} → Closed s t c D → IsOf t M c C n → IsOf t M c D m → (k : ℕ) → k < t → C k → (D k → ⊥) → (p : ℕ) → Moves (c k) p → m.a p < n.a p
  differ closed on om k h inside out p mv = omega (arith, upper (way_of ch) closed om k p h out mv, up_at (way_of ch) k p h mv, on.reach p k h inside mv)
