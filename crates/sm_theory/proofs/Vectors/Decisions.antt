-- What the definitions of closed sets and of conditions ask can be decided, and so can be searched for the set whose vector is
-- the least.
use Rattle.std.proofs.Common.{◌≡◌, ℕ, ◌<◌, ◌⊎◌, inl, inr, refl, sym, ap, ◌∙◌, List, length, Option, None, Some, Bool, slice_index, slice_index_or}
use Rattle.std.proofs.lemmas.Option.{none-some, same_Some}
use Rattle.sm_market.specs.Lists.{Lists, row, place_of}
use Rattle.sm_market.specs.Matching.{Places, held}
use Rattle.sm_lists.proofs.Counting.{Decided, Decided-lt, Decided-eq, Decided-and, Decided-not, Decided-some, by_contradiction, First, search_below}
use Rattle.sm_theory.specs.Rotations.{proposer_at, reviewer_at, target_at, next_in}
use Rattle.sm_theory.specs.Chains.{rotation_at, MovesItBefore, MakesItPass, IsNeededBy}
use Rattle.sm_theory.specs.ClosedSets.{IsMember, IsClosed}
use Rattle.sm_theory.specs.Vectors.{HasLevel, IsAllowed}
use Rattle.sm_theory.proofs.Bridge.Chain.{Decided-member}

-- from what is known of the parts
pub Decided-map : {P Q : Type 0} → (P → Q) → (Q → P) → Decided P → Decided Q
Decided-map f g (inl p) = inl (f p)
Decided-map f g (inr p) = inr (λ q. p (g q))

-- one of two
pub Decided-or : {P Q : Type 0} → Decided P → Decided Q → Decided (P ⊎ Q)
Decided-or (inl p) _ = inl (inl p)
Decided-or (inr p) (inl q) = inl (inr q)
Decided-or (inr p) (inr q) = inr (λ x. elim x [ inl y ↦ p y | inr y ↦ q y ])

-- that one follows from another
pub Decided-implies : {P Q : Type 0} → Decided P → Decided Q → Decided (P → Q)
Decided-implies (inl p) (inl q) = inl (λ _. q)
Decided-implies (inl p) (inr q) = inr (λ h. q (h p))
Decided-implies (inr p) _ = inl (λ x. absurd (p x))

-- from what is known of each number below n
pub Decided-all : (n : ℕ) (P : ℕ → Type 0) → ((i : ℕ) → i < n → Decided (P i)) → Decided ((i : ℕ) → i < n → P i)
Decided-all n P d = go (search_below n (λ i. P i → ⊥) (λ i h. Decided-not (d i h)))
  where
    go : First n (λ i. P i → ⊥) ⊎ ((i : ℕ) → i < n → (P i → ⊥) → ⊥) → Decided ((i : ℕ) → i < n → P i)
    go (inl w) = inr (λ all. w.holds (all w.at w.below))
    go (inr none) = inl (λ i h. by_contradiction (d i h) (none i h))

-- two numbers at which something holds
pub record Pair (n m : ℕ) (P : ℕ → ℕ → Type 0) : Type 0 where
  pub one : ℕ
  pub below : one < n
  pub two : ℕ
  pub within : two < m
  pub holds : P one two

-- whether there are two such numbers
pub Decided-pair : (n m : ℕ) (P : ℕ → ℕ → Type 0) → ((i j : ℕ) → Decided (P i j)) → Decided (Pair n m P)
Decided-pair n m P d = go (search_below n (λ i. First m (P i)) (λ i _. Decided-some m (P i) (λ j _. d i j)))
  where
    go : First n (λ i. First m (P i)) ⊎ ((i : ℕ) → i < n → First m (P i) → ⊥) → Decided (Pair n m P)
    go (inl w) = inl (record { one = w.at; below = w.below; two = w.holds.at; within = w.holds.below; holds = w.holds.holds })
    go (inr none) = inr (λ w. elim (Decided-some m (P w.one) (λ j _. d w.one j)) [
      | inl x ↦ none w.one w.below x
      | inr x ↦ no_first w x
    ])
      where
        no_first : (w : Pair n m P) → (First m (P w.one) → ⊥) → ⊥
        no_first w x = elim (search_below m (P w.one) (λ j _. d w.one j)) [ inl f ↦ x f | inr nothing ↦ nothing w.two w.within w.holds ]

abbrev TakenFrom : List (ℕ × ℕ) → List (ℕ × ℕ) → ℕ → ℕ → Type 0
TakenFrom early late i j = (proposer_at early i ≡ proposer_at late j) × (target_at early i ≡ reviewer_at late j)

abbrev PassedBy : Lists → List (ℕ × ℕ) → List (ℕ × ℕ) → ℕ → ℕ → Type 0
PassedBy l early late i j =
    (place_of l.proposers (proposer_at late j) (reviewer_at late j) < place_of l.proposers (proposer_at late j) (target_at early i))
    × ((place_of l.proposers (proposer_at late j) (target_at early i) < place_of l.proposers (proposer_at late j) (target_at late j))
    × ((place_of l.reviewers (target_at early i) (proposer_at early i) < place_of l.reviewers (target_at early i) (proposer_at late j))
    × (place_of l.reviewers (target_at early i) (proposer_at late j) < place_of l.reviewers (target_at early i) (proposer_at early (next_in early i)))))

-- whether one rotation is a predecessor of another
pub Decided-needed : (l : Lists) (early late : List (ℕ × ℕ)) → Decided (IsNeededBy l early late)
Decided-needed l early late = Decided-or
    (Decided-map
    (λ (w : Pair (length early) (length late) (TakenFrom early late)). record { pair = w.one; pair_in = w.below; other = w.two; other_in = w.within; same_proposer = w.holds.0; same_reviewer = w.holds.1 })
    (λ (v : MovesItBefore early late). record { one = v.pair; below = v.pair_in; two = v.other; within = v.other_in; holds = (v.same_proposer, v.same_reviewer) })
    (Decided-pair (length early) (length late) (TakenFrom early late) (λ i j. Decided-and (Decided-eq _ _) (Decided-eq _ _))))
    (Decided-map
    (λ (w : Pair (length early) (length late) (PassedBy l early late)). record { pair = w.one; pair_in = w.below; other = w.two; other_in = w.within; behind = w.holds.0; before = w.holds.1.0; gains = w.holds.1.1.0; loses = w.holds.1.1.1 })
    (λ (v : MakesItPass l early late). record { one = v.pair; below = v.pair_in; two = v.other; within = v.other_in; holds = (v.behind, (v.before, (v.gains, v.loses))) })
    (Decided-pair (length early) (length late) (PassedBy l early late) (λ i j. Decided-and (Decided-lt _ _) (Decided-and (Decided-lt _ _) (Decided-and (Decided-lt _ _) (Decided-lt _ _))))))

-- whether a set is closed
pub Decided-closed : (l : Lists) (rotations : List (List (ℕ × ℕ))) (set : List Bool) → Decided (IsClosed l rotations set)
Decided-closed l rotations set = Decided-map
    (λ w. record { one_each = w.0; closed = λ i j a b member need. w.1 i a j b member need })
    (λ (c : IsClosed l rotations set). (c.one_each, λ i a j b member need. c.closed i j a b member need))
    (Decided-and (Decided-eq (length set) (length rotations))
    (Decided-all (length rotations) (λ i. (j : ℕ) → j < length rotations → IsMember set j → IsNeededBy l (rotation_at rotations i) (rotation_at rotations j) → IsMember set i) (λ i _.
    Decided-all (length rotations) (λ j. IsMember set j → IsNeededBy l (rotation_at rotations i) (rotation_at rotations j) → IsMember set i) (λ j _.
    Decided-implies (Decided-member set j) (Decided-implies (Decided-needed l (rotation_at rotations i) (rotation_at rotations j)) (Decided-member set i))))))

-- whether p is matched at a place of a level
pub Decided-level : (levels : List (List ℕ)) (m : Places) (p level : ℕ) → Decided (HasLevel levels m p level)
Decided-level levels m p level = go (held m.proposers p) refl
  where
    go : (o : Option ℕ) → held m.proposers p ≡ o → Decided (HasLevel levels m p level)
    go None e = inr (λ w. none-some _ (sym e ∙ w.holds))
    go (Some i) e = Decided-map
        (λ x. record { place = i; holds = e; at_level = x })
        (λ (w : HasLevel levels m p level). ap (slice_index (row levels p)) (same_Some _ _ (sym e ∙ w.holds)) ∙ w.at_level)
        (Decided-eq (slice_index (row levels p) i) level)

-- whether a matching meets the conditions
pub Decided-allowed : (levels : List (List ℕ)) (forced forbidden : List (ℕ × ℕ)) (m : Places) → Decided (IsAllowed levels forced forbidden m)
Decided-allowed levels forced forbidden m = Decided-map
    (λ w. record { holds = w.0; avoids = w.1 })
    (λ (a : IsAllowed levels forced forbidden m). (a.holds, a.avoids))
    (Decided-and
    (Decided-all (length forced) (λ c. HasLevel levels m (slice_index_or forced c (0, 0)).0 (slice_index_or forced c (0, 0)).1) (λ c _. Decided-level levels m _ _))
    (Decided-all (length forbidden) (λ c. HasLevel levels m (slice_index_or forbidden c (0, 0)).0 (slice_index_or forbidden c (0, 0)).1 → ⊥) (λ c _. Decided-not (Decided-level levels m _ _))))
