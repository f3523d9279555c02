-- The weight of the matching of a closed set.
use Rattle.std.proofs.Common.{◌≡◌, ℕ, zero, suc, ◌<◌, ◌≤◌, inl, inr, arith, refl, sym, ap, ◌∙◌, ℤ, pos, ◌+ℤ◌, ◌-ℤ◌, Bool, true, false, cond}
use Rattle.std.proofs.lemmas.Int.{ints}
use Rattle.sm_lists.proofs.Counting.{Decided, lt_or_le}
use Rattle.sm_market.proofs.Core.{Sides, Stand}
use Rattle.sm_theory.specs.Weights.{total}
use Rattle.sm_theory.proofs.Core.Cycle.{Cycle, moves_at, target}
use Rattle.sm_theory.proofs.Core.Rotation.{Elim}
use Rattle.sm_theory.proofs.Core.Chain.{Chain, Closed, IsOf}
use Rattle.sm_theory.proofs.Core.Closed.{Under, Built, added, added_before, added_elim, passed_by, passed_stand, of_more, built_at_first}
use Rattle.sm_theory.proofs.Weighing.Totals.{total_same, total_changes}

-- the sum of the weights of all standings, and the gain of a cycle
abbrev pub weight : Sides → (ℕ → ℕ → ℤ) → Stand → ℤ
weight s weigh n = total (λ p. weigh p (n.a p)) s.bound

-- the weight of a cycle's new pairs less that of its old ones
abbrev pub gain : Sides → (ℕ → ℕ → ℤ) → Cycle → ℤ
gain s weigh c = total (λ i. weigh (c.who i) (s.place (c.who i) (target c i)) -ℤ weigh (c.who i) (s.place (c.who i) (c.has i))) c.size

module _ {s : Sides} {t : ℕ} {M : ℕ → Stand} {c : ℕ → Cycle} (ch : Chain s t M c) (weigh : ℕ → ℕ → ℤ) (set : ℕ → Bool) where
  abbrev C : ℕ → Type 0
  C k = set k ≡ true

  -- a matching of the members below i, and its weight
  record Weighed (i : ℕ) : Type 0 where
    of : Built s t M c (Under C i)
    is : weight s weigh of.stand ≡ weight s weigh (M 0) +ℤ total (λ k. cond (set k) (gain s weigh (c k)) (pos 0)) i

  module _ (closed : Closed s t c C) (known : (k : ℕ) → k < t → Decided (C k)) where
    heavier : (i : ℕ) (h : i < t) (member : C i) (w : Built s t M c (Under C i)) → weight s weigh (added ch closed known i h member w).stand ≡ weight s weigh w.stand +ℤ gain s weigh (c i)
    heavier i h member w =
        total_changes s.bound (λ p. weigh p (next.a p)) (λ p. weigh p (w.stand.a p)) (c i).size (c i).who inside (ch.exposed i h).distinct (λ p _ none. ap (weigh p) (e.still p none))
        ∙ ap (λ z. weight s weigh w.stand +ℤ z) (total_same (c i).size _ _ (λ j g. ap (λ n. weigh ((c i).who j) n -ℤ weigh ((c i).who j) (w.stand.a ((c i).who j))) (e.moved j g) ∙ ap (λ n. weigh ((c i).who j) (s.place ((c i).who j) (target (c i) j)) -ℤ weigh ((c i).who j) n) (before j g)))
      where
        next : Stand
        next = (added ch closed known i h member w).stand

        e : Elim s w.stand (c i) next
        e = added_elim ch closed known i h member w

        before : (j : ℕ) → j < (c i).size → w.stand.a ((c i).who j) ≡ s.place ((c i).who j) ((c i).has j)
        before j g = added_before ch closed known i h member w ((c i).who j) (moves_at (c i) j g) ∙ sym ((ch.exposed i h).paired j g).place_is

        inside : (j : ℕ) → j < (c i).size → (c i).who j < s.bound
        inside j g = elim (lt_or_le ((c i).who j) s.bound) [ inl k ↦ k | inr k ↦ absurd (omega (arith, s.left.few ((c i).who j) k, ((ch.exposed i h).paired j g).matched)) ]

    weighed : (i : ℕ) → i ≤ t → Weighed i
    weighed zero h = record {
      of = built_at_first ch closed known;
      is = omega (arith, ints);
    }
    weighed (suc i) h = go (weighed i (omega arith)) (set i) refl
      where
        go : Weighed i → (b : Bool) → set i ≡ b → Weighed (suc i)
        go w true e = record {
          of = added ch closed known i (omega arith) e w.of;
          is =
              let one = heavier i (omega arith) e w.of in
              let two : cond (set i) (gain s weigh (c i)) (pos 0) ≡ gain s weigh (c i) = rw e refl in
              let three = w.is in
              omega (arith, ints);
        }
        go w false e = record {
          of = passed_by ch closed known i (omega arith) (λ x. grind arith) w.of;
          is =
              let one : weight s weigh (passed_by ch closed known i (omega arith) (λ x. grind arith) w.of).stand ≡ weight s weigh w.of.stand = ap (weight s weigh) (passed_stand ch closed known i (omega arith) (λ x. grind arith) w.of) in
              let two : cond (set i) (gain s weigh (c i)) (pos 0) ≡ pos 0 = rw e refl in
              let three = w.is in
              omega (arith, ints);
        }

    -- the matching of a closed set weighs what the first one weighs and the gains of the members
    pub weight_of_set : {n : Stand} → IsOf t M c C n → weight s weigh n ≡ weight s weigh (M 0) +ℤ total (λ k. cond (set k) (gain s weigh (c k)) (pos 0)) t
    weight_of_set {n} of = total_same s.bound (λ p. weigh p (n.a p)) (λ p. weigh p (w.of.stand.a p)) (λ p _. ap (weigh p) (same p)) ∙ w.is
      where
        w : Weighed t
        w = weighed t (omega arith)

        whole : IsOf t M c C w.of.stand
        whole = record {
          low = w.of.of.low;
          reach = λ p k g inside mv. w.of.of.reach p k g (inside, g) mv;
          attained = λ p. elim (w.of.of.attained p) [
            | inl a ↦ inl a
            | inr a ↦ inr (record { at = a.at; below = a.below; member = a.member.0; moves = a.moves; is = a.is })
          ];
        }

        same : (p : ℕ) → n.a p ≡ w.of.stand.a p
        same p = omega (arith, of_more ch of whole (λ k _ x. x) p, of_more ch whole of (λ k _ x. x) p)
