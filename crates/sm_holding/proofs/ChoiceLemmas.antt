-- The matching that is chosen of two.
use Rattle.std.proofs.Common.{◌≡◌, ℕ, ◌<◌, ◌⊎◌, inl, inr, List, Option, Some, None, length, min, max, refl, sym, ap, ◌∙◌, subst, arith, ⊎_elim, set}
use Rattle.std.proofs.lemmas.Bool.{cases_lt}
use Rattle.std.proofs.lemmas.List.{get_or_past, get_or-set_same, get_or-set_other}
use Rattle.std.proofs.lemmas.List.FromFn.{length-map-range_with_len, get_or-map-range_with_len}
use Rattle.sm_agents.specs.Written.{Written, row}
use Rattle.sm_instance.specs.Matching.{held, IsAssignment}
use Rattle.sm_theory.specs.Choices.{chosen}
use Rattle.sm_theory.specs.declared.choice.Choice.{Choice}
use Rattle.sm_theory.specs.declared.choice.Choice.TheVariants.{Better, Worse}
use Rattle.sm_holding.specs.Chosen.{chosen_places}
use Rattle.sm_holding.proofs.HoldingLemmas.{changed_at}

-- a chosen place is one of the two
either : (P : ℕ → Type 0) (x y z : ℕ) → P x → P y → (z ≡ x) ⊎ (z ≡ y) → P z
either P x y z hx hy (inl e) = subst P (sym e) hx
either P x y z hx hy (inr e) = subst P (sym e) hy

least_in : (x y : ℕ) → (min x y ≡ x) ⊎ (min x y ≡ y)
least_in x y = ⊎_elim (λ l. inl (let e : min x y ≡ x = omega (arith, l) in e)) (λ g. inr (let e : min x y ≡ y = omega (arith, g) in e)) (cases_lt x y)

greatest_in : (x y : ℕ) → (max x y ≡ x) ⊎ (max x y ≡ y)
greatest_in x y = ⊎_elim (λ l. inr (let e : max x y ≡ y = omega (arith, l) in e)) (λ g. inl (let e : max x y ≡ x = omega (arith, g) in e)) (cases_lt x y)

chosen_in : (P : ℕ → Type 0) (choice : Choice) (a b : Option ℕ) → ((i : ℕ) → a ≡ Some i → P i) → ((i : ℕ) → b ≡ Some i → P i) → (i : ℕ) → chosen choice a b ≡ Some i → P i
chosen_in P Better None b ha hb i e = hb i e
chosen_in P Better (Some x) None ha hb i e = ha i e
chosen_in P Better (Some x) (Some y) ha hb i e = subst P (let s : min x y ≡ i = cc in s) (either P x y (min x y) (ha x refl) (hb y refl) (least_in x y))
chosen_in P Worse None b ha hb i e = absurd cc
chosen_in P Worse (Some x) None ha hb i e = absurd cc
chosen_in P Worse (Some x) (Some y) ha hb i e = subst P (let s : max x y ≡ i = cc in s) (either P x y (max x y) (ha x refl) (hb y refl) (greatest_in x y))

held_chosen : (choice : Choice) (w : Written) (m n : List (Option ℕ)) (p : ℕ) → p < length w.proposers → held (chosen_places choice w m n) p ≡ chosen choice (held m p) (held n p)
held_chosen choice w m n p l = get_or-map-range_with_len (λ p. chosen choice (held m p) (held n p)) 0 (length w.proposers) p p None l (omega arith)

-- what is chosen of two assignments is one
pub chosen_assigned : (choice : Choice) (w : Written) (m n : List (Option ℕ)) → IsAssignment w m → IsAssignment w n → IsAssignment w (chosen_places choice w m n)
chosen_assigned choice w m n hm hn = record {
  one_each = length-map-range_with_len (λ p. chosen choice (held m p) (held n p)) 0 (length w.proposers);
  on_lists = λ p i e. ⊎_elim
      (λ l. chosen_in (λ i. i < length (row w.proposers p)) choice (held m p) (held n p) (hm.on_lists p) (hn.on_lists p) i (sym (held_chosen choice w m n p l) ∙ e))
      (λ g. absurd (let out = sym (get_or_past (chosen_places choice w m n) p None (let long = length-map-range_with_len (λ p. chosen choice (held m p) (held n p)) 0 (length w.proposers) in omega (arith, g, long))) ∙ e in cc))
      (cases_lt p (length w.proposers));
}

-- where a proposer has another place in one of the two
pub left_changed : (choice : Choice) (w : Written) (m n : List (Option ℕ)) (p : ℕ) (o : Option ℕ) → p < length m
    → set (chosen_places choice w m n) p (chosen choice o (held n p)) ≡ chosen_places choice w (set m p o) n
left_changed choice w m n p o l =
    changed_at (λ q. chosen choice (held m q) (held n q)) (λ q. chosen choice (held (set m p o) q) (held n q)) (length w.proposers) p _
    (ap (λ x. chosen choice x (held n p)) (get_or-set_same m p o None l))
    (λ q ne. ap (λ x. chosen choice x (held n q)) (get_or-set_other m p q o None ne))

-- and so where it has another place in the other one
pub right_changed : (choice : Choice) (w : Written) (m n : List (Option ℕ)) (p : ℕ) (o : Option ℕ) → p < length n
    → set (chosen_places choice w m n) p (chosen choice (held m p) o) ≡ chosen_places choice w m (set n p o)
right_changed choice w m n p o l =
    changed_at (λ q. chosen choice (held m q) (held n q)) (λ q. chosen choice (held m q) (held (set n p o) q)) (length w.proposers) p _
    (ap (chosen choice (held m p)) (get_or-set_same n p o None l))
    (λ q ne. ap (chosen choice (held m q)) (get_or-set_other n p q o None ne))
