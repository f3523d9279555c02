-- What rotations need, one after another.
use Rattle.std.proofs.Common.{◌≡◌, ℕ, ◌+◌, ◌-◌, ◌<◌, ◌≤◌, inl, inr, arith, sym, List, [], ◌∷◌, ◌++◌, length, take, drop, get_or, subst, length-append}
use Rattle.std.specs.Prelude.{slice_index}
use Rattle.std.proofs.lemmas.Bool.{cases_lt}
use Rattle.std.proofs.lemmas.List.{take-append-drop, get_or_append_left, get_or_push, length_push, length-take-le, take-append-le, take_all}
use Rattle.sm_market.specs.Lists.{Lists, IsMarket}
use Rattle.sm_market.specs.Matching.{Places}
use Rattle.sm_theory.specs.Chains.{rotation_at, IsCompleteChain, IsNeededBy, AreNeedsOf}
use Rattle.sm_theory.proofs.Chains.Rotations.{predecessor_is_earlier}
use Rattle.sm_check_weight.specs.Kept.{AreNeedsSoFar}

module _ (l : Lists) (first : Places) where
  -- what a rotation needs of those before it and itself, it needs of all
  pub needs_of_all : IsMarket l → (front more : List (List (ℕ × ℕ))) (j : ℕ) (needs : List ℕ) → IsCompleteChain l first (front ++ more) → j < length front
      → AreNeedsOf l front j needs → AreNeedsOf l (front ++ more) j needs
  needs_of_all market front more j needs chain inside n = record {
    rising = n.rising;
    sound = λ a less. omega (arith, n.sound a less, long);
    each = λ a less. to (slice_index needs a) (n.sound a less) (n.each a less);
    all = λ i less need.
        let early = predecessor_is_earlier l first (front ++ more) i j market chain less (omega (arith, inside, long)) need in
        n.all i (omega arith) (back i (omega arith) need);
  }
    where
      long : length (front ++ more) ≡ length front + length more
      long = length-append front more

      at : (i : ℕ) → i < length front → rotation_at (front ++ more) i ≡ rotation_at front i
      at i less = get_or_append_left front more [] i less

      to : (i : ℕ) → i < length front → IsNeededBy l (rotation_at front i) (rotation_at front j) → IsNeededBy l (rotation_at (front ++ more) i) (rotation_at (front ++ more) j)
      to i less h =
          subst (λ (y : List (ℕ × ℕ)). IsNeededBy l (rotation_at (front ++ more) i) y) (sym (at j inside))
          (subst (λ (x : List (ℕ × ℕ)). IsNeededBy l x (rotation_at front j)) (sym (at i less)) h)

      back : (i : ℕ) → i < length front → IsNeededBy l (rotation_at (front ++ more) i) (rotation_at (front ++ more) j) → IsNeededBy l (rotation_at front i) (rotation_at front j)
      back i less h =
          subst (λ (y : List (ℕ × ℕ)). IsNeededBy l (rotation_at front i) y) (at j inside)
          (subst (λ (x : List (ℕ × ℕ)). IsNeededBy l x (rotation_at (front ++ more) j)) (at i less) h)

  -- at the end of the chain each has what it needs of all
  pub needs_at_end : IsMarket l → (rotations : List (List (ℕ × ℕ))) (needs : List (List ℕ)) → IsCompleteChain l first rotations → length needs ≡ length rotations
      → AreNeedsSoFar l rotations needs → (j : ℕ) → j < length rotations → AreNeedsOf l rotations j (get_or needs j [])
  needs_at_end market rotations needs chain long so_far j less =
      let parts = take-append-drop (j + 1) rotations in
      subst (λ (xs : List (List (ℕ × ℕ))). AreNeedsOf l xs j (get_or needs j [])) parts
      (needs_of_all market (take (j + 1) rotations) (drop (j + 1) rotations) j (get_or needs j [])
      (subst (IsCompleteChain l first) (sym parts) chain) (let t = length-take-le (j + 1) rotations (omega (arith, less)) in omega (arith, t)) (so_far j (omega (arith, less, long))))

-- one more rotation, of which nothing is said yet; and what the newest one needs
pub needs_kept : {l : Lists} (rotations : List (List (ℕ × ℕ))) (rotation : List (ℕ × ℕ)) (needs : List (List ℕ)) → length needs ≤ length rotations → AreNeedsSoFar l rotations needs → AreNeedsSoFar l (rotations ++ rotation ∷ []) needs
needs_kept {l} rotations rotation needs few so_far j less =
    subst (λ (xs : List (List (ℕ × ℕ))). AreNeedsOf l xs j (get_or needs j [])) (sym (take-append-le (j + 1) rotations (rotation ∷ []) (omega (arith, few, less)))) (so_far j less)

-- what the newest rotation needs stands behind the other needs
pub needs_more : {l : Lists} (rotations : List (List (ℕ × ℕ))) (needs : List (List ℕ)) (newest : List ℕ) → length needs + 1 ≡ length rotations → AreNeedsSoFar l rotations needs
    → AreNeedsOf l rotations (length rotations - 1) newest → AreNeedsSoFar l rotations (needs ++ newest ∷ [])
needs_more {l} rotations needs newest last so_far n j less = elim (cases_lt j (length needs)) [
  | inl below ↦ subst (AreNeedsOf l (take (j + 1) rotations) j) (sym (get_or_append_left needs (newest ∷ []) [] j below)) (so_far j below)
  | inr past ↦
      let e : length needs ≡ j = omega (arith, past, less, length_push needs newest) in
      let all : take (j + 1) rotations ≡ rotations = take_all (j + 1) rotations (omega (arith, e, last)) in
      let at : length rotations - 1 ≡ j = omega (arith, e, last) in
      subst (AreNeedsOf l (take (j + 1) rotations) j) (sym (get_or_push needs newest [] j e))
      (subst (λ (xs : List (List (ℕ × ℕ))). AreNeedsOf l xs j newest) (sym all) (subst (λ (i : ℕ). AreNeedsOf l rotations i newest) at n))
]
