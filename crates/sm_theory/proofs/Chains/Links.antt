-- What `is_exposed` finds out pair by pair.
use Rattle.std.proofs.Common.{◌≡◌, ◌≢◌, ℕ, zero, suc, ◌+◌, ◌-◌, ◌<◌, ◌≤◌, ◌↔◌, inl, inr, arith, refl, sym, ap, ◌∙◌, List, length, Some, Bool, true, false, not, IsTrue, ◌==◌, eq-eqb, ne_eqb}
use Rattle.std.proofs.lemmas.Option.{same_Some}
use Rattle.sm_market.specs.Lists.{Lists, entry, place_of, IsMarket}
use Rattle.sm_market.specs.Matching.{Places, held, IsMatching}
use Rattle.sm_lists.proofs.Counting.{eq_or_ne, less_same_more}
use Rattle.sm_market.proofs.Core.{Sides, Stand, Pair, one_proposer}
use Rattle.sm_market.proofs.PlaceLemmas.{place_of-entry}
use Rattle.sm_lists.proofs.PlaceLemmas.{entry-place_of}
use Rattle.sm_market.proofs.Bridge.{sides_of, stand_of}
use Rattle.sm_theory.specs.Rotations.{IsSuccessor, IsLink, IsExposed, proposer_at, reviewer_at, target_at}
use Rattle.sm_theory.proofs.Core.Cycle.{Cycle, turn, turn_in, turn_last, turn_more, target, Succ, succ_unique}
use Rattle.sm_theory.proofs.Bridge.Rotation.{cycle_of, pair_of_held, succ_at}

-- there is no more than one successor
pub successor_once : {l : Lists} {m : Places} {p i j : ℕ} → IsSuccessor l m p i → IsSuccessor l m p j → i ≡ j
successor_once {l} {m} {p} {i} {j} x y = elim (less_same_more i j) [
  | inl h ↦ absurd (y.first i x.behind h x.takes)
  | inr d ↦ elim d [ inl h ↦ h | inr h ↦ absurd (x.first j y.behind h y.takes) ]
]

-- the successor by its reviewer
pub successor_named : (l : Lists) (m : Places) (p i r : ℕ) → IsMarket l → IsSuccessor l m p i → entry l.proposers p i ≡ r → IsSuccessor l m p (place_of l.proposers p r)
successor_named l m p i r h x e = let here = place_of-entry h.proposers p i x.on_list in
    rw (sym here ∙ ap (place_of l.proposers p) e) at x

-- the reviewer at whose place the successor stands is the successor
pub entry-successor : (l : Lists) (m : Places) (p i r : ℕ) → IsSuccessor l m p i → IsSuccessor l m p (place_of l.proposers p r) → entry l.proposers p i ≡ r
entry-successor l m p i r x y = ap (entry l.proposers p) (successor_once x y) ∙ entry-place_of l.proposers p r y.on_list

-- what p holds by its reviewer
pub held_named : (l : Lists) (m : Places) (p i r : ℕ) → IsMarket l → IsMatching l m → held m.proposers p ≡ Some i → entry l.proposers p i ≡ r → held m.proposers p ≡ Some (place_of l.proposers p r)
held_named l m p i r h f e x = e ∙ ap Some (sym (place_of-entry h.proposers p i (f.proposers.on_list p i e)) ∙ ap (place_of l.proposers p) x)

-- the reviewer at whose place p stands is whom it holds
pub entry-held : (l : Lists) (m : Places) (p i r : ℕ) → IsMatching l m → held m.proposers p ≡ Some i → held m.proposers p ≡ Some (place_of l.proposers p r) → entry l.proposers p i ≡ r
entry-held l m p i r f e x = ap (entry l.proposers p) (same_Some _ _ (sym e ∙ x)) ∙ entry-place_of l.proposers p r (f.proposers.on_list p (place_of l.proposers p r) x)

-- links go round a cycle of distinct proposers, where the first one doesn't come again
module _ {s : Sides} {m : Stand} (c : Cycle) (paired : (i : ℕ) → i < c.size → Pair s m (c.who i) (c.has i)) (next : (i : ℕ) → i < c.size → Succ s m (c.who i) (target c i)) (alone : (i : ℕ) → 0 < i → i < c.size → c.who i ≢ c.who 0) where
  onward : (i j : ℕ) → i < c.size → j < c.size → c.who i ≡ c.who j → c.who (turn c.size i) ≡ c.who (turn c.size j)
  onward i j h g e =
      let same : target c i ≡ target c j = succ_unique (next i h) (rw (sym e) at (next j g)) in
      one_proposer (paired (turn c.size i) (turn_in c.size i h)) (rw (sym same) at (paired (turn c.size j) (turn_in c.size j g)))

  apart : (d i j : ℕ) → j + suc d ≡ c.size → i < j → c.who i ≡ c.who j → ⊥
  apart zero i j h less e = alone (i + 1) (omega arith) (omega arith)
      (ap c.who (sym (turn_more c.size i (omega arith))) ∙ onward i j (omega arith) (omega arith) e ∙ ap c.who (turn_last c.size j (omega arith)))
  apart (suc d) i j h less e = apart d (i + 1) (j + 1) (omega arith) (omega arith)
      (ap c.who (sym (turn_more c.size i (omega arith))) ∙ onward i j (omega arith) (omega arith) e ∙ ap c.who (turn_more c.size j (omega arith)))

  -- the proposers of such a cycle are distinct
  pub distinct_of : (i j : ℕ) → i < j → j < c.size → c.who i ≢ c.who j
  distinct_of i j less inside e = gap (c.size - suc j) (omega arith)
    where
      gap : (d : ℕ) → j + suc d ≡ c.size → ⊥
      gap d h = apart d i j h less e

-- links that go round, without the first proposer again, are an exposed rotation
pub exposed_of_links : (l : Lists) (m : Places) (rotation : List (ℕ × ℕ)) → IsMarket l → IsMatching l m → 0 < length rotation
    → ((i : ℕ) → i < length rotation → IsLink l m (proposer_at rotation i) (reviewer_at rotation i) (target_at rotation i))
    → ((i : ℕ) → 0 < i → i < length rotation → proposer_at rotation i ≢ proposer_at rotation 0)
    → IsExposed l m rotation
exposed_of_links l m rotation h f some links alone = record {
  not_empty = some;
  distinct = distinct_of (cycle_of rotation) paired next alone;
  paired = λ i a. (links i a).paired;
  next = λ i a. (links i a).next;
}
  where
    paired : (i : ℕ) → i < length rotation → Pair (sides_of l h) (stand_of l m) (proposer_at rotation i) (reviewer_at rotation i)
    paired i a = pair_of_held h f (proposer_at rotation i) (reviewer_at rotation i) (links i a).paired

    next : (i : ℕ) → i < length rotation → Succ (sides_of l h) (stand_of l m) (proposer_at rotation i) (target (cycle_of rotation) i)
    next i a = succ_at h f (proposer_at rotation i) (target_at rotation i) (links i a).next

-- all pairs tried: exposed exactly where there is a pair
pub exposed_end : (l : Lists) (m : Places) (pairs rotation : List (ℕ × ℕ)) (n : ℕ) (b : Bool) → IsMatching l m → pairs ≡ rotation → length pairs ≤ n
    → ((j : ℕ) → j < n → IsLink l m (proposer_at pairs j) (reviewer_at pairs j) (target_at pairs j))
    → ((j : ℕ) → 0 < j → j < n → proposer_at pairs j ≢ proposer_at pairs 0)
    → (0 < n → IsMarket l) → b ≡ (length pairs == 0)
    → IsTrue (not b) ↔ IsExposed l m rotation
exposed_end l m pairs rotation n b f same all links alone market e = rw (sym same) (
  (λ x. exposed_of_links l m pairs (market (omega (arith, some x))) f (some x) (λ i a. links i (omega arith)) (λ i a c. alone i a (omega arith))),
  (λ x. rw (e, ne_eqb (length pairs) 0 (λ z. omega (arith, x.not_empty))) refl),
)
  where
    some : IsTrue (not b) → 0 < length pairs
    some x = elim (eq_or_ne (length pairs) 0) [ inl z ↦ absurd (no b (e ∙ eq-eqb (length pairs) 0 z) x) | inr z ↦ omega arith ]
      where
        no : (b : Bool) → b ≡ true → IsTrue (not b) → ⊥
        no true z x = grind arith
        no false z x = grind arith
