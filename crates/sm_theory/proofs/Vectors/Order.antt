-- The order of vectors.
use Rattle.std.proofs.Common.{◌≡◌, ◌≢◌, ℕ, ◌<◌, ◌⊎◌, inl, inr, arith, sym, ◌∙◌, subst, List, length, slice_index}
use Rattle.std.proofs.lemmas.List.{ext_get_or}
use Rattle.sm_lists.proofs.Counting.{Decided, Decided-eq, Decided-not, by_contradiction, less_same_more, First, search_below}
use Rattle.sm_theory.specs.Vectors.{IsOrder, IsBefore}
use Rattle.sm_theory.specs.LawsListing.{VectorsAreOrdered}

-- no vector is before itself
pub irreflexive : (order v : List ℕ) → IsBefore order v v → ⊥
irreflexive order v w = omega (arith, w.smaller)

-- the first place at which the three differ is the earlier of the two
pub transitive : (order u v w : List ℕ) → IsBefore order u v → IsBefore order v w → IsBefore order u w
transitive order u v w a b = elim (less_same_more a.at b.at) [
  | inl h ↦ record { at = a.at; within = a.within; smaller = omega (arith, a.smaller, b.alike a.at h); alike = λ j x. a.alike j x ∙ b.alike j (omega arith) }
  | inr (inl e) ↦
      let s : slice_index v (slice_index order a.at) < slice_index w (slice_index order a.at) = subst (λ k. slice_index v (slice_index order k) < slice_index w (slice_index order k)) (sym e) b.smaller in
      record { at = a.at; within = a.within; smaller = omega (arith, a.smaller, s); alike = λ j x. a.alike j x ∙ b.alike j (omega arith) }
  | inr (inr h) ↦ record { at = b.at; within = b.within; smaller = omega (arith, b.smaller, a.alike b.at h); alike = λ j x. a.alike j (omega arith) ∙ b.alike j x }
]

-- two vectors that are the same for all of the order
abbrev pub IsAlike : (order v w : List ℕ) → Type 0
IsAlike order v w = (j : ℕ) → j < length order → slice_index v (slice_index order j) ≡ slice_index w (slice_index order j)

-- how two vectors stand to each other
pub data Compared (order v w : List ℕ) : Type 0 where
  Less : IsBefore order v w → Compared order v w
  More : IsBefore order w v → Compared order v w
  Alike : IsAlike order v w → Compared order v w

-- one is before the other, or they are alike
pub compared : (order v w : List ℕ) → Compared order v w
compared order v w = go (search_below (length order) (λ j. slice_index v (slice_index order j) ≢ slice_index w (slice_index order j)) (λ j _. Decided-not (Decided-eq (slice_index v (slice_index order j)) (slice_index w (slice_index order j)))))
  where
    same : (j : ℕ) → (slice_index v (slice_index order j) ≢ slice_index w (slice_index order j) → ⊥) → slice_index v (slice_index order j) ≡ slice_index w (slice_index order j)
    same j f = by_contradiction (Decided-eq (slice_index v (slice_index order j)) (slice_index w (slice_index order j))) f

    go : First (length order) (λ j. slice_index v (slice_index order j) ≢ slice_index w (slice_index order j)) ⊎ ((j : ℕ) → j < length order → slice_index v (slice_index order j) ≢ slice_index w (slice_index order j) → ⊥) → Compared order v w
    go (inr none) = Alike (λ j h. same j (none j h))
    go (inl f) = elim (less_same_more (slice_index v (slice_index order f.at)) (slice_index w (slice_index order f.at))) [
      | inl h ↦ Less (record { at = f.at; within = f.below; smaller = h; alike = λ j x. same j (f.earlier j x) })
      | inr (inl e) ↦ absurd (f.holds e)
      | inr (inr h) ↦ More (record { at = f.at; within = f.below; smaller = h; alike = λ j x. sym (same j (f.earlier j x)) })
    ]

-- of two that are alike none is before the other
pub not_alike : (order v w : List ℕ) → IsAlike order v w → IsBefore order v w → ⊥
not_alike order v w a b = omega (arith, a b.at b.within, b.smaller)

-- whether one is before the other
pub Decided-before : (order v w : List ℕ) → Decided (IsBefore order v w)
Decided-before order v w = elim (compared order v w) [
  | Less h ↦ inl h
  | More h ↦ inr (λ b. irreflexive order v (transitive order v w v b h))
  | Alike h ↦ inr (λ b. not_alike order v w h b)
]

-- alike for an order of all that is counted they are equal
pub alike_equal : {count : ℕ} {order : List ℕ} → IsOrder count order → (v w : List ℕ) → length v ≡ count → length w ≡ count → IsAlike order v w → v ≡ w
alike_equal {count} {order} o v w a b same = ext_get_or 0 v w (a ∙ sym b) (λ p h. at p (o.each p (omega arith)))
  where
    at : (p : ℕ) → (j : ℕ) × (j < length order) × (slice_index order j ≡ p) → slice_index v p ≡ slice_index w p
    at p x = subst (λ q. slice_index v q ≡ slice_index w q) x.2 (same x.0 x.1)

-- the same or before
abbrev pub NotAfter : (order v w : List ℕ) → Type 0
NotAfter order v w = (v ≡ w) ⊎ IsBefore order v w

-- `NotAfter` goes on
pub NotAfter-trans : (order u v w : List ℕ) → NotAfter order u v → NotAfter order v w → NotAfter order u w
NotAfter-trans order u v w (inl e) b = subst (λ x. NotAfter order x w) (sym e) b
NotAfter-trans order u v w (inr a) (inl e) = inr (subst (λ x. IsBefore order u x) e a)
NotAfter-trans order u v w (inr a) (inr b) = inr (transitive order u v w a b)

-- of two vectors one is not after the other
pub NotAfter-total : {count : ℕ} {order : List ℕ} → IsOrder count order → (v w : List ℕ) → length v ≡ count → length w ≡ count → NotAfter order v w ⊎ NotAfter order w v
NotAfter-total {count} {order} o v w a b = elim (compared order v w) [
  | Less h ↦ inl (inr h)
  | More h ↦ inr (inr h)
  | Alike h ↦ inl (inl (alike_equal o v w a b h))
]

-- the order of vectors is a strict and total one
pub vectors_are_ordered : VectorsAreOrdered
vectors_are_ordered count order o = (irreflexive order, transitive order, total)
  where
    total : (v w : List ℕ) → length v ≡ count → length w ≡ count → v ≢ w → IsBefore order v w ⊎ IsBefore order w v
    total v w a b ne = elim (compared order v w) [
      | Less h ↦ inl h
      | More h ↦ inr h
      | Alike h ↦ absurd (ne (alike_equal o v w a b h))
    ]
