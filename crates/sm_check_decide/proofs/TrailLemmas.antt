-- A number is put on a trail.
use Rattle.std.proofs.Common.{◌≡◌, ◌≢◌, ℕ, ◌+◌, ◌<◌, ◌≤◌, inl, inr, arith, sym, ap, ◌∙◌, List, [], ◌∷◌, ◌++◌, length, take, set, slice_index}
use Rattle.std.specs.List.{Contains}
use Rattle.std.proofs.lemmas.List.{get_or_append_left, get_or_push, get_or_default, get_or-set_same, get_or-set_other, get_or-take, length-set, length-take-le}
use Rattle.sm_lists.proofs.Counting.{lt_or_le, eq_or_ne, one_to_one-le}
use Rattle.sm_check_decide.specs.Trails.{Trail}
use Rattle.sm_check_decide.specs.TrailsKept.{IsKeptTrail}

module _ {order spots : List ℕ} {count : ℕ} (w : IsKeptTrail order spots count) where
  some : length (take count order) ≡ count
  some = length-take-le count order w.within

  at_is : (k : ℕ) → k < count → slice_index (take count order) k ≡ slice_index order k
  at_is k less = get_or-take count order k 0 less

  -- none comes twice
  pub once : (i j : ℕ) → i < j → j < count → slice_index order i ≢ slice_index order j
  once i j less inside e = omega (arith, sym (w.there i (omega arith)) ∙ ap (slice_index spots) e ∙ w.there j inside)

  module _ {p : ℕ} (below : p < length order) (new : ¬ Contains (take count order) p) where
    apart : (k : ℕ) → k < count → slice_index order k ≢ p
    apart k less e = new (k, omega (arith, some), get_or_default (take count order) k p 0 (omega (arith, some)) ∙ at_is k less ∙ e)

    next : ℕ → ℕ
    next k = slice_index (take count order ++ p ∷ []) k

    old_at : (k : ℕ) → k < count → next k ≡ slice_index order k
    unfolding next
    old_at k less = get_or_append_left (take count order) (p ∷ []) 0 k (omega (arith, some)) ∙ at_is k less

    new_at : (k : ℕ) → k ≡ count → next k ≡ p
    unfolding next
    new_at k e = get_or_push (take count order) p 0 k (some ∙ sym e)

    -- there is room for it
    pub room : count < length order
    room = elim (lt_or_le count (length order)) [
      | inl less ↦ less
      | inr more ↦
          let le : count + 1 ≤ length order = one_to_one-le (count + 1) (length order) next
          (λ i less. elim (eq_or_ne i count) [ inl e ↦ omega (arith, new_at i e, below) | inr ne ↦ omega (arith, old_at i (omega arith), w.below i (omega arith)) ])
          (λ i j less inside e. elim (eq_or_ne j count) [
            | inl is ↦ apart i (omega arith) (sym (old_at i (omega arith)) ∙ e ∙ new_at j is)
            | inr ne ↦ once i j less (omega arith) (sym (old_at i (omega arith)) ∙ e ∙ old_at j (omega arith))
          ]) in
          absurd (omega arith)
    ]

    -- and it is kept with the others
    pub kept_on : IsKeptTrail (set order count p) (set spots p count) (count + 1)
    kept_on = record {
      one_each = length-set spots p count ∙ w.one_each ∙ sym (length-set order count p);
      few = omega (arith, w.few, length-set order count p);
      within = omega (arith, room, length-set order count p);
      below = λ k less. elim (eq_or_ne k count) [
        | inl e ↦ omega (arith, ap (slice_index (set order count p)) e ∙ here, below, length-set order count p)
        | inr ne ↦ omega (arith, get_or-set_other order count k p 0 ne, w.below k (omega arith), length-set order count p)
      ];
      there = λ k less. elim (eq_or_ne k count) [
        | inl e ↦ ap (λ k. slice_index (set spots p count) (slice_index (set order count p) k)) e ∙ ap (slice_index (set spots p count)) here ∙ get_or-set_same spots p count 0 (omega (arith, w.one_each, below)) ∙ sym e
        | inr ne ↦ ap (slice_index (set spots p count)) (get_or-set_other order count k p 0 ne) ∙ get_or-set_other spots p (slice_index order k) count 0 (apart k (omega arith)) ∙ w.there k (omega arith)
      ];
    }
      where
        here : slice_index (set order count p) count ≡ p
        here = get_or-set_same order count p 0 room

-- the same of a trail that is seen as its value
module _ {order spots : List ℕ} {count : ℕ} (w : IsKeptTrail order spots count) {t : Trail} (e : record { bound = length order; items = take count order } ≡ t) {p : ℕ} (below : p < t.bound) (new : ¬ Contains t.items p) where
  below_it : p < length order
  below_it = omega (arith, below, ap (λ (t : Trail). t.bound) e)

  new_to_it : ¬ Contains (take count order) p
  new_to_it has = let items : take count order ≡ t.items = ap (λ (t : Trail). t.items) e in new (rw items at has)

  -- there is room for one more number
  pub room_of : count < length order
  room_of = room w below_it new_to_it

  -- the trail is kept with that number put on it
  pub kept_of : IsKeptTrail (set order count p) (set spots p count) (count + 1)
  kept_of = kept_on w below_it new_to_it
