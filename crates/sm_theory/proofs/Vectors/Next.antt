-- The least vector behind a cursor, by a search of all sets.
use Rattle.std.proofs.Common.{◌≡◌, ℕ, zero, suc, ◌⊎◌, inl, inr, arith, refl, sym, ap, ◌∙◌, subst, List, [], ◌∷◌, length, Option, None, Some, Bool, true, false}
use Rattle.std.proofs.lemmas.List.FromFn.{length-map-range_with_len}
use Rattle.sm_market.specs.Lists.{Lists}
use Rattle.sm_market.specs.Matching.{Places}
use Rattle.sm_lists.proofs.Counting.{Decided, Decided-and}
use Rattle.sm_theory.specs.ClosedSets.{IsClosed, matching_of}
use Rattle.sm_theory.specs.Vectors.{IsOrder, IsBefore, level_of, level_vector_of, IsAllowed, IsAllowedVector}
use Rattle.sm_theory.specs.Listings.{IsBehind, IsNextListed, IsNoneBehind}
use Rattle.sm_theory.specs.LawsListing.{NextVector, ListingExists}
use Rattle.sm_theory.proofs.Vectors.Order.{irreflexive, transitive, NotAfter, NotAfter-trans, NotAfter-total, Decided-before}
use Rattle.sm_theory.proofs.Vectors.Decisions.{Decided-closed, Decided-allowed}
use Rattle.sm_theory.proofs.Chains.Rotations.{sets_are_matchings}
use Rattle.sm_theory.proofs.Vectors.Listings as listings

-- of the sets of one length for which something holds, one whose vector is least
record Least (order : List ℕ) (f : List Bool → List ℕ) (n : ℕ) (P : List Bool → Type 0) : Type 0 where
  set : List Bool
  long : length set ≡ n
  holds : P set
  least : (s : List Bool) → length s ≡ n → P s → NotAfter order (f set) (f s)

-- among those that begin with b
abbrev Half : (order : List ℕ) → (List Bool → List ℕ) → ℕ → (List Bool → Type 0) → Bool → Type 0
Half order f n P b = Least order (λ s. f (b ∷ s)) n (λ s. P (b ∷ s))

abbrev Nothing : ℕ → (List Bool → Type 0) → Bool → Type 0
Nothing n P b = (s : List Bool) → length s ≡ n → P (b ∷ s) → ⊥

least_set : {count : ℕ} {order : List ℕ} → IsOrder count order → (n : ℕ) (f : List Bool → List ℕ) → ((s : List Bool) → length (f s) ≡ count) → (P : List Bool → Type 0) → ((s : List Bool) → Decided (P s))
    → Least order f n P ⊎ ((s : List Bool) → length s ≡ n → P s → ⊥)
least_set {count} {order} o zero f long P d = go (d [])
  where
    go : Decided (P []) → Least order f 0 P ⊎ ((s : List Bool) → length s ≡ 0 → P s → ⊥)
    go (inl p) = inl (record { set = []; long = refl; holds = p; least = least })
      where
        least : (s : List Bool) → length s ≡ 0 → P s → NotAfter order (f []) (f s)
        least [] e q = inl refl
        least (b ∷ s) e q = absurd (omega arith)
    go (inr p) = inr none
      where
        none : (s : List Bool) → length s ≡ 0 → P s → ⊥
        none [] e q = p q
        none (b ∷ s) e q = absurd (omega arith)
least_set {count} {order} o (suc n) f long P d =
    go (least_set o n (λ s. f (true ∷ s)) (λ s. long (true ∷ s)) (λ s. P (true ∷ s)) (λ s. d (true ∷ s))) (least_set o n (λ s. f (false ∷ s)) (λ s. long (false ∷ s)) (λ s. P (false ∷ s)) (λ s. d (false ∷ s)))
  where
    -- the least of both halves, where it isn't after what the other half has
    whole : (x : List Bool) → length x ≡ suc n → P x → ((b : Bool) (s : List Bool) → length s ≡ n → P (b ∷ s) → NotAfter order (f x) (f (b ∷ s))) → Least order f (suc n) P
    whole x l p least = record { set = x; long = l; holds = p; least = all }
      where
        all : (s : List Bool) → length s ≡ suc n → P s → NotAfter order (f x) (f s)
        all [] e q = absurd (omega arith)
        all (b ∷ s) e q = least b s (omega arith) q

    longer : (b : Bool) (s : List Bool) → length s ≡ n → length (b ∷ s) ≡ suc n
    longer b s e = omega arith

    go : Half order f n P true ⊎ Nothing n P true → Half order f n P false ⊎ Nothing n P false → Least order f (suc n) P ⊎ ((s : List Bool) → length s ≡ suc n → P s → ⊥)
    go (inr x) (inr y) = inr none
      where
        none : (s : List Bool) → length s ≡ suc n → P s → ⊥
        none [] e q = absurd (omega arith)
        none (true ∷ s) e q = x s (omega arith) q
        none (false ∷ s) e q = y s (omega arith) q
    go (inl x) (inr y) = inl (whole (true ∷ x.set) (longer true x.set x.long) x.holds least)
      where
        least : (b : Bool) (s : List Bool) → length s ≡ n → P (b ∷ s) → NotAfter order (f (true ∷ x.set)) (f (b ∷ s))
        least true s e q = x.least s e q
        least false s e q = absurd (y s e q)
    go (inr x) (inl y) = inl (whole (false ∷ y.set) (longer false y.set y.long) y.holds least)
      where
        least : (b : Bool) (s : List Bool) → length s ≡ n → P (b ∷ s) → NotAfter order (f (false ∷ y.set)) (f (b ∷ s))
        least true s e q = absurd (x s e q)
        least false s e q = y.least s e q
    go (inl x) (inl y) = elim (NotAfter-total o (f (true ∷ x.set)) (f (false ∷ y.set)) (long (true ∷ x.set)) (long (false ∷ y.set))) [
      | inl h ↦ inl (whole (true ∷ x.set) (longer true x.set x.long) x.holds (first h))
      | inr h ↦ inl (whole (false ∷ y.set) (longer false y.set y.long) y.holds (second h))
    ]
      where
        first : NotAfter order (f (true ∷ x.set)) (f (false ∷ y.set)) → (b : Bool) (s : List Bool) → length s ≡ n → P (b ∷ s) → NotAfter order (f (true ∷ x.set)) (f (b ∷ s))
        first h true s e q = x.least s e q
        first h false s e q = NotAfter-trans order (f (true ∷ x.set)) (f (false ∷ y.set)) (f (false ∷ s)) h (y.least s e q)

        second : NotAfter order (f (false ∷ y.set)) (f (true ∷ x.set)) → (b : Bool) (s : List Bool) → length s ≡ n → P (b ∷ s) → NotAfter order (f (false ∷ y.set)) (f (b ∷ s))
        second h true s e q = NotAfter-trans order (f (false ∷ y.set)) (f (true ∷ x.set)) (f (true ∷ s)) h (x.least s e q)
        second h false s e q = y.least s e q

Decided-behind : (order : List ℕ) (cursor : Option (List ℕ)) (v : List ℕ) → Decided (IsBehind (IsBefore order) cursor v)
Decided-behind order None v = inl tt
Decided-behind order (Some c) v = Decided-before order c v

-- a closed set whose matching is allowed and has a vector behind the cursor
abbrev IsRight : Lists → Places → List (List (ℕ × ℕ)) → List (List ℕ) → (forced forbidden : List (ℕ × ℕ)) → List ℕ → Option (List ℕ) → List Bool → Type 0
IsRight l first rotations levels forced forbidden order cursor s =
    IsClosed l rotations s × (IsAllowed levels forced forbidden (matching_of l first rotations s) × IsBehind (IsBefore order) cursor (level_vector_of l levels (matching_of l first rotations s)))

-- the vector of a set's matching
abbrev vector_of_set : Lists → Places → List (List (ℕ × ℕ)) → List (List ℕ) → List Bool → List ℕ
vector_of_set l first rotations levels s = level_vector_of l levels (matching_of l first rotations s)

-- the vector of the set that is found, or none where no set is right
pub next_vector : NextVector
next_vector l first rotations levels forced forbidden order cursor h chain o = go (least_set o (length rotations) (vector_of_set l first rotations levels) long (IsRight l first rotations levels forced forbidden order cursor) known)
  where
    long : (s : List Bool) → length (vector_of_set l first rotations levels s) ≡ length l.proposers
    long s = length-map-range_with_len (level_of l levels (matching_of l first rotations s)) 0 (length l.proposers)

    known : (s : List Bool) → Decided ((IsRight l first rotations levels forced forbidden order cursor) s)
    known s = Decided-and (Decided-closed l rotations s) (Decided-and (Decided-allowed levels forced forbidden (matching_of l first rotations s)) (Decided-behind order cursor (level_vector_of l levels (matching_of l first rotations s))))

    -- the set of an allowed vector
    right : (v : List ℕ) (a : IsAllowedVector l levels forced forbidden v) → IsBehind (IsBefore order) cursor v → (s : List Bool) → matching_of l first rotations s ≡ a.matching → IsClosed l rotations s → (IsRight l first rotations levels forced forbidden order cursor) s
    right v a b s e closed = (
      closed,
      (subst (IsAllowed levels forced forbidden) (sym e) a.allowed, subst (IsBehind (IsBefore order) cursor) (a.vector ∙ ap (level_vector_of l levels) (sym e)) b),
    )

    is : (v : List ℕ) (a : IsAllowedVector l levels forced forbidden v) (s : List Bool) → matching_of l first rotations s ≡ a.matching → vector_of_set l first rotations levels s ≡ v
    is v a s e = ap (level_vector_of l levels) e ∙ sym a.vector

    go : Least order (vector_of_set l first rotations levels) (length rotations) (IsRight l first rotations levels forced forbidden order cursor) ⊎ ((s : List Bool) → length s ≡ length rotations → (IsRight l first rotations levels forced forbidden order cursor) s → ⊥)
        → ((v : List ℕ) × IsNextListed (IsBefore order) (IsAllowedVector l levels forced forbidden) cursor v) ⊎ IsNoneBehind (IsBefore order) (IsAllowedVector l levels forced forbidden) cursor
    go (inr none) = inr (λ v a b. let s = (sets_are_matchings l first rotations h chain).all a.matching a.stable in none s.0 s.1.one_each (right v a b s.0 s.2 s.1))
    go (inl w) = inl (
      vector_of_set l first rotations levels w.set,
      record {
        one = record { matching = matching_of l first rotations w.set; stable = (sets_are_matchings l first rotations h chain).stable w.set w.holds.0; allowed = w.holds.1.0; vector = refl };
        behind = w.holds.1.1;
        least = λ v a b. let s = (sets_are_matchings l first rotations h chain).all a.matching a.stable in subst (NotAfter order (vector_of_set l first rotations levels w.set)) (is v a s.0 s.2) (w.least s.0 s.1.one_each (right v a b s.0 s.2 s.1));
      },
    )

-- by `ListingLemmas`, with the next vector at each step
pub listing_exists : ListingExists
listing_exists l first rotations levels forced forbidden order cursor limit h chain o =
    let w = listings.listing_exists (irreflexive order) (transitive order) (λ c. next_vector l first rotations levels forced forbidden order c h chain o) limit cursor in
    (w.out, w.more, w.is)
