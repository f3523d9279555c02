-- The places of ranks, and which vector stands behind which.
use Rattle.std.proofs.Common.{◌≡◌, ℕ, ◌+◌, ◌-◌, ◌<◌, ◌≤◌, ◌⊎◌, inl, inr, arith, refl, sym, ap, ◌∙◌, Bool, true, false, List, length, slice_index, slice_index_or, Option, None, Some, ext_get_or, unwrap_or, leb-true, leb-false, eq-eqb}
use Rattle.std.specs.Prelude.{nat_le, if◌then◌else◌, MatchOption, is_some}
use Rattle.std.specs.List.{range_with_len}
use Rattle.std.proofs.lemmas.List.FromFn.{get_or-map-range_with_len, length-map-range_with_len, get_or-range_with_len, length-range_with_len}
use Rattle.std.proofs.lemmas.List.{get_or_past}
use Rattle.std.proofs.lemmas.Option.{none-some, same_Some}
use Rattle.sm_lists.proofs.Counting.{lt_or_le, less_same_more}
use Rattle.sm_agents.specs.Written.{Written, row, entry, capacity_of, IsAcceptable}
use Rattle.sm_instance.specs.Matching.{held, standing, IsAssignment, IsMatching, IsBreach, IsFirstBreach, is_at, leads_to, load_before}
use Rattle.sm_instance.proofs.LoadLemmas.{load_before-suc_at}
use Rattle.sm_instance.proofs.BreachLemmas.{load_mono}
use Rattle.sm_instance.specs.Ranks.{rank_vector_of, IsBefore}
use Rattle.sm_check_clauses.specs.Vectors.{place_of_rank, places_of_ranks}
use Rattle.sm_check_answers.specs.Listing.{ArePlaced, IsRank}

module _ (w : Written) (v : List ℕ) where
  -- the places that are written for all proposers are those of the vector's ranks
  pub places_are : (places : List (Option ℕ)) (b : Bool) → ArePlaced w v (length w.proposers) places b → places ≡ places_of_ranks w v
  places_are places b a = ext_get_or None places (places_of_ranks w v) (a.one_each ∙ sym (length-map-range_with_len (place_of_rank w v) 0 (length w.proposers)))
      (λ p h. a.placed p (omega (arith, h, a.one_each)) ∙ sym (get_or-map-range_with_len (place_of_rank w v) 0 (length w.proposers) p p None (omega (arith, h, a.one_each)) (omega arith)))

  held_is : (p : ℕ) → p < length w.proposers → held (places_of_ranks w v) p ≡ place_of_rank w v p
  held_is p h = get_or-map-range_with_len (place_of_rank w v) 0 (length w.proposers) p p None h (omega arith)

  -- a rank and the place of it
  of_rank : (rank len : ℕ) → 1 ≤ rank → rank ≤ len + 1 → unwrap_or (if nat_le rank len then Some (rank - 1) else None) len + 1 ≡ rank
  of_rank rank len a b = go (nat_le rank len) refl
    where
      go : (t : Bool) → nat_le rank len ≡ t → unwrap_or (if t then Some (rank - 1) else None) len + 1 ≡ rank
      go true e = omega arith
      go false e = omega (arith, leb-false rank len e)

  back_rank : (rank len : ℕ) → unwrap_or (if nat_le rank len then Some (rank - 1) else None) len + 1 ≡ rank → (1 ≤ rank) × (rank ≤ len + 1)
  back_rank rank len f = go (nat_le rank len) refl f
    where
      go : (t : Bool) → nat_le rank len ≡ t → unwrap_or (if t then Some (rank - 1) else None) len + 1 ≡ rank → (1 ≤ rank) × (rank ≤ len + 1)
      go true e g = (omega (arith, g), omega (arith, leb-true rank len e))
      go false e g = (omega (arith, g), omega (arith, g))

  on_list : (rank len i : ℕ) → 1 ≤ rank → (if nat_le rank len then Some (rank - 1) else None) ≡ Some i → i < len
  on_list rank len i a f = go (nat_le rank len) refl f
    where
      go : (t : Bool) → nat_le rank len ≡ t → (if t then Some (rank - 1) else None) ≡ Some i → i < len
      go true e g = omega (arith, leb-true rank len e, same_Some _ _ g)
      go false e g = absurd (none-some _ g)

  standing_is : (p : ℕ) → p < length w.proposers → slice_index_or (rank_vector_of w (places_of_ranks w v)) p 0 ≡ unwrap_or (place_of_rank w v p) (length (row w.proposers p)) + 1
  standing_is p h = get_or-map-range_with_len (λ p. standing w (places_of_ranks w v) p + 1) 0 (length w.proposers) p p 0 h (omega arith)
      ∙ ap (λ o. unwrap_or o (length (row w.proposers p)) + 1) (held_is p h)

  -- where all numbers are ranks, the vector is that of its places
  pub ranks_to : length v ≡ length w.proposers → ((q : ℕ) → q < length w.proposers → IsRank w v q) → rank_vector_of w (places_of_ranks w v) ≡ v
  ranks_to one all = ext_get_or 0 (rank_vector_of w (places_of_ranks w v)) v (length-map-range_with_len (λ p. standing w (places_of_ranks w v) p + 1) 0 (length w.proposers) ∙ sym one)
      (λ p h. let k : p < length w.proposers = omega (arith, h, length-map-range_with_len (λ p. standing w (places_of_ranks w v) p + 1) 0 (length w.proposers)) in
      let r = all p k in standing_is p k ∙ of_rank (slice_index v p) (length (row w.proposers p)) r.least r.greatest)

  -- where it is that of its places, all its numbers are ranks
  pub ranks_from : rank_vector_of w (places_of_ranks w v) ≡ v → (q : ℕ) → q < length w.proposers → IsRank w v q
  ranks_from e q h =
      let r = back_rank (slice_index v q) (length (row w.proposers q)) (sym (standing_is q h) ∙ ap (λ (u : List ℕ). slice_index_or u q 0) e) in
      record { least = r.0; greatest = r.1 }

  -- the places of ranks are on the lists of their proposers
  pub assigned : ((q : ℕ) → q < length w.proposers → IsRank w v q) → IsAssignment w (places_of_ranks w v)
  assigned all = record { one_each = length-map-range_with_len (place_of_rank w v) 0 (length w.proposers); on_lists = on_lists }
    where
      on_lists : (p i : ℕ) → held (places_of_ranks w v) p ≡ Some i → i < length (row w.proposers p)
      on_lists p i e = elim (lt_or_le p (length w.proposers)) [
        | inl h ↦ on_list (slice_index v p) (length (row w.proposers p)) i ((all p h).least) (sym (held_is p h) ∙ e)
        | inr h ↦ absurd (past (sym (get_or_past (places_of_ranks w v) p None (omega (arith, h, length-map-range_with_len (place_of_rank w v) 0 (length w.proposers)))) ∙ e))
      ]
        where
          past : {x : ℕ} → ◌≡◌ {A = Option ℕ} None (Some x) → ⊥
          past e = grind arith

module _ (order u v : List ℕ) (j : ℕ) (same : (i : ℕ) → i < j → slice_index u (slice_index order i) ≡ slice_index v (slice_index order i)) where
  -- two vectors are alike before a place of the order: the one with the lower number there comes before the other
  pub behind_to : j < length order → slice_index u (slice_index order j) < slice_index v (slice_index order j) → IsBefore order u v
  behind_to h less = record { at = j; within = h; smaller = less; alike = same }

  -- and where they differ there, the one that comes before the other has the lower number
  pub behind_from : (slice_index u (slice_index order j) ≡ slice_index v (slice_index order j) → ⊥) → IsBefore order u v → slice_index u (slice_index order j) < slice_index v (slice_index order j)
  behind_from differ b = elim (less_same_more b.at j) [
    | inl less ↦ absurd (let e = same b.at less in omega (arith, b.smaller, e))
    | inr (inl e) ↦ rw e at b.smaller
    | inr (inr more) ↦ absurd (differ (b.alike j more))
  ]

  -- vectors that are alike all along it come one before the other neither way
  pub none_behind : length order ≤ j → ¬ IsBefore order u v
  none_behind past b = let e = same b.at (omega (arith, b.within, past)) in omega (arith, b.smaller, e)

-- an assignment with a breach isn't a matching
pub breach_fails : (w : Written) (places : List (Option ℕ)) (p : ℕ) → IsFirstBreach w places p → IsMatching w places → ⊥
breach_fails w places p f m = go b.cause
  where
    b : IsBreach w places p
    b = f.breach

    there : is_at w places p (entry w.proposers p b.at) ≡ true
    there = ap (leads_to w p (entry w.proposers p b.at)) b.holds ∙ eq-eqb (entry w.proposers p b.at) (entry w.proposers p b.at) refl

    in_range : p < length w.proposers
    in_range = elim (lt_or_le p (length w.proposers)) [ inl h ↦ h | inr h ↦ absurd (none-some _ (sym (get_or_past places p None (omega (arith, h, m.assigned.one_each))) ∙ b.holds)) ]

    go : (¬ IsAcceptable w p (entry w.proposers p b.at)) ⊎ (capacity_of w.reviewers (entry w.proposers p b.at) ≤ load_before w places p (entry w.proposers p b.at)) → ⊥
    go (inl n) = n (m.acceptable p b.at b.holds)
    go (inr full) = omega (arith, full, load_before-suc_at w places p (entry w.proposers p b.at) there, load_mono w places (entry w.proposers p b.at) (p + 1) (length w.proposers) (omega (arith, in_range)), m.within (entry w.proposers p b.at))

-- where a breach was found the assignment isn't a matching
pub not_matching : (w : Written) (places : List (Option ℕ)) (o : Option ℕ) → MatchOption o (IsMatching w places) (λ p. IsFirstBreach w places p) → is_some o ≡ true → IsMatching w places → ⊥
not_matching w places None m s k = none s
  where
    none : false ≡ true → ⊥
    none e = grind arith
not_matching w places (Some p) m s k = breach_fails w places p m k
