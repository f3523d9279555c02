-- What the walk over a market's board finds, as level vectors of allowed stable matchings.
use Rattle.std.proofs.Common.{◌≡◌, ℕ, ◌<◌, ◌⊎◌, arith, sym, ap, ◌∙◌, subst, List, length, Bool}
use Rattle.std.proofs.lemmas.List.{ext_get_or}
use Rattle.std.proofs.lemmas.List.FromFn.{get_or-map-range_with_len, length-map-range_with_len}
use Rattle.sm_market.specs.Lists.{Lists}
use Rattle.sm_market.specs.Matching.{Places}
use Rattle.sm_theory.specs.ClosedSets.{IsClosed, matching_of}
use Rattle.sm_theory.specs.Vectors.{IsOrder, IsBefore, IsWithin, IsAllowed, IsAllowedVector, level_of, level_vector_of, AreInRange}
use Rattle.sm_theory.proofs.Chains.Rotations.{sets_are_matchings}
use Rattle.sm_board.specs.Board.{Gates, Fits}
use Rattle.sm_board.specs.BoardOf.{board_of, IsGround, AreGates}
use Rattle.sm_board.specs.Walks.{vector, ExcludeNothing, WalkIsNext}
use Rattle.sm_board.proofs.BoardBridge.{board, many}
use Rattle.sm_board.proofs.BoardSets.{level_is, gates_mean_conditions}
use Rattle.sm_board.proofs.WalkLemmas.{vector_at, vector_long, up_of}

-- the vector of a set is the level vector of its matching
pub vector_is : {l : Lists} {levels : List (List ℕ)} {first : Places} {rotations : List (List (ℕ × ℕ))} {needs : List (List ℕ)} {moves : List (List (ℕ × ℕ))} (ground : IsGround l levels first rotations needs moves) {C : List Bool} → IsClosed l rotations C
    → vector (board ground) C ≡ level_vector_of l levels (matching_of l first rotations C)
vector_is {l} {levels} {first} {rotations} ground {C} c = ext_get_or 0 (vector (board ground) C) (level_vector_of l levels (matching_of l first rotations C))
    (vector_long (board ground) C ∙ many ground ∙ sym (length-map-range_with_len (level_of l levels (matching_of l first rotations C)) 0 (length l.proposers)))
    (λ p x.
    let less : p < length l.proposers = omega (arith, vector_long (board ground) C, many ground) in
    vector_at (board ground) C p (omega (arith, many ground)) ∙ sym (level_is ground c p less)
    ∙ sym (get_or-map-range_with_len (level_of l levels (matching_of l first rotations C)) 0 (length l.proposers) p p 0 less (omega arith)))

-- a set that fits and has this vector
pub record Fitting (l : Lists) (levels : List (List ℕ)) (first : Places) (rotations : List (List (ℕ × ℕ))) (needs : List (List ℕ)) (moves : List (List (ℕ × ℕ))) (g : Gates) (v : List ℕ) : Type 0 where
  pub set : List Bool
  pub fits : Fits (board_of l levels first rotations needs moves) g set
  pub is : vector (board_of l levels first rotations needs moves) set ≡ v

module _ {l : Lists} {levels : List (List ℕ)} {first : Places} {rotations : List (List (ℕ × ℕ))} {needs : List (List ℕ)} {moves : List (List (ℕ × ℕ))} {low high : List ℕ} {forced forbidden : List (ℕ × ℕ)} {g : Gates}
    (ground : IsGround l levels first rotations needs moves) (range : AreInRange (length l.proposers) forced) (gates : AreGates (board_of l levels first rotations needs moves) low high forced forbidden g) (bounds : ExcludeNothing l levels low high) where
  -- a set that fits has an allowed vector
  pub fits_allowed : (C : List Bool) → Fits (board ground) g C → IsAllowedVector l levels forced forbidden (vector (board ground) C)
  fits_allowed C f =
      let w = (gates_mean_conditions l levels first rotations needs moves low high forced forbidden g C ground range gates).0 f in
      record { matching = matching_of l first rotations C; stable = (sets_are_matchings l first rotations ground.market ground.chain).stable C w.0; allowed = w.2; vector = vector_is ground w.0 }

  -- and each allowed vector is that of a set that fits
  pub allowed_fits : (v : List ℕ) → IsAllowedVector l levels forced forbidden v → Fitting l levels first rotations needs moves g v
  allowed_fits v a =
      let s = (sets_are_matchings l first rotations ground.market ground.chain).all a.matching a.stable in
      record {
        set = s.0;
        fits = (gates_mean_conditions l levels first rotations needs moves low high forced forbidden g s.0 ground range gates).1
            (s.1, subst (IsWithin l levels low high) (sym s.2) (bounds a.matching a.stable), subst (IsAllowed levels forced forbidden) (sym s.2) a.allowed);
        is = vector_is ground s.1 ∙ ap (level_vector_of l levels) s.2 ∙ sym a.vector;
      }

-- sets that fit and allowed vectors are the same
pub walk_is_next : WalkIsNext
walk_is_next l levels first rotations needs moves low high forced forbidden g order ground range gates bounds o = (
  (λ C f w. record {
    one = fits_allowed ground range gates bounds C f;
    behind = tt;
    least = λ v a _. let d = allowed_fits ground range gates bounds v a in subst (λ x. (vector (board ground) C ≡ x) ⊎ IsBefore order (vector (board ground) C) x) d.is (w d.set d.fits);
  }),
  (λ v C f w. record {
    one = fits_allowed ground range gates bounds C f;
    behind = w.above;
    least = λ x a b.
        let d = allowed_fits ground range gates bounds x a in
        subst (λ y. (vector (board ground) C ≡ y) ⊎ IsBefore order (vector (board ground) C) y) d.is (w.first d.set d.fits (subst (IsBefore order v) (sym d.is) b));
  }),
  (λ none v a _. let d = allowed_fits ground range gates bounds v a in none d.set d.fits),
  (λ v none x a b.
      let d = allowed_fits ground range gates bounds x a in
      let w : IsBefore order v (vector (board ground) d.set) = subst (IsBefore order v) (sym d.is) b in
      none w.at d.set (omega arith) w.within (up_of {b = board ground} (subst (λ n. IsOrder n order) (sym (many ground)) o) d.fits w)),
)
