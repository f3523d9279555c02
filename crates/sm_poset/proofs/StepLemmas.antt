-- One step down a chain, and what is noted of it.
use Rattle.std.proofs.Common.{◌≡◌, ◌≢◌, ℕ, ◌+◌, ◌<◌, ◌++◌, ◌∷◌, [], List, length, slice_index_or, replicate, sym, ap, subst, ◌∙◌, arith}
use Rattle.std.proofs.lemmas.List.{length_push, length-replicate, get_or-replicate}
use Rattle.sm_market.specs.Lists.{Lists, row, place_of, IsMarket}
use Rattle.sm_market.specs.Matching.{Places}
use Rattle.sm_lists.proofs.ItemLemmas.{push_cases}
use Rattle.sm_theory.specs.Rotations.{proposer_at, target_at}
use Rattle.sm_theory.specs.Chains.{rotation_at, IsCompleteChain}
use Rattle.sm_poset.specs.Moves.{IsMove, AreMovesOf, moves_at, AreMoves}
use Rattle.sm_poset.specs.Kept.{AreLeaders, AreMovesAfter}
use Rattle.sm_poset.proofs.ChainLemmas.{in_range, move_at}
use Rattle.sm_poset.proofs.MoveLemmas.{no_moves_yet, moved_on}

module _ {l : Lists} (h : IsMarket l) {first : Places} {rotations : List (List (ℕ × ℕ))} (chain : IsCompleteChain l first rotations) where
  -- the rotation of these pairs is the one of the chain with number k
  module _ {k : ℕ} {pairs : List (ℕ × ℕ)} (less : k < length rotations) (are : pairs ≡ rotation_at rotations k) where
    -- its proposers are in range
    pub proposers_in : (i : ℕ) → i < length pairs → proposer_at pairs i < length l.proposers
    proposers_in = subst (λ (x : List (ℕ × ℕ)). (i : ℕ) → i < length x → proposer_at x i < length l.proposers) (sym are) (λ i a. in_range h chain k i less a)

    -- and list those to whom it moves them
    pub listed : (i : ℕ) → i < length pairs → place_of l.proposers (proposer_at pairs i) (target_at pairs i) < length (row l.proposers (proposer_at pairs i))
    listed = subst (λ (x : List (ℕ × ℕ)). (i : ℕ) → i < length x → place_of l.proposers (proposer_at x i) (target_at x i) < length (row l.proposers (proposer_at x i))) (sym are)
        (λ i a. ((chain.exposed k less).next i a).on_list)

    -- its proposers are distinct
    pub distinct : (i j : ℕ) → i < j → j < length pairs → proposer_at pairs i ≢ proposer_at pairs j
    distinct = subst (λ (x : List (ℕ × ℕ)). (i j : ℕ) → i < j → j < length x → proposer_at x i ≢ proposer_at x j) (sym are) (chain.exposed k less).distinct

    -- it has a pair
    pub not_empty : 0 < length pairs
    not_empty = let some = (chain.exposed k less).not_empty in let e = ap length are in omega arith

    -- the leaders, with one for the rotation
    pub leaders_after : {leaders : List (ℕ × ℕ)} → AreLeaders l rotations k leaders → (p i : ℕ) → proposer_at pairs 0 ≡ p → place_of l.proposers (proposer_at pairs 0) (target_at pairs 0) ≡ i
        → AreLeaders l rotations (k + 1) (leaders ++ (p, i) ∷ [])
    leaders_after {leaders} w p i is there = record {
      one_each = length_push leaders (p, i) ∙ ap (λ n. n + 1) w.one_each;
      in_range = λ j a. (led j a).0;
      leads = λ j a. (led j a).1;
    }
      where
        P : ℕ → ℕ × ℕ → Type 0
        P j x = (x.0 < length l.proposers) × IsMove l rotations x.0 j x.1

        first_in : 0 < length (rotation_at rotations k)
        first_in = (chain.exposed k less).not_empty

        who : proposer_at (rotation_at rotations k) 0 ≡ p
        who = ap (λ x. proposer_at x 0) (sym are) ∙ is

        where_is : place_of l.proposers (proposer_at (rotation_at rotations k) 0) (target_at (rotation_at rotations k) 0) ≡ i
        where_is = ap (λ x. place_of l.proposers (proposer_at x 0) (target_at x 0)) (sym are) ∙ there

        led : (j : ℕ) → j < k + 1 → P j (slice_index_or (leaders ++ (p, i) ∷ []) j (0, 0))
        led j a = push_cases P leaders (p, i) (0, 0) (subst (λ m. P m (p, i)) (sym w.one_each) now) (λ j b. let c : j < k = omega (arith, w.one_each) in (w.in_range j c, w.leads j c)) j (omega (arith, length_push leaders (p, i), w.one_each))
          where
            now : P k (p, i)
            now = (
              subst (λ q. q < length l.proposers) who (in_range h chain k 0 less first_in),
              subst (λ q. IsMove l rotations q k i) who (subst (IsMove l rotations (proposer_at (rotation_at rotations k) 0) k) where_is (move_at h chain k 0 less first_in)),
            )

-- the moves of all proposers, once those of the rotation have got one more
pub moves_after : {l : Lists} {rotations : List (List (ℕ × ℕ))} {k : ℕ} {pairs : List (ℕ × ℕ)} {before after : List (List (ℕ × ℕ))} → pairs ≡ rotation_at rotations k → AreMoves l rotations k before → length after ≡ length before
    → ((p : ℕ) → AreMovesAfter l k pairs (length pairs) p (moves_at before p) (moves_at after p)) → AreMoves l rotations (k + 1) after
moves_after {l} {rotations} {k} {pairs} {before} {after} are w long each = record {
  one_each = long ∙ w.one_each;
  of = λ p a. moved_on (w.of p a) (subst (λ (x : List (ℕ × ℕ)). AreMovesAfter l k x (length x) p (moves_at before p) (moves_at after p)) are (each p));
}

-- nothing is noted before the first step
pub moves_start : (l : Lists) (rotations : List (List (ℕ × ℕ))) (lists : List (List (ℕ × ℕ))) (n : ℕ) → n ≡ length l.proposers → lists ≡ replicate n [] → AreMoves l rotations 0 lists
moves_start l rotations lists n long e = record {
  one_each = ap length e ∙ length-replicate n [] ∙ long;
  of = λ p h. subst (AreMovesOf l rotations 0 p) (sym (ap (λ x. moves_at x p) e ∙ get_or-replicate n p [] [] (omega arith))) (no_moves_yet l rotations p);
}

-- before the first rotation there is no leader
pub leaders_start : (l : Lists) (rotations : List (List (ℕ × ℕ))) (leaders : List (ℕ × ℕ)) → leaders ≡ [] → AreLeaders l rotations 0 leaders
leaders_start l rotations leaders e = record { one_each = ap length e; in_range = λ k h. absurd (omega arith); leads = λ k h. absurd (omega arith) }
