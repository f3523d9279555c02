-- The board of specs/Witness.antt.
use Rattle.std.proofs.Common.{◌≡◌, ◌≢◌, ℕ, zero, suc, ◌<◌, ◌≤◌, ◌↔◌, inl, inr, arith, refl, sym, ap, ◌∙◌, List, [], ◌∷◌, length, Bool, true, false, slice_index, slice_index_or, Contains}
use Rattle.std.proofs.lemmas.Bool.{false≢true}
use Rattle.sm_market.specs.Lists.{row, place_of}
use Rattle.sm_theory.specs.Rotations.{target_at, pair_of}
use Rattle.sm_theory.specs.Chains.{rotation_at, AreNeedsOf}
use Rattle.sm_theory.specs.ClosedSets.{IsMember}
use Rattle.sm_theory.specs.WitnessesListing.{two_pairs, two_pairs_first, two_pairs_chain, two_pairs_ranks, both_best}
use Rattle.sm_theory.proofs.Bridge.Chain.{Decided-member}
use Rattle.sm_theory.proofs.Tests.Markets.{below_two}
use Rattle.sm_theory.proofs.Vectors.Witness.{market, complete, none_needed, below_four, orders}
use Rattle.sm_theory.proofs.Tests.Pairs.{levels_pass}
use Rattle.sm_poset.specs.Moves.{IsMove, AreMovesOf, rotation_of, place_to, moves_at}
use Rattle.sm_board.specs.Board.{IsBoard, leave, IsLeast, Changes, stay, level, stay_level, IsClosedIn, IsInside, IsOpen, is_shut, Fits}
use Rattle.sm_board.specs.BoardOf.{IsGround, IsAllowedStay, AreGates}
use Rattle.sm_board.specs.Witness.{two_needs, two_moves, two_board, two_forbidden, two_gates, TwoWalk, TwoLog, TwoBoard}
use Rattle.sm_board.specs.Growing.{IsLogOf}
use Rattle.sm_board.specs.Walks.{IsRaised, IsVectorWalk, HasFirstVector}
use Rattle.sm_board.proofs.MemberLemmas.{members_in-other}
use Rattle.sm_board.proofs.BoardBridge.{board_is_board}
use Rattle.sm_board.proofs.BoardSets.{least_is_best}
use Rattle.sm_board.proofs.GrowLemmas.{log_grows}
use Rattle.sm_board.proofs.WalkLemmas.{up_where_raised, walk_begins}

no_needs : (j : ℕ) → j < 2 → AreNeedsOf two_pairs two_pairs_chain j []
no_needs j h = record {
  rising = λ a b x y. absurd (omega arith);
  sound = λ a x. absurd (omega arith);
  each = λ a x. absurd (omega arith);
  all = λ i g need. absurd (none_needed i j g h need);
}

-- a proposer that rotation k alone moves, to place 1
one_move : (p k : ℕ) → k < 2 → IsMove two_pairs two_pairs_chain p k 1 → ((j i : ℕ) → j < 2 → IsMove two_pairs two_pairs_chain p j i → (j ≡ k) × (i ≡ 1)) → AreMovesOf two_pairs two_pairs_chain 2 p ((k, 1) ∷ [])
one_move p k g m all = record {
  rising = λ a b x y. absurd (omega arith);
  sound = sound;
  each = each;
  all = λ j i x w. let e = all j i x w in (0, omega arith, λ t. (sym e.0 t, sym e.1 t));
}
  where
    sound : (a : ℕ) → a < 1 → rotation_of ((k, 1) ∷ []) a < 2
    sound zero x = g
    sound (suc a) x = absurd (omega arith)

    each : (a : ℕ) → a < 1 → IsMove two_pairs two_pairs_chain p (rotation_of ((k, 1) ∷ []) a) (place_to ((k, 1) ∷ []) a)
    each zero x = m
    each (suc a) x = absurd (omega arith)

first_moves : (p : ℕ) → (pair_of (rotation_at two_pairs_chain 1) p ≡ 2) → place_of two_pairs.proposers p (target_at (rotation_at two_pairs_chain 0) (pair_of (rotation_at two_pairs_chain 0) p)) ≡ 1 → (j i : ℕ) → j < 2 → IsMove two_pairs two_pairs_chain p j i → (j ≡ 0) × (i ≡ 1)
first_moves p out to zero i x w = (refl, w.place ∙ to)
first_moves p out to (suc zero) i x w = absurd (omega (arith, w.moved))
first_moves p out to (suc (suc j)) i x w = absurd (omega arith)

second_moves : (p : ℕ) → (pair_of (rotation_at two_pairs_chain 0) p ≡ 2) → place_of two_pairs.proposers p (target_at (rotation_at two_pairs_chain 1) (pair_of (rotation_at two_pairs_chain 1) p)) ≡ 1 → (j i : ℕ) → j < 2 → IsMove two_pairs two_pairs_chain p j i → (j ≡ 1) × (i ≡ 1)
second_moves p out to zero i x w = absurd (omega (arith, w.moved))
second_moves p out to (suc zero) i x w = (refl, w.place ∙ to)
second_moves p out to (suc (suc j)) i x w = absurd (omega arith)

ground : IsGround two_pairs two_pairs_ranks two_pairs_first two_pairs_chain two_needs two_moves
ground = record {
  market = market;
  rising = levels_pass two_pairs two_pairs_ranks refl;
  chain = complete;
  needs_each = refl;
  needs_are = below_two (λ j. AreNeedsOf two_pairs two_pairs_chain j (row two_needs j)) (no_needs 0 (omega arith)) (no_needs 1 (omega arith));
  moves_are = record {
    one_each = refl;
    of = below_four (λ p. AreMovesOf two_pairs two_pairs_chain 2 p (moves_at two_moves p))
        (one_move 0 0 (omega arith) (record { moved = omega arith; place = refl }) (first_moves 0 refl refl))
        (one_move 1 0 (omega arith) (record { moved = omega arith; place = refl }) (first_moves 1 refl refl))
        (one_move 2 1 (omega arith) (record { moved = omega arith; place = refl }) (second_moves 2 refl refl))
        (one_move 3 1 (omega arith) (record { moved = omega arith; place = refl }) (second_moves 3 refl refl));
  };
}

abbrev forth : List ℕ
forth = 0 ∷ 1 ∷ 2 ∷ 3 ∷ []

unshut : (p a : ℕ) → is_shut two_gates p a ≡ false
unshut p a = refl

-- a stay of a level that nothing excludes, and one that is past the last
allowed : (p a : ℕ) → a < slice_index two_gates.until p → stay_level two_board p a ≤ slice_index (9 ∷ 9 ∷ 9 ∷ 9 ∷ []) p → ((0 ≡ p) → stay_level two_board p a ≢ 2)
    → IsOpen two_gates p a ↔ IsAllowedStay two_board [] (9 ∷ 9 ∷ 9 ∷ 9 ∷ []) [] two_forbidden p a
allowed p a less high free = (
  (λ _. record { above = omega arith; below = high; holds = λ c x. absurd (omega arith); avoids = avoids }),
  (λ _. record { before = less; unshut = refl }),
)
  where
    avoids : (c : ℕ) → c < 1 → (slice_index_or two_forbidden c (0, 0)).0 ≡ p → slice_index_or two_board.matched p false ≡ true → stay_level two_board p a ≢ (slice_index_or two_forbidden c (0, 0)).1
    avoids zero x e m = free e
    avoids (suc c) x e m = absurd (omega arith)

gates : AreGates two_board [] (9 ∷ 9 ∷ 9 ∷ 9 ∷ []) [] two_forbidden two_gates
gates p a h g = of_p p h a g
  where
    shut_away : IsOpen two_gates 0 1 ↔ IsAllowedStay two_board [] (9 ∷ 9 ∷ 9 ∷ 9 ∷ []) [] two_forbidden 0 1
    shut_away = ((λ w. absurd (omega (arith, w.before))), (λ w. absurd (w.avoids 0 (omega arith) refl refl refl)))

    of_p : (p : ℕ) → p < 4 → (a : ℕ) → a < length (row two_board.levels p) → IsOpen two_gates p a ↔ IsAllowedStay two_board [] (9 ∷ 9 ∷ 9 ∷ 9 ∷ []) [] two_forbidden p a
    of_p = below_four (λ p. (a : ℕ) → a < length (row two_board.levels p) → IsOpen two_gates p a ↔ IsAllowedStay two_board [] (9 ∷ 9 ∷ 9 ∷ 9 ∷ []) [] two_forbidden p a)
        (below_two (λ a. IsOpen two_gates 0 a ↔ IsAllowedStay two_board [] (9 ∷ 9 ∷ 9 ∷ 9 ∷ []) [] two_forbidden 0 a) (allowed 0 0 (omega arith) (omega arith) (λ _ e. omega arith)) shut_away)
        (below_two (λ a. IsOpen two_gates 1 a ↔ IsAllowedStay two_board [] (9 ∷ 9 ∷ 9 ∷ 9 ∷ []) [] two_forbidden 1 a) (allowed 1 0 (omega arith) (omega arith) (λ e. absurd (omega arith))) (allowed 1 1 (omega arith) (omega arith) (λ e. absurd (omega arith))))
        (below_two (λ a. IsOpen two_gates 2 a ↔ IsAllowedStay two_board [] (9 ∷ 9 ∷ 9 ∷ 9 ∷ []) [] two_forbidden 2 a) (allowed 2 0 (omega arith) (omega arith) (λ e. absurd (omega arith))) (allowed 2 1 (omega arith) (omega arith) (λ e. absurd (omega arith))))
        (below_two (λ a. IsOpen two_gates 3 a ↔ IsAllowedStay two_board [] (9 ∷ 9 ∷ 9 ∷ 9 ∷ []) [] two_forbidden 3 a) (allowed 3 0 (omega arith) (omega arith) (λ e. absurd (omega arith))) (allowed 3 1 (omega arith) (omega arith) (λ e. absurd (omega arith))))

-- every set is closed
nothing_needed : (j i : ℕ) → Contains (row two_needs j) i → ⊥
nothing_needed zero i c = omega (arith, c.1)
nothing_needed (suc zero) i c = omega (arith, c.1)
nothing_needed (suc (suc j)) i c = omega (arith, c.1)

closed : (C : List Bool) → length C ≡ 2 → IsClosedIn two_board C
closed C e = record { one_each = e; closed = λ i j m c. absurd (nothing_needed j i c) }

none_in : (k : ℕ) → IsMember (false ∷ false ∷ []) k → ⊥
none_in zero m = false≢true m
none_in (suc zero) m = false≢true m
none_in (suc (suc k)) m = false≢true m

fits_none : Fits two_board two_gates (false ∷ false ∷ [])
fits_none = record {
  closed = closed (false ∷ false ∷ []) refl;
  opens = below_four (λ p. IsOpen two_gates p (stay two_board (false ∷ false ∷ []) p))
      (record { before = omega arith; unshut = refl }) (record { before = omega arith; unshut = refl }) (record { before = omega arith; unshut = refl }) (record { before = omega arith; unshut = refl });
}

fits_second : Fits two_board two_gates (false ∷ true ∷ [])
fits_second = record {
  closed = closed (false ∷ true ∷ []) refl;
  opens = below_four (λ p. IsOpen two_gates p (stay two_board (false ∷ true ∷ []) p))
      (record { before = omega arith; unshut = refl }) (record { before = omega arith; unshut = refl }) (record { before = omega arith; unshut = refl }) (record { before = omega arith; unshut = refl });
}

least : IsLeast (Fits two_board two_gates) (false ∷ false ∷ [])
least = record { one = fits_none; least = λ D f k m. absurd (none_in k m) }

raised : IsRaised two_board two_gates forth (false ∷ false ∷ []) 2 2 2 (false ∷ true ∷ [])
raised = record {
  fits = fits_second;
  more = λ k m. absurd (none_in k m);
  reaches = omega arith;
  same = below_two (λ j. level two_board (false ∷ true ∷ []) (slice_index forth j) ≡ level two_board (false ∷ false ∷ []) (slice_index forth j)) refl refl;
  least = λ D f more reaches. second_in D reaches;
}
  where
    second_in : (D : List Bool) → 2 ≤ level two_board D 2 → IsInside (false ∷ true ∷ []) D
    second_in D reaches zero m = absurd (false≢true m)
    second_in D reaches (suc zero) m = elim (Decided-member D 1) [
      | inl k ↦ k
      | inr out ↦ let e : stay two_board D 2 ≡ 0 = members_in-other D 1 [] out in absurd (omega (arith, ap (stay_level two_board 2) e))
    ]
    second_in D reaches (suc (suc k)) m = absurd (false≢true m)

board : IsBoard two_board
board = board_is_board two_pairs two_pairs_ranks two_pairs_first two_pairs_chain two_needs two_moves ground

two_walk : TwoWalk
two_walk = (begun.0, begun.1, up_where_raised two_board two_gates forth both_best 2 (false ∷ false ∷ []) (false ∷ true ∷ []) (begun.0.marks 3 (omega arith)) raised)
  where
    begun : IsVectorWalk two_board two_gates forth both_best 4 (λ _. false ∷ false ∷ []) × HasFirstVector two_board two_gates forth (false ∷ false ∷ [])
    begun = walk_begins two_board two_gates forth (false ∷ false ∷ []) board orders.0 least

two_log : TwoLog
two_log = (
  log_grows two_board [] (false ∷ false ∷ []) 1 nothing (omega arith) (none_in 1),
  record {
    below = below;
    come = come;
    within = λ a h. within a h;
    someone = λ a h. someone a h;
  },
  record {
    within = omega arith;
    changes = λ _. record { at = 0; within = omega arith; is = refl; rises = omega arith };
    none_before = below_two (λ j. Changes two_board 1 (slice_index forth j) → ⊥) (not_here 0 refl refl) (not_here 1 refl refl);
  },
)
  where
    nothing : IsLogOf two_board [] (false ∷ false ∷ [])
    nothing = record { one_each = refl; in_range = λ a h. absurd (omega arith); once = λ a c h g. absurd (omega arith); each = λ a h. absurd (omega arith); all = λ x m. absurd (none_in x m) }

    below : (a : ℕ) → a < 1 → (D : List Bool) → IsClosedIn two_board D → IsMember D (leave two_board (slice_index (2 ∷ []) a) (slice_index (0 ∷ []) a)) → IsMember D (slice_index (1 ∷ []) a)
    below zero h D c m = m
    below (suc a) h D c m = absurd (omega arith)

    come : (a j : ℕ) → a < 1 → j < slice_index (0 ∷ []) a → (c : ℕ) × (c < a) × (slice_index (1 ∷ []) c ≡ leave two_board (slice_index (2 ∷ []) a) j)
    come zero j h g = absurd (omega arith)
    come (suc a) j h g = absurd (omega arith)

    within : (a : ℕ) → a < 1 → slice_index (0 ∷ []) a < length (row two_board.leaves (slice_index (2 ∷ []) a))
    within zero h = omega arith
    within (suc a) h = absurd (omega arith)

    someone : (a : ℕ) → a < 1 → slice_index (2 ∷ []) a < 4
    someone zero h = omega arith
    someone (suc a) h = absurd (omega arith)

    not_here : (p : ℕ) → length (row two_board.leaves p) ≡ 1 → leave two_board p 0 ≡ 0 → Changes two_board 1 p → ⊥
    not_here p long at c = let e : c.at ≡ 0 = omega (arith, c.within) in omega (arith, c.is, ap (leave two_board p) e)

-- what fits and is least is found by hand, and the rest by the laws
pub two_board_is : TwoBoard
two_board_is = (
  ground,
  refl,
  gates,
  least,
  raised,
  (λ D f more reaches same.
      let w = f.opens 0 (omega arith) in
      let e : stay two_board D 0 ≡ 0 = omega (arith, w.before) in
      omega (arith, ap (stay_level two_board 0) e)),
  (least_is_best two_pairs two_pairs_ranks two_pairs_first two_pairs_chain two_needs two_moves [] (9 ∷ 9 ∷ 9 ∷ 9 ∷ []) [] two_forbidden two_gates ground (λ c h. absurd (omega arith)) gates).0 (false ∷ false ∷ []) least,
  two_walk,
  two_log,
)
