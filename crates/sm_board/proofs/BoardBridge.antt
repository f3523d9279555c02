-- The board of a market and its complete chain.
use Rattle.std.proofs.Common.{◌≡◌, ◌≢◌, ℕ, zero, suc, ◌+◌, ◌<◌, ◌≤◌, inl, inr, arith, refl, sym, ap, ◌∙◌, subst, List, [], ◌∷◌, length, map, is_some, slice_index, slice_index_or, Contains}
use Rattle.std.proofs.lemmas.List.{get_or_default, get_or_past, get_or-map, get_or_read, length-map}
use Rattle.std.proofs.lemmas.List.FromFn.{get_or-map-range_with_len, length-map-range_with_len}
use Rattle.sm_market.specs.Lists.{Lists, row, place_of}
use Rattle.sm_market.specs.Matching.{Places, held, standing}
use Rattle.sm_lists.proofs.Counting.{lt_or_le, eq_or_ne}
use Rattle.sm_market.proofs.Bridge.{stable_of}
use Rattle.sm_theory.specs.Rotations.{proposer_at, target_at, pair_of}
use Rattle.sm_theory.specs.Chains.{rotation_at, stage}
use Rattle.sm_theory.proofs.Core.Cycle.{Moves, moves_at as moves_at_pair}
use Rattle.sm_theory.proofs.Core.Chain.{way_of, last_needed, rise, up_at}
use Rattle.sm_theory.proofs.Bridge.Rotation.{cycle_of}
use Rattle.sm_theory.proofs.Bridge.Chain.{chain_of, needs_back}
use Rattle.sm_theory.proofs.Chains.Sets.{does_move}
use Rattle.sm_poset.specs.Moves.{rotation_of, place_to, AreMovesOf, moves_at}
use Rattle.sm_poset.proofs.ChainLemmas.{proposer_at-pair_of, in_range, move_stands, moves_of_move}
use Rattle.sm_poset.proofs.MoveLemmas.{go_down}
use Rattle.sm_board.specs.Board.{Board, IsBoard, firsts, leave, stay_level}
use Rattle.sm_board.specs.BoardOf.{places_at, board_of, IsGround, BoardIsBoard}
use Rattle.sm_board.proofs.PairLemmas.{first_of_pairs, mapped_row}

second_of_pairs : (ms : List (ℕ × ℕ)) (a : ℕ) → slice_index (map (λ m. m.1) ms) a ≡ (slice_index_or ms a (0, 0)).1
second_of_pairs [] a = refl
second_of_pairs (m ∷ ms) zero = refl
second_of_pairs (m ∷ ms) (suc a) = second_of_pairs ms a

contains_at : (xs : List ℕ) (k x : ℕ) → k < length xs → slice_index xs k ≡ x → Contains xs x
contains_at xs k x less e = (k, less, get_or_default xs k x 0 less ∙ e)

-- the entry that is contained
pub contained : (xs : List ℕ) (x : ℕ) (c : Contains xs x) → slice_index xs c.0 ≡ x
contained xs x c = sym (get_or_default xs c.0 x 0 c.1) ∙ c.2

module _ {l : Lists} {levels : List (List ℕ)} {first : Places} {rotations : List (List (ℕ × ℕ))} {needs : List (List ℕ)} {moves : List (List (ℕ × ℕ))} (ground : IsGround l levels first rotations needs moves) where
  -- the board of the market
  abbrev pub board : Board
  board = board_of l levels first rotations needs moves

  -- the place of stay a of p
  abbrev pub place : ℕ → ℕ → ℕ
  place p a = slice_index (places_at l first moves p) a

  -- the moves of p are those of the whole chain
  pub all_moves : (p : ℕ) → AreMovesOf l rotations (length rotations) p (moves_at moves p)
  all_moves p = elim (lt_or_le p (length l.proposers)) [
    | inl less ↦ ground.moves_are.of p less
    | inr past ↦
        let e : moves_at moves p ≡ [] = get_or_past moves p [] (omega (arith, ground.moves_are.one_each)) in
        subst (AreMovesOf l rotations (length rotations) p) (sym e) (record {
          rising = λ a b _ x. absurd (omega arith);
          sound = λ a x. absurd (omega arith);
          each = λ a x. absurd (omega arith);
          all = λ k i g w. absurd (omega (arith, in_range ground.market ground.chain k (pair_of (rotation_at rotations k) p) g w.moved, proposer_at-pair_of (rotation_at rotations k) p w.moved));
        })
  ]

  -- what ends a stay is the rotation of the move
  pub leave_is : (p a : ℕ) → leave board p a ≡ rotation_of (moves_at moves p) a
  leave_is p a = ap (λ r. slice_index r a) (mapped_row moves p) ∙ first_of_pairs (moves_at moves p) a

  -- there is one move for each stay that ends
  pub leaves_long : (p : ℕ) → length (row board.leaves p) ≡ length (moves_at moves p)
  leaves_long p = ap length (mapped_row moves p) ∙ length-map (moves_at moves p) (λ m. m.0)

  -- there is one row for each proposer
  pub many : length board.leaves ≡ length l.proposers
  many = length-map moves (λ ms. firsts ms) ∙ ground.moves_are.one_each

  -- the levels of p are those of its places
  pub levels_row : (p : ℕ) → p < length l.proposers → row board.levels p ≡ map (λ i. slice_index (row levels p) i) (places_at l first moves p)
  levels_row p less = get_or-map-range_with_len (λ p. map (λ i. slice_index (row levels p) i) (places_at l first moves p)) 0 (length l.proposers) p p [] less (omega arith)

  places_long : (p : ℕ) → length (places_at l first moves p) ≡ length (moves_at moves p) + 1
  places_long p = let e = length-map (moves_at moves p) (λ m. m.1) in omega arith

  -- and one more than its moves
  pub levels_long : (p : ℕ) → p < length l.proposers → length (row board.levels p) ≡ length (moves_at moves p) + 1
  levels_long p less = ap length (levels_row p less) ∙ length-map (places_at l first moves p) (λ i. slice_index (row levels p) i) ∙ places_long p

  -- the level of a stay is that of its place
  pub stay_level_is : (p a : ℕ) → p < length l.proposers → a < length (moves_at moves p) + 1 → stay_level board p a ≡ slice_index (row levels p) (place p a)
  stay_level_is p a less x = ap (λ r. slice_index r a) (levels_row p less) ∙ get_or-map (λ i. slice_index (row levels p) i) (places_at l first moves p) a 0 0 (omega (arith, places_long p))

  place_suc : (p a : ℕ) → place p (suc a) ≡ place_to (moves_at moves p) a
  place_suc p a = second_of_pairs (moves_at moves p) a

  -- p stands at the place of a move once its rotation is eliminated
  pub stands : (p a : ℕ) → a < length (moves_at moves p) → standing l.proposers (stage l first rotations (suc (rotation_of (moves_at moves p) a))).proposers p ≡ place p (suc a)
  stands p a x = move_stands ground.market ground.chain p (rotation_of (moves_at moves p) a) (place_to (moves_at moves p) a) ((all_moves p).sound a x) ((all_moves p).each a x) ∙ sym (place_suc p a)

  -- each move is one of a cycle
  pub movers : (p a : ℕ) → a < length (moves_at moves p) → Moves (cycle_of (rotation_at rotations (rotation_of (moves_at moves p) a))) p
  movers p a x = moves_of_move ground.market ground.chain p (rotation_of (moves_at moves p) a) (place_to (moves_at moves p) a) ((all_moves p).each a x)

  -- places go down the list from stay to stay
  pub place_up : (p i j : ℕ) → i < j → j < length (moves_at moves p) + 1 → place p i < place p j
  place_up p i zero less x = absurd (omega arith)
  place_up p zero (suc b) less x =
      let k : ℕ = rotation_of (moves_at moves p) b in
      let g : k < length rotations = (all_moves p).sound b (omega arith) in
      let low : standing l.proposers first.proposers p ≤ standing l.proposers (stage l first rotations k).proposers p = rise (way_of (chain_of ground.market ground.chain)) p 0 k (omega arith) (omega arith) in
      let up : standing l.proposers (stage l first rotations k).proposers p < standing l.proposers (stage l first rotations (suc k)).proposers p = up_at (way_of (chain_of ground.market ground.chain)) k p g (movers p b (omega arith)) in
      omega (arith, stands p b (omega arith))
  place_up p (suc a) (suc b) less x = omega (arith, place_suc p a, place_suc p b, (go_down ground.market ground.chain (all_moves p)).further a b (omega arith) (omega arith))

  place_on : (p j : ℕ) → j < length (moves_at moves p) + 1 → place p j ≤ length (row l.proposers p)
  place_on p zero x = (stable_of ground.market ground.chain.from_best.stable).fit.left.within p
  place_on p (suc b) x = omega (arith, place_suc p b, (go_down ground.market ground.chain (all_moves p)).on_list b (omega arith))

  -- the number of a rotation's move among p's
  pub found : (p k : ℕ) → k < length rotations → Moves (cycle_of (rotation_at rotations k)) p → (d : ℕ) × (d < length (moves_at moves p)) × (rotation_of (moves_at moves p) d ≡ k)
  found p k g mv =
      let i : ℕ = place_of l.proposers p (target_at (rotation_at rotations k) (pair_of (rotation_at rotations k) p)) in
      let c = (all_moves p).all k i g (record { moved = does_move ground.market ground.chain k p g mv; place = refl }) in
      let at : slice_index_or (moves_at moves p) c.0 (0, 0) ≡ (k, i) = sym (get_or_read (moves_at moves p) c.0 (k, i) c.1 (sym c.2) (0, 0)) in
      (c.0, c.1, ap (λ x. x.0) at)

  -- what moves p next needs what moved it before
  leads : (p a : ℕ) → a + 1 < length (moves_at moves p) → Contains (row needs (rotation_of (moves_at moves p) (a + 1))) (rotation_of (moves_at moves p) a)
  leads p a x = (ground.needs_are k g).all j (omega (arith, less, g)) (needs_back ground.market (rotation_at rotations j) (rotation_at rotations k) (last_needed (way_of (chain_of ground.market ground.chain)) p k g (movers p (a + 1) x)
      (record { at = j; below = less; holds = movers p a (omega arith); later = between })))
    where
      j : ℕ
      j = rotation_of (moves_at moves p) a

      k : ℕ
      k = rotation_of (moves_at moves p) (a + 1)

      less : j < k
      less = (all_moves p).rising a (a + 1) (omega arith) x

      g : k < length rotations
      g = (all_moves p).sound (a + 1) x

      between : (i : ℕ) → j < i → i < k → Moves (cycle_of (rotation_at rotations i)) p → ⊥
      between i u v mv =
          let w = found p i (omega (arith, g)) mv in
          let no : w.0 ≤ a → ⊥ = λ le. elim (eq_or_ne w.0 a) [
            | inl e ↦ let same : rotation_of (moves_at moves p) w.0 ≡ j = ap (rotation_of (moves_at moves p)) e in omega (arith, w.2)
            | inr ne ↦ omega (arith, (all_moves p).rising w.0 a (omega arith) (omega arith), w.2)
          ] in
          elim (lt_or_le a w.0) [
            | inr le ↦ no le
            | inl more ↦ elim (eq_or_ne w.0 (a + 1)) [
              | inl e ↦ let same : rotation_of (moves_at moves p) w.0 ≡ k = ap (rotation_of (moves_at moves p)) e in omega (arith, w.2)
              | inr ne ↦ omega (arith, (all_moves p).rising (a + 1) w.0 (omega arith) w.1, w.2)
            ]
          ]

  -- predecessors lead from move to move, and levels never fall
  pub is_board : IsBoard board
  is_board = record {
    movers_each = length-map rotations (λ rotation. firsts rotation) ∙ sym ground.needs_each;
    levels_each = length-map-range_with_len (λ p. map (λ i. slice_index (row levels p) i) (places_at l first moves p)) 0 (length l.proposers) ∙ sym many;
    matched_each = length-map-range_with_len (λ p. is_some (held first.proposers p)) 0 (length l.proposers) ∙ sym many;
    in_range = λ p a x. omega (arith, leave_is p a, (all_moves p).sound a (omega (arith, leaves_long p)), ground.needs_each);
    needs_in_range = needs_in_range;
    movers_once = movers_once;
    lead = λ p a x.
        subst (λ k. Contains (row needs k) (leave board p a)) (sym (leave_is p (a + 1)))
        (subst (λ j. Contains (row needs (rotation_of (moves_at moves p) (a + 1))) j) (sym (leave_is p a)) (leads p a (omega (arith, leaves_long p))));
    once = λ p a c x y e. let up = (all_moves p).rising a c x (omega (arith, leaves_long p)) in omega (arith, leave_is p a, leave_is p c);
    there = λ p x c.
        let e : rotation_of (moves_at moves p) c.0 ≡ x = sym (leave_is p c.0) ∙ contained (row board.leaves p) x c in
        let m = ((all_moves p).each c.0 (omega (arith, leaves_long p, c.1))).moved in
        mover x p (subst (λ k. pair_of (rotation_at rotations k) p < length (rotation_at rotations k)) e m);
    back = back;
    long = λ p x. levels_long p (omega (arith, many)) ∙ ap (λ n. n + 1) (sym (leaves_long p));
    rising = rising;
  }
    where
      needs_in_range : (x i : ℕ) → Contains (row needs x) i → i < length needs
      needs_in_range x i c = elim (lt_or_le x (length rotations)) [
        | inl g ↦ omega (arith, contained (row needs x) i c, (ground.needs_are x g).sound c.0 c.1, ground.needs_each)
        | inr past ↦ absurd (omega (arith, c.1, ap length (get_or_past needs x [] (omega (arith, ground.needs_each)))))
      ]

      mover_at : (x a : ℕ) → slice_index (row board.movers x) a ≡ proposer_at (rotation_at rotations x) a
      mover_at x a = ap (λ r. slice_index r a) (mapped_row rotations x) ∙ first_of_pairs (rotation_at rotations x) a

      movers_once : (x a c : ℕ) → a < c → c < length (row board.movers x) → slice_index (row board.movers x) a ≢ slice_index (row board.movers x) c
      movers_once x a c less in_it e = elim (lt_or_le x (length rotations)) [
        | inl g ↦ (ground.chain.exposed x g).distinct a c less (omega (arith, ap length (mapped_row rotations x), length-map (rotation_at rotations x) (λ m. m.0))) (sym (mover_at x a) ∙ e ∙ mover_at x c)
        | inr past ↦ absurd (omega (arith, ap length (mapped_row rotations x), length-map (rotation_at rotations x) (λ m. m.0), ap length (get_or_past rotations x [] past)))
      ]

      mover : (x p : ℕ) → pair_of (rotation_at rotations x) p < length (rotation_at rotations x) → Contains (row board.movers x) p
      mover x p m = contains_at (row board.movers x) (pair_of (rotation_at rotations x) p) p
          (omega (arith, ap length (mapped_row rotations x), length-map (rotation_at rotations x) (λ m. m.0)))
          (ap (λ r. slice_index r (pair_of (rotation_at rotations x) p)) (mapped_row rotations x) ∙ first_of_pairs (rotation_at rotations x) (pair_of (rotation_at rotations x) p) ∙ proposer_at-pair_of (rotation_at rotations x) p m)

      back : (p x : ℕ) → Contains (row board.movers x) p → Contains (row board.leaves p) x
      back p x c = elim (lt_or_le x (length rotations)) [
        | inr past ↦ absurd (omega (arith, c.1, ap length (mapped_row rotations x), length-map (rotation_at rotations x) (λ m. m.0), ap length (get_or_past rotations x [] past)))
        | inl g ↦
            let e : proposer_at (rotation_at rotations x) c.0 ≡ p = sym (first_of_pairs (rotation_at rotations x) c.0) ∙ ap (λ r. slice_index r c.0) (sym (mapped_row rotations x)) ∙ contained (row board.movers x) p c in
            let in_it : c.0 < length (rotation_at rotations x) = omega (arith, c.1, ap length (mapped_row rotations x), length-map (rotation_at rotations x) (λ m. m.0)) in
            let mv : Moves (cycle_of (rotation_at rotations x)) p = subst (Moves (cycle_of (rotation_at rotations x))) e (moves_at_pair (cycle_of (rotation_at rotations x)) c.0 in_it) in
            let w = found p x g mv in
            contains_at (row board.leaves p) w.0 x (omega (arith, w.1, leaves_long p)) (leave_is p w.0 ∙ w.2)
      ]

      rising : (p i j : ℕ) → i < j → j < length (row board.levels p) → stay_level board p i ≤ stay_level board p j
      rising p i j less x = elim (lt_or_le p (length l.proposers)) [
        | inr past ↦ absurd (omega (arith, ap length (get_or_past board.levels p [] (omega (arith, length-map-range_with_len (λ p. map (λ i. slice_index (row levels p) i) (places_at l first moves p)) 0 (length l.proposers))))))
        | inl in_it ↦
            let long = levels_long p in_it in
            omega (
              arith,
              stay_level_is p i in_it (omega arith),
              stay_level_is p j in_it (omega arith),
              ground.rising.rising p (place p i) (place p j) (place_up p i j less (omega arith)) (omega (arith, place_on p j (omega arith), ground.rising.per_place p in_it)),
            )
      ]

-- by `is_board`
pub board_is_board : BoardIsBoard
board_is_board l levels first rotations needs moves ground = is_board ground
