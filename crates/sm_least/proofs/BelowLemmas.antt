-- Gates for a bound on the regret: what fits them, and what the least set that does means for matchings.
use Rattle.std.proofs.Common.{◌≡◌, ℕ, zero, suc, ◌+◌, ◌<◌, ◌≤◌, inl, inr, arith, refl, sym, ap, ◌∙◌, subst, List, Option, None, Some, length, map, fold, max, Bool, true, false, is_some, cond, slice_index, slice_index_or}
use Rattle.std.specs.List.{range_with_len}
use Rattle.std.proofs.lemmas.Bool.{false≢true}
use Rattle.std.proofs.lemmas.List.FromFn.{get_or-map-range_with_len, length-map-range_with_len, fill_by_all}
use Rattle.std.proofs.lemmas.Option.{none-some}
use Rattle.sm_lists.specs.Rows.{place_on}
use Rattle.sm_lists.proofs.Counting.{lt_or_le}
use Rattle.sm_lists.proofs.PlaceLemmas.{place_on-le-at}
use Rattle.sm_market.specs.Lists.{Lists, row}
use Rattle.sm_market.specs.Matching.{Places, held, standing}
use Rattle.sm_market.specs.Stable.{IsStable}
use Rattle.sm_market.proofs.Bridge.{standing-some}
use Rattle.sm_market.proofs.PairingLemmas.{held_in_range}
use Rattle.sm_theory.specs.ClosedSets.{IsClosed, matching_of}
use Rattle.sm_theory.specs.Vectors.{IsAllowed, IsWithin, AreInRange}
use Rattle.sm_theory.specs.Weights.{rank_of_place, regret_of}
use Rattle.sm_theory.proofs.Chains.Rotations.{sets_are_matchings}
use Rattle.sm_theory.proofs.Chains.Sets.{sets_are_ordered}
use Rattle.sm_poset.specs.Posets.{RotationPoset}
use Rattle.sm_poset.specs.Moves.{moves_at, rotation_of, place_to}
use Rattle.sm_poset.proofs.ChainLemmas.{move_stands}
use Rattle.sm_poset.proofs.MoveLemmas.{go_down}
use Rattle.sm_board.specs.Board.{Board, IsBoard, stay, level, stay_level, Gates, IsOpen, Fits, IsLeast}
use Rattle.sm_board.specs.BoardOf.{IsGround, IsBoardFor, AreGates}
use Rattle.sm_board.specs.Courses.{Held, IsHeld}
use Rattle.sm_board.proofs.BoardLemmas.{stays_in}
use Rattle.sm_board.proofs.BoardBridge.{board, place, many, all_moves, stands, levels_long, stay_level_is}
use Rattle.sm_board.proofs.BoardSets.{closed_back, has_level, has_level_back, stay_in, gates_mean_conditions}
use Rattle.sm_least.specs.Gates.{AreUnbounded, AreWide}
use Rattle.sm_theory.specs.Regrets.{AreRanks, IsBestBelow}
use Rattle.sm_least.specs.Regrets.{rank_of_level, IsRanked, ranks_along, AreOpenUpTo, AreAtStays, rank_now, greatest_of}
use Rattle.sm_least.proofs.SearchLemmas.{nothing_excluded, proposers_for}
use Rattle.sm_theory.proofs.Weighing.Regrets.{regret_by_bound}
use Rattle.sm_least.proofs.RegretLemmas.{rank_of_level-at, low_along}

module _ {l : Lists} {levels : List (List ℕ)} {first : Places} {rotations : List (List (ℕ × ℕ))} {needs : List (List ℕ)} {moves : List (List (ℕ × ℕ))} (ground : IsGround l levels first rotations needs moves) where
  -- who is matched has all its stays on its list
  matched_on : (p a : ℕ) → p < length l.proposers → slice_index_or (board ground).matched p false ≡ true → a < length (moves_at moves p) + 1 → place ground p a < length (row l.proposers p)
  matched_on p zero less matched few = go (held first.proposers p) refl
    where
      is : slice_index_or (board ground).matched p false ≡ is_some (held first.proposers p)
      is = get_or-map-range_with_len (λ p. is_some (held first.proposers p)) 0 (length l.proposers) p p false less (omega arith)

      go : (o : Option ℕ) → held first.proposers p ≡ o → place ground p zero < length (row l.proposers p)
      go None e = absurd (false≢true (ap is_some (sym e) ∙ sym is ∙ matched))
      go (Some i) e = omega (arith, standing-some l.proposers first.proposers p i e, ground.chain.from_best.stable.matching.proposers.on_list p i e)
  matched_on p (suc a) less matched few =
      let in_it : a < length (moves_at moves p) = omega arith in
      let move = all_moves ground p in
      omega (
        arith,
        stands ground p a in_it,
        move_stands ground.market ground.chain p (rotation_of (moves_at moves p) a) (place_to (moves_at moves p) a) (move.sound a in_it) (move.each a in_it),
        (go_down ground.market ground.chain move).on_list a in_it,
      )

  module _ {ranks : List (List ℕ)} (w : AreRanks l levels ranks) where
    -- each stay of a matched proposer has the level of a place
    ranked : IsRanked (board ground) levels ranks
    ranked = record {
      levels_each = ground.rising.one_each ∙ sym (many ground);
      ranks_each = w.one_each ∙ sym (many ground);
      rising = λ p less. ground.rising.rising p;
      few = λ p less. omega (arith, w.per_place p (omega (arith, many ground)), ground.rising.per_place p (omega (arith, many ground)));
      some = λ p a in_it matched few.
          let less : p < length l.proposers = omega (arith, many ground) in
          let short : a < length (moves_at moves p) + 1 = omega (arith, levels_long ground p less) in
          let low : place_on (row levels p) (stay_level (board ground) p a) ≤ place ground p a = place_on-le-at (row levels p) (stay_level (board ground) p a) (place ground p a) (sym (stay_level_is ground p a less short)) in
          omega (arith, matched_on p a less matched short, w.per_place p less);
    }

    module _ {C : List Bool} (c : IsClosed l rotations C) where
      -- the rank of a matched proposer's level is that of its place
      rank_held : (p i : ℕ) → held (matching_of l first rotations C).proposers p ≡ Some i
          → (slice_index_or (board ground).matched p false ≡ true) × (rank_of_level (row levels p) (row ranks p) (level (board ground) C p) ≡ slice_index (row ranks p) i)
      rank_held p i e =
          let st = (sets_are_matchings l first rotations ground.market ground.chain).stable C c in
          let has = has_level ground c p (slice_index (row levels p) i) (record { place = i; holds = e; at_level = refl }) in
          (has.0, ap (rank_of_level (row levels p) (row ranks p)) has.1 ∙ rank_of_level-at ground.rising w p i (st.matching.proposers.on_list p i e))

      -- what fits the gates of a bound fits those without, and its matching has a regret within the bound
      below_fits : {g0 g1 : Gates} {bound : ℕ} → AreOpenUpTo (board ground) (ranks_along (board ground) levels ranks) bound g0 g1 → Fits (board ground) g1 C → Fits (board ground) g0 C × (regret_of l ranks (matching_of l first rotations C) ≤ bound)
      below_fits {g0} {g1} {bound} below f = (
        record { closed = f.closed; opens = λ p in_it. (now p in_it).0 },
        (regret_by_bound l ranks (matching_of l first rotations C) bound st.matching).1 (λ p i e.
            let r = rank_held p i e in
            let in_it : p < length (board ground).leaves = held_in p i e in
            omega (arith, (now p in_it).1 r.0, r.1)),
      )
        where
          st : IsStable l (matching_of l first rotations C)
          st = (sets_are_matchings l first rotations ground.market ground.chain).stable C c

          held_in : (p i : ℕ) → held (matching_of l first rotations C).proposers p ≡ Some i → p < length (board ground).leaves
          held_in p i e = let less = held_in_range st.matching.proposers p i e in omega (arith, many ground)

          now : (p : ℕ) → p < length (board ground).leaves
              → IsOpen g0 p (stay (board ground) C p) × (slice_index_or (board ground).matched p false ≡ true → rank_of_level (row levels p) (row ranks p) (stay_level (board ground) p (stay (board ground) C p)) ≤ bound)
          now p in_it =
              let on : stay (board ground) C p < length (row (board ground).levels p) = stay_in ground c p (omega (arith, many ground)) in
              let o = (below p (stay (board ground) C p) in_it on).0 (f.opens p in_it) in
              (o.0, (low_along (board ground) levels ranks bound p (stay (board ground) C p) in_it on).0 o.1)

      -- and back
      fits_below : {g0 g1 : Gates} {bound : ℕ} → AreOpenUpTo (board ground) (ranks_along (board ground) levels ranks) bound g0 g1 → Fits (board ground) g0 C → regret_of l ranks (matching_of l first rotations C) ≤ bound → Fits (board ground) g1 C
      fits_below {g0} {g1} {bound} below f low = record {
        closed = f.closed;
        opens = λ p in_it. (below p (stay (board ground) C p) in_it (stay_in ground c p (omega (arith, many ground)))).1 (
          f.opens p in_it,
          (low_along (board ground) levels ranks bound p (stay (board ground) C p) in_it (stay_in ground c p (omega (arith, many ground)))).1 (λ matched.
              let has = has_level_back ground c p (level (board ground) C p) matched refl in
              let r = rank_held p has.place has.holds in
              omega (arith, r.1, (regret_by_bound l ranks (matching_of l first rotations C) bound (st.matching)).0 low p has.place has.holds)),
        );
      }
        where
          st : IsStable l (matching_of l first rotations C)
          st = (sets_are_matchings l first rotations ground.market ground.chain).stable C c

      -- the rank at which a proposer stands is that of its place
      rank_stands : (now : List ℕ) (p : ℕ) → slice_index now p ≡ level (board ground) C p → rank_now (board ground) levels ranks now p ≡ rank_of_place ranks p (held (matching_of l first rotations C).proposers p)
      rank_stands now p is = go (held (matching_of l first rotations C).proposers p) refl (slice_index_or (board ground).matched p false) refl
        where
          go : (o : Option ℕ) → held (matching_of l first rotations C).proposers p ≡ o → (b : Bool) → slice_index_or (board ground).matched p false ≡ b → rank_now (board ground) levels ranks now p ≡ rank_of_place ranks p (held (matching_of l first rotations C).proposers p)
          go None e true matched = absurd (none-some _ (sym e ∙ (has_level_back ground c p (level (board ground) C p) matched refl).holds))
          go None e false matched = ap (λ b. cond b (rank_of_level (row levels p) (row ranks p) (slice_index now p)) 0) matched ∙ ap (rank_of_place ranks p) (sym e)
          go (Some i) e b _ =
              let r = rank_held p i e in
              ap (λ b. cond b (rank_of_level (row levels p) (row ranks p) (slice_index now p)) 0) r.0
              ∙ ap (rank_of_level (row levels p) (row ranks p)) is ∙ r.1 ∙ ap (rank_of_place ranks p) (sym e)

-- the levels and ranks of a poset's proposers
pub ranked_for : {poset : RotationPoset} {levels ranks : List (List ℕ)} {b : Board} → IsBoardFor poset levels b → AreRanks poset.lists levels ranks → IsRanked b levels ranks
ranked_for {poset} {levels} {ranks} w r = subst (λ d. IsRanked d levels ranks) (sym w.is) (ranked w.ground r)

-- the greatest rank at which proposers stand is the regret
pub greatest_of-regret_of : {poset : RotationPoset} {levels ranks : List (List ℕ)} {b : Board} (C : List Bool) (now : List ℕ) → IsBoardFor poset levels b → AreRanks poset.lists levels ranks → IsClosed poset.lists poset.rotations C
    → ((p : ℕ) → p < length b.leaves → slice_index now p ≡ level b C p)
    → greatest_of (rank_now b levels ranks now) (length b.leaves) ≡ regret_of poset.lists ranks (matching_of poset.lists poset.first.places poset.rotations C)
greatest_of-regret_of {poset} {levels} {ranks} {b} C now w r closed are =
    ap (fold max 0) (fill_by_all theirs (map (rank_now b levels ranks now) (range_with_len 0 (length b.leaves))) (length poset.lists.proposers) 0
    (length-map-range_with_len (rank_now b levels ranks now) 0 (length b.leaves) ∙ proposers_for w)
    (λ p less. get_or-map-range_with_len (rank_now b levels ranks now) 0 (length b.leaves) p p 0 (omega (arith, proposers_for w)) (omega arith)
    ∙ subst (λ d. rank_now d levels ranks now p ≡ theirs p) (sym w.is) (rank_stands w.ground r closed now p (are p (omega (arith, proposers_for w)) ∙ ap (λ d. level d C p) w.is))))
  where
    theirs : ℕ → ℕ
    theirs p = rank_of_place ranks p (held (matching_of poset.lists poset.first.places poset.rotations C).proposers p)

-- the stays of what is held
pub at_stays : {b : Board} {h : Held} → IsHeld b h → IsBoard b → AreAtStays b h.levels
at_stays {b} {h} w ground = record {
  one_each = w.now_each;
  stays = λ p less. (stay b h.set p, stays_in ground h.set p less, w.now_is p less);
}

-- the set of a matching in question fits
record Fitted (poset : RotationPoset) (b : Board) (g : Gates) (n : Places) : Type 0 where
  set : List Bool
  closed : IsClosed poset.lists poset.rotations set
  is : matching_of poset.lists poset.first.places poset.rotations set ≡ n
  fits : Fits b g set

module _ {poset : RotationPoset} {levels ranks : List (List ℕ)} {b c : Board} {bound : ℕ} {forced forbidden : List (ℕ × ℕ)} (g0 g1 : Gates)
    (w : IsBoardFor poset levels b) (in_range : AreInRange (length poset.lists.proposers) forced) (r : AreRanks poset.lists levels ranks)
    (e : c ≡ b) (u : AreUnbounded c forced forbidden g0) (below : AreOpenUpTo c (ranks_along c levels ranks) bound g0 g1) where
  -- the gates of the conditions, for the board of the poset
  gates_for : AreGates (board w.ground) u.low u.high forced forbidden g0
  gates_for = subst (λ d. AreGates d u.low u.high forced forbidden g0) (e ∙ w.is) u.gates

  below_for : AreOpenUpTo (board w.ground) (ranks_along (board w.ground) levels ranks) bound g0 g1
  below_for = subst (λ d. AreOpenUpTo d (ranks_along d levels ranks) bound g0 g1) (e ∙ w.is) below

  fitted : (n : Places) → IsStable poset.lists n → IsAllowed levels forced forbidden n → regret_of poset.lists ranks n ≤ bound → Fitted poset (board w.ground) g1 n
  fitted n stable allowed low =
      let s = (sets_are_matchings poset.lists poset.first.places poset.rotations w.ground.market w.ground.chain).all n stable in
      let within = nothing_excluded u.low u.high w (subst (λ d. AreWide d u.low u.high) e u.wide) n stable in
      let fits = (gates_mean_conditions poset.lists levels poset.first.places poset.rotations w.needs w.moves u.low u.high forced forbidden g0 s.0 w.ground in_range gates_for).1
      (s.1, subst (IsWithin poset.lists levels u.low u.high) (sym s.2) within, subst (IsAllowed levels forced forbidden) (sym s.2) allowed) in
      record { set = s.0; closed = s.1; is = s.2; fits = fits_below w.ground r s.1 below_for fits (subst (λ m. regret_of poset.lists ranks m ≤ bound) (sym s.2) low) }

  -- the least set that fits the gates of a bound is that of the best matching with a regret within it
  pub best_below : (C : List Bool) → IsLeast (Fits b g1) C → IsBestBelow poset.lists levels ranks bound forced forbidden (matching_of poset.lists poset.first.places poset.rotations C)
  best_below C least =
      let one : Fits (board w.ground) g1 C = subst (λ d. Fits d g1 C) w.is least.one in
      let closed = closed_back w.ground one.closed in
      let f = below_fits w.ground r closed below_for one in
      let all = (gates_mean_conditions poset.lists levels poset.first.places poset.rotations w.needs w.moves u.low u.high forced forbidden g0 C w.ground in_range gates_for).0 f.0 in
      record {
        stable = (sets_are_matchings poset.lists poset.first.places poset.rotations w.ground.market w.ground.chain).stable C closed;
        allowed = all.2;
        below = f.1;
        best = λ n stable allowed low p.
            let s = fitted n stable allowed low in
            subst (λ (m : Places). standing poset.lists.proposers (matching_of poset.lists poset.first.places poset.rotations C).proposers p ≤ standing poset.lists.proposers m.proposers p) s.is
            ((sets_are_ordered poset.lists poset.first.places poset.rotations C s.set w.ground.market w.ground.chain closed s.closed).0
            (λ k _ m. least.least s.set (subst (λ d. Fits d g1 s.set) (sym w.is) s.fits) k m) p);
      }

  -- and where none fits none has a regret within it
  pub none_below : ((C : List Bool) → Fits b g1 C → ⊥) → (m : Places) → IsStable poset.lists m → IsAllowed levels forced forbidden m → bound < regret_of poset.lists ranks m
  none_below none m stable allowed = elim (lt_or_le bound (regret_of poset.lists ranks m)) [
    | inl more ↦ more
    | inr low ↦ let s = fitted m stable allowed low in absurd (none s.set (subst (λ d. Fits d g1 s.set) (sym w.is) s.fits))
  ]
