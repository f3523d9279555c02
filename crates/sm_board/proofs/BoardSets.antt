-- The closed sets of a market's board, and what gates and the least set mean for matchings.
use Rattle.std.proofs.Common.{◌≡◌, ℕ, zero, suc, ◌+◌, ◌<◌, ◌≤◌, ◌⊎◌, inl, inr, arith, refl, sym, ap, ◌∙◌, subst, List, length, Option, Some, None, Bool, true, false, is_some, slice_index, slice_index_or, Contains}
use Rattle.std.specs.Option.{option_map}
use Rattle.std.proofs.lemmas.Bool.{false≢true}
use Rattle.std.proofs.lemmas.List.{get_or_past}
use Rattle.std.proofs.lemmas.List.FromFn.{get_or-map-range_with_len, length-map-range_with_len}
use Rattle.std.proofs.lemmas.Option.{none-some}
use Rattle.sm_market.specs.Lists.{Lists, row}
use Rattle.sm_market.specs.Matching.{Places, held, standing}
use Rattle.sm_market.specs.Stable.{IsStable}
use Rattle.sm_lists.proofs.Counting.{lt_or_le, eq_or_ne}
use Rattle.sm_market.proofs.Bridge.{stand_of, standing-some}
use Rattle.sm_theory.specs.Chains.{rotation_at, stage}
use Rattle.sm_theory.specs.ClosedSets.{IsMember, IsClosed, matching_of, worst_place}
use Rattle.sm_theory.specs.Vectors.{level_of, HasLevel, IsAllowed, IsWithin}
use Rattle.sm_theory.proofs.Core.Chain.{IsOf, Attained}
use Rattle.sm_theory.proofs.Bridge.Places.{held_map, held_map_past}
use Rattle.sm_theory.proofs.Bridge.Rotation.{cycle_of}
use Rattle.sm_theory.proofs.Bridge.Sets.{set_is_of}
use Rattle.sm_theory.proofs.Chains.Sets.{sets_are_ordered}
use Rattle.sm_theory.proofs.Chains.Rotations.{sets_are_matchings}
use Rattle.sm_poset.specs.Moves.{rotation_of, moves_at}
use Rattle.sm_board.specs.Board.{Board, stay, level, IsClosedIn, Gates, IsOpen, Fits, IsLeast}
use Rattle.sm_board.specs.BoardOf.{IsGround, IsAllowedStay, IsLeastWithin, BoardShowsSets, GatesMeanConditions, LeastIsBest, GatesFromTests}
use Rattle.sm_board.proofs.MemberLemmas.{members_few}
use Rattle.sm_board.proofs.BoardLemmas.{members_are_first}
use Rattle.sm_board.proofs.BoardBridge.{contained, board, place, all_moves, leave_is, leaves_long, many, levels_long, stay_level_is, stands, movers, place_up, found, is_board}
use Rattle.sm_theory.proofs.Routes.Sets.{member_within}

module _ {l : Lists} {levels : List (List ℕ)} {first : Places} {rotations : List (List (ℕ × ℕ))} {needs : List (List ℕ)} {moves : List (List (ℕ × ℕ))} (ground : IsGround l levels first rotations needs moves) where
  -- a closed set of the chain is one of the board
  pub closed_in : {C : List Bool} → IsClosed l rotations C → IsClosedIn (board ground) C
  closed_in {C} c = record { one_each = c.one_each ∙ sym ground.needs_each; closed = closed }
    where
      closed : (i j : ℕ) → IsMember C j → Contains (row needs j) i → IsMember C i
      closed i j m w =
          let g : j < length rotations = omega (arith, member_within C j m, c.one_each) in
          let e : slice_index (row needs j) w.0 ≡ i = contained (row needs j) i w in
          let are = ground.needs_are j g in
          subst (IsMember C) e (c.closed (slice_index (row needs j) w.0) j (are.sound w.0 w.1) g m (are.each w.0 w.1))

  -- and back
  pub closed_back : {C : List Bool} → IsClosedIn (board ground) C → IsClosed l rotations C
  closed_back {C} c = record {
    one_each = c.one_each ∙ ground.needs_each;
    closed = λ i j a b m need. c.closed i j m ((ground.needs_are j b).all i a need);
  }

  module _ {C : List Bool} (c : IsClosed l rotations C) where
    -- p's place is that of its stay
    pub is_at : (p : ℕ) → standing l.proposers (matching_of l first rotations C).proposers p ≡ place ground p (stay (board ground) C p)
    is_at p = go (stay (board ground) C p) refl (of.attained p)
      where
        of : IsOf (length rotations) (λ k. stand_of l (stage l first rotations k)) (λ k. cycle_of (rotation_at rotations k)) (IsMember C) (stand_of l (matching_of l first rotations C))
        of = set_is_of ground.market ground.chain C

        -- a member that moves p is one of the first
        early : (d : ℕ) → d < length (moves_at moves p) → IsMember C (rotation_of (moves_at moves p) d) → d < stay (board ground) C p
        early d x m = (members_are_first (board ground) C p d (is_board ground) (closed_in c) (omega (arith, leaves_long ground p))).0 (subst (IsMember C) (sym (leave_is ground p d)) m)

        go : (k : ℕ) → stay (board ground) C p ≡ k
            → (standing l.proposers (matching_of l first rotations C).proposers p ≡ standing l.proposers first.proposers p) ⊎ Attained (length rotations) (λ k. stand_of l (stage l first rotations k)) (λ k. cycle_of (rotation_at rotations k)) (IsMember C) (stand_of l (matching_of l first rotations C)) p
            → standing l.proposers (matching_of l first rotations C).proposers p ≡ place ground p k
        go zero e (inl x) = x
        go zero e (inr w) =
            let f = found ground p w.at w.below w.moves in
            absurd (omega (arith, early f.0 f.1 (subst (IsMember C) (sym f.2) w.member)))
        go (suc m) e x =
            let few = members_few C (row (board ground).leaves p) in
            let inside : m < length (moves_at moves p) = omega (arith, leaves_long ground p) in
            let member : IsMember C (rotation_of (moves_at moves p) m) = subst (IsMember C) (leave_is ground p m) ((members_are_first (board ground) C p m (is_board ground) (closed_in c) (omega (arith, leaves_long ground p))).1 (omega arith)) in
            let low : standing l.proposers (stage l first rotations (suc (rotation_of (moves_at moves p) m))).proposers p ≤ standing l.proposers (matching_of l first rotations C).proposers p = of.reach p (rotation_of (moves_at moves p) m) ((all_moves ground p).sound m inside) member (movers ground p m inside) in
            elim x [
              | inl y ↦
                  let up : standing l.proposers first.proposers p < place ground p (suc m) = place_up ground p 0 (suc m) (omega arith) (omega arith) in
                  absurd (omega (arith, stands ground p m inside))
              | inr w ↦
                  let f = found ground p w.at w.below w.moves in
                  let before = early f.0 f.1 (subst (IsMember C) (sym f.2) w.member) in
                  let there : standing l.proposers (stage l first rotations (suc w.at)).proposers p ≡ place ground p (suc f.0) = subst (λ k. standing l.proposers (stage l first rotations (suc k)).proposers p ≡ place ground p (suc f.0)) f.2 (stands ground p f.0 f.1) in
                  let is : standing l.proposers (matching_of l first rotations C).proposers p ≡ standing l.proposers (stage l first rotations (suc w.at)).proposers p = w.is in
                  elim (eq_or_ne f.0 m) [
                    | inl same ↦ is ∙ there ∙ ap (λ k. place ground p (suc k)) same
                    | inr ne ↦ absurd (omega (arith, place_up ground p (suc f.0) (suc m) (omega arith) (omega arith), stands ground p m inside))
                  ]
            ]

    stay_few : (p : ℕ) → stay (board ground) C p < length (moves_at moves p) + 1
    stay_few p = omega (arith, members_few C (row (board ground).leaves p), leaves_long ground p)

    -- the level in the matching of a set is that of the stay
    pub level_is : (p : ℕ) → p < length l.proposers → level_of l levels (matching_of l first rotations C) p ≡ level (board ground) C p
    level_is p less = ap (slice_index (row levels p)) (is_at p) ∙ sym (stay_level_is ground p (stay (board ground) C p) less (stay_few p))

    -- the stay is one of p's
    pub stay_in : (p : ℕ) → p < length l.proposers → stay (board ground) C p < length (row (board ground).levels p)
    stay_in p less = omega (arith, stay_few p, levels_long ground p less)

    -- who is matched is matched in each matching of the chain
    pub matched_in : (p : ℕ) → slice_index_or (board ground).matched p false ≡ true → p < length l.proposers
    matched_in p e = elim (lt_or_le p (length l.proposers)) [
      | inl less ↦ less
      | inr past ↦ absurd (false≢true (sym (get_or_past (board ground).matched p false (omega (arith, length-map-range_with_len (λ p. is_some (held first.proposers p)) 0 (length l.proposers)))) ∙ e))
    ]

    matched_is : (p : ℕ) → p < length l.proposers → slice_index_or (board ground).matched p false ≡ is_some (held first.proposers p)
    matched_is p less = get_or-map-range_with_len (λ p. is_some (held first.proposers p)) 0 (length l.proposers) p p false less (omega arith)

    held_is : (p : ℕ) → p < length l.proposers → held (matching_of l first rotations C).proposers p ≡ option_map (λ i. worst_place l rotations C p i (length rotations)) (held first.proposers p)
    held_is p less = held_map l.proposers (λ p. option_map (λ i. worst_place l rotations C p i (length rotations)) (held first.proposers p)) p less

    -- a level that p has in the matching of a set is that of its stay
    pub has_level : (p L : ℕ) → HasLevel levels (matching_of l first rotations C) p L → (slice_index_or (board ground).matched p false ≡ true) × (level (board ground) C p ≡ L)
    has_level p L w = elim (lt_or_le p (length l.proposers)) [
      | inr past ↦ absurd (none-some _ (sym (held_map_past l.proposers (λ p. option_map (λ i. worst_place l rotations C p i (length rotations)) (held first.proposers p)) p past) ∙ w.holds))
      | inl less ↦ (
        matched_is p less ∙ some (held first.proposers p) (sym (held_is p less) ∙ w.holds),
        sym (level_is p less) ∙ ap (slice_index (row levels p)) (standing-some l.proposers (matching_of l first rotations C).proposers p w.place w.holds) ∙ w.at_level,
      )
    ]
      where
        some : (o : Option ℕ) → option_map (λ i. worst_place l rotations C p i (length rotations)) o ≡ Some w.place → is_some o ≡ true
        some None e = absurd (none-some _ e)
        some (Some i) e = refl

    -- and back
    pub has_level_back : (p L : ℕ) → slice_index_or (board ground).matched p false ≡ true → level (board ground) C p ≡ L → HasLevel levels (matching_of l first rotations C) p L
    has_level_back p L matched at = go (held first.proposers p) refl
      where
        less : p < length l.proposers
        less = matched_in p matched

        go : (o : Option ℕ) → held first.proposers p ≡ o → HasLevel levels (matching_of l first rotations C) p L
        go None e = absurd (false≢true (ap is_some (sym e) ∙ sym (matched_is p less) ∙ matched))
        go (Some i) e =
            let holds : held (matching_of l first rotations C).proposers p ≡ Some (worst_place l rotations C p i (length rotations)) = held_is p less ∙ ap (option_map (λ i. worst_place l rotations C p i (length rotations))) e in
            record {
              place = worst_place l rotations C p i (length rotations);
              holds = holds;
              at_level = ap (slice_index (row levels p)) (sym (standing-some l.proposers (matching_of l first rotations C).proposers p (worst_place l rotations C p i (length rotations)) holds)) ∙ level_is p less ∙ at;
            }

-- closed sets, levels and who is matched, each both ways
pub board_shows_sets : BoardShowsSets
board_shows_sets l levels first rotations needs moves C ground = (
  (closed_back ground, closed_in ground),
  (λ c p less. (is_at ground c p, level_is ground c p less)),
  (λ c p L. ((λ w. has_level ground c p L w), (λ w. has_level_back ground c p L w.0 w.1))),
)

-- stay by stay, since a condition speaks of one proposer
pub gates_mean_conditions : GatesMeanConditions
gates_mean_conditions l levels first rotations needs moves low high forced forbidden g C ground range gates = (there, λ w. back w.0 w.1 w.2)
  where
    there : Fits (board ground) g C → IsClosed l rotations C × IsWithin l levels low high (matching_of l first rotations C) × IsAllowed levels forced forbidden (matching_of l first rotations C)
    there f = (c, within, record { holds = holds; avoids = avoids })
      where
        c : IsClosed l rotations C
        c = closed_back ground f.closed

        now : (p : ℕ) → p < length l.proposers → IsAllowedStay (board ground) low high forced forbidden p (stay (board ground) C p)
        now p less = (gates p (stay (board ground) C p) (omega (arith, many ground)) (stay_in ground c p less)).0 (f.opens p (omega (arith, many ground)))

        within : IsWithin l levels low high (matching_of l first rotations C)
        within p less = (omega (arith, level_is ground c p less, (now p less).above), omega (arith, level_is ground c p less, (now p less).below))

        holds : (k : ℕ) → k < length forced → let (p, level) = slice_index_or forced k (0, 0) in HasLevel levels (matching_of l first rotations C) p level
        holds k x = let w = (now (slice_index_or forced k (0, 0)).0 (range k x)).holds k x refl in has_level_back ground c (slice_index_or forced k (0, 0)).0 (slice_index_or forced k (0, 0)).1 w.0 w.1

        avoids : (k : ℕ) → k < length forbidden → let (p, level) = slice_index_or forbidden k (0, 0) in ¬ HasLevel levels (matching_of l first rotations C) p level
        avoids k x w =
            let v = has_level ground c (slice_index_or forbidden k (0, 0)).0 (slice_index_or forbidden k (0, 0)).1 w in
            (now (slice_index_or forbidden k (0, 0)).0 (matched_in ground c (slice_index_or forbidden k (0, 0)).0 v.0)).avoids k x refl v.0 v.1

    back : IsClosed l rotations C → IsWithin l levels low high (matching_of l first rotations C) → IsAllowed levels forced forbidden (matching_of l first rotations C) → Fits (board ground) g C
    back c within allowed = record { closed = closed_in ground c; opens = λ p x. opens p (omega (arith, many ground)) }
      where
        opens : (p : ℕ) → p < length l.proposers → IsOpen g p (stay (board ground) C p)
        opens p less = (gates p (stay (board ground) C p) (omega (arith, many ground)) (stay_in ground c p less)).1 (record {
          above = omega (arith, level_is ground c p less, (within p less).0);
          below = omega (arith, level_is ground c p less, (within p less).1);
          holds = λ k x e. has_level ground c p (slice_index_or forced k (0, 0)).1 (subst (λ q. HasLevel levels (matching_of l first rotations C) q (slice_index_or forced k (0, 0)).1) e (allowed.holds k x));
          avoids = λ k x e matched at. allowed.avoids k x (subst (λ q. HasLevel levels (matching_of l first rotations C) q (slice_index_or forbidden k (0, 0)).1) (sym e) (has_level_back ground c p (slice_index_or forbidden k (0, 0)).1 matched at));
        })

-- the set of a matching in question fits
record Found (l : Lists) (first : Places) (rotations : List (List (ℕ × ℕ))) (b : Board) (g : Gates) (n : Places) : Type 0 where
  set : List Bool
  closed : IsClosed l rotations set
  is : matching_of l first rotations set ≡ n
  fits : Fits b g set

-- each allowed matching has a closed set, and smaller sets have better matchings
pub least_is_best : LeastIsBest
least_is_best l levels first rotations needs moves low high forced forbidden g ground range gates = (best, none)
  where
    found_for : (n : Places) → IsStable l n → IsWithin l levels low high n → IsAllowed levels forced forbidden n → Found l first rotations (board ground) g n
    found_for n st wi al =
        let s = (sets_are_matchings l first rotations ground.market ground.chain).all n st in
        record {
          set = s.0;
          closed = s.1;
          is = s.2;
          fits = (gates_mean_conditions l levels first rotations needs moves low high forced forbidden g s.0 ground range gates).1
              (s.1, subst (IsWithin l levels low high) (sym s.2) wi, subst (IsAllowed levels forced forbidden) (sym s.2) al);
        }

    best : (C : List Bool) → IsLeast (Fits (board ground) g) C → IsLeastWithin l levels low high forced forbidden (matching_of l first rotations C)
    best C w =
        let f = (gates_mean_conditions l levels first rotations needs moves low high forced forbidden g C ground range gates).0 w.one in
        record {
          stable = (sets_are_matchings l first rotations ground.market ground.chain).stable C f.0;
          within = f.1;
          allowed = f.2;
          best = λ n st wi al p.
              let s = found_for n st wi al in
              subst (λ (m : Places). standing l.proposers (matching_of l first rotations C).proposers p ≤ standing l.proposers m.proposers p) s.is
              ((sets_are_ordered l first rotations C s.set ground.market ground.chain f.0 s.closed).0 (λ k _ m. w.least s.set s.fits k m) p);
        }

    none : ((C : List Bool) → ¬ Fits (board ground) g C) → (m : Places) → IsStable l m → IsWithin l levels low high m → ¬ IsAllowed levels forced forbidden m
    none nothing m st wi al = let s = found_for m st wi al in nothing s.set s.fits

-- by the last open stay, before it and from it on
pub gates_from_tests : GatesFromTests
gates_from_tests b low high forced forbidden g past here p a h x = elim (lt_or_le a (slice_index g.until p)) [
  | inl k ↦ ((λ w. (here p a h x k).0 w.unshut), (λ w. record { before = k; unshut = (here p a h x k).1 w }))
  | inr k ↦ ((λ w. absurd (let l = w.before in omega arith)), (λ w. absurd (past p a h x k w)))
]
