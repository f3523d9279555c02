-- The matching of a set over lists is the one of Core.
use Rattle.std.proofs.Common.{◌≡◌, ℕ, zero, suc, ◌<◌, ◌≤◌, ◌⊎◌, inl, inr, arith, refl, sym, ap, ◌∙◌, List, length, Option, Some, unwrap_or, Bool, false, lt-ltb, le-ltb, max, ◌&&◌, if◌then◌else◌}
use Rattle.std.specs.Option.{option_map}
use Rattle.std.proofs.lemmas.List.FromFn.{length-map-range_with_len}
use Rattle.std.proofs.lemmas.Option.{same_Some, none-some}
use Rattle.std.proofs.lemmas.Bool.{false_from_ne_true}
use Rattle.sm_lists.proofs.RangeLemmas.{greatest_more}
use Rattle.sm_lists.proofs.ResultLemmas.{cond-and_false}
use Rattle.sm_market.specs.Lists.{Lists, row, place_of, IsMarket}
use Rattle.sm_market.specs.Matching.{Places, held, standing}
use Rattle.sm_market.specs.Stable.{IsStable}
use Rattle.sm_lists.proofs.Counting.{lt_or_le, eq_or_ne, Decided}
use Rattle.sm_market.proofs.Bridge.{sides_of, stand_of, fit_of, stable_of, held_cases}
use Rattle.sm_theory.specs.Rotations.{proposer_at, target_at, pair_of, is_moved, reviewer_after}
use Rattle.sm_theory.specs.Chains.{rotation_at, stage, IsCompleteChain}
use Rattle.sm_theory.specs.ClosedSets.{is_member, IsMember, IsClosed, worst_place, matching_of}
use Rattle.sm_theory.proofs.Core.Cycle.{Moves, moves_or_not}
use Rattle.sm_theory.proofs.Core.Chain.{IsOf, Attained, moved_to, way_of}
use Rattle.sm_theory.proofs.Core.Closed.{Built, built, of_more}
use Rattle.sm_theory.proofs.Core.Seats.{same_stable}
use Rattle.sm_theory.proofs.Bridge.Places.{held_map, held_map_past, standing_map, standing_map_past, row_past, seats_with, stable_with}
use Rattle.sm_theory.proofs.Bridge.Rotation.{cycle_of, pair_at_is, no_pair}
use Rattle.sm_theory.proofs.Bridge.Chain.{chain_of, stage_stable, closed_of, Decided-member}

-- the worst place with one more rotation
pub worst_more : (l : Lists) (rotations : List (List (ℕ × ℕ))) (set : List Bool) (p i n : ℕ) → worst_place l rotations set p i (suc n)
    ≡ (if is_member set n && is_moved (rotation_at rotations n) p then max (worst_place l rotations set p i n) (place_of l.proposers p (reviewer_after (rotation_at rotations n) p)) else worst_place l rotations set p i n)
worst_more l rotations set p = greatest_more (λ k. is_member set k && is_moved (rotation_at rotations k) p) (λ k. place_of l.proposers p (reviewer_after (rotation_at rotations k) p))

-- in the matching of a set, who is unmatched at first stays so, and each other one has its worst place
abbrev Cases : Lists → Places → List (List (ℕ × ℕ)) → List Bool → ℕ → Type 0
Cases l first rotations set p =
    ((standing l.proposers first.proposers p ≡ length (row l.proposers p)) × (standing l.proposers (matching_of l first rotations set).proposers p ≡ length (row l.proposers p)))
    ⊎ (standing l.proposers (matching_of l first rotations set).proposers p ≡ worst_place l rotations set p (standing l.proposers first.proposers p) (length rotations))

module _ {l : Lists} (h : IsMarket l) {first : Places} {rotations : List (List (ℕ × ℕ))} (chain : IsCompleteChain l first rotations) (set : List Bool) where
  -- one more rotation: a member that moves p, one that doesn't move it, one that isn't a member
  worst_in : (p i n : ℕ) → n < length rotations → IsMember set n → (w : Moves (cycle_of (rotation_at rotations n)) p)
      → worst_place l rotations set p i (suc n) ≡ max (worst_place l rotations set p i n) (standing l.proposers (stage l first rotations (suc n)).proposers p)
  worst_in p i n g member w =
      let pair : pair_of (rotation_at rotations n) p ≡ w.at = rw w.holds at (pair_at_is h (stage_stable h chain n (omega arith)).matching (chain.exposed n g) w.at w.below) in
      let there : standing l.proposers (stage l first rotations (suc n)).proposers p ≡ place_of l.proposers p (target_at (rotation_at rotations n) w.at) = rw w.holds at (((chain_of h chain).onward n g).moved w.at w.below) in
      worst_more l rotations set p i n ∙ rw (pair, lt-ltb w.at (length (rotation_at rotations n)) w.below, member) (ap (max (worst_place l rotations set p i n)) (sym there))

  worst_out : (p i n : ℕ) → n < length rotations → ((j : ℕ) → j < length (rotation_at rotations n) → proposer_at (rotation_at rotations n) j ≡ p → ⊥) → worst_place l rotations set p i (suc n) ≡ worst_place l rotations set p i n
  worst_out p i n g none =
      worst_more l rotations set p i n
      ∙ rw (no_pair h (stage_stable h chain n (omega arith)).matching (chain.exposed n g) p none, le-ltb (length (rotation_at rotations n)) (length (rotation_at rotations n)) (omega arith))
      (cond-and_false (is_member set n) _ _)

  worst_not : (p i n : ℕ) → (IsMember set n → ⊥) → worst_place l rotations set p i (suc n) ≡ worst_place l rotations set p i n
  worst_not p i n out = let e : is_member set n ≡ false = false_from_ne_true (is_member set n) out in worst_more l rotations set p i n ∙ rw e refl

  -- a member among the first n that moves p to where it stands in the end
  record Last (p i n : ℕ) : Type 0 where
    at : ℕ
    below : at < n
    member : IsMember set at
    moves : Moves (cycle_of (rotation_at rotations at)) p
    is : worst_place l rotations set p i n ≡ standing l.proposers (stage l first rotations (suc at)).proposers p

  -- what the first n rotations make of p's place
  record Worst (p i n : ℕ) : Type 0 where
    low : i ≤ worst_place l rotations set p i n
    reach : (k : ℕ) → k < n → IsMember set k → Moves (cycle_of (rotation_at rotations k)) p → standing l.proposers (stage l first rotations (suc k)).proposers p ≤ worst_place l rotations set p i n
    attained : (worst_place l rotations set p i n ≡ i) ⊎ Last p i n

  -- a rotation that changes nothing
  same_worst : (p i n : ℕ) → (IsMember set n → Moves (cycle_of (rotation_at rotations n)) p → ⊥) → worst_place l rotations set p i (suc n) ≡ worst_place l rotations set p i n → Worst p i n → Worst p i (suc n)
  same_worst p i n idle e w = record {
    low = omega (arith, e, w.low);
    reach = λ k g member mv. elim (eq_or_ne k n) [
      | inl x ↦ absurd (idle (rw x at member) (rw x at mv))
      | inr x ↦ omega (arith, e, w.reach k (omega arith) member mv)
    ];
    attained = elim w.attained [
      | inl x ↦ inl (e ∙ x)
      | inr x ↦ inr (record { at = x.at; below = omega (arith, x.below); member = x.member; moves = x.moves; is = e ∙ x.is })
    ];
  }

  worst : (p i n : ℕ) → n ≤ length rotations → Worst p i n
  worst p i zero g = record { low = omega arith; reach = λ k x. absurd (omega arith); attained = inl refl }
  worst p i (suc n) g = go (worst p i n (omega arith)) (Decided-member set n) (moves_or_not (cycle_of (rotation_at rotations n)) p)
    where
      go : Worst p i n → Decided (IsMember set n) → Moves (cycle_of (rotation_at rotations n)) p ⊎ ((j : ℕ) → j < length (rotation_at rotations n) → proposer_at (rotation_at rotations n) j ≡ p → ⊥) → Worst p i (suc n)
      go w (inr out) _ = same_worst p i n (λ member _. out member) (worst_not p i n out) w
      go w (inl member) (inr none) = same_worst p i n (λ _ mv. none mv.at mv.below mv.holds) (worst_out p i n (omega arith) none) w
      go w (inl member) (inl mv) = record {
        low = omega (arith, e, w.low);
        reach = λ k x member' mv'. elim (eq_or_ne k n) [
          | inl y ↦ omega (arith, e, ap (λ j. standing l.proposers (stage l first rotations (suc j)).proposers p) y)
          | inr y ↦ omega (arith, e, w.reach k (omega arith) member' mv')
        ];
        attained = elim (lt_or_le (standing l.proposers (stage l first rotations (suc n)).proposers p) (worst_place l rotations set p i n)) [
          | inl less ↦ elim w.attained [
            | inl x ↦ inl (omega (arith, e, x))
            | inr x ↦ inr (record { at = x.at; below = omega (arith, x.below); member = x.member; moves = x.moves; is = omega (arith, e, x.is) })
          ]
          | inr more ↦ inr (record { at = n; below = omega arith; member = member; moves = mv; is = omega (arith, e) })
        ];
      }
        where
          e : worst_place l rotations set p i (suc n) ≡ max (worst_place l rotations set p i n) (standing l.proposers (stage l first rotations (suc n)).proposers p)
          e = worst_in p i n (omega arith) member mv

  abbrev place : ℕ → Option ℕ
  place p = option_map (λ i. worst_place l rotations set p i (length rotations)) (held first.proposers p)

  -- the matching of a set over lists is that of its members as functions
  pub set_is_of : IsOf (length rotations) (λ k. stand_of l (stage l first rotations k)) (λ k. cycle_of (rotation_at rotations k)) (IsMember set) (stand_of l (matching_of l first rotations set))
  set_is_of = record { low = λ p. low p (cases p); reach = λ p k g member mv. reach p k g member mv (cases p); attained = λ p. attained p (cases p) }
    where
      cases : (p : ℕ) → Cases l first rotations set p
      cases p = elim (lt_or_le p (length l.proposers)) [
        | inl k ↦ elim (held_cases l.proposers first.proposers p) [
          | inl w ↦ inl (w.standing_is, standing_map l.proposers place p k ∙ ap (λ o. unwrap_or (option_map (λ i. worst_place l rotations set p i (length rotations)) o) (length (row l.proposers p))) w.held_is)
          | inr w ↦ inr (standing_map l.proposers place p k ∙ ap (λ o. unwrap_or (option_map (λ i. worst_place l rotations set p i (length rotations)) o) (length (row l.proposers p))) w.held_is ∙ ap (λ i. worst_place l rotations set p i (length rotations)) (sym w.standing_is))
        ]
        | inr k ↦ inl (omega (arith, row_past l.proposers p k, (fit_of h chain.from_best.stable.matching).left.within p), standing_map_past l.proposers place p k ∙ sym (row_past l.proposers p k))
      ]

      low : (p : ℕ) → Cases l first rotations set p → standing l.proposers first.proposers p ≤ standing l.proposers (matching_of l first rotations set).proposers p
      low p (inl w) = omega (arith, w.0, w.1)
      low p (inr w) = omega (arith, w, (worst p (standing l.proposers first.proposers p) (length rotations) (omega arith)).low)

      reach : (p k : ℕ) → k < length rotations → IsMember set k → Moves (cycle_of (rotation_at rotations k)) p → Cases l first rotations set p → standing l.proposers (stage l first rotations (suc k)).proposers p ≤ standing l.proposers (matching_of l first rotations set).proposers p
      reach p k g member mv (inl w) = omega (arith, w.1, (stable_of h (stage_stable h chain (suc k) g)).fit.left.within p)
      reach p k g member mv (inr w) = omega (arith, w, (worst p (standing l.proposers first.proposers p) (length rotations) (omega arith)).reach k g member mv)

      attained : (p : ℕ) → Cases l first rotations set p → (standing l.proposers (matching_of l first rotations set).proposers p ≡ standing l.proposers first.proposers p)
          ⊎ Attained (length rotations) (λ k. stand_of l (stage l first rotations k)) (λ k. cycle_of (rotation_at rotations k)) (IsMember set) (stand_of l (matching_of l first rotations set)) p
      attained p (inl w) = inl (omega (arith, w.0, w.1))
      attained p (inr w) = elim (worst p (standing l.proposers first.proposers p) (length rotations) (omega arith)).attained [
        | inl x ↦ inl (w ∙ x)
        | inr x ↦ inr (record { at = x.at; below = x.below; member = x.member; moves = x.moves; is = w ∙ x.is })
      ]

  on_list : (p i : ℕ) → held (matching_of l first rotations set).proposers p ≡ Some i → i < length (row l.proposers p)
  on_list p i e = elim (lt_or_le p (length l.proposers)) [
    | inr k ↦ absurd (none-some _ (sym (held_map_past l.proposers place p k) ∙ e))
    | inl k ↦ elim (held_cases l.proposers first.proposers p) [
      | inl w ↦ absurd (none-some _ (sym (ap (option_map (λ i. worst_place l rotations set p i (length rotations))) w.held_is) ∙ sym (held_map l.proposers place p k) ∙ e))
      | inr w ↦ rw (same_Some _ _ (sym (ap (option_map (λ i. worst_place l rotations set p i (length rotations))) w.held_is) ∙ sym (held_map l.proposers place p k) ∙ e)) at
          (below w.place (chain.from_best.stable.matching.proposers.on_list p w.place w.held_is) (worst p w.place (length rotations) (omega arith)).attained)
    ]
  ]
    where
      below : (i : ℕ) → i < length (row l.proposers p) → (worst_place l rotations set p i (length rotations) ≡ i) ⊎ Last p i (length rotations) → worst_place l rotations set p i (length rotations) < length (row l.proposers p)
      below i g (inl x) = omega arith
      below i g (inr x) =
          let v = moved_to (way_of (chain_of h chain)) x.at x.moves.at x.below x.moves.below in
          let u : standing l.proposers (stage l first rotations (suc x.at)).proposers p < length (row l.proposers p) = rw x.moves.holds at v.matched in
          omega (arith, x.is)

  -- the matching of a closed set is stable
  pub set_stable : IsClosed l rotations set → IsStable l (matching_of l first rotations set)
  set_stable closed = stable_with h (matching_of l first rotations set).proposers (length-map-range_with_len _ 0 (length l.proposers)) on_list
      (same_stable w.stable (λ p. omega (arith, of_more (chain_of h chain) set_is_of w.of (λ k _ x. x) p, of_more (chain_of h chain) w.of set_is_of (λ k _ x. x) p)) (seats_with h (matching_of l first rotations set).proposers))
    where
      w : Built (sides_of l h) (length rotations) (λ k. stand_of l (stage l first rotations k)) (λ k. cycle_of (rotation_at rotations k)) (IsMember set)
      w = built (chain_of h chain) (closed_of h closed) (λ k _. Decided-member set k)
