-- Rotations and their elimination, between the definitions over lists and the functions of Core.
use Rattle.std.proofs.Common.{◌≡◌, ℕ, ◌<◌, ◌⊎◌, inl, inr, arith, refl, sym, ap, ◌∙◌, List, length, map, Some, unwrap_or}
use Rattle.std.proofs.lemmas.List.FromFn.{length-map-range_with_len}
use Rattle.std.proofs.lemmas.Option.{same_Some, none-some}
use Rattle.sm_market.specs.Lists.{Lists, row, entry, place_of, IsMarket}
use Rattle.sm_market.specs.Matching.{Places, held, standing, IsMatching}
use Rattle.sm_market.specs.Stable.{IsStable}
use Rattle.sm_market.specs.Cycles.{places_after}
use Rattle.sm_market.proofs.PairingLemmas.{held_in_range, one_matching}
use Rattle.sm_market.proofs.CycleLemmas as Cycles
use Rattle.sm_market.proofs.CycleLemmas.{AreDistinct}
use Rattle.sm_lists.proofs.Counting.{lt_or_le, less_same_more}
use Rattle.sm_lists.proofs.RowLemmas.{row_in_range}
use Rattle.sm_market.proofs.Core.{Pair, pair_at}
use Rattle.sm_market.proofs.PlaceLemmas.{place_of-entry}
use Rattle.sm_lists.proofs.PlaceLemmas.{entry-place_of}
use Rattle.sm_market.proofs.Bridge.{sides_of, stand_of, fit_of, stable_of, unblocked_of, held_cases, held_at, standing-some}
use Rattle.sm_theory.specs.Lattice.{agents}
use Rattle.sm_theory.specs.Rotations.{IsSuccessor, proposer_at, reviewer_at, target_at, IsExposed, pair_of, place_after, eliminated}
use Rattle.sm_theory.proofs.Core.Cycle.{Cycle, turn, turn_in, Succ, Exposed, Moves, moves_or_not}
use Rattle.sm_theory.proofs.Core.Rotation.{Elim, elim_fit, elim_stable}
use Rattle.sm_theory.proofs.Bridge.Places.{held_map, held_map_past, standing_map, standing_map_past, row_past, seats_with, matching_with}

-- a rotation over lists as a cycle
abbrev pub cycle_of : List (ℕ × ℕ) → Cycle
cycle_of rotation = record { size = length rotation; who = proposer_at rotation; has = reviewer_at rotation }

module _ {l : Lists} (h : IsMarket l) {m : Places} where
  -- successors
  pub succ_of : IsMatching l m → (p i : ℕ) → IsSuccessor l m p i → Succ (sides_of l h) (stand_of l m) p (entry l.proposers p i)
  succ_of f p i x = record {
    on = omega (arith, here, x.on_list);
    behind = omega (arith, here, x.behind);
    takes = x.takes;
    first = λ q a b. elim (lt_or_le (place_of l.reviewers q p) (standing l.reviewers m.reviewers q)) [
      | inr k ↦ k
      | inl k ↦ absurd (x.first (place_of l.proposers p q) a (omega (arith, here, b)) (rw (entry-place_of l.proposers p q (omega (arith, here, b, x.on_list))) k))
    ];
    matched = elim (held_cases l.reviewers m.reviewers (entry l.proposers p i)) [
      | inl w ↦ absurd (grind (arith, w.held_is, x.matched))
      | inr w ↦ omega (arith, w.standing_is, f.reviewers.on_list (entry l.proposers p i) w.place w.held_is)
    ];
  }
    where
      here : place_of l.proposers p (entry l.proposers p i) ≡ i
      here = place_of-entry h.proposers p i x.on_list

  -- a successor as functions is one over lists
  pub succ_back : (p r : ℕ) → Succ (sides_of l h) (stand_of l m) p r → IsSuccessor l m p (place_of l.proposers p r)
  succ_back p r x = record {
    on_list = x.on;
    behind = x.behind;
    takes = rw here x.takes;
    first = λ j a b w.
        let at = place_of-entry h.proposers p j (omega (arith, x.on, b)) in
        omega (arith, w, x.first (entry l.proposers p j) (omega (arith, at, a)) (omega (arith, at, b)));
    matched = rw (here, held_at l.reviewers m.reviewers r x.matched) refl;
  }
    where
      here : entry l.proposers p (place_of l.proposers p r) ≡ r
      here = entry-place_of l.proposers p r x.on

  -- whom p holds, as a pair, and its successor
  pub pair_of_held : IsMatching l m → (p r : ℕ) → held m.proposers p ≡ Some (place_of l.proposers p r) → Pair (sides_of l h) (stand_of l m) p r
  pair_of_held f p r e =
      let at = standing-some l.proposers m.proposers p (place_of l.proposers p r) e in
      let on = f.proposers.on_list p (place_of l.proposers p r) e in
      pair_at p r (fit_of h f) (omega arith) (sym at)

  -- a successor over lists is one as functions
  pub succ_at : IsMatching l m → (p r : ℕ) → IsSuccessor l m p (place_of l.proposers p r) → Succ (sides_of l h) (stand_of l m) p r
  succ_at f p r x = rw (entry-place_of l.proposers p r x.on_list) at (succ_of f p (place_of l.proposers p r) x)

  -- an exposed rotation over lists is one as functions
  pub exposed_of : IsMatching l m → {rotation : List (ℕ × ℕ)} → IsExposed l m rotation → Exposed (sides_of l h) (stand_of l m) (cycle_of rotation)
  exposed_of f {rotation} x = record {
    some = x.not_empty;
    distinct = λ i j a b e. elim (less_same_more i j) [
      | inl k ↦ absurd (x.distinct i j k b e)
      | inr d ↦ elim d [ inl k ↦ k | inr k ↦ absurd (x.distinct j i k a (sym e)) ]
    ];
    paired = λ i a. pair_of_held f (proposer_at rotation i) (reviewer_at rotation i) (x.paired i a);
    next = λ i a. succ_at f (proposer_at rotation i) (target_at rotation i) (x.next i a);
  }

  -- an exposed cycle as functions is an exposed rotation over lists
  pub exposed_back : (rotation : List (ℕ × ℕ)) → Exposed (sides_of l h) (stand_of l m) (cycle_of rotation) → IsExposed l m rotation
  exposed_back rotation x = record {
    not_empty = x.some;
    distinct = λ i j a b e. omega (arith, x.distinct i j (omega arith) b e);
    paired = λ i a.
        let w = x.paired i a in
        held_at l.proposers m.proposers (proposer_at rotation i) w.matched ∙ ap Some (sym w.place_is);
    next = λ i a. succ_back (proposer_at rotation i) (target_at rotation i) (x.next i a);
  }

  -- elimination
  module _ (f : IsMatching l m) {rotation : List (ℕ × ℕ)} (x : IsExposed l m rotation) where
    distinct : AreDistinct rotation
    distinct = record { distinct = x.distinct }

    -- the pair of the proposer of pair i is pair i
    pub pair_at_is : (i : ℕ) → i < length rotation → pair_of rotation (proposer_at rotation i) ≡ i
    pair_at_is i a = Cycles.pair_at_is distinct i a

    -- a proposer in no pair gets the length of the rotation
    pub no_pair : (p : ℕ) → ((i : ℕ) → i < length rotation → proposer_at rotation i ≡ p → ⊥) → pair_of rotation p ≡ length rotation
    no_pair p none = Cycles.no_pair rotation p none

    -- a proposer of the rotation moves to its next reviewer
    pub after_in : (i : ℕ) → i < length rotation → place_after l m.proposers rotation (proposer_at rotation i) ≡ Some (place_of l.proposers (proposer_at rotation i) (target_at rotation i))
    after_in i a = Cycles.after_in distinct l m.proposers i a

    -- each other proposer stays where it is
    pub after_out : (p : ℕ) → ((i : ℕ) → i < length rotation → proposer_at rotation i ≡ p → ⊥) → place_after l m.proposers rotation p ≡ held m.proposers p
    after_out p none = Cycles.after_out l m.proposers rotation p none

    core : Exposed (sides_of l h) (stand_of l m) (cycle_of rotation)
    core = exposed_of f x

    -- whom it moves, and where to
    pub proposer_in : (i : ℕ) → i < length rotation → proposer_at rotation i < length l.proposers
    proposer_in i a = held_in_range f.proposers (proposer_at rotation i) (place_of l.proposers (proposer_at rotation i) (reviewer_at rotation i)) (x.paired i a)

    -- the reviewers to which they move are those of the market
    pub target_in : (i : ℕ) → i < length rotation → target_at rotation i < length l.reviewers
    target_in i a =
        let pair = core.paired (turn (length rotation) i) (turn_in (length rotation) i a) in
        row_in_range l.reviewers (target_at rotation i) (standing l.reviewers m.reviewers (target_at rotation i)) pair.matched'

    -- eliminating over lists is eliminating as functions
    pub elim_of : Elim (sides_of l h) (stand_of l m) (cycle_of rotation) (stand_of l (eliminated l m rotation))
    elim_of = record {
      moved = λ i a. standing_map l.proposers (place_after l m.proposers rotation) (proposer_at rotation i) (proposer_in i a) ∙ ap (λ o. unwrap_or o (length (row l.proposers (proposer_at rotation i)))) (after_in i a);
      still = λ p none. elim (lt_or_le p (length l.proposers)) [
        | inl k ↦ standing_map l.proposers (place_after l m.proposers rotation) p k ∙ ap (λ o. unwrap_or o (length (row l.proposers p))) (after_out p none)
        | inr k ↦ omega (arith, standing_map_past l.proposers (place_after l m.proposers rotation) p k, row_past l.proposers p k, (fit_of h f).left.within p)
      ];
      seats = seats_with h (map (place_after l m.proposers rotation) (agents l.proposers));
    }

  -- eliminating an exposed rotation leaves a matching
  pub eliminated_matching : (f : IsMatching l m) {rotation : List (ℕ × ℕ)} → IsExposed l m rotation → IsMatching l (eliminated l m rotation)
  eliminated_matching f {rotation} x = matching_with h (map (place_after l m.proposers rotation) (agents l.proposers)) (length-map-range_with_len _ 0 (length l.proposers)) on
      (elim_fit (fit_of h f) (exposed_of f x) (elim_of f x))
    where
      on : (p i : ℕ) → held (map (place_after l m.proposers rotation) (agents l.proposers)) p ≡ Some i → i < length (row l.proposers p)
      on p i e = elim (lt_or_le p (length l.proposers)) [
        | inr k ↦ absurd (none-some _ (sym (held_map_past l.proposers (place_after l m.proposers rotation) p k) ∙ e))
        | inl k ↦ after (sym (held_map l.proposers (place_after l m.proposers rotation) p k) ∙ e) (moves_or_not (cycle_of rotation) p)
      ]
        where
          after : place_after l m.proposers rotation p ≡ Some i → Moves (cycle_of rotation) p ⊎ ((j : ℕ) → j < length rotation → proposer_at rotation j ≡ p → ⊥) → i < length (row l.proposers p)
          after e (inl w) =
              let there : place_after l m.proposers rotation p ≡ Some (place_of l.proposers p (target_at rotation w.at)) = rw w.holds at (after_in f x w.at w.below) in
              let same : place_of l.proposers p (target_at rotation w.at) ≡ i = same_Some _ _ (sym there ∙ e) in
              let listed : place_of l.proposers p (target_at rotation w.at) < length (row l.proposers p) = rw w.holds at (x.next w.at w.below).on_list in
              omega arith
          after e (inr none) = f.proposers.on_list p i (sym (after_out f x p none) ∙ e)

  -- eliminating an exposed rotation of a stable matching leaves a stable one
  pub eliminated_stable : (s : IsStable l m) {rotation : List (ℕ × ℕ)} → IsExposed l m rotation → IsStable l (eliminated l m rotation)
  eliminated_stable s x = record { matching = eliminated_matching s.matching x; unblocked = unblocked_of h (elim_stable (stable_of h s) (exposed_of s.matching x) (elim_of s.matching x)) }

-- the matching that a turn leaves
pub turned_is : {l : Lists} {m n : Places} {rotation : List (ℕ × ℕ)} → IsMarket l → IsMatching l m → IsExposed l m rotation → IsMatching l n
    → n.proposers ≡ places_after l m.proposers rotation → n ≡ eliminated l m rotation
turned_is h f x g e = one_matching g (eliminated_matching h f x) e
