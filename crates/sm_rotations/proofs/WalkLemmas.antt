-- The walk along successors: what is finished stays finished, and what is on the stack stays there.
use Rattle.std.proofs.Common.{◌≡◌, ℕ, ◌+◌, ◌<◌, ◌≤◌, inl, inr, arith, refl, sym, ap, ◌∙◌, List, length, Option, Some, slice_index}
use Rattle.std.proofs.lemmas.Option.{same_Some}
use Rattle.sm_market.specs.Lists.{Lists, place_of, IsMarket}
use Rattle.sm_market.specs.Matching.{Places, standing}
use Rattle.sm_market.specs.Stable.{IsStable}
use Rattle.sm_lists.proofs.Counting.{lt_or_le, eq_or_ne}
use Rattle.sm_market.proofs.Core.{pair_at, one_proposer, one_reviewer}
use Rattle.sm_market.proofs.Bridge.{sides_of, stand_of, stable_of, held_at}
use Rattle.sm_theory.specs.Rotations.{IsSuccessor, IsExposed, proposer_at, reviewer_at, target_at, eliminated}
use Rattle.sm_theory.proofs.Core.Cycle.{Succ, turn_last, turn_more}
use Rattle.sm_theory.proofs.Core.Rotation.{goes_down, never_up, keeps, never_worse, elim_fit}
use Rattle.sm_theory.proofs.Core.Dichotomy.{step, step_on}
use Rattle.sm_theory.proofs.Bridge.Rotation.{succ_back, exposed_of, elim_of, eliminated_stable}
use Rattle.sm_rotations.proofs.FollowingLemmas.{pair_of_held, succ_at}
use Rattle.sm_rotations.specs.Walking.{IsNext, IsAtWorst, IsStack, AreStackPairs, spot_of}
use Rattle.sm_theory.proofs.Chains.Links.{successor_once}

module _ {l : Lists} (h : IsMarket l) {m : Places} (s : IsStable l m) where
  -- a proposer is finished where it has no successor, or where the one that has its successor is finished
  pub worst_at_end : (p : ℕ) → ((i : ℕ) → ¬ IsSuccessor l m p i) → IsAtWorst l m p
  worst_at_end p none = record {
    worst = λ n sn. elim (lt_or_le (standing l.proposers m.proposers p) (standing l.proposers n.proposers p)) [
      | inr k ↦ k
      | inl k ↦ let w = step (stable_of h s) (stable_of h sn) p k in absurd (none (place_of l.proposers p w.seat) (succ_back h {m = m} p w.seat w.succ))
    ];
  }

  -- where the proposer that has p's successor is at its worst, so is p
  pub worst_before : (p q : ℕ) → IsNext l m p q → IsAtWorst l m q → IsAtWorst l m p
  worst_before p q x w = record {
    worst = λ n sn. elim (lt_or_le (standing l.proposers m.proposers p) (standing l.proposers n.proposers p)) [
      | inr k ↦ k
      | inl k ↦
          let more = step_on (stable_of h s) (stable_of h sn) (succ_at h s.matching p x.target x.next) (pair_of_held h s.matching q x.target x.has) k in
          absurd (omega (arith, more, w.worst n sn))
    ];
  }

  module _ {rotation : List (ℕ × ℕ)} (x : IsExposed l m rotation) where
    -- who is at its worst stays there once a rotation is eliminated
    pub worst_kept : (p : ℕ) → IsAtWorst l m p → IsAtWorst l (eliminated l m rotation) p
    worst_kept p w = record { worst = λ n sn. omega (arith, w.worst n sn, never_up (stable_of h s).fit (exposed_of h s.matching x) (elim_of h s.matching x) p) }

    -- whom a rotation leaves alone keeps its successor, where it leaves that one's proposer alone too
    module _ (p q : ℕ) (no_p : (i : ℕ) → i < length rotation → proposer_at rotation i ≡ p → ⊥) (no_q : (i : ℕ) → i < length rotation → proposer_at rotation i ≡ q → ⊥) (w : IsNext l m p q) where
      target_kept : Succ (sides_of l h) (stand_of l (eliminated l m rotation)) p w.target
      target_kept =
          let hm = stable_of h s in
          let z = exposed_of h s.matching x in
          let e = elim_of h s.matching x in
          let t : ℕ = w.target in
          let old = succ_at h s.matching p t w.next in
          let pair = pair_of_held h s.matching q t w.has in
          let still : standing l.reviewers (eliminated l m rotation).reviewers t ≡ standing l.reviewers m.reviewers t = keeps hm.fit z e t (λ i less is. no_q i less (one_proposer (rw is at (z.paired i less)) pair)) in
          let same : standing l.proposers (eliminated l m rotation).proposers p ≡ standing l.proposers m.proposers p = e.still p no_p in
          record {
            on = old.on;
            behind = omega (arith, old.behind);
            takes = omega (arith, old.takes);
            first = λ r a b. omega (arith, old.first r (omega (arith, a)) b, never_worse hm.fit z e r);
            matched = omega (arith, old.matched);
          }

      -- the one that has it stays the same
      pub next_kept : IsNext l (eliminated l m rotation) p q
      next_kept =
          let hm = stable_of h s in
          let e = elim_of h s.matching x in
          let pair = pair_of_held h s.matching q w.target w.has in
          let fit = elim_fit hm.fit (exposed_of h s.matching x) e in
          let same' : standing l.proposers (eliminated l m rotation).proposers q ≡ standing l.proposers m.proposers q = e.still q no_q in
          let pair' = pair_at q w.target fit (omega (arith, pair.matched)) (pair.place_is ∙ sym same') in
          record {
            target = w.target;
            next = succ_back h {m = eliminated l m rotation} p w.target target_kept;
            has = held_at l.proposers (eliminated l m rotation).proposers q pair'.matched ∙ ap Some (sym pair'.place_is);
          }

      -- and so does the place where it stands
      pub place_kept : {i : ℕ} → IsSuccessor l m p i → IsSuccessor l (eliminated l m rotation) p i
      place_kept y = let same = successor_once w.next y in rw (← same) (succ_back h {m = eliminated l m rotation} p w.target target_kept)

  -- where all are finished nothing is exposed
  pub all_worst : ((p : ℕ) → IsAtWorst l m p) → (rotation : List (ℕ × ℕ)) → ¬ IsExposed l m rotation
  all_worst w rotation x =
      let down = goes_down (stable_of h s).fit (exposed_of h s.matching x) (elim_of h s.matching x) 0 x.not_empty in
      omega (arith, down, (w (proposer_at rotation 0)).worst (eliminated l m rotation) (eliminated_stable h s x))

  -- where the top of the stack leads back to it, the pairs from there on are exposed
  pub stack_exposed : {stack : List ℕ} {spots : List (Option ℕ)} {pairs : List (ℕ × ℕ)} (from top : ℕ) → IsStack l m stack spots → AreStackPairs l m stack from pairs → from ≤ top → top + 1 ≡ length stack
      → IsNext l m (slice_index stack top) (slice_index stack from) → IsExposed l m pairs
  stack_exposed {stack} {spots} {pairs} from top k a le last back = record {
    not_empty = omega (arith, a.as_many);
    distinct = λ i j less inside e.
        let one : spot_of spots (proposer_at pairs i) ≡ Some (from + i) = rw (a.who i (omega arith)) (k.at (from + i) (omega (arith, a.as_many))) in
        let two : spot_of spots (proposer_at pairs j) ≡ Some (from + j) = rw (a.who j inside) (k.at (from + j) (omega (arith, a.as_many))) in
        let same : from + i ≡ from + j = same_Some _ _ (sym one ∙ ap (spot_of spots) e ∙ two) in
        omega arith;
    paired = a.paired;
    next = next;
  }
    where
      carried : {p q p' q' : ℕ} → p ≡ p' → q ≡ q' → IsNext l m p q → IsNext l m p' q'
      carried e f w = rw (sym e, sym f) w

      onto : (i j : ℕ) → i < length pairs → j < length pairs → IsNext l m (proposer_at pairs i) (proposer_at pairs j) → IsSuccessor l m (proposer_at pairs i) (place_of l.proposers (proposer_at pairs i) (reviewer_at pairs j))
      onto i j g g' w =
          let same : w.target ≡ reviewer_at pairs j = one_reviewer (pair_of_held h s.matching (proposer_at pairs j) w.target w.has) (pair_of_held h s.matching (proposer_at pairs j) (reviewer_at pairs j) (a.paired j g')) in
          rw same at w.next

      leads : (i j : ℕ) → i < length pairs → j < length pairs → IsNext l m (slice_index stack (from + i)) (slice_index stack (from + j)) → IsNext l m (proposer_at pairs i) (proposer_at pairs j)
      leads i j g g' w = rw (a.who i g, a.who j g') w

      next : (i : ℕ) → i < length pairs → IsSuccessor l m (proposer_at pairs i) (place_of l.proposers (proposer_at pairs i) (target_at pairs i))
      next i g = elim (eq_or_ne (i + 1) (length pairs)) [
        | inl e ↦
            let e1 : top ≡ from + i = omega (arith, a.as_many) in
            let e2 : from ≡ from + 0 = omega arith in
            let w : IsNext l m (slice_index stack (from + i)) (slice_index stack (from + 0)) = carried (ap (slice_index stack) e1) (ap (slice_index stack) e2) back in
            rw (turn_last (length pairs) i e) (onto i 0 g (omega arith) (leads i 0 g (omega arith) w))
        | inr e ↦
            let e1 : from + i + 1 ≡ from + (i + 1) = omega arith in
            let w : IsNext l m (slice_index stack (from + i)) (slice_index stack (from + (i + 1))) = carried refl (ap (slice_index stack) e1) (k.next (from + i) (omega (arith, a.as_many))) in
            rw (turn_more (length pairs) i e) (onto i (i + 1) g (omega arith) (leads i (i + 1) g (omega arith) w))
      ]
