-- How those whom a rotation moves stand before it is eliminated and after it, and what they pass.
use Rattle.std.proofs.Common.{◌≡◌, ℕ, ◌+◌, ◌<◌, ◌≤◌, inl, inr, arith, sym, ◌∙◌, List, [], ◌∷◌, ◌++◌, length, Option}
use Rattle.std.proofs.lemmas.List.{get_or_append_left, get_or_push, length_push}
use Rattle.sm_market.specs.Lists.{Lists, row, place_of, IsMarket}
use Rattle.sm_market.specs.Matching.{Places, standing, IsMatching}
use Rattle.sm_market.proofs.Bridge.{fit_of}
use Rattle.sm_lists.proofs.Counting.{eq_or_ne}
use Rattle.sm_theory.specs.Rotations.{WouldTake, IsExposed, proposer_at, reviewer_at, target_at, next_in, eliminated}
use Rattle.sm_theory.proofs.Core.Cycle.{turn, turn_in}
use Rattle.sm_theory.proofs.Core.Rotation.{new_pair}
use Rattle.sm_theory.proofs.Bridge.Rotation.{exposed_of, elim_of}
use Rattle.sm_successors.proofs.NextLemmas.{first_is}
-- whom an exposed rotation moves, passed on
pub use Rattle.sm_theory.proofs.Bridge.Rotation.{proposer_in, target_in}
use Rattle.sm_rotations.specs.Marking.{IsFoundNeed}
use Rattle.sm_rotations.specs.Footings.{footing_at, AreFootings, AreSteps, IsFoundAlong}
use Rattle.sm_market.specs.declared.footing.Footing.{Footing}

-- one more pair
pub footings_more : {l : Lists} {m : Places} {rotation : List (ℕ × ℕ)} {i : ℕ} {footings : List Footing} (f : Footing) → f.proposer ≡ standing l.proposers m.proposers (proposer_at rotation i) → f.reviewer ≡ standing l.reviewers m.reviewers (target_at rotation i)
    → AreFootings l m rotation i footings → AreFootings l m rotation (i + 1) (footings ++ f ∷ [])
footings_more {i = i} {footings} f one two a = record {
  one_each = omega (arith, length_push footings f, a.one_each);
  proposer = λ k less. elim (eq_or_ne k i) [
    | inl same ↦ rw (same, new) one
    | inr ne ↦ rw (old k (omega arith)) (a.proposer k (omega arith))
  ];
  reviewer = λ k less. elim (eq_or_ne k i) [
    | inl same ↦ rw (same, new) two
    | inr ne ↦ rw (old k (omega arith)) (a.reviewer k (omega arith))
  ];
}
  where
    new : footing_at (footings ++ f ∷ []) i ≡ f
    new = get_or_push footings f (record { proposer = 0; reviewer = 0 }) i a.one_each

    old : (k : ℕ) → k < i → footing_at (footings ++ f ∷ []) k ≡ footing_at footings k
    old k less = get_or_append_left footings (f ∷ []) (record { proposer = 0; reviewer = 0 }) k (omega (arith, a.one_each))

-- how those whom an exposed rotation moves will stand
module _ {l : Lists} (h : IsMarket l) {m : Places} (f : IsMatching l m) {rotation : List (ℕ × ℕ)} (x : IsExposed l m rotation) (i : ℕ) (a : i < length rotation) where
  -- the first behind its partner that would take a proposer of the rotation is the reviewer of the next pair
  pub taker_is : {k : ℕ} → ((j : ℕ) → standing l.proposers m.proposers (proposer_at rotation i) < j → j < k → ¬ WouldTake l m (proposer_at rotation i) j)
      → (k < length (row l.proposers (proposer_at rotation i)) → standing l.proposers m.proposers (proposer_at rotation i) < k)
      → (k < length (row l.proposers (proposer_at rotation i)) → WouldTake l m (proposer_at rotation i) k)
      → k ≡ place_of l.proposers (proposer_at rotation i) (target_at rotation i)
  taker_is passed behind takes = first_is (x.next i a) passed behind takes

  -- there a proposer will stand
  pub moves_to : standing l.proposers (eliminated l m rotation).proposers (proposer_at rotation i) ≡ place_of l.proposers (proposer_at rotation i) (target_at rotation i)
  moves_to = (elim_of h f x).moved i a

  -- and that reviewer will have the proposer
  pub rises_to : standing l.reviewers (eliminated l m rotation).reviewers (target_at rotation i) ≡ place_of l.reviewers (target_at rotation i) (proposer_at rotation i)
  rises_to = sym ((new_pair (fit_of h f) (exposed_of h f x) (elim_of h f x) i a).rank_is)

module _ {l : Lists} (h : IsMarket l) {rotation : List (ℕ × ℕ)} {before after : List Footing} (w : AreSteps l rotation before after) (i : ℕ) (a : i < length rotation) where
  -- its proposers go down from the reviewers of their pairs to the next ones
  pub from_is : (footing_at before i).proposer ≡ place_of l.proposers (proposer_at rotation i) (reviewer_at rotation i)
  from_is = w.before_are.proposer i a ∙ sym (((exposed_of h w.matching w.exposed).paired i a).place_is)

  -- a proposer comes to the reviewer of the next pair
  pub to_is : (footing_at after i).proposer ≡ place_of l.proposers (proposer_at rotation i) (target_at rotation i)
  to_is = w.after_are.proposer i a ∙ (elim_of h w.matching w.exposed).moved i a

  -- which is further down its list
  pub down : (footing_at before i).proposer < (footing_at after i).proposer
  down = let next = (exposed_of h w.matching w.exposed).next i a in omega (arith, w.before_are.proposer i a, to_is, next.behind)

  -- and these go up from their proposers to those
  pub worse_is : (footing_at before i).reviewer ≡ place_of l.reviewers (target_at rotation i) (proposer_at rotation (next_in rotation i))
  worse_is =
      let pair = (exposed_of h w.matching w.exposed).paired (turn (length rotation) i) (turn_in (length rotation) i a) in
      let rank : place_of l.reviewers (target_at rotation i) (proposer_at rotation (next_in rotation i)) ≡ standing l.reviewers w.was.reviewers (target_at rotation i) = pair.rank_is in
      w.before_are.reviewer i a ∙ sym rank

  -- that reviewer comes to the proposer
  pub better_is : (footing_at after i).reviewer ≡ place_of l.reviewers (target_at rotation i) (proposer_at rotation i)
  better_is = w.after_are.reviewer i a ∙ sym ((new_pair (fit_of h w.matching) (exposed_of h w.matching w.exposed) (elim_of h w.matching w.exposed) i a).rank_is)

  -- which is further up its list
  pub up : (footing_at after i).reviewer < (footing_at before i).reviewer
  up = let next = (exposed_of h w.matching w.exposed).next i a in omega (arith, w.before_are.reviewer i a, better_is, next.takes)

  -- before, it stands no further down than the end of its list
  pub worse_on : (footing_at before i).reviewer ≤ length (row l.reviewers (target_at rotation i))
  worse_on =
      let pair = (exposed_of h w.matching w.exposed).paired (turn (length rotation) i) (turn_in (length rotation) i a) in
      let on : standing l.reviewers w.was.reviewers (target_at rotation i) < length (row l.reviewers (target_at rotation i)) = pair.matched' in
      omega (arith, w.before_are.reviewer i a, on)

-- what they pass is what they are found to need
module _ {l : Lists} (h : IsMarket l) {rotation : List (ℕ × ℕ)} {before after : List Footing} (w : AreSteps l rotation before after) {notes : List (Option ℕ)} {marks : List (List (Option ℕ))} where
  -- what the footings find is what is found
  pub found_of_along : (i : ℕ) → IsFoundAlong rotation before after (length rotation) notes marks i → IsFoundNeed l rotation (length rotation) notes marks i
  found_of_along i (inl v) = inl v
  found_of_along i (inr v) = inr (record { pair = v.pair; pair_in = v.pair_in; between = rw (← from_is h w v.pair v.pair_in, ← to_is h w v.pair v.pair_in) v.between })

  -- and what is found the footings find
  pub along_of_found : (i : ℕ) → IsFoundNeed l rotation (length rotation) notes marks i → IsFoundAlong rotation before after (length rotation) notes marks i
  along_of_found i (inl v) = inl v
  along_of_found i (inr v) = inr (record { pair = v.pair; pair_in = v.pair_in; between = rw (from_is h w v.pair v.pair_in, to_is h w v.pair v.pair_in) v.between })
