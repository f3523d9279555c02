-- The matching of a set of rotations, by the moves of these.
use Rattle.std.proofs.Common.{◌≡◌, ◌≢◌, ℕ, zero, suc, ◌≤◌, inl, inr, arith, refl, sym, ap, ◌∙◌, Bool, true, false, List, [], length, Option, None, Some, max, eq-eqb, ne_eqb, lt-ltb, le-ltb}
use Rattle.std.specs.Prelude.{◌&&◌, nat_lt, if◌then◌else◌}
use Rattle.std.specs.Option.{option_map}
use Rattle.std.proofs.lemmas.List.{ext_get_or}
use Rattle.std.proofs.lemmas.List.FromFn.{length-map-range_with_len}
use Rattle.sm_lists.proofs.Counting.{eq_or_ne, lt_or_le}
use Rattle.sm_market.specs.Lists.{Lists, place_of}
use Rattle.sm_market.specs.Matching.{Places, held}
use Rattle.sm_theory.specs.Rotations.{proposer_at, target_at, pair_of}
use Rattle.sm_theory.specs.Chains.{rotation_at}
use Rattle.sm_theory.specs.ClosedSets.{is_member, worst_place, matching_of}
use Rattle.sm_theory.proofs.Bridge.Places.{held_map}
use Rattle.sm_theory.proofs.Bridge.Sets.{worst_more}
use Rattle.sm_check_net.specs.declared.moves.Move.{Move}
use Rattle.sm_check_net.specs.Moves.{move_at, row_of_moves, AreRotationMoves, AreMovesByRotation}
use Rattle.sm_check_net.specs.SetPlaces.{lowered, lowered_by, worst_by, AreMade}
use Rattle.sm_check_net.proofs.NetOfLemmas.{pair_is, moved}

-- the worst of the places to which moves lead p is that to which its pair moves it
module _ {l : Lists} {rotation : List (ℕ × ℕ)} {moves : List Move} (m : AreRotationMoves l rotation moves) (p v : ℕ) where
  by_pair : (n : ℕ) → n ≤ length rotation → lowered_by p moves n v ≡ (if nat_lt (pair_of rotation p) n then max v (place_of l.proposers p (target_at rotation (pair_of rotation p))) else v)
  by_pair zero few = rw (le-ltb (pair_of rotation p) 0 (omega arith)) refl
  by_pair (suc n) few = elim (eq_or_ne (proposer_at rotation n) p) [
    | inl e ↦
        let pair = pair_is m [] p 0 n (omega arith) e in
        let one = m.each n (omega arith) in
        let place : (move_at moves n).to ≡ place_of l.proposers p (target_at rotation (pair_of rotation p)) = one.to ∙ (λ t. place_of l.proposers (e t) (target_at rotation (sym pair t))) in
        let old : (if nat_lt (pair_of rotation p) n then max v (place_of l.proposers p (target_at rotation (pair_of rotation p))) else v) ≡ v = rw (le-ltb (pair_of rotation p) n (omega (arith, pair))) refl in
        ap (lowered p (move_at moves n)) (by_pair n (omega arith) ∙ old)
        ∙ rw (eq-eqb (move_at moves n).proposer p (one.proposer ∙ e), lt-ltb (pair_of rotation p) (suc n) (omega (arith, pair))) (ap (max v) place)
    | inr ne ↦
        let one = m.each n (omega arith) in
        let other : pair_of rotation p ≢ n = (λ e. ne (ap (proposer_at rotation) (sym e) ∙ moved m [] p 0 (omega (arith, e)))) in
        rw (ne_eqb (move_at moves n).proposer p (λ e. ne (sym one.proposer ∙ e))) (by_pair n (omega arith))
        ∙ ap (λ b. if b then max v (place_of l.proposers p (target_at rotation (pair_of rotation p))) else v) (same_less (pair_of rotation p) other)
  ]
    where
      same_less : (a : ℕ) → a ≢ n → nat_lt a n ≡ nat_lt a (suc n)
      same_less a ne = elim (lt_or_le a n) [
        | inl less ↦ lt-ltb a n less ∙ sym (lt-ltb a (suc n) (omega arith))
        | inr more ↦ le-ltb a n more ∙ sym (le-ltb a (suc n) (omega (arith, ne)))
      ]

worst_is : {l : Lists} {rotations : List (List (ℕ × ℕ))} {rows : List (List Move)} (members : List Bool) → AreMovesByRotation l rotations rows → (p i n : ℕ) → n ≤ length rotations
    → worst_by p rows members n i ≡ worst_place l rotations members p i n
worst_is members m p i zero few = refl
worst_is {l} {rotations} {rows} members m p i (suc n) few =
    go (is_member members n) (worst_is members m p i n (omega arith))
    ∙ sym (worst_more l rotations members p i n)
  where
    before : ℕ
    before = worst_place l rotations members p i n

    rotation : List (ℕ × ℕ)
    rotation = rotation_at rotations n

    go : (b : Bool) → worst_by p rows members n i ≡ before
        → (if b then lowered_by p (row_of_moves rows n) (length (row_of_moves rows n)) (worst_by p rows members n i) else worst_by p rows members n i)
        ≡ (if b && nat_lt (pair_of rotation p) (length rotation) then max before (place_of l.proposers p (target_at rotation (pair_of rotation p))) else before)
    go false was = was
    go true was = let one = m.each n (omega arith) in (λ t. lowered_by p (row_of_moves rows n) (one.one_each t) (was t)) ∙ by_pair one p before (length rotation) (omega arith)

-- so these are the places of the matching
pub made_is : {l : Lists} {rotations : List (List (ℕ × ℕ))} {rows : List (List Move)} {places : List (Option ℕ)} (first : Places) (members : List Bool) (n : ℕ) → length first.proposers ≡ length l.proposers → n ≡ length rotations
    → AreMovesByRotation l rotations rows → AreMade first.proposers (λ p. worst_by p rows members n) places → places ≡ (matching_of l first rotations members).proposers
made_is {l} {rotations} {rows} {places} first members n long count m made =
    ext_get_or None places (matching_of l first rotations members).proposers (made.one_each ∙ long ∙ sym (length-map-range_with_len made_at 0 (length l.proposers)))
    (λ p less. made.each p ∙ same p (held first.proposers p) ∙ sym (held_map l.proposers made_at p (omega (arith, made.one_each, long, less))))
  where
    made_at : ℕ → Option ℕ
    made_at p = option_map (λ i. worst_place l rotations members p i (length rotations)) (held first.proposers p)

    same : (p : ℕ) (o : Option ℕ) → option_map (worst_by p rows members n) o ≡ option_map (λ i. worst_place l rotations members p i (length rotations)) o
    same p None = refl
    same p (Some i) = ap Some (worst_is members m p i n (omega (arith, count)) ∙ ap (worst_place l rotations members p i) count)
