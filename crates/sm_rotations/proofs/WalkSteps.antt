-- What the walk reads and writes at each step, and that it comes to an end.
use Rattle.std.proofs.Common.{◌≡◌, ℕ, zero, suc, ◌+◌, ◌*◌, ◌<◌, ◌≤◌, inl, inr, arith, refl, sym, ap, ◌∙◌, Bool, true, false, List, [], ◌∷◌, ◌++◌, length, Option, Some, None, slice_index, set, take, replicate}
use Rattle.std.proofs.lemmas.List.{length_push, get_or-set_same, get_or-set_other, get_or_past, get_or-replicate, length-replicate, get_or-take, length-take-le}
use Rattle.std.proofs.lemmas.Nat.{mul-add-lt}
use Rattle.std.proofs.Math.Nat.{mul_comm}
use Rattle.std.proofs.lemmas.Option.{none-some}
use Rattle.sm_market.specs.Lists.{Lists, IsMarket}
use Rattle.sm_market.specs.Matching.{Places}
use Rattle.sm_market.specs.Stable.{IsStable}
use Rattle.sm_lists.proofs.Counting.{lt_or_le, eq_or_ne}
use Rattle.sm_theory.specs.Rotations.{IsSuccessor, IsExposed, eliminated}
use Rattle.sm_rotations.specs.Walking.{IsNext, IsAtWorst, IsStack, AreStackPairs, spot_of, is_finished, IsWalking, AreTakenOff, IsTopTakenOff, IsTopAtWorst, CanFollowTop, LeadsBack}
use Rattle.sm_rotations.proofs.WalkLemmas.{worst_at_end, worst_before, stack_exposed}
use Rattle.sm_rotations.proofs.StackLemmas.{walk_finishes, walk_goes_on, walk_takes_off}
use Rattle.sm_rotations.proofs.ChainingLemmas.{places_below}
use Rattle.sm_theory.proofs.Chains.Length.{sum_below, sum_below-zero, sum_below-suc, sums_le, sums_less}

false_true : ◌≡◌ {A = Bool} false true → ⊥
false_true e = grind arith

-- where the top has no successor, or the one that has it is finished, no stable matching is worse for the top
module _ {l : Lists} (h : IsMarket l) {m : Places} (s : IsStable l m) {stack : List ℕ} (top : ℕ) (last : top + 1 ≡ length stack) where
  -- without a successor the top is at its worst
  pub over_at_end : ((i : ℕ) → ¬ IsSuccessor l m (slice_index stack top) i) → IsTopAtWorst l m stack
  over_at_end none = record { top = top; last = last; worst = worst_at_end h s (slice_index stack top) none }

  -- so it is where the one that has its successor is
  pub over_before : (q : ℕ) → IsNext l m (slice_index stack top) q → IsAtWorst l m q → IsTopAtWorst l m stack
  over_before q x w = record { top = top; last = last; worst = worst_before h s (slice_index stack top) q x w }

-- at the start the stack is empty, and nobody is finished
spot_nowhere : (n p : ℕ) → spot_of (replicate n None) p ≡ None
spot_nowhere n p = elim (lt_or_le p n) [
  | inl less ↦ get_or-replicate n p None None less
  | inr more ↦ get_or_past (replicate n None) p None (omega (arith, length-replicate {A = Option ℕ} n None))
]

nobody_finished : (n p : ℕ) → is_finished (replicate n false) p ≡ false
nobody_finished n p = elim (lt_or_le p n) [
  | inl less ↦ get_or-replicate n p false false less
  | inr more ↦ get_or_past (replicate n false) p false (omega (arith, length-replicate {A = Bool} n false))
]

begins : {l : Lists} {first : Places} (n : ℕ) → n ≡ length l.proposers → IsStable l first → IsWalking l first first [] (replicate n false) [] (replicate n None)
begins {l} {first} n e s = record {
  stable = s;
  exposed = λ k less. absurd (omega arith);
  at_end = refl;
  finished_each = length-replicate {A = Bool} n false ∙ e;
  at_worst = λ p w. absurd (false_true (sym (nobody_finished n p) ∙ w));
  on_stack = record {
    spots_each = length-replicate {A = Option ℕ} n None ∙ e;
    in_range = λ k less. absurd (omega arith);
    at = λ k less. absurd (omega arith);
    inside = λ p k w. absurd (none-some _ (sym (spot_nowhere n p) ∙ w));
    only = λ p k w. absurd (none-some _ (sym (spot_nowhere n p) ∙ w));
    next = λ k less. absurd (omega arith);
  };
}

-- with an empty stack, nobody finished and no rotation found, the walk begins at a stable matching
pub walk_begins : {l : Lists} {first m : Places} {rotations : List (List (ℕ × ℕ))} {finished : List Bool} {stack : List ℕ} {spots : List (Option ℕ)} (n : ℕ) → n ≡ length l.proposers → IsStable l first
    → m ≡ first → rotations ≡ [] → finished ≡ replicate n false → stack ≡ [] → spots ≡ replicate n None → IsWalking l first m rotations finished stack spots
walk_begins n e s same no_rotations none_finished no_stack no_spots = rw (same, no_rotations, none_finished, no_stack, no_spots) (begins n e s)

-- each step goes on with the walk
module _ {l : Lists} (h : IsMarket l) {first m : Places} {rotations : List (List (ℕ × ℕ))} {finished : List Bool} {stack : List ℕ} {spots : List (Option ℕ)} (w : IsWalking l first m rotations finished stack spots) where
  -- the walk with the top taken off and finished
  pub walk_over : {rest : List ℕ} {after : List (Option ℕ)} {new : List Bool} → IsTopAtWorst l m stack → IsTopTakenOff stack rest spots after finished new → IsWalking l first m rotations new rest after
  walk_over a x =
      let same : a.top ≡ x.top = omega (arith, a.last, x.last) in
      let worst : IsAtWorst l m (slice_index stack x.top) = rw same at a.worst in
      rw (x.finished, x.spots) (walk_finishes h w x.top x.last x.short x.same worst)

  -- the walk with one more on the stack
  pub walk_on : {more : List ℕ} {after : List (Option ℕ)} {q : ℕ} → CanFollowTop l m stack spots finished q → more ≡ stack ++ q ∷ [] → after ≡ set spots q (Some (length stack)) → IsWalking l first m rotations finished more after
  walk_on {more} {after} {q} x e f = rw (e, f) (walk_goes_on h w q x.in_range x.off x.next)

  module _ {from : ℕ} (b : LeadsBack l m stack from) {pairs : List (ℕ × ℕ)} (a : AreStackPairs l m stack from pairs) where
    -- where the top leads back to a spot, the pairs from there on are exposed
    pub exposed_back : IsExposed l m pairs
    exposed_back = stack_exposed h w.stable from b.top w.on_stack a b.from_in b.last b.next

    -- the walk with these pairs taken off and eliminated
    pub walk_back : {n : Places} {grown : List (List (ℕ × ℕ))} {rest : List ℕ} {after : List (Option ℕ)} → AreTakenOff stack from spots after → rest ≡ take from stack → n ≡ eliminated l m pairs → grown ≡ rotations ++ pairs ∷ []
        → IsWalking l first n grown finished rest after
    walk_back {n} {grown} {rest} {after} t cut e f =
        rw (cut, f) (walk_takes_off h w from exposed_back a t (length-take-le from stack (omega (arith, b.from_in, b.last))) (λ j less. get_or-take from stack j 0 less) e)

-- who is finished stays so
pub is_finished-set : (finished : List Bool) (t p : ℕ) → t < length finished → is_finished finished p ≡ true → is_finished (set finished t true) p ≡ true
is_finished-set finished t p inside is = elim (eq_or_ne p t) [
  | inl e ↦ rw e (get_or-set_same finished t true false inside)
  | inr ne ↦ get_or-set_other finished t p true false ne ∙ is
]

-- who is neither finished nor on the stack counts
open_of : Bool → Option ℕ → ℕ
open_of true _ = 0
open_of false (Some _) = 0
open_of false None = 1

open_least : (b : Bool) (o : Option ℕ) → open_of b o ≤ 1
unfolding open_of
open_least true o = omega arith
open_least false (Some k) = omega arith
open_least false None = omega arith

open_finished : (b : Bool) (o : Option ℕ) → b ≡ true → open_of b o ≡ 0
unfolding open_of
open_finished true o e = refl
open_finished false o e = absurd (false_true e)

open_spot : (b : Bool) (o : Option ℕ) (k : ℕ) → o ≡ Some k → open_of b o ≡ 0
unfolding open_of
open_spot true o k e = refl
open_spot false (Some j) k e = refl
open_spot false None k e = absurd (none-some _ e)

open_free : (b : Bool) (o : Option ℕ) → b ≡ false → o ≡ None → open_of b o ≡ 1
unfolding open_of
open_free b o e f = rw (e, f) refl

open_at : List Bool → List (Option ℕ) → ℕ → ℕ
open_at finished spots p = open_of (is_finished finished p) (spot_of spots p)

sum_of_ones : (f : ℕ → ℕ) (n : ℕ) → ((p : ℕ) → f p ≤ 1) → sum_below f n ≤ n
sum_of_ones f zero le = omega (arith, sum_below-zero f)
sum_of_ones f (suc n) le = omega (arith, sum_below-suc f n, sum_of_ones f n le, le n)

-- the steps that the walk may still take
pub steps_left : Lists → Places → List Bool → List ℕ → List (Option ℕ) → ℕ
steps_left l m finished stack spots = (2 * length l.proposers + 2) * places_below l m + 2 * sum_below (open_at finished spots) (length l.proposers) + length stack

module _ {l : Lists} {m : Places} {finished : List Bool} {stack : List ℕ} {spots : List (Option ℕ)} (k : IsStack l m stack spots) where
  -- taking off and finishing the top leaves fewer steps
  pub fewer_over : {rest : List ℕ} {after : List (Option ℕ)} {new : List Bool} → length finished ≡ length l.proposers → IsTopTakenOff stack rest spots after finished new
      → steps_left l m new rest after < steps_left l m finished stack spots
  unfolding steps_left open_at
  fewer_over {rest} {after} {new} each x =
      let t : ℕ = slice_index stack x.top in
      let inside : t < length finished = omega (arith, k.in_range x.top (omega (arith, x.last))) in
      let le : (p : ℕ) → open_at new after p ≤ open_at finished spots p = λ p. elim (eq_or_ne p t) [
        | inl e ↦
            let done : is_finished new p ≡ true = rw (x.finished, e) (get_or-set_same finished t true false inside) in
            omega (arith, open_finished (is_finished new p) (spot_of after p) done)
        | inr ne ↦
            let one : is_finished new p ≡ is_finished finished p = rw x.finished (get_or-set_other finished t p true false ne) in
            let two : spot_of after p ≡ spot_of spots p = rw x.spots (get_or-set_other spots t p None None ne) in
            rw (one, two) (omega arith)
      ] in
      omega (arith, sums_le (open_at new after) (open_at finished spots) (length l.proposers) le, x.last, x.short)

  on_fewer : {q : ℕ} → CanFollowTop l m stack spots finished q → steps_left l m finished (stack ++ q ∷ []) (set spots q (Some (length stack))) < steps_left l m finished stack spots
  unfolding steps_left open_at
  on_fewer {q} x =
      let on : spot_of (set spots q (Some (length stack))) q ≡ Some (length stack) = get_or-set_same spots q (Some (length stack)) None (omega (arith, k.spots_each, x.in_range)) in
      let zero_now = open_spot (is_finished finished q) (spot_of (set spots q (Some (length stack))) q) (length stack) on in
      let one_before = open_free (is_finished finished q) (spot_of spots q) x.unfinished x.off in
      let less : open_at finished (set spots q (Some (length stack))) q < open_at finished spots q = omega (arith, zero_now, one_before) in
      let le : (p : ℕ) → open_at finished (set spots q (Some (length stack))) p ≤ open_at finished spots p = λ p. elim (eq_or_ne p q) [
        | inl e ↦ rw e (omega (arith, zero_now))
        | inr ne ↦ rw (get_or-set_other spots q p (Some (length stack)) None ne) (omega arith)
      ] in
      omega (arith, sums_less (open_at finished (set spots q (Some (length stack)))) (open_at finished spots) (length l.proposers) q le x.in_range less, length_push stack q)

  -- one more on the stack leaves fewer steps
  pub fewer_on : {more : List ℕ} {after : List (Option ℕ)} {q : ℕ} → CanFollowTop l m stack spots finished q → more ≡ stack ++ q ∷ [] → after ≡ set spots q (Some (length stack))
      → steps_left l m finished more after < steps_left l m finished stack spots
  fewer_on x e f = rw (e, f) (on_fewer x)

-- taking off a rotation and eliminating it leaves fewer steps
pub fewer_back : {l : Lists} {m : Places} {stack : List ℕ} (n : Places) (finished : List Bool) (rest : List ℕ) (spots after : List (Option ℕ)) {from : ℕ} → places_below l n < places_below l m → LeadsBack l m stack from → rest ≡ take from stack
    → steps_left l n finished rest after < steps_left l m finished stack spots
unfolding steps_left open_at
fewer_back {l} {m} {stack} n finished rest spots after {from} down b cut =
    let c : ℕ = 2 * length l.proposers + 2 in
    let few = sum_of_ones (open_at finished after) (length l.proposers) (λ p. open_least (is_finished finished p) (spot_of after p)) in
    let less : places_below l n * c + 2 * sum_below (open_at finished after) (length l.proposers) < c * places_below l m = mul-add-lt (places_below l n) c (2 * sum_below (open_at finished after) (length l.proposers)) (places_below l m) down (omega (arith, few)) in
    let turned : places_below l n * c ≡ c * places_below l n = mul_comm (places_below l n) c in
    let short : length rest ≡ from = ap length cut ∙ length-take-le from stack (omega (arith, b.from_in, b.last)) in
    omega (arith, less, turned, short, b.from_in, b.last)
