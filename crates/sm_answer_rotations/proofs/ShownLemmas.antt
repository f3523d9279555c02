-- The closed sets that are shown, and the stable matchings of the instance.
use Rattle.std.proofs.Common.{◌≡◌, ℕ, zero, suc, ◌+◌, ◌<◌, ◌≤◌, ◌==◌, ◌&&◌, cond, nat_lt, max, Bool, true, false, List, [], ◌∷◌, Option, Some, None, length, map, get_or, slice_index, slice_index_or, Contains, subst, refl, sym, ap, ◌∙◌, arith, inl, inr, ext_get_or}
use Rattle.std.specs.Option.{option_map}
use Rattle.std.proofs.lemmas.Bool.{cases_lt, eqb-true, false≢true, cases_Bool}
use Rattle.std.proofs.lemmas.List.{get_or-map, get_or_past, length-map}
use Rattle.std.proofs.lemmas.List.FromFn.{get_or-map-range_with_len, length-map-range_with_len}
use Rattle.std.proofs.lemmas.List.Sums.{passes_at_first}
use Rattle.sm_lists.proofs.RangeLemmas.{greatest_more}
use Rattle.sm_agents.specs.Written.{Written, place_of}
use Rattle.sm_instance.specs.Stable.{IsStable}
use Rattle.sm_instance.proofs.AcceptLemmas.{true_lt}
use Rattle.sm_market.specs.Lists.{row, entry, place_of as market_place}
use Rattle.sm_market.specs.Matching.{Places, held as market_held}
use Rattle.sm_market.proofs.CycleLemmas.{turn_in}
use Rattle.sm_theory.specs.Rotations.{proposer_at, reviewer_at, next_in, target_at, pair_of, is_moved, reviewer_after}
use Rattle.sm_theory.specs.Chains.{rotation_at, IsCompleteChain, AreNeedsOf}
use Rattle.sm_theory.specs.ClosedSets.{is_member, IsMember, IsClosed, worst_place, matching_of, Correspondence}
use Rattle.sm_theory.proofs.Bridge.Places.{held_map}
use Rattle.sm_theory.proofs.Bridge.Sets.{worst_more}
use Rattle.sm_theory.proofs.Chains.Rotations.{sets_are_matchings}
use Rattle.sm_seats.specs.Seating.{Seating, reviewer_of, written_place, written_of}
use Rattle.sm_seats.specs.Correspondence.{IsSeating}
use Rattle.sm_seats.proofs.SeatingLaws.{rises}
use Rattle.sm_answer_rotations.specs.RotationLines.{ShownRotations, first_at, pairs_at, first_seat, seated_rotation, rotation_number, numbers_of, shown_of}
use Rattle.sm_answer_rotations.specs.Reduction.{seat_of}
use Rattle.sm_answer_rotations.specs.RotationAnswer.{HasNumberedRotation, IsClosedIn, pairs_of, least_liked, matching_shown, IsCorrespondence}
use Rattle.sm_answer_rotations.proofs.SeatingLemmas.{place_of-list, place_of-reviewer_of}
use Rattle.sm_theory.proofs.Routes.Sets.{member_within}

-- What is shown of a chain.

-- a pair with the reviewer of its seat
abbrev reviewer_pair : Seating → (ℕ × ℕ) → (ℕ × ℕ)
reviewer_pair s pair = (pair.0, reviewer_of s pair.1)

pairs_shown : (s : Seating) (rotation : List (ℕ × ℕ)) → pairs_of (seated_rotation s rotation) ≡ map (reviewer_pair s) rotation
pairs_shown s [] = refl
pairs_shown s (pair ∷ rotation) = ap (λ (t : List (ℕ × ℕ)). reviewer_pair s pair ∷ t) (pairs_shown s rotation)

-- the pairs of a shown rotation are those of the rotation with their seats
pub pairs_at_shown : (s : Seating) (rotations : List (List (ℕ × ℕ))) (k : ℕ) → slice_index_or (map (seated_rotation s) rotations) k [] ≡ seated_rotation s (rotation_at rotations k)
pairs_at_shown s rotations k = elim (cases_lt k (length rotations)) [
  | inl here ↦ get_or-map (seated_rotation s) rotations k [] [] here
  | inr past ↦
      get_or_past (map (seated_rotation s) rotations) k [] (omega (arith, past, length-map rotations (seated_rotation s)))
      ∙ ap (seated_rotation s) (sym (get_or_past rotations k [] past))
]

-- the shown numbers of what it needs are those of its needs, from 1
pub needs_shown : (needs : List (List ℕ)) (k : ℕ) → slice_index_or (map numbers_of needs) k [] ≡ numbers_of (row needs k)
needs_shown needs k = elim (cases_lt k (length needs)) [
  | inl here ↦ get_or-map numbers_of needs k [] [] here
  | inr past ↦
      get_or_past (map numbers_of needs) k [] (omega (arith, past, length-map needs numbers_of))
      ∙ ap numbers_of (sym (get_or_past needs k [] past))
]

rotation_shown : (s : Seating) (rotations : List (List (ℕ × ℕ))) (k : ℕ) → pairs_of (slice_index_or (map (seated_rotation s) rotations) k []) ≡ map (reviewer_pair s) (rotation_at rotations k)
rotation_shown s rotations k = ap pairs_of (pairs_at_shown s rotations k) ∙ pairs_shown s (rotation_at rotations k)

-- the pair in which a shown rotation has p
pair_of-shown : (s : Seating) (rotation : List (ℕ × ℕ)) (p : ℕ) → pair_of (map (reviewer_pair s) rotation) p ≡ pair_of rotation p
pair_of-shown s [] p = refl
pair_of-shown s (pair ∷ rotation) p = elim (cases_Bool (pair.0 == p)) [
  | inl yes_ ↦ first_is (reviewer_pair s pair) (map (reviewer_pair s) rotation) yes_ ∙ sym (first_is pair rotation yes_)
  | inr no_ ↦
      let deep = pair_of-shown s rotation p in
      omega (arith, deep, later_is (reviewer_pair s pair) (map (reviewer_pair s) rotation) no_, later_is pair rotation no_)
]
  where
    first_is : (x : ℕ × ℕ) (xs : List (ℕ × ℕ)) → (x.0 == p) ≡ true → pair_of (x ∷ xs) p ≡ 0
    first_is x xs e = rw e refl

    later_is : (x : ℕ × ℕ) (xs : List (ℕ × ℕ)) → (x.0 == p) ≡ false → pair_of (x ∷ xs) p ≡ pair_of xs p + 1
    later_is x xs e = rw e (omega arith)

-- the reviewer to which a shown rotation moves the proposer of a pair
target_at-shown : (s : Seating) (rotation : List (ℕ × ℕ)) (i : ℕ) → i < length rotation → target_at (map (reviewer_pair s) rotation) i ≡ reviewer_of s (target_at rotation i)
target_at-shown s rotation i on =
    let long = length-map rotation (reviewer_pair s) in
    ap (λ n. reviewer_at (map (reviewer_pair s) rotation) (cond (i + 1 == n) 0 (i + 1))) long
    ∙ ap (λ (pair : ℕ × ℕ). pair.1) (get_or-map (reviewer_pair s) rotation (next_in rotation i) (0, 0) (0, 0) (turn_in (length rotation) i on))

-- the numbers that are shown are those of what is needed
number_in : (needed : List ℕ) (i : ℕ) → Contains needed i → Contains (numbers_of needed) (rotation_number i)
number_in needed i w = (w.0, omega (arith, w.1, length-map needed rotation_number), get_or-map rotation_number needed w.0 i (rotation_number i) w.1 ∙ ap rotation_number w.2)

record IsNumberOf (needed : List ℕ) (n : ℕ) : Type 0 where
  at : ℕ
  on : at < length needed
  is : n ≡ suc (slice_index needed at)

number_out : (needed : List ℕ) (n : ℕ) → Contains (numbers_of needed) n → IsNumberOf needed n
number_out needed n w =
    let on : w.0 < length needed = omega (arith, w.1, length-map needed rotation_number) in
    let e : n ≡ rotation_number (get_or needed w.0 0) = sym w.2 ∙ get_or-map rotation_number needed w.0 0 n on in
    record { at = w.0; on = on; is = omega arith }

member_of : (set : List Bool) (k n : ℕ) → n ≡ suc k → HasNumberedRotation set n → IsMember set k
member_of set k n e h = subst (HasNumberedRotation set) e h

-- Places on the written lists and on those of the seats.

-- the reviewer of the seat at the place a of p's list of seats stands at the place b of its written list
record IsSamePlace (s : Seating) (p a b : ℕ) : Type 0 where
  on : a < length (row s.market.proposers p)
  same : b ≡ written_place s p a

last_of_two : {w : Written} {s : Seating} {p a b c d : ℕ} → IsSeating w s → IsSamePlace s p a b → IsSamePlace s p c d → IsSamePlace s p (max a c) (max b d)
last_of_two {w} {s} {p} {a} {b} {c} {d} h x y = elim (cases_lt a c) [
  | inl less ↦
      let down = rises h p a c (omega arith) y.on in
      let m : max a c ≡ c = omega arith in
      let n : max b d ≡ d = omega (arith, down, x.same, y.same) in
      rw (m, n) y
  | inr ge ↦
      let down = rises h p c a ge x.on in
      let m : max a c ≡ a = omega arith in
      let n : max b d ≡ b = omega (arith, down, x.same, y.same) in
      rw (m, n) x
]

-- the place of the reviewer of a seat
place_there : {w : Written} {s : Seating} → IsSeating w s → (p k : ℕ) → market_place s.market.proposers p k < length (row s.market.proposers p)
    → IsSamePlace s p (market_place s.market.proposers p k) (place_of w.proposers p (reviewer_of s k))
place_there h p k on = record { on = on; same = place_of-reviewer_of h p k on }

both_true : (a b : Bool) → a && b ≡ true → b ≡ true
both_true true b e = e
both_true false b e = absurd (false≢true e)

-- one more rotation, which a set has or not
one_more : {w : Written} {s : Seating} {p a b : ℕ} → IsSeating w s → IsSamePlace s p a b → (rotation : List (ℕ × ℕ)) (member : Bool)
    → (pair_of rotation p < length rotation → market_place s.market.proposers p (target_at rotation (pair_of rotation p)) < length (row s.market.proposers p))
    → IsSamePlace s p (cond (member && nat_lt (pair_of rotation p) (length rotation)) (max a (market_place s.market.proposers p (target_at rotation (pair_of rotation p)))) a)
    (cond (member && nat_lt (pair_of (map (reviewer_pair s) rotation) p) (length (map (reviewer_pair s) rotation))) (max b (place_of w.proposers p (target_at (map (reviewer_pair s) rotation) (pair_of (map (reviewer_pair s) rotation) p)))) b)
one_more {w} {s} {p} {a} {b} h x rotation member on_list =
    let i = pair_of rotation p in
    let shown = map (reviewer_pair s) rotation in
    let here = cond (member && nat_lt i (length rotation)) (max a (market_place s.market.proposers p (target_at rotation i))) a in
    subst (λ j. IsSamePlace s p here (cond (member && nat_lt j (length shown)) (max b (place_of w.proposers p (target_at shown j))) b)) (sym (pair_of-shown s rotation p))
    (subst (λ n. IsSamePlace s p here (cond (member && nat_lt i n) (max b (place_of w.proposers p (target_at shown i))) b)) (sym (length-map rotation (reviewer_pair s)))
    (by_test (member && nat_lt i (length rotation)) refl))
  where
    by_test : (t : Bool) → member && nat_lt (pair_of rotation p) (length rotation) ≡ t
        → IsSamePlace s p (cond t (max a (market_place s.market.proposers p (target_at rotation (pair_of rotation p)))) a) (cond t (max b (place_of w.proposers p (target_at (map (reviewer_pair s) rotation) (pair_of rotation p)))) b)
    by_test true e =
        let inside = true_lt _ _ (both_true member _ e) in
        subst (λ r. IsSamePlace s p (max a (market_place s.market.proposers p (target_at rotation (pair_of rotation p)))) (max b (place_of w.proposers p r))) (sym (target_at-shown s rotation (pair_of rotation p) inside))
        (last_of_two h x (place_there h p (target_at rotation (pair_of rotation p)) (on_list inside)))
    by_test false e = x

-- A complete chain of the seats, and what its rotations need.
module _ {w : Written} {s : Seating} (h : IsSeating w s) {first : Places} {rotations : List (List (ℕ × ℕ))} (needs : List (List ℕ)) (chain : IsCompleteChain s.market first rotations)
    (needed : (k : ℕ) → k < length rotations → AreNeedsOf s.market rotations k (row needs k)) where
  -- shown closed sets are those of the chain
  closed_of_shown : (set : List Bool) → IsClosedIn (shown_of s first rotations needs) set → IsClosed s.market rotations set
  closed_of_shown set c = record {
    one_each = c.one_each ∙ length-map rotations (seated_rotation s);
    closed = λ i j a b member need.
        let there : Contains (numbers_of (row needs j)) (rotation_number i) = number_in (row needs j) i ((needed j b).all i a need) in
        let has = c.closed j (rotation_number i) member (subst (λ (x : List ℕ). Contains x (rotation_number i)) (sym (needs_shown needs j)) there) in
        member_of set i (rotation_number i) (omega arith) has;
  }

  closed_as_shown : (set : List Bool) → IsClosed s.market rotations set → IsClosedIn (shown_of s first rotations needs) set
  closed_as_shown set c = record {
    one_each = c.one_each ∙ sym (length-map rotations (seated_rotation s));
    closed = λ k n member there.
        let k_in : k < length rotations = omega (arith, member_within set k member, c.one_each) in
        let d = number_out (row needs k) n (subst (λ (x : List ℕ). Contains x n) (needs_shown needs k) there) in
        let i = slice_index (row needs k) d.at in
        let has : HasNumberedRotation set (suc i) = c.closed i k ((needed k k_in).sound d.at d.on) k_in member ((needed k k_in).each d.at d.on) in
        subst (HasNumberedRotation set) (sym d.is) has;
  }

  -- a rotation that moves p moves it to a place of its list
  moved_on_list : (p n : ℕ) → n < length rotations → pair_of (rotation_at rotations n) p < length (rotation_at rotations n)
      → market_place s.market.proposers p (target_at (rotation_at rotations n) (pair_of (rotation_at rotations n) p)) < length (row s.market.proposers p)
  moved_on_list p n g moved =
      let rotation = rotation_at rotations n in
      let i = pair_of rotation p in
      let is : proposer_at rotation i ≡ p = eqb-true _ _ (passes_at_first (λ (pair : ℕ × ℕ). pair.0 == p) rotation (0, 0) moved) in
      subst (λ q. market_place s.market.proposers q (target_at rotation i) < length (row s.market.proposers q)) is ((chain.exposed n g).next i moved).on_list

  brought : (set : List Bool) (p i n : ℕ) → n ≤ length rotations → i < length (row s.market.proposers p)
      → IsSamePlace s p (worst_place s.market rotations set p i n)
      (least_liked w (shown_of s first rotations needs) set p (written_place s p i) n)
  brought set p i zero g on = record { on = on; same = refl }
  brought set p i (suc n) g on =
      let deep = brought set p i n (omega arith) on in
      let step = one_more h deep (rotation_at rotations n) (is_member set n) (moved_on_list p n (omega arith)) in
      let mine = subst (λ (a : ℕ). IsSamePlace s p a (moved_by (map (reviewer_pair s) (rotation_at rotations n)))) (sym (worst_more s.market rotations set p i n)) step in
      let theirs = subst (λ (x : List (ℕ × ℕ)). IsSamePlace s p (worst_place s.market rotations set p i (suc n)) (moved_by x)) (sym (rotation_shown s rotations n)) mine in
      subst (λ (b : ℕ). IsSamePlace s p (worst_place s.market rotations set p i (suc n)) b)
      (sym (greatest_more (λ k. is_member set k && is_moved (shown_rotation k) p) (λ k. place_of w.proposers p (reviewer_after (shown_rotation k) p)) (written_place s p i) n)) theirs
    where
      shown_rotation : ℕ → List (ℕ × ℕ)
      shown_rotation k = pairs_of (pairs_at (shown_of s first rotations needs) k)

      before : ℕ
      before = least_liked w (shown_of s first rotations needs) set p (written_place s p i) n

      moved_by : List (ℕ × ℕ) → ℕ
      moved_by x = cond (is_member set n && is_moved x p) (max before (place_of w.proposers p (reviewer_after x p))) before

  -- the matching that is shown of a set is that of the set among the seats
  pub matching_is : (set : List Bool) → matching_shown w (shown_of s first rotations needs) set ≡ written_of s (matching_of s.market first rotations set).proposers
  matching_is set = ext_get_or None _ _ (long ∙ sym long') (λ p here. at p (omega (arith, here, long)))
    where
      shown : ShownRotations
      shown = shown_of s first rotations needs

      f : ℕ → Option ℕ
      f p = option_map (λ seat. least_liked w (shown_of s first rotations needs) set p (place_of w.proposers p seat.reviewer) (length (map (seated_rotation s) rotations))) (first_at (shown_of s first rotations needs) p)

      g : ℕ → Option ℕ
      g p = option_map (written_place s p) (market_held (matching_of s.market first rotations set).proposers p)

      long : length (matching_shown w (shown_of s first rotations needs) set) ≡ length w.proposers
      long = length-map-range_with_len _ 0 (length w.proposers)

      long' : length (written_of s (matching_of s.market first rotations set).proposers) ≡ length w.proposers
      long' = length-map-range_with_len _ 0 (length s.market.proposers) ∙ h.proposers

      -- the first seat of a proposer, by the place of its reviewer
      first_place : (p i : ℕ) → i < length (row s.market.proposers p) → place_of w.proposers p (reviewer_of s (entry s.market.proposers p i)) ≡ written_place s p i
      first_place p i on = place_of-list h p (reviewer_of s (entry s.market.proposers p i))

      by_first : (p : ℕ) (o : Option ℕ) → ((i : ℕ) → o ≡ Some i → i < length (row s.market.proposers p))
          → option_map (λ seat. least_liked w (shown_of s first rotations needs) set p (place_of w.proposers p seat.reviewer) (length rotations)) (option_map (λ i. seat_of s (entry s.market.proposers p i)) o)
          ≡ option_map (written_place s p) (option_map (λ i. worst_place s.market rotations set p i (length rotations)) o)
      by_first p None on = refl
      by_first p (Some i) on = ap (λ x. Some (least_liked w (shown_of s first rotations needs) set p x (length rotations))) (first_place p i (on i refl))
          ∙ ap Some (brought set p i (length rotations) (omega arith) (on i refl)).same

      at : (p : ℕ) → p < length w.proposers → get_or (matching_shown w (shown_of s first rotations needs) set) p None ≡ get_or (written_of s (matching_of s.market first rotations set).proposers) p None
      at p here =
          let inside : p < length s.market.proposers = omega (arith, here, h.proposers) in
          let count : length (map (seated_rotation s) rotations) ≡ length rotations = length-map rotations (seated_rotation s) in
          let seat : first_at shown p ≡ first_seat s first p = get_or-map-range_with_len (first_seat s first) 0 (length s.market.proposers) p p None inside (omega arith) in
          let place = held_map s.market.proposers (λ p. option_map (λ i. worst_place s.market rotations set p i (length rotations)) (market_held first.proposers p)) p inside in
          get_or-map-range_with_len f 0 (length w.proposers) p p None here (omega arith)
          ∙ ap (λ n. option_map (λ seat. least_liked w shown set p (place_of w.proposers p seat.reviewer) n) (first_at shown p)) count
          ∙ ap (λ o. option_map (λ seat. least_liked w shown set p (place_of w.proposers p seat.reviewer) (length rotations)) o) seat
          ∙ by_first p (market_held first.proposers p) (λ i e. chain.from_best.stable.matching.proposers.on_list p i e)
          ∙ ap (λ o. option_map (written_place s p) o) (sym place)
          ∙ sym (get_or-map-range_with_len g 0 (length s.market.proposers) p p None inside (omega arith))

-- the law that the closed sets that are shown and the stable matchings of the instance correspond
pub correspondence : {w : Written} {s : Seating} {first : Places} {rotations : List (List (ℕ × ℕ))} (needs : List (List ℕ)) → IsSeating w s → IsCompleteChain s.market first rotations
    → ((k : ℕ) → k < length rotations → AreNeedsOf s.market rotations k (row needs k)) → IsCorrespondence w (shown_of s first rotations needs)
correspondence {w} {s} {first} {rotations} needs h chain needed = record {
  stable = λ set c. subst (IsStable w) (sym (matching_is h needs chain needed set)) (h.forgotten _ (law.stable set (closed_of_shown h needs chain needed set c)));
  all = all;
  different = λ set other c d e.
      let a = closed_of_shown h needs chain needed set c in
      let b = closed_of_shown h needs chain needed other d in
      law.different set other a b
      (h.one _ _ (law.stable set a) (law.stable other b) (sym (matching_is h needs chain needed set) ∙ e ∙ matching_is h needs chain needed other));
}
  where
    law : Correspondence s.market first rotations
    law = sets_are_matchings s.market first rotations h.market chain

    all : (places : List (Option ℕ)) → IsStable w places → (set : List Bool) × IsClosedIn (shown_of s first rotations needs) set × (matching_shown w (shown_of s first rotations needs) set ≡ places)
    all places st =
        let t = h.seated places st in
        let x = law.all t.matching t.stable in (
          x.0,
          closed_as_shown h needs chain needed x.0 x.1,
          matching_is h needs chain needed x.0 ∙ ap (λ (m : Places). written_of s m.proposers) x.2 ∙ t.forgets,
        )
