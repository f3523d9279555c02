-- A rotation begun at another pair is the same cycle: exposed alike, and eliminated alike.
use Rattle.std.proofs.Common.{◌≡◌, ℕ, ◌+◌, ◌-◌, ◌<◌, ◌⊎◌, inl, inr, arith, refl, sym, ap, ◌∙◌, List, ◌++◌, length, take, drop, slice_index_or}
use Rattle.std.proofs.lemmas.List.{length-append, length-drop, length-take-le, get_or_append_left, get_or-append_right, get_or-take, get_or-drop}
use Rattle.sm_market.specs.Lists.{Lists, IsMarket}
use Rattle.sm_market.specs.Matching.{Places, IsMatching}
use Rattle.sm_market.specs.Stable.{IsStable}
use Rattle.sm_lists.proofs.Counting.{lt_or_le, eq_or_ne}
use Rattle.sm_theory.specs.Rotations.{IsExposed, proposer_at, reviewer_at, target_at, next_in, eliminated}
use Rattle.sm_theory.specs.Chains.{IsNeededBy}
use Rattle.sm_theory.proofs.Core.Cycle.{turn, turn_in, turn_last, turn_more}
use Rattle.sm_theory.proofs.Bridge.Rotation.{exposed_of, exposed_back}
use Rattle.sm_rotations.specs.Ordering.{IsTurned}
use Rattle.sm_rotations.proofs.OrderLemmas.{eliminated-same}

-- a pair of a cycle that goes from and to as pair i of another does
pub record IsLike (rotation other : List (ℕ × ℕ)) (i : ℕ) : Type 0 where
  pub at : ℕ
  pub below : at < length rotation
  pub who : proposer_at other i ≡ proposer_at rotation at
  pub has : reviewer_at other i ≡ reviewer_at rotation at
  pub goes_to : target_at other i ≡ target_at rotation at
  pub from_next : proposer_at other (next_in other i) ≡ proposer_at rotation (next_in rotation at)

-- each pair of the other cycle goes as one of this one
pub record IsAmong (rotation other : List (ℕ × ℕ)) : Type 0 where
  pub each : (i : ℕ) → i < length other → IsLike rotation other i

-- so it has no other needs and isn't needed by others
pub like_needs : {l : Lists} {early late early' late' : List (ℕ × ℕ)} → IsAmong early' early → IsAmong late' late → IsNeededBy l early late → IsNeededBy l early' late'
like_needs a b (inl w) =
    let v = a.each w.pair w.pair_in in
    let u = b.each w.other w.other_in in
    inl (record {
      pair = v.at;
      pair_in = v.below;
      other = u.at;
      other_in = u.below;
      same_proposer = sym v.who ∙ w.same_proposer ∙ u.who;
      same_reviewer = sym v.goes_to ∙ w.same_reviewer ∙ u.has;
    })
like_needs a b (inr w) =
    let v = a.each w.pair w.pair_in in
    let u = b.each w.other w.other_in in
    inr (record {
      pair = v.at;
      pair_in = v.below;
      other = u.at;
      other_in = u.below;
      behind = rw (← u.who, ← u.has, ← v.goes_to) w.behind;
      before = rw (← u.who, ← u.goes_to, ← v.goes_to) w.before;
      gains = rw (← u.who, ← v.who, ← v.goes_to) w.gains;
      loses = rw (← u.who, ← v.from_next, ← v.goes_to) w.loses;
    })

module _ (rotation : List (ℕ × ℕ)) (from : ℕ) (inside : from < length rotation) where
  front_long : length (drop from rotation) ≡ length rotation - from
  front_long = length-drop from rotation

  -- the cycle begun at another pair is as long
  pub begun_long : length (drop from rotation ++ take from rotation) ≡ length rotation
  begun_long = omega (arith, length-append (drop from rotation) (take from rotation), front_long, length-take-le from rotation (omega arith))

  -- the pair i of the one is the pair `at` of the other
  pub record Spot (i : ℕ) : Type 0 where
    pub at : ℕ
    pub below : at < length rotation
    pub pair : slice_index_or (drop from rotation ++ take from rotation) i (0, 0) ≡ slice_index_or rotation at (0, 0)
    pub is : (at ≡ from + i) ⊎ (at + length rotation ≡ from + i)

  -- each pair of the one has its spot on the other
  pub spot : (i : ℕ) → i < length rotation → Spot i
  spot i h = elim (lt_or_le (from + i) (length rotation)) [
    | inl less ↦ record {
      at = from + i;
      below = less;
      pair = get_or_append_left (drop from rotation) (take from rotation) (0, 0) i (omega (arith, front_long)) ∙ get_or-drop from rotation i (0, 0);
      is = inl refl;
    }
    | inr more ↦
        let k : ℕ = i - (length rotation - from) in
        record {
          at = k;
          below = omega arith;
          pair = get_or-append_right (drop from rotation) (take from rotation) (length rotation - from) i (0, 0) front_long (omega arith) ∙ get_or-take from rotation k (0, 0) (omega arith);
          is = inr (omega arith);
        }
  ]

  -- where the pair k is found
  record IsPlaceOf (k : ℕ) : Type 0 where
    pub at : ℕ
    pub below : at < length rotation
    pub is : (k ≡ from + at) ⊎ (k + length rotation ≡ from + at)

  spot_once : (i j : ℕ) (v : Spot i) (w : Spot j) → i < length rotation → j < length rotation → v.at ≡ w.at → i ≡ j
  spot_once i j v w h g e = elim v.is [
    | inl x ↦ elim w.is [ inl y ↦ omega arith | inr y ↦ omega arith ]
    | inr x ↦ elim w.is [ inl y ↦ omega arith | inr y ↦ omega arith ]
  ]

  same_spot : (a b i : ℕ) → a < length rotation → b < length rotation → ((a ≡ from + i) ⊎ (a + length rotation ≡ from + i)) → ((b ≡ from + i) ⊎ (b + length rotation ≡ from + i)) → a ≡ b
  same_spot a b i h g (inl x) (inl y) = omega arith
  same_spot a b i h g (inl x) (inr y) = omega arith
  same_spot a b i h g (inr x) (inl y) = omega arith
  same_spot a b i h g (inr x) (inr y) = omega arith

  turned_spot : (i : ℕ) (v : Spot i) → i < length rotation → (turn (length rotation) v.at ≡ from + turn (length rotation) i) ⊎ (turn (length rotation) v.at + length rotation ≡ from + turn (length rotation) i)
  turned_spot i v h = elim (eq_or_ne (i + 1) (length rotation)) [
    | inl e ↦ elim (eq_or_ne (v.at + 1) (length rotation)) [
      | inl f ↦ elim v.is [
        | inl x ↦ inl (omega (arith, turn_last (length rotation) i e, turn_last (length rotation) v.at f))
        | inr x ↦ absurd (omega arith)
      ]
      | inr f ↦ elim v.is [
        | inl x ↦ absurd (omega (arith, v.below))
        | inr x ↦ inl (omega (arith, turn_last (length rotation) i e, turn_more (length rotation) v.at f))
      ]
    ]
    | inr e ↦ elim (eq_or_ne (v.at + 1) (length rotation)) [
      | inl f ↦ elim v.is [
        | inl x ↦ inr (omega (arith, turn_more (length rotation) i e, turn_last (length rotation) v.at f))
        | inr x ↦ absurd (omega arith)
      ]
      | inr f ↦ elim v.is [
        | inl x ↦ inl (omega (arith, turn_more (length rotation) i e, turn_more (length rotation) v.at f))
        | inr x ↦ inr (omega (arith, turn_more (length rotation) i e, turn_more (length rotation) v.at f))
      ]
    ]
  ]

  -- the pair behind a pair has the spot behind its spot
  pub spot_next : (i : ℕ) (v : Spot i) (w : Spot (turn (length rotation) i)) → i < length rotation → w.at ≡ turn (length rotation) v.at
  spot_next i v w h = same_spot w.at (turn (length rotation) v.at) (turn (length rotation) i) w.below (turn_in (length rotation) v.at v.below) w.is (turned_spot i v h)

  who : (i : ℕ) (v : Spot i) → proposer_at (drop from rotation ++ take from rotation) i ≡ proposer_at rotation v.at
  who i v = ap (λ pair. pair.0) v.pair

  has : (i : ℕ) (v : Spot i) → reviewer_at (drop from rotation ++ take from rotation) i ≡ reviewer_at rotation v.at
  has i v = ap (λ pair. pair.1) v.pair

  goes_to : (i : ℕ) (v : Spot i) → i < length rotation → target_at (drop from rotation ++ take from rotation) i ≡ target_at rotation v.at
  goes_to i v h =
      let w = spot (turn (length rotation) i) (turn_in (length rotation) i h) in
      ap (λ n. reviewer_at (drop from rotation ++ take from rotation) (turn n i)) begun_long ∙ has (turn (length rotation) i) w ∙ ap (reviewer_at rotation) (spot_next i v w h)

  from_next : (i : ℕ) (v : Spot i) → i < length rotation → proposer_at (drop from rotation ++ take from rotation) (next_in (drop from rotation ++ take from rotation) i) ≡ proposer_at rotation (next_in rotation v.at)
  from_next i v h =
      let w = spot (turn (length rotation) i) (turn_in (length rotation) i h) in
      ap (λ n. proposer_at (drop from rotation ++ take from rotation) (turn n i)) begun_long ∙ who (turn (length rotation) i) w ∙ ap (proposer_at rotation) (spot_next i v w h)

  -- each pair of the cycle begun there goes as one of the rotation
  pub begun_among : IsAmong rotation (drop from rotation ++ take from rotation)
  begun_among = record {
    each = λ i a.
        let v = spot i (omega (arith, begun_long)) in
        let b : i < length rotation = omega (arith, begun_long) in
        record { at = v.at; below = v.below; who = who i v; has = has i v; goes_to = goes_to i v b; from_next = from_next i v b };
  }

  there : (k : ℕ) → k < length rotation → IsPlaceOf k
  there k h = elim (lt_or_le k from) [
    | inl less ↦ record { at = k + length rotation - from; below = omega arith; is = inr (omega arith) }
    | inr more ↦ record { at = k - from; below = omega arith; is = inl (omega arith) }
  ]

  -- each pair of the rotation goes as one of the cycle begun there
  pub among_begun : IsAmong (drop from rotation ++ take from rotation) rotation
  among_begun = record {
    each = λ k a.
        let w = there k a in
        let v = spot w.at w.below in
        let same : v.at ≡ k = same_spot v.at k w.at v.below a v.is w.is in
        record {
          at = w.at;
          below = omega (arith, begun_long, w.below);
          who = sym (who w.at v ∙ ap (proposer_at rotation) same);
          has = sym (has w.at v ∙ ap (reviewer_at rotation) same);
          goes_to = sym (goes_to w.at v w.below ∙ ap (target_at rotation) same);
          from_next = sym (from_next w.at v w.below ∙ ap (λ k. proposer_at rotation (next_in rotation k)) same);
        };
  }

  -- where the rotation is exposed, so is the cycle begun at another pair
  pub begun_exposed : {l : Lists} {m : Places} → IsMarket l → IsMatching l m → IsExposed l m rotation → IsExposed l m (drop from rotation ++ take from rotation)
  begun_exposed {l} {m} h f x =
      let y = exposed_of h f x in
      exposed_back h (drop from rotation ++ take from rotation) (record {
        some = omega (arith, begun_long);
        distinct = λ i j a b e.
            let v = spot i (omega (arith, begun_long)) in
            let w = spot j (omega (arith, begun_long)) in
            spot_once i j v w (omega (arith, begun_long)) (omega (arith, begun_long)) (y.distinct v.at w.at v.below w.below (sym (who i v) ∙ e ∙ who j w));
        paired = λ i a.
            let v = spot i (omega (arith, begun_long)) in
            rw (who i v, has i v) (y.paired v.at v.below);
        next = λ i a.
            let v = spot i (omega (arith, begun_long)) in
            rw (who i v, goes_to i v (omega (arith, begun_long))) (y.next v.at v.below);
      })

  -- its first proposer is that of the pair at which it begins
  pub begun_first : proposer_at (drop from rotation ++ take from rotation) 0 ≡ proposer_at rotation from
  begun_first =
      let v = spot 0 (omega arith) in
      let e : v.at ≡ from = elim v.is [ inl x ↦ omega arith | inr x ↦ absurd (omega (arith, v.below)) ] in
      who 0 v ∙ ap (proposer_at rotation) e

module _ {l : Lists} {m : Places} {rotation turned : List (ℕ × ℕ)} (h : IsMarket l) (s : IsStable l m) (x : IsExposed l m rotation) (t : IsTurned rotation turned) where
  -- the turned rotation is exposed
  pub turned_exposed : IsExposed l m turned
  turned_exposed = rw t.is (begun_exposed rotation t.from t.lowest.inside h s.matching x)

  -- it begins with the lowest-numbered proposer
  pub turned_first : proposer_at turned 0 ≡ proposer_at rotation t.from
  turned_first = rw t.is (begun_first rotation t.from t.lowest.inside)

  -- and eliminating it leaves the same matching
  pub turned_eliminated : eliminated l m turned ≡ eliminated l m rotation
  turned_eliminated = sym (eliminated-same h s x turned_exposed t.from 0 t.lowest.inside turned_exposed.not_empty turned_first)

-- what is begun at another pair needs the same, and is needed by the same
module _ {l : Lists} {early late early' late' : List (ℕ × ℕ)} (t : IsTurned early early') (v : IsTurned late late') where
  -- where one needs another, so do they turned
  pub turned_needs : IsNeededBy l early late → IsNeededBy l early' late'
  turned_needs need = like_needs (rw t.is (among_begun early t.from t.lowest.inside)) (rw v.is (among_begun late v.from v.lowest.inside)) need

  -- and the other way round
  pub needs_of_turned : IsNeededBy l early' late' → IsNeededBy l early late
  needs_of_turned need = like_needs (rw t.is (begun_among early t.from t.lowest.inside)) (rw v.is (begun_among late v.from v.lowest.inside)) need
