-- The parties of a stable partition can be paired alternately, from the lowest person of each.
use Rattle.std.proofs.Common.{◌≡◌, ◌≢◌, ℕ, zero, suc, ◌+◌, ◌-◌, ◌*◌, ◌<◌, ◌≤◌, ◌⊎◌, inl, inr, arith, refl, sym, ap, ◌∙◌, Bool, true, false, not, List, length, map, Option, None, Some}
use Rattle.std.specs.List.{range_with_len}
use Rattle.std.specs.Option.{option_map}
use Rattle.std.proofs.lemmas.Bool.{false≢true, not_from_false, not-true, not-false}
use Rattle.std.proofs.lemmas.List.{get_or_past}
use Rattle.std.proofs.lemmas.List.FromFn.{get_or-map-range_with_len, length-map-range_with_len}
use Rattle.std.proofs.lemmas.Option.{same_Some, none-some}
use Rattle.sm_lists.proofs.Counting.{lt_or_le, eq_or_ne}
use Rattle.sm_theory.specs.Rooms.{mate_of}
use Rattle.sm_theory.specs.Partitions.{successor_in, predecessor_in, after, IsStablePartition, IsLowestOfOdd, PairsAlternately}
use Rattle.sm_theory.specs.LawsRooms.{PartiesPair}
use Rattle.sm_theory.proofs.Room.Bridge.{before_next, after_inside}
use Rattle.sm_theory.proofs.Room.Spots.{Spot, spot, spot_of_lowest, same_spot, after_plus}

is_odd : ℕ → Bool
is_odd zero = false
is_odd (suc n) = not (is_odd n)

record Half (n : ℕ) : Type 0 where
  half : ℕ
  is : n ≡ 2 * half + 1

half_of : (n : ℕ) → is_odd n ≡ true → Half n
unfolding is_odd
half_of zero e = absurd (false≢true e)
half_of (suc zero) e = record { half = 0; is = omega arith }
half_of (suc (suc n)) e = let w = half_of n (twice (is_odd n) e) in record { half = suc w.half; is = omega (arith, w.is) }
  where
    twice : (b : Bool) → not (not b) ≡ true → b ≡ true
    twice true e = refl
    twice false e = e

odd_of : (half : ℕ) → is_odd (2 * half + 1) ≡ true
unfolding is_odd
odd_of zero = refl
odd_of (suc half) = let e : 2 * suc half + 1 ≡ suc (suc (2 * half + 1)) = omega arith in rw e (not_from_false _ (ap not (odd_of half)))

-- the place round the party of the mate of whom stands at a place, in a party of even or odd size
step_of : Bool → Bool → ℕ → Option ℕ
step_of false false k = Some (suc k)
step_of false true zero = None
step_of false true (suc k) = Some k
step_of true false zero = None
step_of true false (suc k) = Some k
step_of true true k = Some (suc k)

partner : ℕ → ℕ → Option ℕ
partner size k = step_of (is_odd size) (is_odd k) k

record Partner (size k j : ℕ) : Type 0 where
  below : j < size
  back : partner size j ≡ Some k
  near : (j ≡ suc k) ⊎ (k ≡ suc j)

-- who stands one further has the other evenness
odd_apart : (size k : ℕ) → is_odd size ≡ is_odd k → k < size → suc k < size
unfolding is_odd
odd_apart size k e h = elim (eq_or_ne (suc k) size) [
  | inl x ↦ absurd (other (is_odd k) (ap is_odd x ∙ e))
  | inr x ↦ omega arith
]
  where
    other : (b : Bool) → not b ≡ b → ⊥
    other true e = false≢true e
    other false e = false≢true (sym e)

partner_of : (size k j : ℕ) → k < size → partner size k ≡ Some j → Partner size k j
unfolding partner step_of is_odd
partner_of size k j h e = go (is_odd size) (is_odd k) refl refl k refl e
  where
    go : (a b : Bool) → is_odd size ≡ a → is_odd k ≡ b → (m : ℕ) → k ≡ m → step_of a b m ≡ Some j → Partner size k j
    go false false p q m x f =
        let y : suc m ≡ j = same_Some _ _ f in
        let z : j ≡ suc k = omega arith in
        record { below = rw z (odd_apart size k (p ∙ sym q) h); back = rw (z, p, q) refl; near = inl z }
    go true true p q m x f =
        let y : suc m ≡ j = same_Some _ _ f in
        let z : j ≡ suc k = omega arith in
        record { below = rw z (odd_apart size k (p ∙ sym q) h); back = rw (z, p, q) refl; near = inl z }
    go false true p q zero x f = absurd (none-some _ f)
    go true false p q zero x f = absurd (none-some _ f)
    go false true p q (suc m) x f =
        let y : m ≡ j = same_Some _ _ f in
        let z : k ≡ suc j = omega arith in
        let even : is_odd j ≡ false = not-true (is_odd j) (ap is_odd (sym z) ∙ q) in
        record { below = omega arith; back = rw (p, even) (ap Some (sym z)); near = inr z }
    go true false p q (suc m) x f =
        let y : m ≡ j = same_Some _ _ f in
        let z : k ≡ suc j = omega arith in
        let odd : is_odd j ≡ true = not-false (is_odd j) (ap is_odd (sym z) ∙ q) in
        record { below = omega arith; back = rw (p, odd) (ap Some (sym z)); near = inr z }

no_partner : (size k : ℕ) → partner size k ≡ None → (is_odd size ≡ true) × (k ≡ 0)
unfolding partner step_of is_odd
no_partner size k e = go (is_odd size) (is_odd k) refl refl k refl e
  where
    go : (a b : Bool) → is_odd size ≡ a → is_odd k ≡ b → (m : ℕ) → k ≡ m → step_of a b m ≡ None → (is_odd size ≡ true) × (k ≡ 0)
    go false false p q m x f = absurd (none-some _ (sym f))
    go true true p q m x f = absurd (none-some _ (sym f))
    go false true p q zero x f = absurd (false≢true (ap is_odd (sym x) ∙ q))
    go true false p q zero x f = (p, x)
    go false true p q (suc m) x f = absurd (none-some _ (sym f))
    go true false p q (suc m) x f = absurd (none-some _ (sym f))

first_alone : (size : ℕ) → is_odd size ≡ true → partner size 0 ≡ None
unfolding partner step_of is_odd
first_alone size e = rw e refl

module _ {rows : List (List ℕ)} {next : List ℕ} (h : IsStablePartition rows next) where
  mate_from : {x : ℕ} → Spot rows next x → Option ℕ
  mate_from s = option_map (after next s.lead) (partner s.size s.at)

  mate_from_is : {x : ℕ} (s : Spot rows next x) → mate_from s ≡ option_map (after next s.lead) (partner s.size s.at)
  unfolding mate_from
  mate_from_is s = refl

  mate_or_none : (x : ℕ) → (x < length rows) ⊎ (length rows ≤ x) → Option ℕ
  mate_or_none x (inl a) = mate_from (spot h x a)
  mate_or_none x (inr a) = None

  mates : List (Option ℕ)
  mates = map (λ x. mate_or_none x (lt_or_le x (length rows))) (range_with_len 0 (length rows))

  mates_length : length mates ≡ length rows
  unfolding mates
  mates_length = length-map-range_with_len _ 0 (length rows)

  same_mate : {x : ℕ} (s t : Spot rows next x) → mate_from s ≡ mate_from t
  unfolding mate_from
  same_mate s t =
      let w = same_spot h s t in
      ap (λ y. option_map (after next y) (partner s.size s.at)) w.lead ∙ ap (λ n. option_map (after next t.lead) (partner n s.at)) w.size ∙ ap (λ n. option_map (after next t.lead) (partner t.size n)) w.at

  mate_is : (x : ℕ) → x < length rows → (s : Spot rows next x) → mate_of mates x ≡ mate_from s
  unfolding mates mate_or_none
  mate_is x a s = get_or-map-range_with_len (λ x. mate_or_none x (lt_or_le x (length rows))) 0 (length rows) x x None a (omega arith) ∙ go (lt_or_le x (length rows))
    where
      go : (d : (x < length rows) ⊎ (length rows ≤ x)) → mate_or_none x d ≡ mate_from s
      go (inl b) = same_mate (spot h x b) s
      go (inr b) = absurd (omega arith)

  -- what a mate is: the person at the partner's place
  record Found (x y : ℕ) : Type 0 where
    inside : x < length rows
    from : Spot rows next x
    to : ℕ
    partner_is : partner from.size from.at ≡ Some to
    is : after next from.lead to ≡ y

  found : (x y : ℕ) → mate_of mates x ≡ Some y → Found x y
  found x y e = elim (lt_or_le x (length rows)) [
    | inr k ↦ absurd (none-some _ (sym (get_or_past mates x None (omega (arith, mates_length))) ∙ e))
    | inl k ↦ let s = spot h x k in go k s (partner s.size s.at) refl (sym (mate_from_is s) ∙ sym (mate_is x k s) ∙ e)
  ]
    where
      go : x < length rows → (s : Spot rows next x) (o : Option ℕ) → partner s.size s.at ≡ o → option_map (after next s.lead) (partner s.size s.at) ≡ Some y → Found x y
      go k s None p f = absurd (none-some _ (sym (ap (option_map (after next s.lead)) p) ∙ f))
      go k s (Some j) p f = record { inside = k; from = s; to = j; partner_is = p; is = same_Some _ _ (sym (ap (option_map (after next s.lead)) p) ∙ f) }

  -- the place of the mate
  spot_of_mate : {x y : ℕ} (w : Found x y) → Spot rows next y
  spot_of_mate {x} {y} w = record {
    lead = w.from.lead;
    inside = w.from.inside;
    at = w.to;
    size = w.from.size;
    below = (partner_of w.from.size w.from.at w.to w.from.below w.partner_is).below;
    is = w.is;
    returns = w.from.returns;
    apart = w.from.apart;
    lowest = w.from.lowest;
  }

  pairs : PairsAlternately rows next mates
  unfolding spot_of_mate
  pairs = record { one_each = mates_length; neighbours = neighbours; in_turn = in_turn; left_out = left_out; others = others }
    where
      neighbours : (x y : ℕ) → mate_of mates x ≡ Some y → (y ≢ x) × ((y ≡ successor_in next x) ⊎ (y ≡ predecessor_in next x))
      neighbours x y e =
          let w = found x y e in
          let v = partner_of w.from.size w.from.at w.to w.from.below w.partner_is in
          elim v.near [
            | inl k ↦ (
              (λ f. w.from.apart w.from.at w.to (omega arith) v.below (w.from.is ∙ sym f ∙ sym w.is)),
              inl (sym w.is ∙ ap (after next w.from.lead) k ∙ ap (successor_in next) w.from.is),
            )
            | inr k ↦ (
              (λ f. w.from.apart w.to w.from.at (omega arith) w.from.below (w.is ∙ f ∙ sym w.from.is)),
              inr (sym (before_next h y (rw w.is at (after_inside h w.from.lead w.to w.from.inside))) ∙ ap (predecessor_in next) (ap (successor_in next) (sym w.is) ∙ ap (after next w.from.lead) (sym k) ∙ w.from.is)),
            )
          ]

      in_turn : (x y : ℕ) → mate_of mates x ≡ Some y → mate_of mates y ≡ Some x
      in_turn x y e =
          let w = found x y e in
          let v = partner_of w.from.size w.from.at w.to w.from.below w.partner_is in
          let inside : y < length rows = rw w.is at (after_inside h w.from.lead w.to w.from.inside) in
          mate_is y inside (spot_of_mate w) ∙ mate_from_is (spot_of_mate w) ∙ ap (option_map (after next w.from.lead)) v.back ∙ ap Some w.from.is

      left_out : (x : ℕ) → IsLowestOfOdd rows next x → mate_of mates x ≡ None
      left_out x w =
          let s = spot_of_lowest h x (2 * w.odd.half + 1) w.odd.in_range (omega arith) w.odd.returns w.odd.first w.lowest in
          mate_is x w.odd.in_range s ∙ mate_from_is s ∙ ap (option_map (after next x)) (first_alone (2 * w.odd.half + 1) (odd_of w.odd.half))

      others : (x : ℕ) → x < length rows → mate_of mates x ≡ None → (successor_in next x ≡ x) ⊎ IsLowestOfOdd rows next x
      others x a e = let s = spot h x a in go s (partner s.size s.at) refl (sym (mate_from_is s) ∙ sym (mate_is x a s) ∙ e)
        where
          go : (s : Spot rows next x) (o : Option ℕ) → partner s.size s.at ≡ o → option_map (after next s.lead) (partner s.size s.at) ≡ None → (successor_in next x ≡ x) ⊎ IsLowestOfOdd rows next x
          go s (Some j) p f = absurd (none-some _ (sym f ∙ ap (option_map (after next s.lead)) p))
          go s None p f =
              let v = no_partner s.size s.at p in
              let w = half_of s.size v.0 in
              let me : s.lead ≡ x = ap (after next s.lead) (sym v.1) ∙ s.is in
              elim (eq_or_ne w.half 0) [
                | inl z ↦ let one : s.size ≡ 1 = omega (arith, w.is) in inl (ap (successor_in next) (sym me) ∙ ap (after next s.lead) (sym one) ∙ s.returns ∙ me)
                | inr z ↦ inr (record {
                  odd = record {
                    in_range = a;
                    half = w.half;
                    three = omega arith;
                    returns = rw me at (ap (after next s.lead) (sym w.is) ∙ s.returns);
                    first = λ k b c g. s.apart 0 k b (omega (arith, w.is)) (sym (ap (λ y. after next y k) me ∙ g ∙ sym me));
                  };
                  lowest = λ k. rw me at (s.lowest k);
                })
              ]

  -- who is the lowest of its party and is paired has its successor
  lowest_first : (x y : ℕ) → ((k : ℕ) → x ≤ after next x k) → mate_of mates x ≡ Some y → y ≡ successor_in next x
  lowest_first x y least e =
      let w = found x y e in
      let s = w.from in
      let left : ℕ = s.size - s.at in
      let whole : left + s.at ≡ s.size = omega (arith, s.below) in
      let round : after next x left ≡ s.lead = ap (λ z. after next z left) (sym s.is) ∙ after_plus next s.lead left s.at ∙ ap (after next s.lead) whole ∙ s.returns in
      let me : s.lead ≡ x = omega (arith, least left, round, s.lowest s.at, s.is) in
      elim (eq_or_ne s.at 0) [
        | inr more ↦ absurd (s.apart 0 s.at (omega arith) s.below (me ∙ sym s.is))
        | inl none ↦ elim (partner_of s.size s.at w.to s.below w.partner_is).near [
          | inl k ↦ sym w.is ∙ ap (after next s.lead) (k ∙ ap suc none) ∙ ap (successor_in next) me
          | inr k ↦ absurd (omega arith)
        ]
      ]

-- the parties of a stable partition can be paired alternately
pub parties_pair : PartiesPair
parties_pair rows next h = (mates h, record { alternately = pairs h; lowest_first = lowest_first h })
