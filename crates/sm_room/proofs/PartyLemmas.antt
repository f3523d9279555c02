-- Pairing one party, backwards from its lowest.
use Rattle.std.proofs.Common.{◌≡◌, ◌≢◌, ℕ, zero, suc, ◌+◌, ◌-◌, ◌*◌, ◌<◌, ◌≤◌, ◌⊎◌, inl, inr, arith, refl, sym, ap, ◌∙◌, List, length, set, Option, Some, None}
use Rattle.std.proofs.lemmas.List.{get_or-set_same, get_or-set_other, length-set}
use Rattle.std.proofs.lemmas.Option.{none-some}
use Rattle.sm_lists.proofs.Counting.{eq_or_ne}
use Rattle.sm_theory.specs.Rooms.{mate_of}
use Rattle.sm_theory.specs.Partitions.{successor_in, predecessor_in, after, IsStablePartition}
use Rattle.sm_theory.proofs.Room.Bridge.{has_before, HasBefore}
use Rattle.sm_theory.proofs.Room.Spots.{after_plus}
use Rattle.sm_room.specs.Pairing.{IsPaired, ArePaired, IsPairing, IsPartyPaired}

shift : (next : List ℕ) (z y : ℕ) → successor_in next z ≡ y → (k : ℕ) → after next z (suc k) ≡ after next y k
shift next z y e zero = e
shift next z y e (suc k) = ap (successor_in next) (shift next z y e k)

module _ {rows : List (List ℕ)} {next : List ℕ} {x : ℕ} {old : List (Option ℕ)} (h : IsStablePartition rows next) (g : ArePaired rows next x old) where
  -- the pairing of a party begins at the person before its lowest
  pub pairing_begins : x < length rows → mate_of old x ≡ None → IsPairing rows next old x (predecessor_in next x) old
  pairing_begins there e =
      let w = has_before h x there in
      let y : ℕ = predecessor_in next x in
      let f = g.untouched y w.inside (omega (arith, w.next_is)) (ap (mate_of old) w.next_is ∙ e) in
      record {
        half = 0;
        one_each = g.one_each;
        here = w.inside;
        reaches = let o : 2 * 0 + 1 ≡ 1 = omega arith in ap (after next y) o ∙ w.next_is;
        apart = λ i a b. absurd (omega (arith, a, b));
        above = λ i b. let z : i ≡ 0 = omega (arith, b) in rw z f.0;
        fresh = λ i b. let z : i ≡ 0 = omega (arith, b) in rw z f.1;
        paired = λ i a b. absurd (omega (arith, a, b));
        same = λ u. inl refl;
      }

  module _ {y : ℕ} {now : List (Option ℕ)} (w : IsPairing rows next old x y now) where
    abbrev d : ℕ
    d = 2 * w.half + 1

    -- the lowest is met again: it stays alone
    pub party_odd : y ≡ x → IsPartyPaired rows next old x now
    party_odd e = rw e at here
      where
        here : IsPartyPaired rows next old y now
        here = record {
          one_each = w.one_each;
          size = d;
          some = omega arith;
          returns = w.reaches ∙ sym e;
          apart = λ i a b f. w.apart i a b (f ∙ e);
          above = λ i b. let le = w.above i b in omega (arith, le, e);
          fresh = w.fresh;
          paired = w.paired;
          same = λ u. elim (w.same u) [ inl s ↦ inl s | inr v ↦ inr (v.0, v.2, v.3, (let p = w.paired v.0 v.1 v.2 in rw v.3 at p)) ];
          half = w.half;
          lead = inr (
            refl,
            elim (w.same y) [
              | inl s ↦ s ∙ w.fresh 0 (omega arith)
              | inr v ↦ absurd (w.apart v.0 v.1 v.2 (v.3 ∙ e))
            ],
          );
        }

    -- y doesn't come again before the lowest
    no_return : y ≢ x → (s : ℕ) → 0 < s → s ≤ d → after next y s ≡ y → ⊥
    no_return ne s a b e = elim (eq_or_ne s d) [
      | inl f ↦ ne (sym e ∙ ap (after next y) f ∙ w.reaches)
      | inr f ↦
          let rest : ℕ = d - s in
          let sum : rest + s ≡ d = omega (arith, b) in
          w.apart rest (omega (arith, b, f)) (omega (arith, a, b)) (ap (λ z. after next z rest) (sym e) ∙ after_plus next y rest s ∙ ap (after next y) sum ∙ w.reaches)
    ]

    -- one more pair: y and z, who is before it
    module _ (ne : y ≢ x) where
      abbrev z : ℕ
      z = predecessor_in next y

      -- z is a person
      pub z_there : z < length rows
      z_there = (has_before h y w.here).inside

      z_next : successor_in next z ≡ y
      z_next = (has_before h y w.here).next_is

      z_free : (x ≤ z) × (mate_of old z ≡ None)
      z_free = let le = w.above 0 (omega arith) in g.untouched z z_there (omega (arith, z_next, le)) (ap (mate_of old) z_next ∙ w.fresh 0 (omega arith))

      -- y has no mate yet
      pub y_none : mate_of now y ≡ None
      y_none = elim (w.same y) [
        | inl s ↦ s ∙ w.fresh 0 (omega arith)
        | inr v ↦ absurd (no_return ne v.0 v.1 (let l = v.2 in omega arith) v.3)
      ]

      -- nor has z
      pub z_none : mate_of now z ≡ None
      z_none = elim (w.same z) [
        | inl s ↦ s ∙ z_free.1
        | inr v ↦ absurd (no_return ne (suc v.0) (omega arith) (let l = v.2 in omega arith) (ap (successor_in next) v.3 ∙ z_next))
      ]

      -- and z is another person than y
      pub apart : z ≢ y
      apart e = no_return ne 1 (omega arith) (omega arith) (ap (successor_in next) (sym e) ∙ z_next)

      abbrev new : List (Option ℕ)
      new = set (set now y (Some z)) z (Some y)

      long : length new ≡ length rows
      long = length-set (set now y (Some z)) z (Some y) ∙ length-set now y (Some z) ∙ w.one_each

      at_z : mate_of new z ≡ Some y
      at_z = get_or-set_same (set now y (Some z)) z (Some y) None (omega (arith, length-set now y (Some z), w.one_each, z_there))

      at_y : mate_of new y ≡ Some z
      at_y = get_or-set_other (set now y (Some z)) z y (Some y) None (λ e. apart (sym e)) ∙ get_or-set_same now y (Some z) None (omega (arith, w.one_each, w.here))

      at_other : (u : ℕ) → u ≢ y → u ≢ z → mate_of new u ≡ mate_of now u
      at_other u a b = get_or-set_other (set now y (Some z)) z u (Some y) None b ∙ get_or-set_other now y u (Some z) None a

      some_other : (u v : ℕ) → mate_of now u ≡ Some v → mate_of new u ≡ Some v
      some_other u v e = at_other u (λ f. none-some _ (sym y_none ∙ ap (mate_of now) (sym f) ∙ e)) (λ f. none-some _ (sym z_none ∙ ap (mate_of now) (sym f) ∙ e)) ∙ e

      keep : (u : ℕ) → IsPaired next now u → IsPaired next new u
      keep u p = record { mate = p.mate; is = some_other u p.mate p.is; back = some_other p.mate u p.back; apart = p.apart; near = p.near }

      paired_y : IsPaired next new y
      paired_y = record { mate = z; is = at_y; back = at_z; apart = apart; near = inr refl }

      paired_z : IsPaired next new z
      paired_z = record { mate = y; is = at_z; back = at_y; apart = λ e. apart (sym e); near = inl (sym z_next) }

      -- from z on, one step more
      z_above : (i : ℕ) → i < suc d → x ≤ after next z i
      z_above zero b = z_free.0
      z_above (suc i) b = let le = w.above i (omega (arith, b)) in omega (arith, shift next z y z_next i, le)

      z_fresh : (i : ℕ) → i < suc d → mate_of old (after next z i) ≡ None
      z_fresh zero b = z_free.1
      z_fresh (suc i) b = ap (mate_of old) (shift next z y z_next i) ∙ w.fresh i (omega (arith, b))

      z_apart : (i : ℕ) → 0 < i → i < suc d → after next z i ≢ x
      z_apart zero a b e = omega arith
      z_apart (suc zero) a b e = ne (sym z_next ∙ e)
      z_apart (suc (suc i)) a b e = w.apart (suc i) (omega arith) (omega (arith, b)) (sym (shift next z y z_next (suc i)) ∙ e)

      z_paired : (i : ℕ) → i < suc d → IsPaired next new (after next z i)
      z_paired zero b = paired_z
      z_paired (suc zero) b = rw z_next paired_y
      z_paired (suc (suc i)) b = let e = shift next z y z_next (suc i) in rw e (keep _ (w.paired (suc i) (omega arith) (omega (arith, b))))

      z_same : (u : ℕ) → (mate_of new u ≡ mate_of old u) ⊎ ((i : ℕ) × (i < suc d) × (after next z i ≡ u))
      z_same u = elim (eq_or_ne u z) [
        | inl e ↦ inr (0, omega arith, sym e)
        | inr a ↦ elim (eq_or_ne u y) [
          | inl e ↦ inr (1, omega arith, z_next ∙ sym e)
          | inr b ↦ elim (w.same u) [
            | inl s ↦ inl (at_other u b a ∙ s)
            | inr v ↦ inr (suc v.0, (let l = v.2 in omega arith), shift next z y z_next v.0 ∙ v.3)
          ]
        ]
      ]

      z_reaches : after next z (suc d) ≡ x
      z_reaches = shift next z y z_next d ∙ w.reaches

      -- the lowest is the other of the pair
      pub party_even : z ≡ x → IsPartyPaired rows next old x new
      party_even e = record {
        one_each = long;
        size = suc d;
        some = omega arith;
        returns = ap (λ u. after next u (suc d)) (sym e) ∙ z_reaches;
        apart = λ i a b f. z_apart i a b (ap (λ u. after next u i) e ∙ f);
        above = λ i b. let le = z_above i b in let s : after next z i ≡ after next x i = ap (λ u. after next u i) e in omega (arith, s, le);
        fresh = λ i b. ap (λ u. mate_of old (after next u i)) (sym e) ∙ z_fresh i b;
        paired = λ i a b. paired_x i b;
        same = λ u. elim (z_same u) [
          | inl s ↦ inl s
          | inr v ↦ let is : after next x v.0 ≡ u = ap (λ t. after next t v.0) (sym e) ∙ v.2 in inr (v.0, v.1, is, (let p = z_paired v.0 v.1 in rw v.2 at p))
        ];
        half = suc w.half;
        lead = inl (omega arith, ap (mate_of new) (sym e) ∙ at_z ∙ ap Some (sym z_next ∙ ap (successor_in next) e));
      }
        where
          paired_x : (i : ℕ) → i < suc d → IsPaired next new (after next x i)
          paired_x i b = let s : after next x i ≡ after next z i = ap (λ u. after next u i) (sym e) in rw s (z_paired i b)

      -- and else it goes on at the one before z
      pub pairing_goes_on : z ≢ x → IsPairing rows next old x (predecessor_in next z) new
      pairing_goes_on nz = record {
        half = suc w.half;
        one_each = long;
        here = b.inside;
        reaches = ap (after next v) more ∙ shift next v z b.next_is (suc d) ∙ z_reaches;
        apart = λ i a l. v_apart i a (omega (arith, l));
        above = λ i l. v_above i (omega (arith, l));
        fresh = λ i l. v_fresh i (omega (arith, l));
        paired = λ i a l. v_paired i a (omega (arith, l));
        same = λ u. elim (z_same u) [
          | inl s ↦ inl s
          | inr t ↦ inr (suc t.0, omega arith, (let l = t.1 in omega arith), shift next v z b.next_is t.0 ∙ t.2)
        ];
      }
        where
          b : HasBefore h z
          b = has_before h z z_there

          v : ℕ
          v = predecessor_in next z

          more : 2 * suc w.half + 1 ≡ suc (suc d)
          more = omega arith

          free : (x ≤ v) × (mate_of old v ≡ None)
          free = let le = z_free.0 in g.untouched v b.inside (omega (arith, b.next_is, le)) (ap (mate_of old) b.next_is ∙ z_free.1)

          v_apart : (i : ℕ) → 0 < i → i < suc (suc d) → after next v i ≢ x
          v_apart zero a l e = omega arith
          v_apart (suc zero) a l e = nz (sym b.next_is ∙ e)
          v_apart (suc (suc i)) a l e = z_apart (suc i) (omega arith) (omega (arith, l)) (sym (shift next v z b.next_is (suc i)) ∙ e)

          v_above : (i : ℕ) → i < suc (suc d) → x ≤ after next v i
          v_above zero l = free.0
          v_above (suc i) l = let le = z_above i (omega (arith, l)) in omega (arith, shift next v z b.next_is i, le)

          v_fresh : (i : ℕ) → i < suc (suc d) → mate_of old (after next v i) ≡ None
          v_fresh zero l = free.1
          v_fresh (suc i) l = ap (mate_of old) (shift next v z b.next_is i) ∙ z_fresh i (omega (arith, l))

          v_paired : (i : ℕ) → 0 < i → i < suc (suc d) → IsPaired next new (after next v i)
          v_paired zero a l = absurd (omega arith)
          v_paired (suc i) a l = let e = shift next v z b.next_is i in rw e (z_paired i (omega (arith, l)))
