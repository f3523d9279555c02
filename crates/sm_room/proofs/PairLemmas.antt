-- Pairing the persons of each party alternately.
use Rattle.std.proofs.Common.{◌≡◌, ◌≢◌, ℕ, zero, suc, ◌+◌, ◌-◌, ◌*◌, ◌<◌, ◌≤◌, ◌⊎◌, inl, inr, arith, refl, sym, ap, ◌∙◌, List, length, Option, Some, None, MatchOption}
use Rattle.std.proofs.lemmas.Option.{none-some, same_Some}
use Rattle.sm_lists.proofs.Counting.{eq_or_ne, less_same_more}
use Rattle.sm_theory.specs.Rooms.{mate_of}
use Rattle.sm_theory.specs.Partitions.{successor_in, after, IsStablePartition, IsInOddParty, IsLowestOfOdd, PairsAlternately}
use Rattle.sm_theory.proofs.Room.Spots.{Spot, spot, after_plus, take_back}
use Rattle.sm_room.specs.Pairing.{IsPaired, ArePaired, IsPartyPaired}
use Rattle.sm_room.specs.Parties.{IsLowestInOdd}
use Rattle.sm_room.specs.PartiesKept.{IsLeftOut}

paired_not : {next : List ℕ} {mates : List (Option ℕ)} {u : ℕ} → IsPaired next mates u → mate_of mates u ≡ None → ⊥
paired_not w e = none-some _ (sym e ∙ w.is)

-- sizes that are first returns are the same
one_size : (next : List ℕ) (x m n : ℕ) → 0 < m → 0 < n → after next x m ≡ x → after next x n ≡ x → ((i : ℕ) → 0 < i → i < m → after next x i ≢ x) → ((i : ℕ) → 0 < i → i < n → after next x i ≢ x) → m ≡ n
one_size next x m n a b e f g h = elim (less_same_more m n) [
  | inl l ↦ absurd (h m a l e)
  | inr d ↦ elim d [ inl l ↦ l | inr l ↦ absurd (g n b l f) ]
]

module _ {rows : List (List ℕ)} {next : List ℕ} {x : ℕ} {old now : List (Option ℕ)} (g : ArePaired rows next x old) (w : IsPartyPaired rows next old x now) where
  -- any number of steps is some number below the size
  record Within (k : ℕ) : Type 0 where
    to : ℕ
    below : to < w.size
    is : after next x k ≡ after next x to

  within : (k : ℕ) → Within k
  within zero = record { to = 0; below = w.some; is = refl }
  within (suc k) =
      let v = within k in
      elim (eq_or_ne (suc v.to) w.size) [
        | inl e ↦ record { to = 0; below = w.some; is = ap (successor_in next) v.is ∙ ap (after next x) e ∙ w.returns }
        | inr e ↦ record { to = suc v.to; below = omega (arith, v.below, e); is = ap (successor_in next) v.is }
      ]

  -- from a member the lowest is reached
  comes_back : (u i : ℕ) → i < w.size → after next x i ≡ u → after next u (w.size - i) ≡ x
  comes_back u i below is =
      let rest : ℕ = w.size - i in
      let sum : rest + i ≡ w.size = omega (arith, below) in
      ap (λ z. after next z rest) (sym is) ∙ after_plus next x rest i ∙ ap (after next x) sum ∙ w.returns

  low : (k : ℕ) → x ≤ after next x k
  low k = let v = within k in omega (arith, v.is, w.above v.to v.below)

  was_none : (u : ℕ) → mate_of now u ≡ None → mate_of old u ≡ None
  was_none u e = elim (w.same u) [
    | inl s ↦ sym s ∙ e
    | inr v ↦ absurd (paired_not v.3 e)
  ]

  sound : (u v : ℕ) → mate_of now u ≡ Some v → IsPaired next now u
  sound u v e = elim (w.same u) [
    | inr s ↦ s.3
    | inl s ↦
        let k = g.sound u v (sym s ∙ e) in
        elim (w.same k.mate) [
          | inl t ↦ record { mate = k.mate; is = s ∙ k.is; back = t ∙ k.back; apart = k.apart; near = k.near }
          | inr t ↦ absurd (none-some _ (sym (w.fresh t.0 t.1) ∙ ap (mate_of old) t.2 ∙ k.back))
        ]
  ]

  untouched : (u : ℕ) → u < length rows → x + 1 ≤ successor_in next u → mate_of now (successor_in next u) ≡ None → (x + 1 ≤ u) × (mate_of now u ≡ None)
  untouched u h more e =
      let k = g.untouched u h (omega (arith, more)) (was_none (successor_in next u) e) in
      elim (eq_or_ne u x) [
        | inl d ↦ absurd (at_lead d)
        | inr d ↦ (
          omega (arith, k.0, d),
          elim (w.same u) [
            | inl s ↦ s ∙ k.1
            | inr v ↦ absurd (member v.0 v.1 v.2)
          ],
        )
      ]
    where
      member : (i : ℕ) → i < w.size → after next x i ≡ u → ⊥
      member i l d = elim (eq_or_ne (suc i) w.size) [
        | inl f ↦ let s : successor_in next u ≡ x = ap (successor_in next) (sym d) ∙ ap (after next x) f ∙ w.returns in omega (arith, s, more)
        | inr f ↦ paired_not (w.paired (suc i) (omega arith) (omega (arith, l, f))) (ap (λ z. mate_of now (successor_in next z)) d ∙ e)
      ]

      at_lead : u ≡ x → ⊥
      at_lead d = member 0 w.some (sym d)

  -- the lowest of the party, where it is paired, is with its successor
  lead_first : (v : ℕ) → mate_of now x ≡ Some v → v ≡ successor_in next x
  lead_first v e = elim w.lead [
    | inl l ↦ same_Some _ _ (sym e ∙ l.1)
    | inr l ↦ absurd (none-some _ (sym l.1 ∙ e))
  ]

  lowest_first : (u v : ℕ) → ((k : ℕ) → u ≤ after next u k) → mate_of now u ≡ Some v → v ≡ successor_in next u
  lowest_first u v lowest e = elim (w.same u) [
    | inl s ↦ g.lowest_first u v lowest (sym s ∙ e)
    | inr m ↦
        let le = lowest (w.size - m.0) in
        let d : u ≡ x = omega (arith, le, comes_back u m.0 m.1 m.2, w.above m.0 m.1, m.2) in
        rw d (lead_first v (rw d at e))
  ]

  odd_lead : IsInOddParty rows next x → IsPaired next now x → ⊥
  odd_lead o p = elim w.lead [
    | inl v ↦ omega (arith, one_size next x w.size (2 * o.half + 1) w.some (omega arith) w.returns o.returns w.apart o.first, v.0)
    | inr v ↦ paired_not p v.1
  ]

  left_out : (u : ℕ) → IsLowestOfOdd rows next u → mate_of now u ≡ None
  left_out u o = elim (w.same u) [
    | inl s ↦ s ∙ g.left_out u o
    | inr v ↦
        let back = comes_back u v.0 v.1 v.2 in
        let le = o.lowest (w.size - v.0) in
        let ge = w.above v.0 v.1 in
        let e : u ≡ x = omega (arith, le, back, ge, v.2) in
        let ox : IsInOddParty rows next x = rw e at o.odd in
        let px : IsPaired next now x = rw e at v.3 in
        absurd (odd_lead ox px)
  ]

  others : (inside : x < length rows) → (u : ℕ) → u < x + 1 → mate_of now u ≡ None → (successor_in next u ≡ u) ⊎ IsLowestOfOdd rows next u
  others inside u h e = elim (eq_or_ne u x) [
    | inr d ↦ g.others u (omega (arith, h, d)) (was_none u e)
    | inl d ↦ rw d (at_x (rw d at e))
  ]
    where
      at_x : mate_of now x ≡ None → (successor_in next x ≡ x) ⊎ IsLowestOfOdd rows next x
      at_x f = elim w.lead [
        | inl v ↦ absurd (none-some _ (sym f ∙ v.1))
        | inr v ↦ elim (eq_or_ne w.half 0) [
          | inl z ↦ let one : w.size ≡ 1 = omega (arith, v.0, z) in inl (ap (after next x) (sym one) ∙ w.returns)
          | inr z ↦ inr (record {
            odd = record {
              in_range = inside;
              half = w.half;
              three = omega (arith, z);
              returns = ap (after next x) (sym v.0) ∙ w.returns;
              first = λ k a b. w.apart k a (omega (arith, b, v.0));
            };
            lowest = low;
          })
        ]
      ]

  -- once the party of x is paired, the parties of the persons up to x are done
  pub pairs_step : x < length rows → ArePaired rows next (x + 1) now
  pairs_step inside = record { one_each = w.one_each; sound = sound; untouched = untouched; left_out = left_out; others = others inside; lowest_first = lowest_first }

-- who isn't alone and has no mate is the lowest of an odd party
pub left_out_is : {rows : List (List ℕ)} {next : List ℕ} {mates : List (Option ℕ)} → length next ≡ length rows → PairsAlternately rows next mates
    → (x : ℕ) → (IsLeftOut next mates x → IsLowestOfOdd rows next x) × (IsLowestOfOdd rows next x → IsLeftOut next mates x)
left_out_is {rows} {next} {mates} long p x = (
  λ l. elim (p.others x (omega (arith, l.inside, long)) l.none) [ inl e ↦ absurd (l.apart e) | inr o ↦ o ],
  λ o. record { inside = omega (arith, o.odd.in_range, long); apart = λ e. o.odd.first 1 (omega arith) (omega (arith, o.odd.three)) e; none = p.left_out x o },
)

module _ {rows : List (List ℕ)} {next : List ℕ} (h : IsStablePartition rows next) where
  -- the lowest of an odd party is no higher than any of it
  pub record HasLead (y : ℕ) : Type 0 where
    pub lead : ℕ
    pub lowest : IsLowestOfOdd rows next lead
    pub below : lead ≤ y

  -- each odd party has a lowest person
  pub has_lead : (y : ℕ) → IsInOddParty rows next y → HasLead y
  has_lead y o = record {
    lead = s.lead;
    below = let le = s.lowest s.at in omega (arith, le, s.is);
    lowest = record {
      odd = record {
        in_range = s.inside;
        half = o.half;
        three = o.three;
        returns = ap (after next s.lead) (sym full) ∙ s.returns;
        first = λ k a b e. s.apart 0 k a (omega (arith, b, full)) (sym e);
      };
      lowest = s.lowest;
    };
  }
    where
      s : Spot rows next y
      s = spot h y o.in_range

      -- steps from the lowest and from y
      turn : (k : ℕ) → after next y k ≡ after next s.lead (k + s.at)
      turn k = ap (λ z. after next z k) (sym s.is) ∙ after_plus next s.lead k s.at

      back : after next y s.size ≡ y
      back =
          let e : s.size + s.at ≡ s.at + s.size = omega arith in
          turn s.size ∙ ap (after next s.lead) e ∙ sym (after_plus next s.lead s.at s.size) ∙ ap (λ z. after next z s.at) s.returns ∙ s.is

      first : (k : ℕ) → 0 < k → k < s.size → after next y k ≢ y
      first k a b e =
          let z : s.at + 0 ≡ s.at = omega arith in
          let f : k + s.at ≡ s.at + k = omega arith in
          let same : after next s.lead (s.at + 0) ≡ after next s.lead (s.at + k) = ap (after next s.lead) z ∙ s.is ∙ sym e ∙ turn k ∙ ap (after next s.lead) f in
          s.apart 0 k a b (take_back h s.lead s.at 0 k s.inside same)

      full : s.size ≡ 2 * o.half + 1
      full = one_size next y s.size (2 * o.half + 1) (omega (arith, s.below)) (omega arith) back o.returns first o.first

  -- so the lowest person that is left out is the lowest in an odd party
  pub lowest_in_odd : {mates : List (Option ℕ)} → PairsAlternately rows next mates → (found : Option ℕ)
      → MatchOption found ((x : ℕ) → IsLeftOut next mates x → ⊥) (λ x. IsLeftOut next mates x × ((y : ℕ) → y < x → IsLeftOut next mates y → ⊥)) → IsLowestInOdd rows next found
  lowest_in_odd {mates} p None none = λ x o. let l = has_lead x o in none l.lead ((left_out_is h.one_each p l.lead).1 l.lowest)
  lowest_in_odd {mates} p (Some x) w = (
    ((left_out_is h.one_each p x).0 w.0).odd,
    λ y less o. let l = has_lead y o in w.1 l.lead (omega (arith, l.below, less)) ((left_out_is h.one_each p l.lead).1 l.lowest),
  )

-- a pairing of the parties is one for any roommates of as many persons
pub pairs_of_others : {rows others : List (List ℕ)} {next : List ℕ} {mates : List (Option ℕ)} → length rows ≡ length others → PairsAlternately rows next mates → PairsAlternately others next mates
pairs_of_others {rows} {others} {next} {mates} e p = record {
  one_each = p.one_each ∙ e;
  neighbours = p.neighbours;
  in_turn = p.in_turn;
  left_out = λ x o. p.left_out x (moved (sym e) x o);
  others = λ x there none. elim (p.others x (omega (arith, e, there)) none) [ inl a ↦ inl a | inr o ↦ inr (moved e x o) ];
}
  where
    moved : {some more : List (List ℕ)} → length some ≡ length more → (x : ℕ) → IsLowestOfOdd some next x → IsLowestOfOdd more next x
    moved same x o = record { odd = record { in_range = omega (arith, same, o.odd.in_range); half = o.odd.half; three = o.odd.three; returns = o.odd.returns; first = o.odd.first }; lowest = o.lowest }
