-- Once nobody has three left on its list, first and last make a stable partition.
use Rattle.std.proofs.Common.{◌≡◌, ◌≢◌, ℕ, ◌<◌, ◌≤◌, ◌⊎◌, inl, inr, arith, refl, sym, ◌∙◌, List, length, ne_eqb, eq-eqb, eqb}
use Rattle.std.proofs.lemmas.List.Sums.{position_or_len_is}
use Rattle.sm_lists.specs.Rows.{place_of}
use Rattle.sm_lists.proofs.Counting.{lt_or_le}
use Rattle.sm_theory.specs.Rooms.{IsAcceptable}
use Rattle.sm_theory.specs.Partitions.{successor_in, predecessor_in, party_place, IsStablePartition}
use Rattle.sm_room.specs.Bounds.{IsLeft, IsFirst, IsLast, IsGoodAt}
use Rattle.sm_room.proofs.TableCore.{IsLeft-turn, one_first, one_final, one_at, turn, inside_rows}

-- each goes to the first on its list, or to itself
abbrev pub Goes : List (List ℕ) → (ℕ → ℕ) → List ℕ → ℕ → Type 0
Goes rows b next x = IsFirst rows b x (successor_in next x) ⊎ ((successor_in next x ≡ x) × ((y : ℕ) → IsLeft rows b x y → ⊥))

place_in_party : (rows : List (List ℕ)) (next : List ℕ) (x y : ℕ) → predecessor_in next x ≡ y → y ≢ x → party_place rows next x ≡ place_of rows x y
place_in_party rows next x y e ne = rw (e, ne_eqb y x ne) refl

module _ (rows : List (List ℕ)) (b : ℕ → ℕ) (next : List ℕ) (good : IsGoodAt rows b) (size : length next ≡ length rows)
    (goes : (x : ℕ) → x < length rows → Goes rows b next x)
    (two : (x y : ℕ) → IsLeft rows b x y → IsFirst rows b x y ⊎ IsLast rows b x y) where
  abbrev Ins : ℕ → ℕ → Type 0
  Ins = IsLeft rows b

  inside : (x y : ℕ) → Ins x y → x < length rows
  inside x y i = inside_rows rows x y i.acc

  range : (x : ℕ) → x < length rows → successor_in next x < length rows
  range x h = elim (goes x h) [
    | inl f ↦ inside (successor_in next x) x (IsLeft-turn f.left)
    | inr w ↦ rw w.0 h
  ]

  -- who is first somewhere goes there
  goes_first : (x y : ℕ) → IsFirst rows b x y → successor_in next x ≡ y
  goes_first x y f = elim (goes x (inside x y f.left)) [
    | inl g ↦ one_first g f
    | inr w ↦ absurd (w.1 y f.left)
  ]

  apart : (x y : ℕ) → x < y → y < length rows → successor_in next x ≢ successor_in next y
  apart x y l h e = elim (goes x (omega (arith, l, h))) [
    | inl f ↦ elim (goes y h) [
      | inl g ↦
          let k : IsLast rows b (successor_in next y) x = rw e at (good.first_last x _ f) in
          let d : x ≡ y = one_final k (good.first_last y _ g) in
          omega (arith, l, d)
      | inr w ↦ let i : Ins x y = rw (e, w.0) at f.left in w.1 x (IsLeft-turn i)
    ]
    | inr v ↦ elim (goes y h) [
      | inl g ↦ let i : Ins y x = rw (← e, v.0) at g.left in v.1 y (IsLeft-turn i)
      | inr w ↦ let d : x ≡ y = sym v.0 ∙ e ∙ w.0 in omega (arith, l, d)
    ]
  ]

  before : (v x : ℕ) → v < length rows → successor_in next v ≡ x → predecessor_in next x ≡ v
  before v x h e = position_or_len_is (λ y. eqb y x) next v 0 (omega (arith, h, size))
      (λ k less. ne_eqb _ _ (λ d. apart k v less h (d ∙ sym e)))
      (λ _. eq-eqb _ _ e)

  before_last : (x v : ℕ) → IsLast rows b x v → predecessor_in next x ≡ v
  before_last x v f = before v x (inside v x (IsLeft-turn f.left)) (goes_first v x (good.last_first x v f))

  place_last : (x v : ℕ) → IsLast rows b x v → party_place rows next x ≡ b x
  place_last x v f = place_in_party rows next x v (before_last x v f) (λ e. f.left.acc.apart (sym e)) ∙ f.at

  -- whom one prefers to who is before it isn't behind its bound
  bounded : (x y : ℕ) → IsAcceptable rows x y → place_of rows x y < party_place rows next x → place_of rows x y ≤ b x
  bounded x y acc less = elim (lt_or_le (b x) (place_of rows x y)) [
    | inr l ↦ l
    | inl l ↦ let h = good.past x y acc l in let e = place_last x h.last h.final in absurd (omega (arith, e, l, less))
  ]

  unblocked : (x y : ℕ) → IsAcceptable rows x y → place_of rows x y < party_place rows next x → place_of rows y x < party_place rows next y → ⊥
  unblocked x y acc less more =
      let i : Ins x y = record { acc = acc; here = bounded x y acc less; there = bounded y x (turn rows x y acc) more } in
      elim (two x y i) [
        | inl f ↦ let g = good.first_last x y f in let e = place_last y x g in omega (arith, e, g.at, more)
        | inr g ↦ let e = place_last x y g in omega (arith, e, g.at, less)
      ]

  prefers : (x : ℕ) → x < length rows → successor_in next x ≢ predecessor_in next x → place_of rows x (successor_in next x) < place_of rows x (predecessor_in next x)
  prefers x h ne = elim (goes x h) [
    | inr w ↦ absurd (ne (w.0 ∙ sym (before x x h w.0)))
    | inl f ↦
        let l = good.ends x _ f.left in
        let e : predecessor_in next x ≡ l.last = before_last x l.last l.final in
        elim (lt_or_le (place_of rows x (successor_in next x)) (place_of rows x l.last)) [
          | inl k ↦ rw e k
          | inr k ↦
              let d : successor_in next x ≡ l.last = one_at rows x _ _ f.left.acc l.final.left.acc (omega (arith, k, f.least l.last l.final.left)) in
              absurd (ne (d ∙ sym e))
        ]
  ]

  -- the firsts are the successors of a stable partition
  pub partition_at_end : IsStablePartition rows next
  partition_at_end = record {
    one_each = size;
    in_range = range;
    distinct = apart;
    acceptable = λ x h ne. elim (goes x h) [ inl f ↦ f.left.acc | inr w ↦ absurd (ne w.0) ];
    prefers = prefers;
    unblocked = unblocked;
  }
