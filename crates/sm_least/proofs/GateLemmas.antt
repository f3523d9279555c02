-- Gates: bounds that forced levels narrow.
use Rattle.std.proofs.Common.{◌≡◌, ◌≢◌, ◌↔◌, ℕ, ◌+◌, ◌-◌, ◌<◌, ◌≤◌, inl, inr, arith, refl, sym, ap, ◌∙◌, subst, List, length, Bool, true, false, slice_index, slice_index_or, set, [], Vec}
use Rattle.std.specs.declared.alloc.Global.{Global}
use Rattle.std.specs.Vec.{with_items, vec_len}
use Rattle.std.proofs.lemmas.List.{get_or-set_same, get_or-set_other, length-set, map-set}
use Rattle.sm_market.specs.Lists.{row}
use Rattle.sm_lists.proofs.ResultLemmas.{take-append_at_length}
use Rattle.sm_lists.proofs.Counting.{eq_or_ne, lt_or_le}
use Rattle.sm_lists.specs.Rows.{place_on, entry}
use Rattle.sm_lists.proofs.PlaceLemmas.{get_or-place_on, get_or_before-place_on}
use Rattle.sm_least.specs.Steps.{IsNarrowed, AreShut, rows_in, AreRowsFor, AreAvoided, NeverFall, IsDivided}
use Rattle.sm_least.specs.Gates.{AreGatesOf}
use Rattle.sm_least.specs.Regrets.{AreShutAbove, AreOpenUpTo}
use Rattle.sm_board.specs.Board.{Board, IsBoard, stay_level, Gates, is_shut}
use Rattle.sm_board.specs.BoardOf.{IsAllowedStay, AreGates}
use Rattle.std.proofs.lemmas.Bool.{false≢true}

-- one more forced pair
pub narrowed_more : {matched : List Bool} {forced : List (ℕ × ℕ)} {low high lower upper : List ℕ} (i a c : ℕ) → length low ≡ length matched → length high ≡ length matched → let p = (slice_index_or forced i (0, 0)).0 in p < length matched
    → ((v : ℕ) → ((a ≤ v) × (v ≤ c) → (slice_index lower p ≤ v) × (v ≤ slice_index upper p) × (slice_index_or matched p false ≡ true) × (v ≡ (slice_index_or forced i (0, 0)).1))
    × ((slice_index lower p ≤ v) × (v ≤ slice_index upper p) × (slice_index_or matched p false ≡ true) × (v ≡ (slice_index_or forced i (0, 0)).1) → (a ≤ v) × (v ≤ c)))
    → IsNarrowed matched forced i low high lower upper → IsNarrowed matched forced (i + 1) low high (set lower p a) (set upper p c)
narrowed_more {matched} {forced} {low} {high} {lower} {upper} i a c low_each high_each in_it one w = record {
  low_each = length-set lower p a ∙ w.low_each;
  high_each = length-set upper p c ∙ w.high_each;
  within = λ q v less. elim (eq_or_ne q p) [
    | inl e ↦ subst (Within v) (sym e) (own v)
    | inr ne ↦
        let below = get_or-set_other lower p q a 0 ne in
        let above = get_or-set_other upper p q c 0 ne in
        let before = w.within q v less in (
          (λ x. let y = before.0 (omega (arith, x.0), omega (arith, x.1)) in (
            y.0,
            y.1,
            λ d few is. elim (eq_or_ne d i) [
              | inl same ↦ absurd (ne (sym is ∙ ap (λ k. (slice_index_or forced k (0, 0)).0) same))
              | inr other ↦ y.2 d (omega arith) is
            ],
          )),
          (λ x. let y = before.1 (x.0, x.1, λ d few is. x.2 d (omega arith) is) in (omega (arith, y.0), omega (arith, y.1))),
        )
  ];
}
  where
    p : ℕ
    p = (slice_index_or forced i (0, 0)).0

    Within : ℕ → ℕ → Type 0
    Within v q = ((slice_index (set lower p a) q ≤ v) × (v ≤ slice_index (set upper p c) q) → (slice_index low q ≤ v) × (v ≤ slice_index high q)
        × ((d : ℕ) → d < i + 1 → (slice_index_or forced d (0, 0)).0 ≡ q
        → (slice_index_or matched q false ≡ true) × (v ≡ (slice_index_or forced d (0, 0)).1)))
        × ((slice_index low q ≤ v) × (v ≤ slice_index high q)
        × ((d : ℕ) → d < i + 1 → (slice_index_or forced d (0, 0)).0 ≡ q
        → (slice_index_or matched q false ≡ true) × (v ≡ (slice_index_or forced d (0, 0)).1)) → (slice_index (set lower p a) q ≤ v) × (v ≤ slice_index (set upper p c) q))

    own : (v : ℕ) → Within v p
    own v =
        let below = get_or-set_same lower p a 0 (omega (arith, w.low_each)) in
        let above = get_or-set_same upper p c 0 (omega (arith, w.high_each)) in
        let before = w.within p v in_it in (
          (λ x.
              let y = (one v).0 (omega (arith, x.0), omega (arith, x.1)) in
              let z = before.0 (y.0, y.1) in (
                z.0,
                z.1,
                λ d few is. elim (eq_or_ne d i) [
                  | inl same ↦ (y.2, y.3 ∙ ap (λ k. (slice_index_or forced k (0, 0)).1) (sym same))
                  | inr other ↦ z.2 d (omega arith) is
                ],
              )),
          (λ x.
              let z = before.1 (x.0, x.1, λ d few is. x.2 d (omega arith) is) in
              let last = x.2 i (omega arith) refl in
              let y = (one v).1 (z.0, z.1, last.0, last.1) in
              (omega (arith, y.0), omega (arith, y.1))),
        )

-- a row is written
pub rows_in-set : (shut : List (Vec Bool Global)) (p : ℕ) (d : Vec Bool Global) (new : List Bool) → length new ≡ vec_len (slice_index_or shut p d) → rows_in (set shut p (with_items (slice_index_or shut p d) new)) ≡ set (rows_in shut) p new
rows_in-set shut p d new e = map-set (λ v. v.items) shut p (with_items (slice_index_or shut p d) new) ∙ ap (set (rows_in shut) p) (take-append_at_length (vec_len (slice_index_or shut p d)) new _ e)

-- the rows are as long as before
pub rows_written : {levels : List (List ℕ)} {rows : List (List Bool)} (p : ℕ) (new : List Bool) → p < length levels → length new ≡ length (row levels p) → AreRowsFor levels rows → AreRowsFor levels (set rows p new)
rows_written {levels} {rows} p new less e w = record {
  one_each = length-set rows p new ∙ w.one_each;
  row_each = λ q k. elim (eq_or_ne q p) [
    | inl same ↦ subst (λ r. length (slice_index_or (set rows p new) r []) ≡ length (row levels r)) (sym same) (ap length (get_or-set_same rows p new [] (omega (arith, w.one_each))) ∙ e)
    | inr ne ↦ ap length (get_or-set_other rows p q new [] ne) ∙ w.row_each q k
  ];
}

-- what holds of the row that is written and of those before it
pub rows_before : (rows : List (List Bool)) (P : ℕ → List Bool → Type 0) (p : ℕ) (new : List Bool) → p < length rows → P p new → ((q : ℕ) → q < p → P q (slice_index_or rows q [])) → (q : ℕ) → q < p + 1 → P q (slice_index_or (set rows p new) q [])
rows_before rows P p new less own before q k = elim (eq_or_ne q p) [
  | inl same ↦ subst (λ r. P r (slice_index_or (set rows p new) r [])) (sym same) (subst (P p) (sym (get_or-set_same rows p new [] less)) own)
  | inr ne ↦ subst (P q) (sym (get_or-set_other rows p q new [] ne)) (before q (omega arith))
]

-- one more forbidden pair
pub avoided_more : {matched : List Bool} {levels : List (List ℕ)} {forbidden : List (ℕ × ℕ)} {before after : List (List Bool)} (i : ℕ) (new : List Bool) → let p = (slice_index_or forbidden i (0, 0)).0 in p < length levels → length new ≡ length (row levels p)
    → ((a : ℕ) → a < length (row levels p) → (slice_index_or new a false ≡ false)
    ↔ (slice_index_or (slice_index_or after p []) a false ≡ false) × (slice_index_or matched p false ≡ true → slice_index (row levels p) a ≢ (slice_index_or forbidden i (0, 0)).1))
    → AreAvoided matched levels forbidden i before after → AreAvoided matched levels forbidden (i + 1) before (set after p new)
avoided_more {matched} {levels} {forbidden} {before} {after} i new in_it e one w = record {
  rows = rows_written p new in_it e w.rows;
  opens = λ q a less few. elim (eq_or_ne q p) [
    | inl same ↦ subst (Opens a) (sym same) (own a (omega (arith, few, ap (λ r. length (row levels r)) same)))
    | inr ne ↦
        let row_is = ap (λ r. slice_index_or r a false) (get_or-set_other after p q new [] ne) in
        let old = w.opens q a less few in (
          (λ x. let y = old.0 (sym row_is ∙ x) in (
            y.0,
            λ c k is. elim (eq_or_ne c i) [
              | inl last ↦ absurd (ne (sym is ∙ ap (λ d. (slice_index_or forbidden d (0, 0)).0) last))
              | inr other ↦ y.1 c (omega arith) is
            ],
          )),
          (λ x. row_is ∙ old.1 (x.0, λ c k is. x.1 c (omega arith) is)),
        )
  ];
}
  where
    p : ℕ
    p = (slice_index_or forbidden i (0, 0)).0

    Opens : ℕ → ℕ → Type 0
    Opens a q = ((slice_index_or (slice_index_or (set after p new) q []) a false ≡ false) → (slice_index_or (slice_index_or before q []) a false ≡ false)
        × ((c : ℕ) → c < i + 1 → (slice_index_or forbidden c (0, 0)).0 ≡ q → slice_index_or matched q false ≡ true
        → slice_index (row levels q) a ≢ (slice_index_or forbidden c (0, 0)).1))
        × ((slice_index_or (slice_index_or before q []) a false ≡ false)
        × ((c : ℕ) → c < i + 1 → (slice_index_or forbidden c (0, 0)).0 ≡ q → slice_index_or matched q false ≡ true
        → slice_index (row levels q) a ≢ (slice_index_or forbidden c (0, 0)).1) → slice_index_or (slice_index_or (set after p new) q []) a false ≡ false)

    own : (a : ℕ) → a < length (row levels p) → Opens a p
    own a few =
        let row_is = ap (λ r. slice_index_or r a false) (get_or-set_same after p new [] (omega (arith, w.rows.one_each))) in
        let old = w.opens p a in_it few in (
          (λ x.
              let y = (one a few).0 (sym row_is ∙ x) in
              let z = old.0 y.0 in (
                z.0,
                λ c k is m. elim (eq_or_ne c i) [
                  | inl last ↦ λ same. y.1 m (same ∙ ap (λ d. (slice_index_or forbidden d (0, 0)).1) last)
                  | inr other ↦ z.1 c (omega arith) is m
                ],
              )),
          (λ x. row_is ∙ (one a few).1 (old.1 (x.0, λ c k is. x.1 c (omega arith) is), λ m. x.1 i (omega arith) refl m)),
        )

-- what is open after all of these steps is what is allowed
pub gates_right : {b : Board} {g : Gates} {low high lower upper : List ℕ} {forced forbidden : List (ℕ × ℕ)} (between : List (List Bool)) → IsBoard b
    → IsNarrowed b.matched forced (length forced) low high lower upper
    → ((p : ℕ) → p < length b.leaves → AreShut (row b.levels p) (λ v. (slice_index lower p ≤ v) × (v ≤ slice_index upper p)) (slice_index_or between p []))
    → AreAvoided b.matched b.levels forbidden (length forbidden) between g.shut
    → ((p a : ℕ) → p < length b.leaves → slice_index g.until p ≤ a → a < length (row b.levels p) → is_shut g p a ≡ true)
    → AreGates b low high forced forbidden g
gates_right {b} {g} {low} {high} {lower} {upper} {forced} {forbidden} between h narrowed shut avoided past p a less few = (
  (λ o. allowed o.unshut),
  (λ w. record {
    before = elim (lt_or_le a (slice_index g.until p)) [
      | inl k ↦ k
      | inr le ↦ absurd (false≢true (sym (unshut w) ∙ past p a less le few))
    ];
    unshut = unshut w;
  }),
)
  where
    in_levels : p < length b.levels
    in_levels = omega (arith, h.levels_each)

    in_matched : p < length b.matched
    in_matched = omega (arith, h.matched_each)

    allowed : is_shut g p a ≡ false → IsAllowedStay b low high forced forbidden p a
    allowed e =
        let y = (avoided.opens p a in_levels few).0 e in
        let z = (narrowed.within p (stay_level b p a) in_matched).0 (((shut p less).opens a few).0 y.0) in
        record {
          above = z.0;
          below = z.1;
          holds = λ c k is. z.2 c k is;
          avoids = λ c k is m. y.1 c k is m;
        }

    unshut : IsAllowedStay b low high forced forbidden p a → is_shut g p a ≡ false
    unshut w = (avoided.opens p a in_levels few).1 (
      ((shut p less).opens a few).1 ((narrowed.within p (stay_level b p a) in_matched).1 (w.above, w.below, λ c k is. w.holds c k is)),
      λ c k is m. w.avoids c k is m,
    )

-- the stays of one more proposer are cut
pub cut_more : {b : Board} {ranks : List (List ℕ)} {bound : ℕ} {before after : List (List Bool)} (p : ℕ) (new : List Bool) → p < length b.levels → length new ≡ length (row b.levels p)
    → ((a : ℕ) → (slice_index_or new a false ≡ false) ↔ (slice_index_or (slice_index_or after p []) a false ≡ false) × (entry ranks p a ≤ bound))
    → AreShutAbove b ranks bound p before after → AreShutAbove b ranks bound (p + 1) before (set after p new)
cut_more {b} {ranks} {bound} {before} {after} p new in_it e one w = record {
  rows = rows_written p new in_it e w.rows;
  opens = λ q a less few. elim (eq_or_ne q p) [
    | inl same ↦ subst (Opens a) (sym same) (own a)
    | inr ne ↦
        let row_is = ap (λ r. slice_index_or r a false) (get_or-set_other after p q new [] ne) in
        let old = w.opens q a (omega arith) few in ((λ x. old.0 (sym row_is ∙ x)), (λ x. row_is ∙ old.1 x))
  ];
  left = λ q le. get_or-set_other after p q new [] (λ same. omega arith) ∙ w.left q (omega arith);
}
  where
    Opens : ℕ → ℕ → Type 0
    Opens a q = ((slice_index_or (slice_index_or (set after p new) q []) a false ≡ false) → (slice_index_or (slice_index_or before q []) a false ≡ false) × (entry ranks q a ≤ bound))
        × ((slice_index_or (slice_index_or before q []) a false ≡ false) × (entry ranks q a ≤ bound) → slice_index_or (slice_index_or (set after p new) q []) a false ≡ false)

    own : (a : ℕ) → Opens a p
    own a =
        let row_is = ap (λ r. slice_index_or r a false) (get_or-set_same after p new [] (omega (arith, w.rows.one_each))) in
        let was = ap (λ r. slice_index_or r a false) (w.left p (omega arith)) in (
          (λ x. let y = (one a).0 (sym row_is ∙ x) in (sym was ∙ y.0, y.1)),
          (λ x. row_is ∙ (one a).1 (was ∙ x.0, x.1)),
        )

-- what is open once all stays are cut is what was and has a rank within the bound
pub cut_right : {b : Board} {ranks : List (List ℕ)} {bound : ℕ} {before after : Gates} → AreGatesOf b before → AreShutAbove b ranks bound (length b.leaves) before.shut after.shut
    → ((p a : ℕ) → p < length b.leaves → slice_index after.until p ≤ a → a < length (row b.levels p) → is_shut after p a ≡ true)
    → AreOpenUpTo b ranks bound before after
cut_right {b} {ranks} {bound} {before} {after} w cut past p a less few = (
  (λ o.
      let y = (cut.opens p a less few).0 o.unshut in (
        record {
          before = elim (lt_or_le a (slice_index before.until p)) [
            | inl k ↦ k
            | inr le ↦ absurd (false≢true (sym y.0 ∙ w.past p a less le few))
          ];
          unshut = y.0;
        },
        y.1,
      )),
  (λ x.
      let unshut = (cut.opens p a less few).1 (x.0.unshut, x.1) in record {
        before = elim (lt_or_le a (slice_index after.until p)) [
          | inl k ↦ k
          | inr le ↦ absurd (false≢true (sym unshut ∙ past p a less le few))
        ];
        unshut = unshut;
      }),
)

-- the first place of a level is where the lower ones end
pub place_on-divided : (levels : List ℕ) (level : ℕ) {n : ℕ} → NeverFall levels → IsDivided levels level n → place_on levels level < length levels → place_on levels level ≡ n
place_on-divided levels level {n} rising w in_it =
    let is = get_or-place_on levels level in_it in
    elim (lt_or_le (place_on levels level) n) [
      | inl less ↦ absurd (omega (arith, w.lower (place_on levels level) less, is))
      | inr le ↦ elim (eq_or_ne (place_on levels level) n) [
        | inl same ↦ same
        | inr ne ↦ absurd (get_or_before-place_on levels level n (omega arith) (omega (arith, is, w.higher n (omega arith) (omega arith), rising n (place_on levels level) (omega arith) in_it)))
      ]
    ]

-- so many are lower where that place has the level or a higher one and the place before it a lower one
pub divided_at : (levels : List ℕ) (level n : ℕ) → NeverFall levels → n < length levels → level ≤ slice_index levels n → (0 < n → slice_index levels (n - 1) < level) → IsDivided levels level n
divided_at levels level n rising in_it high low = record {
  few = omega arith;
  lower = λ a less.
      let below = low (omega arith) in
      elim (eq_or_ne a (n - 1)) [
        | inl same ↦ let e : slice_index levels a ≡ slice_index levels (n - 1) = ap (slice_index levels) same in omega arith
        | inr ne ↦ let le = rising a (n - 1) (omega arith) (omega arith) in omega arith
      ];
  higher = λ a le few. elim (eq_or_ne a n) [
    | inl same ↦ let e : slice_index levels a ≡ slice_index levels n = ap (slice_index levels) same in omega arith
    | inr ne ↦ let up = rising n a (omega arith) few in omega arith
  ];
}
