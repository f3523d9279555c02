-- Proposals, one by one.
use Rattle.std.proofs.Common.{◌≡◌, ◌≢◌, ℕ, ◌+◌, ◌-◌, ◌<◌, ◌≤◌, ◌⊎◌, List, length, get_or, set, Fits, w32, refl, sym, ap, ◌∙◌, arith, inl, inr}
use Rattle.std.proofs.lemmas.List.{get_or-set_same, get_or-set_other, length-set}
use Rattle.std.proofs.lemmas.List.Sums.{sum_by-set}
use Rattle.std.specs.List.{sum_by}
use Rattle.sm_lists.specs.Rows.{row, entry, place_of}
use Rattle.sm_lists.specs.Limits.{AreWithinLimits}
use Rattle.sm_lists.proofs.Counting.{lt_or_le, eq_or_ne}
use Rattle.sm_lists.proofs.PlaceLemmas.{entry-place_of}
use Rattle.sm_lists.proofs.PlaceLemmas.{place_on-le-at}
use Rattle.sm_lists.proofs.RowLemmas.{row_fits, entries_below}
use Rattle.sm_lists.proofs.ItemLemmas.{set_cases}
use Rattle.sm_room.specs.Bounds.{IsLeft, IsFirst, IsLast, IsGoodAt, IsProposing, HasHolder, bound_in}
use Rattle.sm_room.specs.Proposing.{IsProgress, IsProposalTaken, IsTakenFor, IsPassed}
use Rattle.sm_room.proofs.TableCore.{IsLeft-turn, one_first, one_final, one_at, turn, has_first, inside_rows}
use Rattle.sm_room.proofs.PhaseOneCore.{proposing_at_start, proposing_goes_on, good_at_end}

-- who is last on a list has its owner first
last_first : {rows : List (List ℕ)} {b : ℕ → ℕ} {x y : ℕ} → IsProposing rows b → IsLast rows b y x → IsFirst rows b x y
last_first {rows} {b} {x} {y} inv l = elim (inv.each y) [
  | inl le ↦ absurd (omega (arith, le, l.at, l.left.acc.listed))
  | inr w ↦ let e : w.by ≡ x = one_final w.final l in rw e at w.first
]

-- one proposal that is taken: x proposes to y, the first on its list
module _ {rows : List (List ℕ)} {b c : ℕ → ℕ} (x y : ℕ) (inv : IsProposing rows b) (first : IsFirst rows b x y) (cut : c y ≡ place_of rows y x) (kept : (z : ℕ) → z ≢ y → c z ≡ b z) where
  less : (z : ℕ) → c z ≤ b z
  less z = elim (eq_or_ne z y) [
    | inl e ↦ rw e (omega (arith, cut, first.left.there))
    | inr e ↦ omega (arith, kept z e)
  ]

  -- who is left after it was left before
  pub was_left : (u v : ℕ) → IsLeft rows c u v → IsLeft rows b u v
  was_left u v h = record { acc = h.acc; here = omega (arith, h.here, less u); there = omega (arith, h.there, less v) }

  -- each whose list has been cut has a holder
  pub still_proposing : IsProposing rows c
  still_proposing = proposing_goes_on x y inv first first.left.acc.apart cut kept

  -- x is now last on y's list
  pub last_now : IsLast rows c y x
  last_now = record { left = record { acc = turn rows x y first.left.acc; here = omega (arith, cut); there = omega (arith, kept x first.left.acc.apart, first.left.here) }; at = sym cut }

  -- so x is last on the list of its first
  pub proposer_settled : (f : ℕ) → IsFirst rows c x f → IsLast rows c f x
  proposer_settled f g =
      let e : y ≡ f = one_first (last_first still_proposing last_now) g in
      rw e at last_now

  at_first : (u f : ℕ) → IsFirst rows b u f → u ≡ y → place_of rows y f ≤ place_of rows y x
  at_first u f g e = let h : IsFirst rows b y f = rw e at g in h.least x (IsLeft-turn first.left)

  first_inside : (u f : ℕ) → IsFirst rows b u f → place_of rows u f ≤ c u
  first_inside u f g = elim (eq_or_ne u y) [
    | inl e ↦ rw e (omega (arith, cut, at_first u f g e))
    | inr e ↦ omega (arith, kept u e, g.left.here)
  ]

  -- others stay last on the list of their first, but for whoever was last on y's
  pub stays_settled : (u : ℕ) → ((f : ℕ) → IsFirst rows b u f → IsLast rows b f u) → (IsLast rows b y u → ⊥) → (v : ℕ) → IsFirst rows c u v → IsLast rows c v u
  stays_settled u settled other v g =
      let w = has_first (was_left u v g.left) in
      let f : ℕ = w.foremost in
      let l : IsLast rows b f u = settled f w.first in
      let apart : f ≢ y = λ e. other (rw e at l) in
      let new : IsLast rows c f u = record { left = record { acc = l.left.acc; here = omega (arith, kept f apart, l.at); there = first_inside u f w.first }; at = omega (arith, kept f apart, l.at) } in
      let e : f ≡ v = one_first (last_first still_proposing new) g in
      rw e at new

  -- who is last on a list was so before, or is x on y's
  pub last_before : (u v : ℕ) → IsLast rows c v u → ((u ≡ x) × (v ≡ y)) ⊎ ((v ≢ y) × IsLast rows b v u)
  last_before u v l = elim (eq_or_ne v y) [
    | inl e ↦
        let m : IsLast rows c y u = rw e at l in
        inl (one_final m last_now, e)
    | inr e ↦ inr (e, record { left = was_left v u l.left; at = omega (arith, kept v e, l.at) })
  ]

-- the first behind those that are passed
passed_first : {rows : List (List ℕ)} {b : ℕ → ℕ} (x i : ℕ) → ((y : ℕ) → IsLeft rows b x y → i ≤ place_of rows x y) → IsLeft rows b x (entry rows x i) → IsFirst rows b x (entry rows x i)
passed_first {rows} x i before left = record { left = left; least = λ z l. omega (arith, before z l, place_on-le-at (row rows x) (entry rows x i) i refl) }

module _ {rows : List (List ℕ)} {begun away : ℕ} {passed bounds : List ℕ} (g : IsProgress rows begun away passed bounds) where
  abbrev b : ℕ → ℕ
  b = bound_in bounds

  -- one person passes one more
  passed_kept : (z : ℕ) → z < length rows → (c : ℕ → ℕ) → ((u v : ℕ) → IsLeft rows c u v → IsLeft rows b u v)
      → ((v : ℕ) → IsLeft rows c z v → get_or passed z 0 < place_of rows z v)
      → (u v : ℕ) → IsLeft rows c u v → get_or (set passed z (get_or passed z 0 + 1)) u 0 ≤ place_of rows u v
  passed_kept z there c back behind u v =
      set_cases (λ u i. IsLeft rows c u v → i ≤ place_of rows u v) passed z (get_or passed z 0 + 1) 0 (omega (arith, g.passed_each, there))
      (λ l. omega (arith, behind v l)) (λ w ne l. g.all_passed w v (back w v l)) u

  on_list_kept : (z : ℕ) → z < length rows → get_or passed z 0 < length (row rows z) → (u : ℕ) → get_or (set passed z (get_or passed z 0 + 1)) u 0 ≤ length (row rows u)
  on_list_kept z there on = set_cases (λ u i. i ≤ length (row rows u)) passed z (get_or passed z 0 + 1) 0 (omega (arith, g.passed_each, there)) (omega (arith, on)) (λ u _. g.on_list u)

  -- the next entry isn't left
  pub progress_passes : away < length rows → get_or passed away 0 < length (row rows away) → (IsLeft rows b away (entry rows away (get_or passed away 0)) → ⊥)
      → IsProgress rows begun away (set passed away (get_or passed away 0 + 1)) bounds
  progress_passes there on gone = record {
    passed_each = length-set passed away (get_or passed away 0 + 1) ∙ g.passed_each;
    bound_each = g.bound_each;
    on_list = on_list_kept away there on;
    proposing = g.proposing;
    all_passed = passed_kept away there b (λ u v l. l) (λ v l. elim (eq_or_ne (place_of rows away v) (get_or passed away 0)) [
      | inl e ↦ let is : v ≡ entry rows away (get_or passed away 0) = sym (entry-place_of rows away v l.acc.listed) ∙ ap (entry rows away) e in absurd (gone (rw is at l))
      | inr e ↦ omega (arith, e, g.all_passed away v l)
    ]);
    settled = g.settled;
    last_begun = g.last_begun;
    last_rests = g.last_rests;
  }

  -- the one that is away is at the end of its list
  pub progress_stops : length (row rows away) ≤ get_or passed away 0 → away < begun → IsProgress rows begun begun passed bounds
  progress_stops end in_ = record {
    passed_each = g.passed_each;
    bound_each = g.bound_each;
    on_list = g.on_list;
    proposing = g.proposing;
    all_passed = g.all_passed;
    settled = λ x y lt ne f. elim (eq_or_ne x away) [
      | inl e ↦ let h : IsLeft rows b away y = rw e at f.left in absurd (omega (arith, g.all_passed away y h, h.acc.listed, end))
      | inr e ↦ g.settled x y lt e f
    ];
    last_begun = g.last_begun;
    last_rests = λ x y l. let k = g.last_begun x y l in omega (arith, k);
  }

  module _ (after : List ℕ) (in_ : away < begun) (t : IsProposalTaken rows away (get_or passed away 0) bounds after) where
    abbrev y : ℕ
    y = entry rows away (get_or passed away 0)

    abbrev c : ℕ → ℕ
    c = bound_in after

    first : IsFirst rows b away y
    first = passed_first away (get_or passed away 0) (g.all_passed away) t.left

    y_there : y < length bounds
    y_there = omega (arith, g.bound_each, inside_rows rows y away (turn rows away y t.left.acc))

    cut : c y ≡ place_of rows y away
    cut = rw t.stands (get_or-set_same bounds y (place_of rows y away) 0 y_there)

    kept : (z : ℕ) → z ≢ y → c z ≡ b z
    kept z ne = rw t.stands (get_or-set_other bounds y z (place_of rows y away) 0 ne)

    bound_long : length after ≡ length rows
    bound_long = rw t.stands (length-set bounds y (place_of rows y away) ∙ g.bound_each)

    last_in : (u v : ℕ) → IsLast rows c v u → u < begun
    last_in u v l = elim (last_before away y g.proposing first cut kept u v l) [
      | inl w ↦ omega (arith, w.0, in_)
      | inr w ↦ g.last_begun u v w.1
    ]

    -- y held nobody
    pub progress_taken_in : length (row rows y) ≤ get_or bounds y 0 → IsProgress rows begun begun passed after
    progress_taken_in free = record {
      passed_each = g.passed_each;
      bound_each = bound_long;
      on_list = g.on_list;
      proposing = still_proposing away y g.proposing first cut kept;
      all_passed = λ u v l. g.all_passed u v (was_left away y g.proposing first cut kept u v l);
      settled = λ u v lt ne f. elim (eq_or_ne u away) [
        | inl e ↦ let h : IsFirst rows c away v = rw e at f in rw e (proposer_settled away y g.proposing first cut kept v h)
        | inr e ↦ stays_settled away y g.proposing first cut kept u (λ f k. g.settled u f lt e k) (λ l. omega (arith, l.at, l.left.acc.listed, free)) v f
      ];
      last_begun = last_in;
      last_rests = λ u v l. let k = last_in u v l in omega (arith, k);
    }

    -- y lets go of z
    module _ (on : get_or bounds y 0 < length (row rows y)) where
      abbrev z : ℕ
      z = entry rows y (get_or bounds y 0)

      held : HasHolder rows b y
      held = elim (g.proposing.each y) [ inl le ↦ absurd (omega (arith, le, on)) | inr w ↦ w ]

      z_is : held.by ≡ z
      z_is = sym (entry-place_of rows y held.by held.final.left.acc.listed) ∙ ap (entry rows y) held.final.at

      z_last : IsLast rows b y z
      z_last = rw z_is at held.final

      z_first : IsFirst rows b z y
      z_first = rw z_is at held.first

      -- z is a person
      pub z_there : z < length rows
      z_there = inside_rows rows z y z_first.left.acc

      -- z has begun to propose
      pub z_begun : z < begun
      z_begun = g.last_begun z y z_last

      z_apart : z ≢ away
      z_apart = g.last_rests z y z_last

      -- z has places ahead on its list
      pub z_on : get_or passed z 0 < length (row rows z)
      z_on = omega (arith, g.all_passed z y z_first.left, z_first.left.acc.listed)

      -- y isn't left on z's list
      behind : (v : ℕ) → IsLeft rows c z v → get_or passed z 0 < place_of rows z v
      behind v l =
          let k = was_left away y g.proposing first cut kept z v l in
          elim (eq_or_ne v y) [
            | inl e ↦
                let m : IsLeft rows c z y = rw e at l in
                let d : z ≡ away = one_at rows y z away (turn rows z y m.acc) (turn rows away y first.left.acc) (omega (arith, m.there, cut, z_last.at, first.left.there)) in
                absurd (z_apart d)
            | inr e ↦ elim (lt_or_le (place_of rows z y) (place_of rows z v)) [
              | inl m ↦ omega (arith, m, g.all_passed z y z_first.left)
              | inr m ↦ absurd (e (one_at rows z v y k.acc z_first.left.acc (omega (arith, m, z_first.least v k))))
            ]
          ]

      -- now z is away, and has passed y
      pub progress_taken_for : IsProgress rows begun z (set passed z (get_or passed z 0 + 1)) after
      progress_taken_for = record {
        passed_each = length-set passed z (get_or passed z 0 + 1) ∙ g.passed_each;
        bound_each = bound_long;
        on_list = on_list_kept z z_there z_on;
        proposing = still_proposing away y g.proposing first cut kept;
        all_passed = passed_kept z z_there c (was_left away y g.proposing first cut kept) behind;
        settled = λ u v lt ne f. elim (eq_or_ne u away) [
          | inl e ↦ let h : IsFirst rows c away v = rw e at f in rw e (proposer_settled away y g.proposing first cut kept v h)
          | inr e ↦ stays_settled away y g.proposing first cut kept u (λ f k. g.settled u f lt e k) (λ l. ne (one_final l z_last)) v f
        ];
        last_begun = last_in;
        last_rests = λ u v l. elim (last_before away y g.proposing first cut kept u v l) [
          | inl w ↦ λ e. z_apart (sym e ∙ w.0)
          | inr w ↦ λ e. let m : IsLast rows b v z = rw e at w.1 in w.0 (one_first (last_first g.proposing m) z_first)
        ];
      }

-- before anybody proposes
pub progress_start : {rows : List (List ℕ)} {passed bounds : List ℕ} → length passed ≡ length rows → ((x : ℕ) → get_or passed x 0 ≡ 0) → length bounds ≡ length rows
    → ((x : ℕ) → get_or bounds x 0 ≡ length (row rows x)) → IsProgress rows 0 0 passed bounds
progress_start {rows} {passed} {bounds} long zero long' free = record {
  passed_each = long;
  bound_each = long';
  on_list = λ x. omega (arith, zero x);
  proposing = proposing_at_start (λ y. omega (arith, free y));
  all_passed = λ x y l. omega (arith, zero x);
  settled = λ x y lt. absurd (omega (arith, lt));
  last_begun = λ x y l. absurd (omega (arith, l.at, l.left.acc.listed, free y));
  last_rests = λ x y l. absurd (omega (arith, l.at, l.left.acc.listed, free y));
}

-- the next person begins
pub progress_begins : {rows : List (List ℕ)} {p : ℕ} {passed bounds : List ℕ} → IsProgress rows p p passed bounds → IsProgress rows (p + 1) p passed bounds
progress_begins {p = p} g = record {
  passed_each = g.passed_each;
  bound_each = g.bound_each;
  on_list = g.on_list;
  proposing = g.proposing;
  all_passed = g.all_passed;
  settled = λ x y lt ne f. g.settled x y (omega (arith, lt, ne)) ne f;
  last_begun = λ x y l. omega (arith, g.last_begun x y l);
  last_rests = g.last_rests;
}

-- once all persons have proposed and nobody is away, the table is good
pub progress_end : {rows : List (List ℕ)} {p : ℕ} {passed bounds : List ℕ} → IsProgress rows p p passed bounds → p ≡ length rows → IsGoodAt rows (bound_in bounds)
progress_end {rows} {p} {passed} {bounds} g full = good_at_end g.proposing (λ x y f.
    let lt = inside_rows rows x y f.left.acc in
    let l = g.settled x y (omega (arith, lt, full)) (omega (arith, lt, full)) f in
    omega (arith, l.at))

-- how many places are ahead of those that are passed
abbrev pub places_left : List (List ℕ) → List ℕ → ℕ
places_left rows passed = sum_by (λ list. length list) rows - sum_by (λ i. i) passed

-- who passes one more place leaves fewer ahead
pub places_left_fall : {rows : List (List ℕ)} {begun away : ℕ} {after : List ℕ} (passed : List ℕ) (u : ℕ) → length passed ≡ length rows → u < length rows
    → IsProgress rows begun away (set passed u (get_or passed u 0 + 1)) after → places_left rows (set passed u (get_or passed u 0 + 1)) < places_left rows passed
places_left_fall {rows} passed u long there g =
    let le = entries_below rows (set passed u (get_or passed u 0 + 1)) g.passed_each g.on_list in
    let more = sum_by-set (λ (i : ℕ). i) passed u (get_or passed u 0 + 1) 0 (omega (arith, long, there)) in
    omega arith

-- what follows once a person was asked
pub record GoesOn (rows : List (List ℕ)) (begun next : ℕ) (passed after : List ℕ) : Type 0 where
  pub begun_is : next < begun
  pub there : next < length rows
  pub on : get_or passed next 0 < length (row rows next)
  pub progress : IsProgress rows begun next (set passed next (get_or passed next 0 + 1)) after

-- after an answer the proposals go on from whom it leaves without a holder
pub goes_on : {rows : List (List ℕ)} {begun away : ℕ} {passed bounds : List ℕ} (after : List ℕ) (z : ℕ) → IsProgress rows begun away passed bounds → away < begun → away < length rows
    → get_or passed away 0 < length (row rows away)
    → IsTakenFor rows away (get_or passed away 0) z bounds after ⊎ IsPassed rows away (get_or passed away 0) z bounds after → GoesOn rows begun z passed after
goes_on after z g in_ there on (inl t) = rw t.lets_go (record {
  begun_is = z_begun g after in_ t.taken t.on_list;
  there = z_there g after in_ t.taken t.on_list;
  on = z_on g after in_ t.taken t.on_list;
  progress = progress_taken_for g after in_ t.taken t.on_list;
})
goes_on after z g in_ there on (inr t) = rw (t.who, t.same) (record { begun_is = in_; there = there; on = on; progress = progress_passes g there on t.gone })

-- the place behind one of a list fits 32 bits
pub next_fits : {rows : List (List ℕ)} → AreWithinLimits rows → (z i : ℕ) → i < length (row rows z) → Fits w32 (i + 1)
next_fits limits z i on = let lt = row_fits limits z in omega arith
