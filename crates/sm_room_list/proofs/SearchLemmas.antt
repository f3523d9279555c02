-- The search for the next rank vector.
use Rattle.std.proofs.Common.{◌≡◌, ℕ, ◌+◌, ◌-◌, ◌<◌, ◌≤◌, ◌⊎◌, inl, inr, arith, refl, sym, ap, ◌∙◌, List, Option, Some, None, length, get_or, set, Bool, true, false}
use Rattle.std.proofs.lemmas.List.{ext_get_or, length-set}
use Rattle.std.proofs.lemmas.List.FromFn.{get_or-map-range_with_len, length-map-range_with_len, get_or-range_with_len, length-range_with_len}
use Rattle.sm_lists.specs.Rows.{row, agents}
use Rattle.sm_lists.specs.Orders.{IsBefore, AreAlikeBelow}
use Rattle.sm_lists.proofs.Counting.{lt_or_le, eq_or_ne, less_same_more}
use Rattle.sm_lists.proofs.ItemLemmas.{set_cases}
use Rattle.sm_theory.specs.Rooms.{IsRoomStable}
use Rattle.sm_theory.specs.Listings.{IsNextListed, IsNoneBehind}
use Rattle.sm_room_list.specs.RoomVectors.{room_rank, IsRoomVector}
use Rattle.sm_room_list.specs.Cuts.{IsStableWithin}
use Rattle.sm_room_list.specs.Tops.{AreTops, AreLowered, IsVectorWithin}
use Rattle.sm_room_list.specs.Search.{IsAboveAt, NoneAt, HoldAlike, HoldAbove, IsHeld, IsLeastWithin, IsSettledAt}
use Rattle.sm_room_list.proofs.TopsLemmas.{within_lower}

-- a rank vector has the ranks
pub vector_long : {rows : List (List ℕ)} {tops v : List ℕ} → IsVectorWithin rows tops v → length v ≡ length rows
vector_long {rows} r = ap (λ (w : List ℕ). length w) r.vector ∙ length-map-range_with_len (λ x. room_rank rows r.matching x) 0 (length rows)

pub vector_at : {rows : List (List ℕ)} {tops v : List ℕ} → (r : IsVectorWithin rows tops v) → (x : ℕ) → x < length rows → get_or v x 0 ≡ room_rank rows r.matching x
vector_at {rows} r x h = ap (λ (w : List ℕ). get_or w x 0) r.vector ∙ get_or-map-range_with_len (λ x. room_rank rows r.matching x) 0 (length rows) x x 0 h (omega arith)

module _ {rows : List (List ℕ)} where
  -- a rank vector within tops is one of a stable matching
  pub is_vector : {tops w : List ℕ} → IsVectorWithin rows tops w → IsRoomVector rows w
  is_vector r = record { matching = r.matching; stable = r.within.stable; vector = r.vector }

  -- lower tops hold fewer
  pub vector_lower : {before after w : List ℕ} → ((x : ℕ) → get_or after x 0 ≤ get_or before x 0) → IsVectorWithin rows after w → IsVectorWithin rows before w
  vector_lower lower r = record { matching = r.matching; within = within_lower lower r.within; vector = r.vector }

  -- a rank is at most the top, and above what is passed
  pub top_at : {tops w : List ℕ} → IsVectorWithin rows tops w → (x : ℕ) → x < length rows → get_or w x 0 ≤ get_or tops x 0
  top_at r x h = let e = vector_at r x h in let k = r.within.within x h in omega arith

  pub passed_at : {tops passed w : List ℕ} → AreTops rows tops passed → IsVectorWithin rows tops w → (x : ℕ) → x < length rows → get_or passed x 0 < get_or w x 0
  passed_at t r x h = let e = vector_at r x h in let k = t.holds r.matching r.within x in omega arith

  -- what is kept where tops are lowered
  pub vector_kept : {before after w : List ℕ} {P : List (Option ℕ) → Type 0} → AreLowered rows before after P → (r : IsVectorWithin rows before w) → P r.matching → IsVectorWithin rows after w
  vector_kept l r p = record { matching = r.matching; within = l.kept r.matching r.within p; vector = r.vector }

  -- all stable matchings begin as any vector before the first person
  pub hold_all : {c tops : List ℕ} → ((mates : List (Option ℕ)) → IsRoomStable rows mates → IsStableWithin rows tops mates) → HoldAlike rows c 0 tops
  hold_all all = record {
    holds = λ w r j less. absurd (omega arith);
    all = λ w r a. record { matching = r.matching; within = all r.matching r.stable; vector = r.vector };
  }

  module _ {c tops : List ℕ} {k : ℕ} (a : HoldAlike rows c k tops) (inside : k < length rows) where
    -- one more person has the rank of the vector
    pub follow_on : {after : List ℕ} {rank : ℕ} → rank ≡ get_or c k 0 → AreLowered rows tops after (λ mates. room_rank rows mates k ≡ rank)
        → ((mates : List (Option ℕ)) → IsStableWithin rows after mates → room_rank rows mates k ≡ rank) → HoldAlike rows c (k + 1) after
    follow_on {after} {rank} is l fixed = record {
      holds = λ w r j less. elim (eq_or_ne j k) [
        | inl e ↦ rw e (sym (vector_at r k inside ∙ fixed r.matching r.within ∙ is))
        | inr e ↦ a.holds w (vector_lower l.lower r) j (omega arith)
      ];
      all = λ w r same.
          let b = a.all w r (λ j less. same j (omega arith)) in
          vector_kept l b (sym (vector_at b k inside) ∙ sym (same k (omega arith)) ∙ sym is);
    }

    -- or can't have it
    pub follow_low : {passed : List ℕ} → AreTops rows tops passed → get_or c k 0 ≤ get_or passed k 0 → (w : List ℕ) → IsRoomVector rows w → AreAlikeBelow (k + 1) c w → ⊥
    follow_low {passed} t low w r same =
        let b = a.all w r (λ j less. same j (omega arith)) in
        let e = same k (omega arith) in let p = passed_at t b k inside in omega arith

    pub follow_high : get_or tops k 0 < get_or c k 0 → (w : List ℕ) → IsRoomVector rows w → AreAlikeBelow (k + 1) c w → ⊥
    follow_high high w r same =
        let b = a.all w r (λ j less. same j (omega arith)) in
        let e = same k (omega arith) in let p = top_at b k inside in omega arith

    -- nor can it have a greater one
    pub none_higher : get_or tops k 0 ≤ get_or c k 0 → NoneAt rows c k
    none_higher high w r above = let b = a.all w r above.alike in let p = top_at b k inside in let g = above.greater in omega arith

    -- it has a greater one
    pub hold_above : {after : List ℕ} {least : ℕ} → least ≡ get_or c k 0 → AreLowered rows tops after (λ mates. least < room_rank rows mates k)
        → ((mates : List (Option ℕ)) → IsStableWithin rows after mates → least < room_rank rows mates k) → HoldAbove rows c k after
    hold_above {after} {least} is l raised = record {
      holds = λ w r. record { greater = (let e = vector_at r k inside in let g = raised r.matching r.within in omega arith); alike = a.holds w (vector_lower l.lower r) };
      all = λ w r above.
          let b = a.all w r above.alike in
          vector_kept l b (let e = vector_at b k inside in let g = above.greater in omega arith);
    }

  -- whom no vector follows none is above behind
  pub none_behind : {c : List ℕ} {k j : ℕ} → ((w : List ℕ) → IsRoomVector rows w → AreAlikeBelow (k + 1) c w → ⊥) → k < j → NoneAt rows c j
  none_behind none less w r above = none w r (λ i h. above.alike i (omega arith))

-- the persons below k are noted
pub record AreNotedUpTo (rows : List (List ℕ)) (c : List ℕ) (k : ℕ) (risers : List Bool) : Type 0 where
  pub one_each : length risers ≡ length rows
  pub noted : (j : ℕ) → j < k → get_or risers j false ≡ false → NoneAt rows c j

-- one more is noted
pub note_one : {rows : List (List ℕ)} {c tops : List ℕ} {k : ℕ} {risers : List Bool} (may : Bool) → HoldAlike rows c k tops → k < length rows → (may ≡ false → get_or tops k 0 ≤ get_or c k 0)
    → AreNotedUpTo rows c k risers → AreNotedUpTo rows c (k + 1) (set risers k may)
note_one {rows} {c} {tops} {k} {risers} may a inside high g = record {
  one_each = length-set risers k may ∙ g.one_each;
  noted = λ j less e. at j e (omega arith);
}
  where
    at : (j : ℕ) → get_or (set risers k may) j false ≡ false → j < k + 1 → NoneAt rows c j
    at = set_cases (λ j b. b ≡ false → j < k + 1 → NoneAt rows c j) risers k may false (let e = g.one_each in omega arith)
        (λ e less. none_higher a inside (high e))
        (λ j other e less. g.noted j (omega arith) e)

-- two vectors within tops that hold vectors above another are alike before the person
pub above_alike : {rows : List (List ℕ)} {c tops v : List ℕ} {k : ℕ} → HoldAbove rows c k tops → IsVectorWithin rows tops v → (w : List ℕ) → IsVectorWithin rows tops w → AreAlikeBelow k v w
above_alike a r w s j less = sym ((a.holds _ r).alike j less) ∙ (a.holds w s).alike j less

-- v is smaller than w at a person below x, and alike before
pub record IsBeforeBy (x : ℕ) (v w : List ℕ) : Type 0 where
  pub at : ℕ
  pub early : at < x
  pub smaller : get_or v at 0 < get_or w at 0
  pub alike : AreAlikeBelow at v w

-- ranks are settled below x: of the vectors within the first tops, those within the later ones are alike below x, and others
-- are greater at a person below x, and alike before
pub record AreSettledTo (rows : List (List ℕ)) (first : List ℕ) (x : ℕ) (tops v : List ℕ) : Type 0 where
  pub lower : (w : List ℕ) → IsVectorWithin rows tops w → IsVectorWithin rows first w
  pub alike : (w : List ℕ) → IsVectorWithin rows tops w → AreAlikeBelow x v w
  pub all : (w : List ℕ) → IsVectorWithin rows first w → IsVectorWithin rows tops w ⊎ IsBeforeBy x v w

-- at the start
pub settled_begins : {rows : List (List ℕ)} {first v : List ℕ} {x : ℕ} → ((w : List ℕ) → IsVectorWithin rows first w → AreAlikeBelow x v w) → AreSettledTo rows first x first v
settled_begins alike = record { lower = λ w r. r; alike = alike; all = λ w r. inl r }

-- one more rank is settled: v is now u
pub settled_one : {rows : List (List ℕ)} {first tops after v u : List ℕ} {x : ℕ} → AreSettledTo rows first x tops v → IsVectorWithin rows after u → IsSettledAt rows x tops after u → AreSettledTo rows first (x + 1) after u
settled_one {rows} {first} {tops} {after} {v} {u} {x} g here s = record {
  lower = λ w r. g.lower w (s.lower w r);
  alike = λ w r j less. elim (eq_or_ne j x) [
    | inl e ↦ rw e (sym (s.fixed w r))
    | inr e ↦ turn w (s.lower w r) j (omega arith)
  ];
  all = λ w r. elim (g.all w r) [
    | inl k ↦ elim (s.all w k) [
      | inl q ↦ inl q
      | inr q ↦ inr (record { at = x; early = omega arith; smaller = q; alike = turn w k })
    ]
    | inr b ↦ inr (record {
      at = b.at;
      early = (let e = b.early in omega arith);
      smaller = (let e = same b.at b.early in let q = b.smaller in omega arith);
      alike = λ j less. sym (same j (let e = b.early in omega arith)) ∙ b.alike j less;
    })
  ];
}
  where
    same : (j : ℕ) → j < x → get_or v j 0 ≡ get_or u j 0
    same = g.alike u (s.lower u here)

    turn : (w : List ℕ) → IsVectorWithin rows tops w → AreAlikeBelow x u w
    turn w r j less = sym (same j less) ∙ g.alike w r j less

-- a vector that is smaller at a person, and alike before, is before another
pub is_before : (rows : List (List ℕ)) {v w : List ℕ} (k : ℕ) → k < length rows → get_or v k 0 < get_or w k 0 → AreAlikeBelow k v w → IsBefore (agents rows) v w
is_before rows {v} {w} k less smaller alike = record {
  at = k;
  within = (let e = length-range_with_len 0 (length rows) in omega arith);
  smaller = rw (number k less) smaller;
  alike = λ j h. rw (number j (omega arith)) (alike j h);
}
  where
    number : (j : ℕ) → j < length rows → get_or (agents rows) j 0 ≡ j
    number j h = get_or-range_with_len 0 (length rows) j 0 h ∙ (let e : 0 + j ≡ j = omega arith in e)

-- once all are settled the vector is the least
pub settled_all : {rows : List (List ℕ)} {first tops v : List ℕ} {x : ℕ} → AreSettledTo rows first x tops v → x ≡ length rows → IsVectorWithin rows tops v → IsLeastWithin rows first v
settled_all {rows} {first} {tops} {v} {x} g full here = record {
  here = g.lower v here;
  least = λ w r. elim (g.all w r) [
    | inl k ↦
        let a = vector_long here in let b = vector_long k in
        inl (ext_get_or 0 v w (omega arith) (λ j less. g.alike w k j (omega arith)))
    | inr b ↦ inr (before b (omega (arith, b.early)))
  ];
}
  where
    before : {w : List ℕ} → (b : IsBeforeBy x v w) → b.at < length rows → IsBefore (agents rows) v w
    before {w} b less = is_before rows b.at less b.smaller b.alike

-- and the other way round
pub before_at : (rows : List (List ℕ)) {v w : List ℕ} → IsBefore (agents rows) v w → (k : ℕ) × (k < length rows) × IsAboveAt v k w
before_at rows {v} {w} b = (
  b.at,
  inside,
  record {
    greater = rw (number b.at inside) at b.smaller;
    alike = λ j h. let i = inside in let lt : j < length rows = omega arith in rw (number j lt) at (b.alike j h);
  },
)
  where
    inside : b.at < length rows
    inside = let e = length-range_with_len 0 (length rows) in let h = b.within in omega arith

    number : (j : ℕ) → j < length rows → get_or (agents rows) j 0 ≡ j
    number j h = get_or-range_with_len 0 (length rows) j 0 h ∙ (let e : 0 + j ≡ j = omega arith in e)

-- where none is above a vector at any person none is behind it
pub none_left : {rows : List (List ℕ)} {c : List ℕ} → ((j : ℕ) → j < length rows → NoneAt rows c j) → IsNoneBehind (IsBefore (agents rows)) (IsRoomVector rows) (Some c)
none_left {rows} none v r b = let w = before_at rows b in none w.0 w.1 v r w.2

-- the least of those above a vector at the deepest person at which there are some is the next
pub least_is_next : {rows : List (List ℕ)} {c tops v : List ℕ} {k : ℕ} → k < length rows → HoldAbove rows c k tops → ((j : ℕ) → k < j → j < length rows → NoneAt rows c j) → IsLeastWithin rows tops v
    → IsNextListed (IsBefore (agents rows)) (IsRoomVector rows) (Some c) v
least_is_next {rows} {c} {tops} {v} {k} inside a none l = record {
  one = is_vector l.here;
  behind = is_before rows k inside here.greater here.alike;
  least = λ w r b. from w r (before_at rows b);
}
  where
    here : IsAboveAt c k v
    here = a.holds v l.here

    from : (w : List ℕ) → IsRoomVector rows w → (j : ℕ) × (j < length rows) × IsAboveAt c j w → (v ≡ w) ⊎ IsBefore (agents rows) v w
    from w r b = elim (less_same_more b.0 k) [
      | inl less ↦ inr (is_before rows b.0 b.1 (let e = here.alike b.0 less in let g = b.2.greater in omega arith) (λ j h. sym (here.alike j (omega arith)) ∙ b.2.alike j h))
      | inr (inl e) ↦ l.least w (a.all w r (let h : IsAboveAt c k w = rw e at b.2 in h))
      | inr (inr more) ↦ absurd (none b.0 more b.1 w r b.2)
    ]

-- the least of all is the first
pub least_is_first : {rows : List (List ℕ)} {tops v : List ℕ} → ((mates : List (Option ℕ)) → IsRoomStable rows mates → IsStableWithin rows tops mates) → IsLeastWithin rows tops v
    → IsNextListed (IsBefore (agents rows)) (IsRoomVector rows) None v
least_is_first {rows} {tops} {v} all l = record {
  one = is_vector l.here;
  behind = tt;
  least = λ w r b. l.least w (record { matching = r.matching; within = all r.matching r.stable; vector = r.vector });
}

-- no rank is lower than those that are known, and no other vector is lost
pub settled_at : {rows : List (List ℕ)} {before tops after v : List ℕ} {x : ℕ} → x < length rows → ((w : List ℕ) → IsVectorWithin rows tops w → IsVectorWithin rows before w)
    → ((w : List ℕ) → IsVectorWithin rows before w → IsVectorWithin rows tops w ⊎ (get_or v x 0 < get_or w x 0)) → ((w : List ℕ) → IsVectorWithin rows tops w → get_or v x 0 ≤ get_or w x 0)
    → AreLowered rows tops after (λ mates. room_rank rows mates x ≡ get_or v x 0) → ((mates : List (Option ℕ)) → IsStableWithin rows after mates → room_rank rows mates x ≡ get_or v x 0)
    → IsSettledAt rows x before after v
settled_at {rows} {before} {tops} {after} {v} {x} inside lower all least l fixed = record {
  lower = λ w r. lower w (vector_lower l.lower r);
  fixed = λ w r. vector_at r x inside ∙ fixed r.matching r.within;
  all = λ w r. elim (all w r) [
    | inl k ↦ elim (eq_or_ne (get_or w x 0) (get_or v x 0)) [
      | inl e ↦ inl (vector_kept l k (sym (vector_at k x inside) ∙ e))
      | inr e ↦ inr (let h = least w k in omega arith)
    ]
    | inr k ↦ inr k
  ];
}

-- who was noted as shut, and whoever is behind a person whom no vector follows
pub noted_all : {rows : List (List ℕ)} {c : List ℕ} {risers : List Bool} (k : ℕ) → AreNotedUpTo rows c (k + 1) risers → ((w : List ℕ) → IsRoomVector rows w → AreAlikeBelow (k + 1) c w → ⊥)
    → (j : ℕ) → j < length rows → get_or risers j false ≡ false → NoneAt rows c j
noted_all {rows} {c} k g none j h e = elim (lt_or_le j (k + 1)) [
  | inl less ↦ g.noted j less e
  | inr more ↦ none_behind none (omega arith)
]

-- a rank is at least 1 and at most one more than the list is long
pub rank_bounds : {rows : List (List ℕ)} {tops passed v : List ℕ} → AreTops rows tops passed → IsVectorWithin rows tops v → (x : ℕ) → x < length rows → (1 ≤ get_or v x 0) × (get_or v x 0 ≤ length (row rows x) + 1)
rank_bounds t r x h =
    let a = passed_at t r x h in let b = top_at r x h in let m = t.most x in
    ((let k : 1 ≤ get_or _ x 0 = omega arith in k), omega arith)

-- where a test within a top finds nothing each rank is above it
pub none_up_to : {rows : List (List ℕ)} {tops after : List ℕ} {x top : ℕ} → x < length rows → AreLowered rows tops after (λ mates. room_rank rows mates x ≤ top)
    → ((mates : List (Option ℕ)) → IsStableWithin rows after mates → ⊥) → (w : List ℕ) → IsVectorWithin rows tops w → top < get_or w x 0
none_up_to {rows} {tops} {after} {x} {top} inside l none w r = elim (lt_or_le top (get_or w x 0)) [
  | inl k ↦ k
  | inr k ↦ let e = vector_at r x inside in absurd (none r.matching (l.kept r.matching r.within (omega arith)))
]

-- and where it finds something what is lost is above it
pub lost_above : {rows : List (List ℕ)} {tops after : List ℕ} {x top : ℕ} → x < length rows → AreLowered rows tops after (λ mates. room_rank rows mates x ≤ top)
    → (w : List ℕ) → IsVectorWithin rows tops w → IsVectorWithin rows after w ⊎ (top < get_or w x 0)
lost_above {rows} {tops} {after} {x} {top} inside l w r = elim (lt_or_le top (get_or w x 0)) [
  | inl k ↦ inr k
  | inr k ↦ let e = vector_at r x inside in inl (vector_kept l r (omega arith))
]

-- what is held while a rank is lowered
pub record IsLowering (rows : List (List ℕ)) (x : ℕ) (first tops passed v : List ℕ) (known : ℕ) : Type 0 where
  pub held : IsHeld rows tops passed v
  pub lower : (w : List ℕ) → IsVectorWithin rows tops w → IsVectorWithin rows first w
  pub all : (w : List ℕ) → IsVectorWithin rows first w → IsVectorWithin rows tops w ⊎ (get_or v x 0 < get_or w x 0)
  pub known_is : (w : List ℕ) → IsVectorWithin rows tops w → known < get_or w x 0
  pub below : known < get_or v x 0

-- at the start
pub lowering_begins : {rows : List (List ℕ)} {x : ℕ} {tops passed v : List ℕ} → x < length rows → IsHeld rows tops passed v → IsLowering rows x tops tops passed v (get_or passed x 0)
lowering_begins {rows} {x} inside h = record { held = h; lower = λ w r. r; all = λ w r. inl r; known_is = λ w r. passed_at h.kept r x inside; below = passed_at h.kept h.here x inside }

-- something was found
pub lowering_found : {rows : List (List ℕ)} {x : ℕ} {first tops passed v after gone u : List ℕ} {known top known_now : ℕ} → IsLowering rows x first tops passed v known → IsHeld rows after gone u → top < get_or v x 0 → get_or u x 0 ≤ top
    → ((w : List ℕ) → IsVectorWithin rows after w → IsVectorWithin rows tops w) → ((w : List ℕ) → IsVectorWithin rows tops w → IsVectorWithin rows after w ⊎ (top < get_or w x 0)) → known_now ≡ known
    → IsLowering rows x first after gone u known_now
lowering_found {rows} {x} {first} {tops} {passed} {v} {after} {gone} {u} {known} {top} {known_now} g h less found lower all e = record {
  held = h;
  lower = λ w r. g.lower w (lower w r);
  all = λ w r. elim (g.all w r) [
    | inl k ↦ elim (all w k) [
      | inl q ↦ inl q
      | inr q ↦ inr (omega arith)
    ]
    | inr k ↦ inr (omega arith)
  ];
  known_is = λ w r. let k = g.known_is w (lower w r) in omega arith;
  below = let k = g.known_is u (lower u h.here) in omega arith;
}

-- after a test within a top
pub lowering_after : {rows : List (List ℕ)} {x : ℕ} {first tops passed v after gone u : List ℕ} {known top known_now : ℕ} (found : Bool) → IsLowering rows x first tops passed v known → IsHeld rows after gone u → top < get_or v x 0
    → (found ≡ true → get_or u x 0 ≤ top) → ((w : List ℕ) → IsVectorWithin rows after w → IsVectorWithin rows tops w) → ((w : List ℕ) → IsVectorWithin rows tops w → IsVectorWithin rows after w ⊎ (top < get_or w x 0))
    → (found ≡ false → (w : List ℕ) → IsVectorWithin rows tops w → top < get_or w x 0) → (found ≡ false → (w : List ℕ) → IsVectorWithin rows tops w → IsVectorWithin rows after w) → (found ≡ false → get_or u x 0 ≡ get_or v x 0)
    → (found ≡ true → known_now ≡ known) → (found ≡ false → known_now ≡ top) → IsLowering rows x first after gone u known_now
lowering_after {rows} {x} {first} {tops} {passed} {v} {after} {gone} {u} {known} {top} {known_now} true g h less hit lower all miss same same_rank on off = lowering_found g h less (hit refl) lower all (on refl)
lowering_after {rows} {x} {first} {tops} {passed} {v} {after} {gone} {u} {known} {top} {known_now} false g h less hit lower all miss same same_rank on off =
    let e = same_rank refl in let n = off refl in
    record {
      held = h;
      lower = λ w r. g.lower w (lower w r);
      all = λ w r. elim (g.all w r) [
        | inl k ↦ inl (same refl w k)
        | inr k ↦ inr (omega arith)
      ];
      known_is = λ w r. let k = miss refl w (lower w r) in omega arith;
      below = let k = miss refl u (lower u h.here) in omega arith;
    }

-- fewer ranks are left to be tried
pub ranks_fall : {v u known top known_now : ℕ} (found : Bool) → known < top → top < v → (found ≡ true → u ≤ top) → (found ≡ false → u ≡ v) → (found ≡ true → known_now ≡ known) → (found ≡ false → known_now ≡ top) → u - known_now < v - known
ranks_fall true a b hit same on off = let h = hit refl in let e = on refl in omega arith
ranks_fall false a b hit same on off = let h = same refl in let e = off refl in omega arith

-- from the last person on none is above a vector down to one more person
pub none_further : {rows : List (List ℕ)} {c : List ℕ} (n back k : ℕ) → k + 1 + back ≡ n → ((j : ℕ) → n ≤ j + back → j < n → NoneAt rows c j) → NoneAt rows c k → (j : ℕ) → n ≤ j + (back + 1) → j < n → NoneAt rows c j
none_further n back k e g none j le h = elim (eq_or_ne j k) [
  | inl d ↦ rw d none
  | inr d ↦ g j (omega arith) h
]

-- a rank vector has a rank for each person
pub room_long : {rows : List (List ℕ)} {v : List ℕ} → IsRoomVector rows v → length v ≡ length rows
room_long {rows} r = ap (λ (w : List ℕ). length w) r.vector ∙ length-map-range_with_len (λ x. room_rank rows r.matching x) 0 (length rows)
