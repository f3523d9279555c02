-- From stable matchings and stable partitions of roommates to ways of RoomCore.
use Rattle.std.proofs.Common.{◌≡◌, ◌≢◌, ℕ, zero, suc, ◌<◌, ◌≤◌, inl, inr, arith, refl, sym, ap, ◌∙◌, List, length, Option, None, Some, cond, eqb, eq-eqb, ne_eqb, le_of_eq}
use Rattle.sm_market.specs.Lists.{row, entry, place_of}
use Rattle.sm_lists.proofs.Counting.{lt_or_le, eq_or_ne, less_same_more, onto_itself, iterate, iterate-zero, iterate-suc}
use Rattle.sm_lists.proofs.PlaceLemmas.{entry-place_of, place_of-le}
use Rattle.std.proofs.lemmas.List.Sums.{position_or_len_is}
use Rattle.sm_theory.specs.Rooms.{IsAcceptable, mate_of, place_of_mate, IsRoomMatching, IsRoomStable}
use Rattle.sm_theory.specs.Partitions.{successor_in, predecessor_in, after, party_place, IsStablePartition, IsInOddParty}
use Rattle.sm_theory.proofs.Bridge.Places.{row_past}
use Rattle.sm_theory.proofs.Room.Core.{Persons, Way, turned, Goes, Parting}
use Rattle.sm_lists.proofs.RowLemmas.{row_in_range}

-- lists of roommates as functions
abbrev pub persons_of : List (List ℕ) → Persons
persons_of rows = record {
  n = length rows;
  len = λ x. length (row rows x);
  place = place_of rows;
  Acc = IsAcceptable rows;
  turn = λ x y h. record { apart = λ e. h.apart (sym e); listed = h.returned; returned = h.listed };
  on = λ x y h. h.listed;
  inside = λ x y h. row_in_range rows x (place_of rows x y) h.listed;
  one = λ x y z h k e. sym (entry-place_of rows x y h.listed) ∙ ap (entry rows x) e ∙ entry-place_of rows x z k.listed;
}

-- matchings
pub mate_or : Option ℕ → ℕ → ℕ
mate_or None x = x
mate_or (Some y) x = y

-- a matching of roommates as a way: each goes to its mate and back
abbrev pub way_of_mates : List (List ℕ) → List (Option ℕ) → Way
way_of_mates rows mates = record {
  to = λ x. mate_or (mate_of mates x) x;
  from = λ x. mate_or (mate_of mates x) x;
  a = λ x. place_of_mate rows x (mate_of mates x);
  b = λ x. place_of_mate rows x (mate_of mates x);
}

record HasMate (mates : List (Option ℕ)) (x : ℕ) : Type 0 where
  mate : ℕ
  is : mate_of mates x ≡ Some mate

some_mate : (rows : List (List ℕ)) (mates : List (Option ℕ)) (x : ℕ) → place_of_mate rows x (mate_of mates x) < length (row rows x) → HasMate mates x
some_mate rows mates x h = go (mate_of mates x) refl
  where
    go : (o : Option ℕ) → mate_of mates x ≡ o → HasMate mates x
    go None e = let p : place_of_mate rows x (mate_of mates x) ≡ length (row rows x) = rw e refl in absurd (omega arith)
    go (Some y) e = record { mate = y; is = e }

goes_of_mates : {rows : List (List ℕ)} {mates : List (Option ℕ)} → IsRoomMatching rows mates → Goes (persons_of rows) (way_of_mates rows mates)
unfolding mate_or
goes_of_mates {rows} {mates} h = record { within = λ x. within x (mate_of mates x); acc = acc; at = at; back = back; theirs = theirs }
  where
    within : (x : ℕ) (o : Option ℕ) → place_of_mate rows x o ≤ length (row rows x)
    within x None = omega arith
    within x (Some y) = place_of-le rows x y

    acc : (x : ℕ) → place_of_mate rows x (mate_of mates x) < length (row rows x) → IsAcceptable rows x (mate_or (mate_of mates x) x)
    acc x less = let w = some_mate rows mates x less in rw w.is (h.acceptable x w.mate w.is)

    at : (x : ℕ) → place_of_mate rows x (mate_of mates x) < length (row rows x) → place_of rows x (mate_or (mate_of mates x) x) ≡ place_of_mate rows x (mate_of mates x)
    at x less = let w = some_mate rows mates x less in rw w.is refl

    back : (x : ℕ) → place_of_mate rows x (mate_of mates x) < length (row rows x) → mate_or (mate_of mates (mate_or (mate_of mates x) x)) (mate_or (mate_of mates x) x) ≡ x
    back x less = let w = some_mate rows mates x less in rw w.is (rw (h.in_turn x w.mate w.is) refl)

    theirs : (x : ℕ) → place_of_mate rows x (mate_of mates x) < length (row rows x) → place_of rows (mate_or (mate_of mates x) x) x ≡ place_of_mate rows (mate_or (mate_of mates x) x) (mate_of mates (mate_or (mate_of mates x) x))
    theirs x less = let w = some_mate rows mates x less in rw w.is (rw (h.in_turn x w.mate w.is) refl)

-- a stable matching of roommates is a parting
pub parting_of_mates : {rows : List (List ℕ)} {mates : List (Option ℕ)} → IsRoomStable rows mates → Parting (persons_of rows) (way_of_mates rows mates)
parting_of_mates h = record {
  left = goes_of_mates h.matching;
  right = goes_of_mates h.matching;
  le = λ x. omega arith;
  unblocked = λ x y acc less more. h.unblocked x y (record { acceptable = acc; first_gains = less; second_gains = more });
}

-- partitions: the place of somebody on x's list, x itself being last of all
pub own_place : List (List ℕ) → ℕ → ℕ → ℕ
own_place rows x y = cond (eqb y x) (length (row rows x)) (place_of rows x y)

-- oneself is past one's list
pub own_self : (rows : List (List ℕ)) (x y : ℕ) → y ≡ x → own_place rows x y ≡ length (row rows x)
unfolding own_place
own_self rows x y e = rw (eq-eqb y x e) refl

-- another person is at its place
pub own_other : (rows : List (List ℕ)) (x y : ℕ) → y ≢ x → own_place rows x y ≡ place_of rows x y
unfolding own_place
own_other rows x y e = rw (ne_eqb y x e) refl

own_apart : (rows : List (List ℕ)) (x y : ℕ) → own_place rows x y < length (row rows x) → y ≢ x
own_apart rows x y h e = omega (arith, own_self rows x y e)

own_within : (rows : List (List ℕ)) (x y : ℕ) → own_place rows x y ≤ length (row rows x)
own_within rows x y = elim (eq_or_ne y x) [
  | inl e ↦ omega (arith, own_self rows x y e)
  | inr e ↦ omega (arith, own_other rows x y e, place_of-le rows x y)
]

party_place_is : (rows : List (List ℕ)) (next : List ℕ) (x : ℕ) → party_place rows next x ≡ own_place rows x (predecessor_in next x)
unfolding own_place
party_place_is rows next x = refl

-- a partition as a way: each goes to its successor
abbrev pub way_of_parties : List (List ℕ) → List ℕ → Way
way_of_parties rows next = record {
  to = successor_in next;
  from = predecessor_in next;
  a = λ x. own_place rows x (successor_in next x);
  b = λ x. own_place rows x (predecessor_in next x);
}

module _ {rows : List (List ℕ)} {next : List ℕ} (h : IsStablePartition rows next) where
  -- nobody is the successor of two persons
  pub one_successor : (x y : ℕ) → x < length rows → y < length rows → successor_in next x ≡ successor_in next y → x ≡ y
  one_successor x y a b e = elim (less_same_more x y) [
    | inl k ↦ absurd (h.distinct x y k b e)
    | inr d ↦ elim d [
      | inl k ↦ k
      | inr k ↦ absurd (h.distinct y x k a (sym e))
    ]
  ]

  -- the predecessor of the successor is oneself
  pub before_next : (x : ℕ) → x < length rows → predecessor_in next (successor_in next x) ≡ x
  before_next x a = position_or_len_is (λ y. eqb y (successor_in next x)) next x 0 (omega (arith, h.one_each))
      (λ k less. ne_eqb _ _ (λ e. h.distinct k x less a e))
      (λ _. eq-eqb _ _ refl)

  -- the predecessor of x is a person, and x is its successor
  pub record HasBefore (x : ℕ) : Type 0 where
    pub inside : predecessor_in next x < length rows
    pub next_is : successor_in next (predecessor_in next x) ≡ x

  -- each person has a predecessor
  pub has_before : (x : ℕ) → x < length rows → HasBefore x
  has_before x a =
      let w = onto_itself (length rows) (λ y. y < length rows) (successor_in next) (λ y k. k) (λ y k. h.in_range y k) one_successor x a in
      let e : predecessor_in next x ≡ w.from = ap (predecessor_in next) (sym w.arrives) ∙ before_next w.from w.holds in
      record { inside = rw e w.holds; next_is = rw e w.arrives }

  goes_to : Goes (persons_of rows) (way_of_parties rows next)
  goes_to = record {
    within = λ x. own_within rows x (successor_in next x);
    acc = λ x less. h.acceptable x (inside x less) (own_apart rows x (successor_in next x) less);
    at = λ x less. sym (own_other rows x (successor_in next x) (own_apart rows x (successor_in next x) less));
    back = λ x less. before_next x (inside x less);
    theirs = λ x less.
        let y : ℕ = successor_in next x in
        sym (ap (own_place rows y) (before_next x (inside x less)) ∙ own_other rows y x (λ e. own_apart rows x y less (sym e)));
  }
    where
      inside : (x : ℕ) → own_place rows x (successor_in next x) < length (row rows x) → x < length rows
      inside x less = row_in_range rows x _ less

  goes_from : Goes (persons_of rows) (turned (way_of_parties rows next))
  goes_from = record {
    within = λ x. own_within rows x (predecessor_in next x);
    acc = acc;
    at = λ x less. sym (own_other rows x (predecessor_in next x) (own_apart rows x (predecessor_in next x) less));
    back = λ x less. (has_before x (inside x less)).next_is;
    theirs = λ x less.
        let y : ℕ = predecessor_in next x in
        sym (ap (own_place rows y) (has_before x (inside x less)).next_is ∙ own_other rows y x (λ e. own_apart rows x y less (sym e)));
  }
    where
      inside : (x : ℕ) → own_place rows x (predecessor_in next x) < length (row rows x) → x < length rows
      inside x less = row_in_range rows x _ less

      acc : (x : ℕ) → own_place rows x (predecessor_in next x) < length (row rows x) → IsAcceptable rows x (predecessor_in next x)
      acc x less =
          let w = has_before x (inside x less) in
          let y : ℕ = predecessor_in next x in
          let k : IsAcceptable rows y x = rw w.next_is at (h.acceptable y w.inside (λ e. own_apart rows x y less (sym e ∙ w.next_is))) in
          (persons_of rows).turn y x k

  -- each likes its successor as well as its predecessor, and better where they differ
  pub prefers_next : (x : ℕ) → x < length rows → successor_in next x ≢ predecessor_in next x → own_place rows x (successor_in next x) < own_place rows x (predecessor_in next x)
  prefers_next x a ne = omega (
    arith,
    h.prefers x a ne,
    own_other rows x (successor_in next x) (λ e. ne (e ∙ sym (ap (predecessor_in next) (sym e) ∙ before_next x a))),
    own_other rows x (predecessor_in next x) (λ e. ne (sym (ap (successor_in next) e) ∙ (has_before x a).next_is ∙ sym e)),
  )

  -- a stable partition is a parting
  pub parting_of_parties : Parting (persons_of rows) (way_of_parties rows next)
  parting_of_parties = record {
    left = goes_to;
    right = goes_from;
    le = λ x. elim (lt_or_le x (length rows)) [
      | inr k ↦ omega (arith, row_past rows x k, own_within rows x (successor_in next x))
      | inl k ↦ elim (eq_or_ne (successor_in next x) (predecessor_in next x)) [
        | inl e ↦ le_of_eq (ap (own_place rows x) e)
        | inr e ↦ let less = prefers_next x k e in omega arith
      ]
    ];
    unblocked = λ x y acc less more. h.unblocked x y acc (rw (party_place_is rows next x) less) (rw (party_place_is rows next y) more);
  }

  -- the persons met from x on
  pub after_is : (x k : ℕ) → iterate (successor_in next) k x ≡ after next x k
  after_is x zero = iterate-zero (successor_in next) x
  after_is x (suc k) = iterate-suc (successor_in next) k x ∙ ap (successor_in next) (after_is x k)

  -- whoever is met from a person on is a person
  pub after_inside : (x k : ℕ) → x < length rows → after next x k < length rows
  after_inside x zero a = a
  after_inside x (suc k) a = h.in_range (after next x k) (after_inside x k a)

  -- in an odd party successor and predecessor differ
  two_apart : {x : ℕ} → IsInOddParty rows next x → (k : ℕ) → after next x (suc (suc k)) ≢ after next x k
  two_apart {x} w zero e = w.first 2 (omega arith) (omega (arith, w.three)) e
  two_apart {x} w (suc k) e = two_apart w k (one_successor _ _ (after_inside x (suc (suc k)) w.in_range) (after_inside x k w.in_range) e)

  -- in an odd party each likes its successor better than its predecessor
  pub odd_gap : {x : ℕ} → IsInOddParty rows next x → (k : ℕ) → own_place rows (after next x k) (successor_in next (after next x k)) < own_place rows (after next x k) (predecessor_in next (after next x k))
  odd_gap {x} w k = prefers_next (after next x k) (after_inside x k w.in_range)
      (λ e. two_apart w k (ap (successor_in next) e ∙ (has_before (after next x k) (after_inside x k w.in_range)).next_is))
