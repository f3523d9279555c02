-- Going along the parties of a partition, one after another.
use Rattle.std.proofs.Common.{◌≡◌, ◌≢◌, ℕ, zero, suc, ◌+◌, ◌-◌, ◌<◌, ◌≤◌, ◌⊎◌, inl, inr, arith, refl, sym, ap, ◌∙◌, Bool, true, false, List, [], ◌∷◌, ◌++◌, length, get_or, set, replicate}
use Rattle.std.proofs.lemmas.Bool.{false≢true, cases_lt, false_from_ne_true}
use Rattle.std.proofs.lemmas.List.{get_or-set_same, get_or-set_other, length-set, length_push, get_or_push, get_or_append_left, get_or_past, get_or-replicate, length-replicate}
use Rattle.std.proofs.lemmas.List.Sums.{sum_by-set}
use Rattle.std.specs.List.{sum_by}
use Rattle.sm_lists.proofs.Counting.{eq_or_ne, lt_or_le}
use Rattle.sm_lists.proofs.ItemLemmas.{push_cases}
use Rattle.sm_lists.proofs.RowLemmas.{row_in_range}
use Rattle.sm_theory.specs.Partitions.{successor_in, after, IsStablePartition}
use Rattle.sm_theory.proofs.Room.Bridge.{one_successor, after_inside}
use Rattle.sm_theory.proofs.Room.Spots.{take_back}
use Rattle.sm_answer_roommates.specs.Parties.{IsParty, IsInSomeParty, AreParties}
use Rattle.sm_answer_roommates.specs.Walking.{is_met, ArePartiesFound, IsPartyOf, IsPartyFront}

-- what one who isn't met counts
pub one_where_not : Bool → ℕ
one_where_not true = 0
one_where_not false = 1

-- how many aren't met
abbrev pub unmet_in : List Bool → ℕ
unmet_in met = sum_by one_where_not met

is_one : (b : Bool) → b ≡ false → one_where_not b ≡ 1
unfolding one_where_not
is_one b e = rw e refl

is_zero : one_where_not true ≡ 0
unfolding one_where_not
is_zero = refl

-- one more that is met leaves fewer
pub unmet_falls : (met : List Bool) (y : ℕ) → y < length met → is_met met y ≡ false → unmet_in (set met y true) < unmet_in met
unmet_falls met y here none =
    let a = sum_by-set one_where_not met y true false here in
    omega (arith, a, is_one (is_met met y) none, is_zero)

-- who is met once one more is
met_more : (met : List Bool) (y z : ℕ) → y < length met → is_met met z ≡ true → is_met (set met y true) z ≡ true
met_more met y z here m = elim (eq_or_ne z y) [
  | inl e ↦ ap (is_met (set met y true)) e ∙ get_or-set_same met y true false here
  | inr n ↦ get_or-set_other met y z true false n ∙ m
]

met_before : (met : List Bool) (y z : ℕ) → is_met (set met y true) z ≡ true → (is_met met z ≡ true) ⊎ (z ≡ y)
met_before met y z m = elim (eq_or_ne z y) [
  | inl e ↦ inr e
  | inr n ↦ inl (sym (get_or-set_other met y z true false n) ∙ m)
]

module _ {rows : List (List ℕ)} {next : List ℕ} (h : IsStablePartition rows next) {x : ℕ} (here : x < length next) (before : List Bool)
    (one_each : length before ≡ length next) (below : (y : ℕ) → y < x → is_met before y ≡ true)
    (back : (y : ℕ) → y < length next → is_met before (successor_in next y) ≡ true → is_met before y ≡ true)
    (unmet : is_met before x ≡ false) where
  inside : (k : ℕ) → after next x k < length next
  inside k = let lt = after_inside h x k (omega (arith, here, h.one_each)) in omega (arith, lt, h.one_each)

  -- nobody of the party is met before
  fresh : (k : ℕ) → is_met before (after next x k) ≡ false
  fresh zero = unmet
  fresh (suc k) = false_from_ne_true _ (λ m. false≢true (sym (fresh k) ∙ back (after next x k) (inside k) m))

  above : (k : ℕ) → x ≤ after next x k
  above k = elim (lt_or_le (after next x k) x) [
    | inl less ↦ absurd (false≢true (sym (fresh k) ∙ below (after next x k) less))
    | inr le ↦ le
  ]

  -- the front begins with x alone
  pub front_begins : IsPartyFront next x before (set before x true) (x ∷ []) (successor_in next x)
  front_begins =
      let there : x < length before = omega (arith, here, one_each) in
      record {
        one_each = length-set before x true ∙ one_each;
        some = omega arith;
        steps = λ i l. let z : i ≡ 0 = omega (arith, l) in rw z refl;
        comes = refl;
        apart = λ i a l. absurd (omega (arith, a, l));
        kept = λ z m. met_more before x z there m;
        added = λ z m. elim (met_before before x z m) [ inl b ↦ inl b | inr e ↦ inr (record { at = 0; on_list = omega arith; is = sym e }) ];
        listed = λ i l. let z : i ≡ 0 = omega (arith, l) in rw z (get_or-set_same before x true false there);
      }

  module _ {now : List Bool} {party : List ℕ} {y : ℕ} (w : IsPartyFront next x before now party y) where
    -- the next of the front is a person
    pub y_inside : y < length next
    y_inside = let lt = inside (length party) in omega (arith, w.comes, lt)

    -- the front is all of the party
    pub front_ends : y ≡ x → IsPartyOf next x before now party
    front_ends e = record {
      one_each = w.one_each;
      is = record {
        some = w.some;
        inside = λ i l. let lt = inside i in omega (arith, w.steps i l, lt);
        lowest = λ i a l. omega (arith, w.steps 0 w.some, w.steps i l, w.apart i a l, above i);
        along = λ i l. let f : i + 1 ≡ suc i = omega arith in w.steps (i + 1) l ∙ ap (after next x) f ∙ ap (successor_in next) (sym (w.steps i (omega (arith, l))));
        returns =
            let last : ℕ = length party - 1 in
            let f : suc last ≡ length party = omega (arith, w.some) in
            ap (successor_in next) (w.steps last (omega (arith, w.some))) ∙ ap (after next x) f ∙ sym w.comes ∙ e ∙ sym (w.steps 0 w.some);
      };
      first = w.steps 0 w.some;
      kept = w.kept;
      added = w.added;
      listed = w.listed;
    }

    module _ (ne : y ≢ x) where
      -- no two of it are the same
      twice : (i : ℕ) → i < length party → after next x i ≡ after next x (length party) → ⊥
      twice i l e =
          let k : ℕ = length party - i in
          let f : i + 0 ≡ i = omega arith in
          let g : i + k ≡ length party = omega (arith, l) in
          let s : x ≡ after next x k = take_back h x i 0 k (omega (arith, here, h.one_each)) (ap (after next x) f ∙ e ∙ ap (after next x) (sym g)) in
          elim (eq_or_ne i 0) [
            | inl z ↦ ne (w.comes ∙ sym e ∙ ap (after next x) z)
            | inr p ↦ w.apart k (omega (arith, l)) (omega (arith, p, l)) (sym s)
          ]

      -- the next was not met before
      pub y_unmet : is_met now y ≡ false
      y_unmet = false_from_ne_true _ (λ m. elim (w.added y m) [
        | inl b ↦ false≢true (sym (fresh (length party)) ∙ ap (is_met before) (sym w.comes) ∙ b)
        | inr a ↦ twice a.at a.on_list (sym (w.steps a.at a.on_list) ∙ a.is ∙ w.comes)
      ])

      -- it is put behind the others, and met
      pub front_goes_on : IsPartyFront next x before (set now y true) (party ++ y ∷ []) (successor_in next y)
      front_goes_on =
          let there : y < length now = omega (arith, y_inside, w.one_each) in
          let long = length_push party y in
          record {
            one_each = length-set now y true ∙ w.one_each;
            some = omega (arith, long);
            steps = push_cases (λ i z. z ≡ after next x i) party y 0 w.comes w.steps;
            comes = let f : suc (length party) ≡ length (party ++ y ∷ []) = omega (arith, long) in ap (successor_in next) w.comes ∙ ap (after next x) f;
            apart = λ i a l. elim (cases_lt i (length party)) [
              | inl less ↦ w.apart i a less
              | inr ge ↦ let last : i ≡ length party = omega (arith, l, long, ge) in λ e. ne (w.comes ∙ ap (after next x) (sym last) ∙ e)
            ];
            kept = λ z m. met_more now y z there (w.kept z m);
            added = λ z m. elim (met_before now y z m) [
              | inl b ↦ elim (w.added z b) [
                | inl k ↦ inl k
                | inr a ↦ inr (record { at = a.at; on_list = omega (arith, a.on_list, long); is = get_or_append_left party (y ∷ []) 0 a.at a.on_list ∙ a.is })
              ]
              | inr e ↦ inr (record { at = length party; on_list = omega (arith, long); is = get_or_push party y 0 (length party) refl ∙ sym e })
            ];
            listed = push_cases (λ i z. is_met (set now y true) z ≡ true) party y 0 (get_or-set_same now y true false there) (λ i l. met_more now y (get_or party i 0) there (w.listed i l));
          }

-- nobody is met yet
none_met : (n y : ℕ) → is_met (replicate n false) y ≡ false
none_met n y = elim (cases_lt y n) [
  | inl less ↦ get_or-replicate n y false false less
  | inr ge ↦ get_or_past (replicate n false) y false (omega (arith, ge, length-replicate n false))
]

-- so no party is found
pub none_found : (next : List ℕ) (met : List Bool) (n : ℕ) → met ≡ replicate n false → n ≡ length next → ArePartiesFound next 0 met []
none_found next met n is count =
    let none : (y : ℕ) → is_met met y ≡ true → ⊥ = λ y m. false≢true (sym (none_met n y) ∙ ap (λ xs. is_met xs y) (sym is) ∙ m) in
    record {
      one_each = ap (λ (xs : List Bool). length xs) is ∙ length-replicate n false ∙ count;
      below = λ y l. absurd (omega (arith, l));
      back = λ y l m. absurd (none (successor_in next y) m);
      each = λ k l. absurd (omega (arith, l));
      earlier = λ k l. absurd (omega (arith, l));
      rising = λ j k a l. absurd (omega (arith, l));
      members = λ y m. absurd (none y m);
    }

-- a person of an earlier party
pub found_same : {next : List ℕ} {x : ℕ} {met : List Bool} {parties : List (List ℕ)} → ArePartiesFound next x met parties → is_met met x ≡ true → ArePartiesFound next (x + 1) met parties
found_same {next} {x} {met} {parties} f m = record {
  one_each = f.one_each;
  below = λ y l. elim (eq_or_ne y x) [ inl e ↦ ap (is_met met) e ∙ m | inr n ↦ f.below y (omega (arith, l, n)) ];
  back = f.back;
  each = f.each;
  earlier = λ k l. let less = f.earlier k l in omega arith;
  rising = f.rising;
  members = f.members;
}

-- one more party
pub found_more : {rows : List (List ℕ)} {next : List ℕ} {x : ℕ} {met now : List Bool} {parties : List (List ℕ)} {party : List ℕ} → IsStablePartition rows next → ArePartiesFound next x met parties → IsPartyOf next x met now party
    → ArePartiesFound next (x + 1) now (parties ++ party ∷ [])
found_more {rows} {next} {x} {met} {now} {parties} {party} h f p =
    let long = length_push parties party in
    record {
      one_each = p.one_each;
      below = λ y l. elim (eq_or_ne y x) [
        | inl e ↦ ap (is_met now) (e ∙ sym p.first) ∙ p.listed 0 p.is.some
        | inr n ↦ p.kept y (f.below y (omega (arith, l, n)))
      ];
      back = back;
      each = push_cases (λ k list. IsParty next list) parties party [] p.is f.each;
      earlier = push_cases (λ k list. get_or list 0 0 < x + 1) parties party [] (omega (arith, p.first)) (λ k l. let less = f.earlier k l in omega arith);
      rising = λ j k a l. elim (cases_lt k (length parties)) [
        | inl less ↦
            let e = ap (λ list. get_or list 0 0) (get_or_append_left parties (party ∷ []) [] j (omega (arith, a, less))) in
            let g = ap (λ list. get_or list 0 0) (get_or_append_left parties (party ∷ []) [] k less) in
            omega (arith, e, g, f.rising j k a less)
        | inr ge ↦
            let last : length parties ≡ k = omega (arith, l, long, ge) in
            let e = ap (λ list. get_or list 0 0) (get_or_append_left parties (party ∷ []) [] j (omega (arith, a, last))) in
            let g = ap (λ list. get_or list 0 0) (get_or_push parties party [] k last) in
            omega (arith, e, g, p.first, f.earlier j (omega (arith, a, last)))
      ];
      members = λ y m. elim (p.added y m) [
        | inl b ↦ kept_member y (f.members y b)
        | inr a ↦
            let is = get_or_push parties party [] (length parties) refl in
            record { party = length parties; at = a.at; on_list = omega (arith, ap (λ (list : List ℕ). length list) is, a.on_list); is = ap (λ list. get_or list a.at 0) is ∙ a.is }
      ];
    }
  where
    same_member : (y : ℕ) → y < length next → (i : ℕ) → i < length party → successor_in next (get_or party i 0) ≡ successor_in next y → is_met now y ≡ true
    same_member y l i on e =
        let lt = p.is.inside i on in
        ap (is_met now) (sym (one_successor h (get_or party i 0) y (omega (arith, lt, h.one_each)) (omega (arith, l, h.one_each)) e)) ∙ p.listed i on

    back : (y : ℕ) → y < length next → is_met now (successor_in next y) ≡ true → is_met now y ≡ true
    back y l m = elim (p.added (successor_in next y) m) [
      | inl b ↦ p.kept y (f.back y l b)
      | inr a ↦ elim (eq_or_ne a.at 0) [
        | inl z ↦ same_member y l (length party - 1) (omega (arith, p.is.some)) (p.is.returns ∙ ap (λ i. get_or party i 0) (sym z) ∙ a.is)
        | inr s ↦
            let j : ℕ = a.at - 1 in
            let g : j + 1 ≡ a.at = omega (arith, s) in
            same_member y l j (omega (arith, a.on_list)) (sym (p.is.along j (omega (arith, a.on_list, g))) ∙ ap (λ i. get_or party i 0) g ∙ a.is)
      ]
    ]

    kept_member : (y : ℕ) → IsInSomeParty parties y → IsInSomeParty (parties ++ party ∷ []) y
    kept_member y m =
        let is = get_or_append_left parties (party ∷ []) [] m.party (row_in_range parties m.party m.at m.on_list) in
        record { party = m.party; at = m.at; on_list = omega (arith, ap (λ (list : List ℕ). length list) is, m.on_list); is = ap (λ list. get_or list m.at 0) is ∙ m.is }

-- all are found
pub all_found : {next : List ℕ} {x : ℕ} {met : List Bool} {parties : List (List ℕ)} → ArePartiesFound next x met parties → length next ≤ x → AreParties next parties
all_found {next} {x} {met} {parties} f all = record { each = f.each; rising = f.rising; all = λ y l. f.members y (f.below y (omega (arith, l, all))) }
