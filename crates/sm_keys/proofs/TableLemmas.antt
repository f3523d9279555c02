-- Tables of names.
use Rattle.std.proofs.Common.{◌≡◌, ◌≢◌, ℕ, ◌+◌, ◌<◌, ◌⊎◌, ◌||◌, eqb, Bool, true, false, not, cond, List, [], ◌∷◌, ◌++◌, length, get_or, set, Option, Some, None, refl, sym, ap, ◌∙◌, subst, inl, inr, arith, position, AllPairs, is_some}
use Rattle.std.specs.List.{list_any, position_or_len}
use Rattle.std.specs.Str.{bytes_eq}
use Rattle.std.proofs.Math.ListN.{get_or-append}
use Rattle.std.proofs.Math.Seq.{get_or-append_seam}
use Rattle.std.proofs.lemmas.List.{length_push, length-set, get_or-set_same, get_or-set_other, get_or_past, append-nil, get_or_default}
use Rattle.std.proofs.lemmas.List.Folds.{list_any-append, list_any_at, list_any_none}
use Rattle.std.proofs.lemmas.List.Quantifiers.{all_pairs_push, position-Some}
use Rattle.std.proofs.lemmas.Bool.{false≢true, cases_lt}
use Rattle.std.proofs.lemmas.Bool.Decides.{nat_tests}
use Rattle.sm_keys.specs.Tables.{number_in, Table, IsTable, text_at, IsAt, Interns, Declares, IsStamped}
use Rattle.sm_keys.proofs.PositionLemmas.{position-none, is_some-position, position-push_other, position-push_new, position_or_len-lt, position_or_len-none, at_position}
use Rattle.sm_keys.proofs.TextLemmas.{same_text, equal_text, other_text}

-- a name that no declared one is, where all declared ones are among the texts and it isn't
undeclared : (t : Table) (name : List ℕ) → IsTable t → list_any (bytes_eq name) t.texts ≡ false → list_any (bytes_eq name) t.declared ≡ false
undeclared t name table absent = list_any_none (bytes_eq name) t.declared (λ (k : ℕ) (d : List ℕ) (inside : k < length t.declared). by_test k d inside (bytes_eq name (get_or t.declared k d)) refl)
  where
    by_test : (k : ℕ) (d : List ℕ) → k < length t.declared → (b : Bool) → bytes_eq name (get_or t.declared k d) ≡ b → bytes_eq name (get_or t.declared k d) ≡ false
    by_test k d inside true e =
        let same : text_at t.declared k ≡ name = get_or_default t.declared k [] d inside ∙ sym (equal_text name (get_or t.declared k d) e) in
        absurd (false≢true (sym absent ∙ ap (λ x. list_any (bytes_eq x) t.texts) (sym same) ∙ table.known k inside))
    by_test k d inside false e = e

-- what is read at the index of a name is its number
pub number_read : (t : Table) (name : List ℕ) (i : ℕ) (x : Option ℕ) → IsTable t → IsAt t.texts name i → x ≡ get_or t.numbers i x → x ≡ position (bytes_eq name) t.declared
number_read t name i x table at here =
    here ∙ get_or_default t.numbers i x None (omega (arith, at.in_range, table.number_each)) ∙ table.numbered i at.in_range ∙ ap (λ x. position (bytes_eq x) t.declared) at.names

-- so it is where the name is found by its hash
pub found_by_index : (t : Table) (name : List ℕ) (i : ℕ) (x : Option ℕ) → IsTable t → position (bytes_eq name) t.texts ≡ Some i → x ≡ get_or t.numbers i x → x ≡ position (bytes_eq name) t.declared
found_by_index t name i x table found here =
    let at = position-Some (bytes_eq name) t.texts i [] found in
    number_read t name i x table (record { in_range = at.0; names = sym (equal_text name (text_at t.texts i) at.1) }) here

-- one without an index has none
pub missing_by_index : (t : Table) (name : List ℕ) → IsTable t → position (bytes_eq name) t.texts ≡ None → None ≡ position (bytes_eq name) t.declared
missing_by_index t name table missing = sym (position-none (bytes_eq name) t.declared (undeclared t name table (sym (is_some-position (bytes_eq name) t.texts) ∙ ap is_some missing)))

-- two numbers are equal or not
pub cases_eq : (a b : ℕ) → (a ≡ b) ⊎ (a ≢ b)
cases_eq a b = elim (cases_lt a b) [
  | inl below ↦ inr (λ e. omega arith)
  | inr above ↦ elim (cases_lt b a) [
    | inl over ↦ inr (λ e. omega arith)
    | inr within ↦ inl (omega arith)
  ]
]

-- names that differ have one index each
pub distinct_index : (texts : List (List ℕ)) (i j : ℕ) → AllPairs ◌≢◌ texts → i < length texts → j < length texts → text_at texts i ≡ text_at texts j → i ≡ j
distinct_index texts i j distinct inside within same = elim (cases_lt i j) [
  | inl below ↦ absurd (distinct i j [] below within same)
  | inr above ↦ elim (cases_lt j i) [
    | inl over ↦ absurd (distinct j i [] over inside (sym same))
    | inr here ↦ omega arith
  ]
]

-- a name that wasn't there gets the next index
pub interned_new : (t n : Table) (name : List ℕ) (i : ℕ) → IsTable t → list_any (bytes_eq name) t.texts ≡ false
    → n.texts ≡ t.texts ++ name ∷ [] → n.numbers ≡ t.numbers ++ None ∷ [] → n.stamps ≡ t.stamps ++ 0 ∷ [] → n.declared ≡ t.declared
    → i ≡ length t.texts → Interns t n name i
interned_new t n name i table absent texts numbers stamps declared index =
    let long : length n.texts ≡ length t.texts + 1 = ap length texts ∙ length_push t.texts name in
    let none : position (bytes_eq name) t.declared ≡ None = position-none (bytes_eq name) t.declared (undeclared t name table absent) in
    let last : text_at n.texts (length t.texts) ≡ name = ap (λ x. text_at x (length t.texts)) texts ∙ get_or-append_seam t.texts name [] [] in
    record {
      was = table;
      table = record {
        number_each = let none : Option ℕ = None in omega (arith, ap length numbers, length_push t.numbers none, table.number_each);
        stamp_each = omega (arith, ap length stamps, length_push t.stamps 0, table.stamp_each);
        distinct = subst (AllPairs ◌≢◌) (sym texts) (all_pairs_push ◌≢◌ t.texts name table.distinct
            (λ (k : ℕ) (d : List ℕ) (inside : k < length t.texts) same. false≢true (sym absent ∙ list_any_at (bytes_eq name) t.texts k d inside (same_text name (get_or t.texts k d) (sym same)))));
        numbered = λ k inside. elim (cases_lt k (length t.texts)) [
          | inl old ↦ ap (λ x. get_or x k None) numbers ∙ get_or-append t.numbers (None ∷ []) None k (omega (arith, table.number_each)) ∙ table.numbered k old
              ∙ ap (λ x. position (bytes_eq x) t.declared) (sym (ap (λ x. text_at x k) texts ∙ get_or-append t.texts (name ∷ []) [] k old))
              ∙ ap (position (bytes_eq (text_at n.texts k))) (sym declared)
          | inr past ↦
              let here : k ≡ length t.texts = omega arith in
              ap (λ x. get_or x k None) numbers ∙ ap (λ j. get_or (t.numbers ++ None ∷ []) j None) (here ∙ sym table.number_each) ∙ get_or-append_seam t.numbers None [] None
              ∙ sym none ∙ ap (λ x. position (bytes_eq x) t.declared) (sym (ap (text_at n.texts) here ∙ last)) ∙ ap (position (bytes_eq (text_at n.texts k))) (sym declared)
        ];
        known = λ k inside.
            ap (λ x. list_any (bytes_eq (text_at x k)) n.texts) declared ∙ ap (list_any (bytes_eq (text_at t.declared k))) texts
            ∙ list_any-append (bytes_eq (text_at t.declared k)) t.texts (name ∷ [])
            ∙ ap (λ x. x || list_any (bytes_eq (text_at t.declared k)) (name ∷ [])) (table.known k (omega (arith, ap length declared)));
      };
      extends = record { more = name ∷ []; appended = texts };
      declared = declared;
      in_range = omega arith;
      names = ap (text_at n.texts) index ∙ last;
      stamps = λ k. ap (λ x. get_or x k 0) stamps ∙ elim (cases_lt k (length t.stamps)) [
        | inl old ↦ get_or-append t.stamps (0 ∷ []) 0 k old
        | inr past ↦ elim (cases_lt (length t.stamps) k) [
          | inl further ↦ get_or_past (t.stamps ++ 0 ∷ []) k 0 (omega (arith, length_push t.stamps 0)) ∙ sym (get_or_past t.stamps k 0 past)
          | inr here ↦ ap (λ j. get_or (t.stamps ++ 0 ∷ []) j 0) (let e : k ≡ length t.stamps = omega arith in e) ∙ get_or-append_seam t.stamps 0 [] 0 ∙ sym (get_or_past t.stamps k 0 past)
        ]
      ];
    }

-- a name that was there has its index
pub interned_old : (t n : Table) (name : List ℕ) (i : ℕ) → IsTable t → list_any (bytes_eq name) t.texts ≡ true
    → n.texts ≡ t.texts → n.numbers ≡ t.numbers → n.stamps ≡ t.stamps → n.declared ≡ t.declared
    → i ≡ position_or_len (bytes_eq name) t.texts → Interns t n name i
interned_old t n name i table there texts numbers stamps declared index = record {
  was = table;
  table = record {
    number_each = ap length numbers ∙ table.number_each ∙ ap length (sym texts);
    stamp_each = ap length stamps ∙ table.stamp_each ∙ ap length (sym texts);
    distinct = subst (AllPairs ◌≢◌) (sym texts) table.distinct;
    numbered = λ k inside. ap (λ x. get_or x k None) numbers ∙ table.numbered k (omega (arith, ap length texts))
        ∙ ap (λ x. position (bytes_eq (text_at x k)) t.declared) (sym texts) ∙ ap (position (bytes_eq (text_at n.texts k))) (sym declared);
    known = λ k inside. ap (λ x. list_any (bytes_eq (text_at x k)) n.texts) declared ∙ ap (list_any (bytes_eq (text_at t.declared k))) texts ∙ table.known k (omega (arith, ap length declared));
  };
  extends = record { more = []; appended = texts ∙ sym (append-nil t.texts) };
  declared = declared;
  in_range = omega (arith, position_or_len-lt (bytes_eq name) t.texts there, ap length texts);
  names = ap (λ x. text_at x i) texts ∙ ap (text_at t.texts) index ∙ at_position name t.texts there;
  stamps = λ k. ap (λ x. get_or x k 0) stamps;
}

-- a name that stands at an index has it
pub interned_at : (t : Table) (name : List ℕ) (i : ℕ) → IsTable t → i < length t.texts → text_at t.texts i ≡ name → Interns t t name i
interned_at t name i table inside names = record {
  was = table;
  table = table;
  extends = record { more = []; appended = sym (append-nil t.texts) };
  declared = refl;
  in_range = inside;
  names = names;
  stamps = λ k. refl;
}

-- whether the name of an index is declared
pub declared_at : (t : Table) (i : ℕ) → IsTable t → i < length t.texts → is_some (get_or t.numbers i None) ≡ list_any (bytes_eq (text_at t.texts i)) t.declared
declared_at t i table inside = ap is_some (table.numbered i inside) ∙ is_some-position (bytes_eq (text_at t.texts i)) t.declared

-- a name that is declared is refused
pub declared_old : (t m : Table) (name : List ℕ) (i : ℕ) → Interns t m name i → is_some (get_or m.numbers i None) ≡ true → Declares t m name false
declared_old t m name i at found =
    let among : list_any (bytes_eq name) t.declared ≡ true =
    ap (λ x. list_any (bytes_eq x) t.declared) (sym at.names) ∙ ap (list_any (bytes_eq (text_at m.texts i))) (sym at.declared) ∙ sym (declared_at m i at.table at.in_range) ∙ found in
    record {
      table = at.table;
      extends = at.extends;
      is_new = sym (ap not among);
      declared = at.declared;
      stamps = at.stamps;
    }

-- a name that isn't is declared under the next number
pub declared_new : (t m n : Table) (name : List ℕ) (i : ℕ) → Interns t m name i → is_some (get_or m.numbers i None) ≡ false
    → n.texts ≡ m.texts → n.numbers ≡ set m.numbers i (Some (length m.declared)) → n.stamps ≡ m.stamps → n.declared ≡ m.declared ++ name ∷ []
    → Declares t n name true
declared_new t m n name i at missing texts numbers stamps declared =
    let table = at.table in
    let absent : list_any (bytes_eq name) m.declared ≡ false =
    ap (λ x. list_any (bytes_eq x) m.declared) (sym at.names) ∙ sym (declared_at m i table at.in_range) ∙ missing in
    let here : list_any (bytes_eq name) m.texts ≡ true = list_any_at (bytes_eq name) m.texts i [] at.in_range (same_text name (text_at m.texts i) (sym at.names)) in
    record {
      table = record {
        number_each = ap length numbers ∙ length-set m.numbers i (Some (length m.declared)) ∙ table.number_each ∙ ap length (sym texts);
        stamp_each = ap length stamps ∙ table.stamp_each ∙ ap length (sym texts);
        distinct = subst (AllPairs ◌≢◌) (sym texts) table.distinct;
        numbered = λ k inside. ap (λ x. get_or x k None) numbers ∙ number_now k (omega (arith, ap length texts))
            ∙ ap (λ x. position (bytes_eq (text_at x k)) (m.declared ++ name ∷ [])) (sym texts) ∙ ap (position (bytes_eq (text_at n.texts k))) (sym declared);
        known = λ k inside. ap (λ x. list_any (bytes_eq (text_at x k)) n.texts) declared ∙ ap (list_any (bytes_eq (text_at (m.declared ++ name ∷ []) k))) texts
            ∙ known_now here k (omega (arith, ap length declared, length_push m.declared name));
      };
      extends = record { more = at.extends.more; appended = texts ∙ at.extends.appended };
      is_new = sym (ap (λ x. not (list_any (bytes_eq name) x)) (sym at.declared) ∙ ap not absent);
      declared = declared ∙ ap (λ x. x ++ name ∷ []) at.declared;
      stamps = λ k. ap (λ x. get_or x k 0) stamps ∙ at.stamps k;
    }
  where
    number_now : (k : ℕ) → k < length m.texts → get_or (set m.numbers i (Some (length m.declared))) k None ≡ position (bytes_eq (text_at m.texts k)) (m.declared ++ name ∷ [])
    number_now k inside = elim (cases_eq k i) [
      | inl same ↦ ap (λ j. get_or (set m.numbers i (Some (length m.declared))) j None) same
          ∙ get_or-set_same m.numbers i (Some (length m.declared)) None (omega (arith, at.table.number_each, at.in_range))
          ∙ sym (position-push_new (bytes_eq (text_at m.texts k)) m.declared name
          (sym (declared_at m k at.table inside) ∙ ap (λ j. is_some (get_or m.numbers j None)) same ∙ missing)
          (same_text (text_at m.texts k) name (ap (text_at m.texts) same ∙ at.names)))
      | inr differ ↦ get_or-set_other m.numbers i k (Some (length m.declared)) None differ
          ∙ at.table.numbered k inside
          ∙ sym (position-push_other (bytes_eq (text_at m.texts k)) m.declared name
          (other_text (text_at m.texts k) name (λ same. differ (distinct_index m.texts k i at.table.distinct inside at.in_range (same ∙ sym at.names)))))
    ]

    known_now : list_any (bytes_eq name) m.texts ≡ true → (k : ℕ) → k < length m.declared + 1 → list_any (bytes_eq (text_at (m.declared ++ name ∷ []) k)) m.texts ≡ true
    known_now here k inside = elim (cases_lt k (length m.declared)) [
      | inl old ↦ ap (λ x. list_any (bytes_eq x) m.texts) (get_or-append m.declared (name ∷ []) [] k old) ∙ at.table.known k old
      | inr past ↦ ap (λ j. list_any (bytes_eq (text_at (m.declared ++ name ∷ []) j)) m.texts) (let e : k ≡ length m.declared = omega arith in e)
          ∙ ap (λ x. list_any (bytes_eq x) m.texts) (get_or-append_seam m.declared name [] []) ∙ here
    ]

-- a name that hasn't a stamp gets it
pub stamped_new : (t m n : Table) (name : List ℕ) (stamp i : ℕ) → Interns t m name i → get_or m.stamps i 0 ≢ stamp
    → n.texts ≡ m.texts → n.numbers ≡ m.numbers → n.stamps ≡ set m.stamps i stamp → n.declared ≡ m.declared
    → IsStamped t n name stamp i
stamped_new t m n name stamp i at unstamped texts numbers stamps declared =
    let table = at.table in
    record {
      stamp_each = at.was.stamp_each;
      table = record {
        number_each = ap length numbers ∙ table.number_each ∙ ap length (sym texts);
        stamp_each = ap length stamps ∙ length-set m.stamps i stamp ∙ table.stamp_each ∙ ap length (sym texts);
        distinct = subst (AllPairs ◌≢◌) (sym texts) table.distinct;
        numbered = λ k inside. ap (λ x. get_or x k None) numbers ∙ table.numbered k (omega (arith, ap length texts))
            ∙ ap (λ x. position (bytes_eq (text_at x k)) m.declared) (sym texts) ∙ ap (position (bytes_eq (text_at n.texts k))) (sym declared);
        known = λ k inside. ap (λ x. list_any (bytes_eq (text_at x k)) n.texts) declared ∙ ap (list_any (bytes_eq (text_at m.declared k))) texts ∙ table.known k (omega (arith, ap length declared));
      };
      extends = record { more = at.extends.more; appended = texts ∙ at.extends.appended };
      declared = declared ∙ at.declared;
      in_range = omega (arith, at.in_range, ap length texts);
      names = ap (λ x. text_at x i) texts ∙ at.names;
      unstamped = λ e. unstamped (at.stamps i ∙ e);
      stamps = λ k. ap (λ x. get_or x k 0) stamps ∙ stamp_now k (eqb k i) refl;
    }
  where
    stamp_now : (k : ℕ) (b : Bool) → eqb k i ≡ b → get_or (set m.stamps i stamp) k 0 ≡ cond (eqb k i) stamp (get_or t.stamps k 0)
    stamp_now k true e =
        let same : k ≡ i = grind (arith, nat_tests) in
        ap (λ j. get_or (set m.stamps i stamp) j 0) same ∙ get_or-set_same m.stamps i stamp 0 (omega (arith, at.table.stamp_each, at.in_range))
        ∙ ap (λ b. cond b stamp (get_or t.stamps k 0)) (sym e)
    stamp_now k false e =
        let differ : k ≢ i = (λ (same : k ≡ i). false≢true (sym e ∙ grind (arith, nat_tests))) in
        get_or-set_other m.stamps i k stamp 0 differ ∙ at.stamps k ∙ ap (λ b. cond b stamp (get_or t.stamps k 0)) (sym e)

-- a number that was read, by any default
pub number_at : (t : Table) (i : ℕ) (x : Option ℕ) → IsTable t → i < length t.texts → x ≡ get_or t.numbers i x → is_some x ≡ is_some (get_or t.numbers i None)
number_at t i x table inside here = ap is_some here ∙ ap is_some (get_or_default t.numbers i x None (omega (arith, table.number_each)))

-- the same after a name got its index
pub number_here : (t m : Table) (name : List ℕ) (i : ℕ) → Interns t m name i → {x : Option ℕ} → x ≡ get_or m.numbers i x → is_some (get_or m.numbers i None) ≡ is_some x
number_here t m name i at {x} here = sym (number_at m i x at.table at.in_range here)

-- a name without a number stands past the declared ones
pub number_in-none : (t : Table) (i : ℕ) (x : Option ℕ) → IsTable t → i < length t.texts → x ≡ get_or t.numbers i x → x ≡ None → number_in t.declared (text_at t.texts i) ≡ length t.declared
number_in-none t i x table inside here none =
    position_or_len-none (bytes_eq (text_at t.texts i)) t.declared (sym (declared_at t i table inside) ∙ sym (number_at t i x table inside here) ∙ ap is_some none)

-- a stamp that was read, by any default
pub stamp_here : (t m : Table) (name : List ℕ) (i : ℕ) → Interns t m name i → {x : ℕ} → x ≡ get_or m.stamps i x → x ≡ get_or m.stamps i 0
stamp_here t m name i at {x} here = here ∙ get_or_default m.stamps i x 0 (omega (arith, at.table.stamp_each, at.in_range))
