-- Noting places one after another, so that each agent keeps its first.
use Rattle.std.proofs.Common.{◌≡◌, ◌≢◌, ℕ, ◌+◌, ◌<◌, ◌||◌, Bool, true, false, true≢false, is_some, List, Option, Some, None, length, get_or, set, refl, sym, ap, subst, ◌∙◌, arith, ⊎_elim}
use Rattle.std.proofs.lemmas.Bool.{cases_lt, cases_eq}
use Rattle.std.proofs.lemmas.Option.{same_Some, none-some}
use Rattle.std.proofs.lemmas.List.{length-set, get_or_past, get_or-set_same, get_or-set_other}
use Rattle.sm_lists.specs.Rows.{row, entry}
use Rattle.sm_lists.specs.Crosses.{found_on, cross_place}
use Rattle.sm_lists.specs.Namings.{naming_at, AreNamingsOf}
use Rattle.sm_lists.specs.declared.naming.Naming.{Naming}
use Rattle.sm_lists.specs.Kept.{noted_of, first_noted}
use Rattle.sm_lists.proofs.FoundLemmas.{found_on_is, found_on-none}
use Rattle.sm_lists.proofs.RowLemmas.{row_in_range}

-- of the first k keys a is the one with this number, and no earlier one; v is its value
pub record IsFirstKey (key value : ℕ → ℕ) (k a v : ℕ) : Type 0 where
  pub at : ℕ
  pub below : at < k
  pub is : key at ≡ a
  pub told : value at ≡ v
  pub before : (e : ℕ) → e < at → key e ≢ a

-- with each of the first k keys that is in range its first value is noted, and nothing else is
pub record AreFirst (key value : ℕ → ℕ) (k : ℕ) (places : List (Option ℕ)) : Type 0 where
  pub noted : (e a : ℕ) → e < k → key e ≡ a → a < length places → noted_of places a ≢ None
  pub first : (a v : ℕ) → noted_of places a ≡ Some v → IsFirstKey key value k a v

first_later : {key value : ℕ → ℕ} {k a v : ℕ} → IsFirstKey key value k a v → IsFirstKey key value (k + 1) a v
first_later w = record { at = w.at; below = let l = w.below in omega arith; is = w.is; told = w.told; before = w.before }

-- one more place is noted among as many
pub length-first_noted : (o : Option ℕ) (places : List (Option ℕ)) (a place : ℕ) → length (first_noted o places a place) ≡ length places
length-first_noted (Some _) places a place = refl
length-first_noted None places a place = length-set places a (Some place)

-- one key more, whose value is noted already or isn't
pub first_more : (key value : ℕ → ℕ) (k : ℕ) (places : List (Option ℕ)) (o : Option ℕ) → noted_of places (key k) ≡ o → AreFirst key value k places → AreFirst key value (k + 1) (first_noted o places (key k) (value k))
first_more key value k places (Some w) is s =
    record {
      noted = λ e a l same inside. ⊎_elim
          (λ lower. s.noted e a lower same inside)
          (λ le none. let last : k ≡ e = omega arith in none-some w (sym none ∙ ap (noted_of places) (sym same ∙ ap key (sym last)) ∙ is))
          (cases_lt e k);
      first = λ a v there. first_later (s.first a v there);
    }
first_more key value k places None is s =
    let new : List (Option ℕ) = set places (key k) (Some (value k)) in
    let fresh : key k < length places → (e : ℕ) → e < k → key e ≢ key k = λ inside e l same. s.noted e (key k) l same inside is in
    record {
      noted = λ e a l same inside none. let long = length-set places (key k) (Some (value k)) in ⊎_elim
          (λ (here : a ≡ key k). none-some (value k) (sym none ∙ ap (noted_of new) here ∙ get_or-set_same places (key k) (Some (value k)) None (omega arith)))
          (λ other. s.noted e a (⊎_elim (λ lower. lower) (λ le. let last : k ≡ e = omega arith in absurd (other (sym same ∙ ap key (sym last)))) (cases_lt e k)) same (omega arith)
          (sym (get_or-set_other places (key k) a (Some (value k)) None other) ∙ none))
          (cases_eq a (key k));
      first = λ a v there. ⊎_elim
          (λ (here : a ≡ key k). ⊎_elim
          (λ inside.
          let told : value k ≡ v = same_Some (value k) v (sym (get_or-set_same places (key k) (Some (value k)) None inside) ∙ ap (noted_of new) (sym here) ∙ there) in
          record { at = k; below = omega arith; is = sym here; told = told; before = λ e l same. fresh inside e l (same ∙ here) })
          (λ past. let long = length-set places (key k) (Some (value k)) in
          absurd (none-some v (sym (get_or_past new a None (omega arith)) ∙ there)))
          (cases_lt (key k) (length places)))
          (λ other. first_later (s.first a v (sym (get_or-set_other places (key k) a (Some (value k)) None other) ∙ there)))
          (cases_eq a (key k));
    }

-- with all of a list noted, each agent's place on it is
pub first_on_list : (list : List ℕ) (places : List (Option ℕ)) → AreFirst (λ j. get_or list j 0) (λ j. j) (length list) places → (a : ℕ) → a < length places → noted_of places a ≡ found_on list a
first_on_list list places s a inside = go (noted_of places a) refl
  where
    go : (o : Option ℕ) → noted_of places a ≡ o → o ≡ found_on list a
    go None none = found_on-none list a (λ j on same. s.noted j a on same inside none)
    go (Some i) is =
        let w = s.first a i is in
        let at : w.at ≡ i = w.told in
        let on : i < length list = let l = w.below in omega arith in
        found_on_is list a i on (subst (λ j. get_or list j 0 ≡ a) at w.is) (λ j l. w.before j (omega arith))

-- an agent that makes none of the namings of b doesn't name it
pub never_named : (namings : List Naming) (rows : List (List ℕ)) (b a : ℕ) → AreNamingsOf rows (length rows) 0 b namings → ((e : ℕ) → e < length namings → (naming_at namings e).by ≢ a)
    → let none : Option ℕ = None in none ≡ cross_place rows a b
never_named namings rows b a n never =
    found_on-none (row rows a) b (λ i on there. let w = n.earlier_named a i (row_in_range rows a i on) on there in never w.at w.there w.by)

-- the first naming of b by an agent tells its place on that agent's list
pub first_named : {namings : List Naming} {a i : ℕ} (rows : List (List ℕ)) (b : ℕ) → AreNamingsOf rows (length rows) 0 b namings
    → IsFirstKey (λ e. (naming_at namings e).by) (λ e. (naming_at namings e).place) (length namings) a i → Some i ≡ cross_place rows a b
first_named {namings} {a} {i} rows b n w =
    let P : (ℕ → ℕ → Type 0) → Type 0 = λ Q. Q (naming_at namings w.at).by (naming_at namings w.at).place → Q a i in
    let read : (Q : ℕ → ℕ → Type 0) → P Q = λ Q q. subst (Q a) w.told (subst (λ c. Q c (naming_at namings w.at).place) w.is q) in
    let on : i < length (row rows a) = read (λ c j. j < length (row rows c)) (n.on_list w.at w.below) in
    let there : entry rows a i ≡ b = read (λ c j. entry rows c j ≡ b) (n.names w.at w.below) in
    found_on_is (row rows a) b i on there
    (λ j lower same.
    let v = n.earlier_named a j (row_in_range rows a j (omega arith)) (omega arith) same in
    let v_place = v.place in
    let w_place = w.told in
    ⊎_elim
    (λ l. w.before v.at l v.by)
    (λ le. ⊎_elim
    (λ here. let e = ap (λ f. (naming_at namings f).place) here in omega arith)
    (λ other. let above = n.ordered w.at v.at (omega arith) v.there (w.is ∙ sym v.by) in omega arith)
    (cases_eq v.at w.at))
    (cases_lt v.at w.at))

-- where nobody was noted twice each agent that is noted has the place that was noted last
pub once_more : (list : List ℕ) (n : ℕ) (places : List (Option ℕ)) (o : Option ℕ) → noted_of places (get_or list n 0) ≡ o → is_some o ≡ false
    → ((k : ℕ) → k < n → get_or list k 0 < length places → noted_of places (get_or list k 0) ≡ Some k)
    → (k : ℕ) → k < n + 1 → get_or list k 0 < length places → noted_of (first_noted o places (get_or list n 0) n) (get_or list k 0) ≡ Some k
once_more list n places (Some i) is seen once k l inside = absurd (true≢false seen)
once_more list n places None is seen once k l inside = ⊎_elim
    (λ lower.
    let before : noted_of places (get_or list k 0) ≡ Some k = once k lower inside in
    get_or-set_other places (get_or list n 0) (get_or list k 0) (Some n) None (λ same. none-some k (sym is ∙ ap (noted_of places) (sym same) ∙ before)) ∙ before)
    (λ le.
    let last : n ≡ k = omega arith in
    let P : ℕ → Type 0 = λ j. get_or list j 0 < length places → noted_of (set places (get_or list n 0) (Some n)) (get_or list j 0) ≡ Some j in
    subst P last (λ within. get_or-set_same places (get_or list n 0) (Some n) None within) inside)
    (cases_lt k n)

-- of the first n agents on a list one has another place noted than that at which it stands
pub record IsAgain (list : List ℕ) (n : ℕ) (places : List (Option ℕ)) : Type 0 where
  pub at : ℕ
  pub before : at < n
  pub inside : get_or list at 0 < length places
  pub other : noted_of places (get_or list at 0) ≢ Some at

-- whoever is noted twice is such an agent, and stays one
pub again_more : (list : List ℕ) (n : ℕ) (places : List (Option ℕ)) (o : Option ℕ) → noted_of places (get_or list n 0) ≡ o → AreFirst (λ j. get_or list j 0) (λ j. j) n places
    → (repeats seen : Bool) → seen ≡ is_some o → (repeats ≡ true → IsAgain list n places) → (repeats || seen) ≡ true → IsAgain list (n + 1) (first_noted o places (get_or list n 0) n)
again_more list n places (Some v) is first repeats seen told again h =
    record {
      at = n;
      before = omega arith;
      inside = ⊎_elim (λ l. l) (λ past. absurd (none-some v (sym (get_or_past places (get_or list n 0) None past) ∙ is))) (cases_lt (get_or list n 0) (length places));
      other = λ same.
          let w = first.first (get_or list n 0) v is in
          let lower = w.below in
          let there = w.told in
          let here = same_Some v n (sym is ∙ same) in
          omega arith;
    }
again_more list n places None is first false seen told again h = absurd (true≢false (sym h ∙ told))
again_more list n places None is first true seen told again h =
    let w = again refl in
    let new : List (Option ℕ) = set places (get_or list n 0) (Some n) in
    let long = length-set places (get_or list n 0) (Some n) in
    let lower = w.before in
    let within = w.inside in
    record {
      at = w.at;
      before = omega arith;
      inside = omega arith;
      other = λ same. ⊎_elim
          (λ (here : get_or list w.at 0 ≡ get_or list n 0).
          let last = same_Some n w.at (sym (get_or-set_same places (get_or list n 0) (Some n) None (omega arith)) ∙ ap (noted_of new) (sym here) ∙ same) in
          omega arith)
          (λ apart. w.other (sym (get_or-set_other places (get_or list n 0) (get_or list w.at 0) (Some n) None apart) ∙ same))
          (cases_eq (get_or list w.at 0) (get_or list n 0));
    }

-- where each agent has the place noted at which it stands none was noted twice
pub none_again : {list : List ℕ} {n : ℕ} {places : List (Option ℕ)} (repeats : Bool) → (repeats ≡ true → IsAgain list n places)
    → ((k : ℕ) → k < n → get_or list k 0 < length places → noted_of places (get_or list k 0) ≡ Some k) → repeats ≡ false
none_again false again once = refl
none_again true again once = let w = again refl in absurd (w.other (once w.at w.before w.inside))
