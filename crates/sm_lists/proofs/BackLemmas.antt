-- Writing the cross places of an agent's own list, naming by naming.
use Rattle.std.proofs.Common.{◌≡◌, ◌≢◌, ℕ, ◌+◌, ◌-◌, ◌<◌, ◌≤◌, Bool, true, false, List, [], Option, Some, None, length, map, get_or, set, refl, sym, ap, subst, le_of_eq, ◌∙◌, arith, ⊎_elim}
use Rattle.std.proofs.lemmas.Bool.{cases_lt, cases_eq}
use Rattle.std.proofs.lemmas.Option.{none-some}
use Rattle.std.proofs.lemmas.List.{length-map, length-set, set_past, get_or_past, get_or-map, get_or-set_same, get_or-set_other}
use Rattle.std.proofs.Math.ListN.{get_or-map as get_or-map_all}
use Rattle.sm_lists.specs.Rows.{row, entry, place_on}
use Rattle.sm_lists.specs.Crosses.{found_on, cross_place, AreCrossPlacesOf}
use Rattle.sm_lists.specs.Namings.{naming_at, AreNamingsOf}
use Rattle.sm_lists.specs.Held.{held_in}
use Rattle.sm_lists.specs.Kept.{noted_of, first_noted, put_once, shared_from, AreKeptBut, HaveFirst, HaveAll}
use Rattle.sm_lists.specs.declared.naming.Naming.{Naming}
use Rattle.sm_lists.proofs.ItemLemmas.{set_cases}
use Rattle.sm_lists.proofs.RowLemmas.{row_in_range}
use Rattle.sm_lists.proofs.PlaceLemmas.{get_or-place_on, place_on-lt}
use Rattle.sm_lists.proofs.FoundLemmas.{found_on-some, place_on-unfound}
use Rattle.sm_lists.proofs.FirstLemmas.{IsFirstKey, AreFirst, first_more, first_named, never_named}
use Rattle.sm_lists.proofs.CrossLemmas.{held_in-written, lengths_kept}

-- nothing is changed
pub kept_same : {b : ℕ} (lists : List (List (Option ℕ))) → AreKeptBut b lists lists
kept_same lists = record { one_each = refl; as_long = λ c. refl; others = λ c _. refl }

-- one change after another
pub kept_more : {b : ℕ} {x y z : List (List (Option ℕ))} → AreKeptBut b x y → AreKeptBut b y z → AreKeptBut b x z
kept_more s t = record { one_each = t.one_each ∙ s.one_each; as_long = λ c. t.as_long c ∙ s.as_long c; others = λ c ne. t.others c ne ∙ s.others c ne }

-- an item of b's list is put
kept_put : (lists : List (List (Option ℕ))) (b k : ℕ) (x : Option ℕ) → AreKeptBut b lists (set lists b (set (get_or lists b []) k x))
kept_put lists b k x =
    record {
      one_each = length-set lists b (set (get_or lists b []) k x);
      as_long = lengths_kept lists b k x;
      others = λ c ne. get_or-set_other lists b c (set (get_or lists b []) k x) [] ne;
    }

pub put_kept : {X : Type 0} (f : X → Option ℕ) (old new : List (List X)) (b k : ℕ) (x : X) → new ≡ set old b (set (get_or old b []) k x) → AreKeptBut b (held_in f old) (held_in f new)
put_kept f old new b k x is = subst (AreKeptBut b (held_in f old)) (sym (ap (map (map f)) is ∙ held_in-written f old b k x)) (kept_put (held_in f old) b k (f x))

pub put_row : {X : Type 0} (f : X → Option ℕ) (old new : List (List X)) (b k : ℕ) (x : X) (o : Option ℕ) → b < length old → new ≡ set old b (set (get_or old b []) k x) → f x ≡ o
    → get_or (held_in f new) b [] ≡ set (get_or (held_in f old) b []) k o
put_row f old new b k x o inside is same =
    let long = length-map old (map f) in
    ap (λ (lists : List (List (Option ℕ))). get_or lists b []) (ap (map (map f)) is ∙ held_in-written f old b k x)
    ∙ get_or-set_same (held_in f old) b (set (get_or (held_in f old) b []) k (f x)) [] (omega arith)
    ∙ ap (set (get_or (held_in f old) b []) k) same

-- what is put where a place is found for the first time
pub put_once_is : (again : Bool) (o : Option ℕ) (k place : ℕ) (crosses : List (Option ℕ)) → again ≡ false → o ≡ Some k → set crosses k (Some place) ≡ put_once again o place crosses
put_once_is again o k place crosses free is = rw (free, is) refl

-- what is put where a place has a first
pub shared_is : (o : Option ℕ) (k n : ℕ) (crosses : List (Option ℕ)) → o ≡ Some k → set crosses n (get_or crosses k None) ≡ shared_from o n crosses
shared_is o k n crosses is = rw is refl

-- what is read of a list stands for what is read there
pub held_read : {X : Type 0} (f : X → Option ℕ) (lists : List (List X)) (b k : ℕ) (items : List X) (x : X) → items ≡ get_or lists b [] → k < length items → x ≡ get_or items k x
    → f x ≡ get_or (get_or (held_in f lists) b []) k None
held_read f lists b k items x is inside read =
    ap f read ∙ sym (get_or-map f items k x None inside)
    ∙ ap (λ (l : List (Option ℕ)). get_or l k None) (ap (map f) is ∙ sym (get_or-map_all (map f) lists b []))

-- who made the last of the first n namings; no agent has the number 2^32 - 1
pub record IsLast (namings : List Naming) (n last : ℕ) : Type 0 where
  pub none_yet : n ≡ 0 → last ≡ 4294967295
  pub there : (e : ℕ) → e + 1 ≡ n → last ≡ (naming_at namings e).by

-- among the first n namings is one by the agent that makes the next
pub record IsSeen (namings : List Naming) (n : ℕ) : Type 0 where
  pub at : ℕ
  pub below : at < n
  pub same : (naming_at namings at).by ≡ (naming_at namings n).by

-- whoever makes the next naming and made the last was seen
pub last_seen : {namings : List Naming} {n last : ℕ} → IsLast namings n last → (naming_at namings n).by < 4294967295 → (naming_at namings n).by ≡ last → IsSeen namings n
last_seen {namings} {n} {last} s few same = ⊎_elim
    (λ (none : n ≡ 0). let is = s.none_yet none in absurd (omega arith))
    (λ some. record { at = n - 1; below = omega arith; same = sym (same ∙ s.there (n - 1) (omega arith)) })
    (cases_eq n 0)

-- whoever didn't make the last made none
pub last_fresh : {namings : List Naming} {rows : List (List ℕ)} {b n last : ℕ} → AreNamingsOf rows (length rows) 0 b namings → n < length namings → IsLast namings n last
    → (naming_at namings n).by ≢ last → (e : ℕ) → e < n → (naming_at namings e).by ≢ (naming_at namings n).by
last_fresh {namings} {rows} {b} {n} {last} named lt s ne e low same =
    let t : ℕ = n - 1 in
    let told : last ≡ (naming_at namings t).by = s.there t (omega arith) in
    let up : (naming_at namings t).by ≤ (naming_at namings n).by = named.rising t n (omega arith) lt in
    let le : (naming_at namings e).by ≤ (naming_at namings t).by = ⊎_elim
    (λ l. named.rising e t l (omega arith))
    (λ ge. let is : e ≡ t = omega arith in le_of_eq (ap (λ f. (naming_at namings f).by) is))
    (cases_lt e t) in
    ne (omega arith)

-- at first nothing is written
pub back_start : (key value : ℕ → ℕ) (crosses : List (Option ℕ)) → ((k : ℕ) → get_or crosses k None ≡ None) → AreFirst key value 0 crosses
back_start key value crosses none =
    record {
      noted = λ e a l same inside. absurd (omega arith);
      first = λ a v there. absurd (none-some v (sym (none a) ∙ there));
    }

-- a naming by an agent that isn't on the list changes nothing
back_past : (key value : ℕ → ℕ) (n : ℕ) (crosses : List (Option ℕ)) → length crosses ≤ key n → AreFirst key value n crosses → AreFirst key value (n + 1) crosses
back_past key value n crosses past s =
    subst (AreFirst key value (n + 1)) (set_past crosses (key n) (Some (value n)) past) (first_more key value n crosses None (get_or_past crosses (key n) None past) s)

-- what is there stays
first_noted_there : (o : Option ℕ) (places : List (Option ℕ)) (a place : ℕ) → o ≢ None → first_noted o places a place ≡ places
first_noted_there (Some _) places a place there = refl
first_noted_there None places a place there = absurd (there refl)

-- a further naming by one agent changes nothing
back_again : (key value : ℕ → ℕ) (n e : ℕ) (crosses : List (Option ℕ)) → e < n → key e ≡ key n → key n < length crosses → AreFirst key value n crosses → AreFirst key value (n + 1) crosses
back_again key value n e crosses low same inside s =
    subst (AreFirst key value (n + 1))
    (first_noted_there (noted_of crosses (key n)) crosses (key n) (value n) (s.noted e (key n) low same inside))
    (first_more key value n crosses (noted_of crosses (key n)) refl s)

-- who has a place on a list stands there
same_agent : (list : List ℕ) (a c : ℕ) → place_on list a ≡ place_on list c → place_on list c < length list → a ≡ c
same_agent list a c same on = sym (get_or-place_on list a (omega arith)) ∙ ap (λ i. get_or list i 0) same ∙ get_or-place_on list c on

-- where an agent makes its first naming nothing is written yet
back_free : (list : List ℕ) (by value : ℕ → ℕ) (n : ℕ) (crosses : List (Option ℕ)) (o : Option ℕ) → noted_of crosses (place_on list (by n)) ≡ o → place_on list (by n) < length list
    → ((e : ℕ) → e < n → by e ≢ by n) → AreFirst (λ e. place_on list (by e)) value n crosses → noted_of crosses (place_on list (by n)) ≡ None
back_free list by value n crosses None is on fresh s = is
back_free list by value n crosses (Some v) is on fresh s =
    let w = s.first (place_on list (by n)) v is in
    absurd (fresh w.at w.below (same_agent list (by w.at) (by n) w.is on))

-- the place of the next naming is put, where it is the first by its agent and that agent is on the list
pub back_more : (list : List ℕ) (namings : List Naming) (n : ℕ) (crosses : List (Option ℕ)) (again : Bool) (o : Option ℕ) → length crosses ≡ length list
    → o ≡ found_on list (naming_at namings n).by → (again ≡ true → IsSeen namings n)
    → (again ≡ false → (e : ℕ) → e < n → (naming_at namings e).by ≢ (naming_at namings n).by)
    → AreFirst (λ e. place_on list (naming_at namings e).by) (λ e. (naming_at namings e).place) n crosses
    → AreFirst (λ e. place_on list (naming_at namings e).by) (λ e. (naming_at namings e).place) (n + 1) (put_once again o (naming_at namings n).place crosses)
back_more list namings n crosses true None long is seen fresh s =
    let past = place_on-unfound list (naming_at namings n).by is in
    back_past (λ e. place_on list (naming_at namings e).by) (λ e. (naming_at namings e).place) n crosses (omega arith) s
back_more list namings n crosses false None long is seen fresh s =
    let past = place_on-unfound list (naming_at namings n).by is in
    back_past (λ e. place_on list (naming_at namings e).by) (λ e. (naming_at namings e).place) n crosses (omega arith) s
back_more list namings n crosses true (Some k) long is seen fresh s =
    let on = found_on-some list (naming_at namings n).by k (sym is) in
    let at = on.0 in
    let inside = on.1 in
    let w = seen refl in
    back_again (λ e. place_on list (naming_at namings e).by) (λ e. (naming_at namings e).place) n w.at crosses w.below (ap (place_on list) w.same) (omega arith) s
back_more list namings n crosses false (Some k) long is seen fresh s =
    let key : ℕ → ℕ = λ e. place_on list (naming_at namings e).by in
    let value : ℕ → ℕ = λ e. (naming_at namings e).place in
    let on = found_on-some list (naming_at namings n).by k (sym is) in
    let at : key n ≡ k = on.0 in
    let inside = on.1 in
    let free : noted_of crosses (key n) ≡ None =
    back_free list (λ e. (naming_at namings e).by) value n crosses (noted_of crosses (key n)) refl (omega arith) (fresh refl) s in
    subst (λ i. AreFirst key value (n + 1) (set crosses i (Some (value n)))) at (first_more key value n crosses None free s)

-- the list after that
pub back_next : (list : List ℕ) (namings : List Naming) (n : ℕ) {crosses new : List (Option ℕ)} {again : Bool} {o : Option ℕ} {place : ℕ} → new ≡ put_once again o place crosses
    → place ≡ (naming_at namings n).place → length crosses ≡ length list → o ≡ found_on list (naming_at namings n).by → (again ≡ true → IsSeen namings n)
    → (again ≡ false → (e : ℕ) → e < n → (naming_at namings e).by ≢ (naming_at namings n).by)
    → AreFirst (λ e. place_on list (naming_at namings e).by) (λ e. (naming_at namings e).place) n crosses
    → AreFirst (λ e. place_on list (naming_at namings e).by) (λ e. (naming_at namings e).place) (n + 1) new
back_next list namings n {crosses} {new} {again} {o} {place} put at long is seen fresh s =
    subst (AreFirst (λ e. place_on list (naming_at namings e).by) (λ e. (naming_at namings e).place) (n + 1)) (sym (put ∙ ap (λ i. put_once again o i crosses) at))
    (back_more list namings n crosses again o long is seen fresh s)

-- with all namings of b seen, the first entry of each agent on its list has its cross place
pub back_all : (rows others : List (List ℕ)) {b : ℕ} {namings : List Naming} {noted crosses : List (Option ℕ)} → AreNamingsOf rows (length rows) 0 b namings → length noted ≡ length rows
    → ((a : ℕ) → a < length rows → noted_of noted a ≡ cross_place others b a) → length crosses ≡ length (row others b)
    → AreFirst (λ e. place_on (row others b) (naming_at namings e).by) (λ e. (naming_at namings e).place) (length namings) crosses
    → HaveFirst (λ a. cross_place rows a b) (row others b) noted crosses
back_all rows others {b} {namings} {noted} {crosses} named sides found long s =
    record { as_long = long; first = λ k on told. go k on told (get_or crosses k None) refl }
  where
    go : (k : ℕ) → k < length (row others b) → (entry others b k < length noted → noted_of noted (entry others b k) ≡ Some k) → (o : Option ℕ) → get_or crosses k None ≡ o
        → get_or crosses k None ≡ cross_place rows (entry others b k) b
    go k on told None is =
        is
        ∙ found_none
      where
        found_none : let none : Option ℕ = None in none ≡ cross_place rows (entry others b k) b
        found_none =
            never_named namings rows b (entry others b k) named
            (λ e l by.
            let in_range : entry others b k < length rows = subst (λ c. c < length rows) by (row_in_range rows (naming_at namings e).by (naming_at namings e).place (named.on_list e l)) in
            let at = found_on-some (row others b) (entry others b k) k (sym (found (entry others b k) in_range) ∙ told (omega arith)) in
            s.noted e k l (ap (place_on (row others b)) by ∙ at.0) (omega arith) is)
    go k on told (Some i) is =
        let list : List ℕ = row others b in
        let w = s.first k i is in
        let at : place_on list (naming_at namings w.at).by ≡ k = w.is in
        let by : (naming_at namings w.at).by ≡ entry others b k = sym (get_or-place_on list (naming_at namings w.at).by (omega arith)) ∙ ap (λ j. get_or list j 0) at in
        let first : IsFirstKey (λ e. (naming_at namings e).by) (λ e. (naming_at namings e).place) (length namings) (entry others b k) i =
        record { at = w.at; below = w.below; is = by; told = w.told; before = λ e l same. w.before e l (ap (place_on list) (same ∙ sym by) ∙ at) } in
        is ∙ first_named rows b named first

-- the first entries have their cross places, and so have all before the n-th
pub record AreShared (own : ℕ → Option ℕ) (list : List ℕ) (noted : List (Option ℕ)) (n : ℕ) (crosses : List (Option ℕ)) : Type 0 where
  pub first : HaveFirst own list noted crosses
  pub before : (k : ℕ) → k < n → k < length list → get_or crosses k None ≡ own (get_or list k 0)

-- one more entry gets what the first of its agent has
pub shared_more : {own : ℕ → Option ℕ} {list : List ℕ} {noted : List (Option ℕ)} {n : ℕ} {crosses : List (Option ℕ)} (o : Option ℕ) → n < length list
    → ((a : ℕ) → a < length noted → noted_of noted a ≡ found_on list a) → noted_of noted (get_or list n 0) ≡ o → AreShared own list noted n crosses
    → AreShared own list noted (n + 1) (shared_from o n crosses)
shared_more {own} {list} {noted} {n} {crosses} None on found is s =
    let here : get_or crosses n None ≡ own (get_or list n 0) = s.first.first n on
    (λ inside.
    let far = place_on-unfound list (get_or list n 0) (sym is ∙ found (get_or list n 0) inside) in
    let near = place_on-lt list (get_or list n 0) n on refl in
    absurd (omega arith)) in
    record {
      first = s.first;
      before = λ k l there. ⊎_elim
          (λ lower. s.before k lower there)
          (λ le. let last : n ≡ k = omega arith in subst (λ j. get_or crosses j None ≡ own (get_or list j 0)) last here)
          (cases_lt k n);
    }
shared_more {own} {list} {noted} {n} {crosses} (Some i) on found is s =
    let a : ℕ = get_or list n 0 in
    let inside : a < length noted = ⊎_elim (λ l. l) (λ past. absurd (none-some i (sym (get_or_past noted a None past) ∙ is))) (cases_lt a (length noted)) in
    let at = found_on-some list a i (sym (found a inside) ∙ is) in
    let at_first : place_on list a ≡ i = at.0 in
    let on_list : i < length list = at.1 in
    let there : get_or list i 0 ≡ a = ap (λ j. get_or list j 0) (sym at_first) ∙ get_or-place_on list a (omega arith) in
    let own_first : get_or crosses i None ≡ own a = s.first.first i on_list (λ _. ap (noted_of noted) there ∙ is) ∙ ap own there in
    let long = s.first.as_long in
    record {
      first = record {
        as_long = length-set crosses n (get_or crosses i None) ∙ long;
        first = set_cases (λ k (x : Option ℕ). k < length list → (get_or list k 0 < length noted → noted_of noted (get_or list k 0) ≡ Some k) → x ≡ own (get_or list k 0))
            crosses n (get_or crosses i None) None (omega arith) (λ _ _. own_first) (λ k _. s.first.first k);
      };
      before = set_cases (λ k (x : Option ℕ). k < n + 1 → k < length list → x ≡ own (get_or list k 0)) crosses n (get_or crosses i None) None (omega arith)
          (λ _ _. own_first)
          (λ k ne l. s.before k (omega arith));
    }

-- so b's list has all its cross places
pub own_places : (rows others : List (List ℕ)) {b : ℕ} {crosses : List (Option ℕ)} → HaveAll (λ a. cross_place rows a b) (row others b) crosses → AreCrossPlacesOf others rows b crosses
own_places rows others s = record { as_long = s.as_long; places = s.all }
