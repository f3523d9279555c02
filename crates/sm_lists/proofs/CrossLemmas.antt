-- Writing the cross places of one side, and finding those of the other, agent by agent.
use Rattle.std.proofs.Common.{IfSome, ◌≡◌, ℕ, ◌+◌, ◌<◌, ◌≤◌, List, [], ◌∷◌, Option, None, length, map, get_or, set, replicate, zero, suc, refl, sym, ap, subst, ◌∙◌, arith, ⊎_elim}
use Rattle.std.proofs.lemmas.Bool.{cases_lt}
use Rattle.std.proofs.lemmas.List.{get_or-replicate, get_or_past, length-map, length-replicate, length-set, map-set, set_past}
use Rattle.std.proofs.Math.ListN.{get_or-map as get_or-map_all}
use Rattle.sm_lists.specs.Rows.{row, entry}
use Rattle.sm_lists.specs.Crosses.{found_on, cross_place, AreCrossPlaces}
use Rattle.sm_lists.specs.Namings.{naming_at, AreNamingsOf}
use Rattle.sm_lists.specs.Held.{held_in}
use Rattle.sm_lists.specs.Kept.{noted_of, ArePlacesBefore}
use Rattle.sm_lists.specs.declared.naming.Naming.{Naming}
use Rattle.sm_lists.proofs.ItemLemmas.{set_cases}
use Rattle.sm_lists.proofs.RowLemmas.{row_in_range}
use Rattle.sm_lists.proofs.FoundLemmas.{found_on-fits}

-- an item of a list among lists is replaced
pub held_in-written : {X Y : Type 0} (f : X → Y) (lists : List (List X)) (b j : ℕ) (x : X)
    → held_in f (set lists b (set (get_or lists b []) j x)) ≡ set (held_in f lists) b (set (get_or (held_in f lists) b []) j (f x))
held_in-written f lists b j x =
    map-set (map f) lists b (set (get_or lists b []) j x)
    ∙ ap (set (held_in f lists) b) (map-set f (get_or lists b []) j x ∙ ap (λ list. set list j (f x)) (sym (get_or-map_all (map f) lists b [])))

-- what holds of each item of the rows after one is replaced
item_cases : {X : Type 0} (P : ℕ → ℕ → X → Type 0) (rows : List (List X)) (b j : ℕ) (x d : X) → b < length rows → j < length (get_or rows b []) → P b j x
    → ((c k : ℕ) → (c ≡ b → k ≡ j → ⊥) → P c k (get_or (get_or rows c []) k d)) → (c k : ℕ) → P c k (get_or (get_or (set rows b (set (get_or rows b []) j x)) c []) k d)
item_cases {X} P rows b j x d inside on new old =
    set_cases (λ c (list : List X). (k : ℕ) → P c k (get_or list k d)) rows b (set (get_or rows b []) j x) [] inside
    (set_cases (λ k y. P b k y) (get_or rows b []) j x d on new (λ k ne. old b k (λ _ same. ne same)))
    (λ c ne k. old c k (λ same _. ne same))

-- each list is as long after an item is replaced
pub lengths_kept : {X : Type 0} (rows : List (List X)) (b j : ℕ) (x : X) (c : ℕ) → length (get_or (set rows b (set (get_or rows b []) j x)) c []) ≡ length (get_or rows c [])
lengths_kept {X} rows b j x c = ⊎_elim
    (λ inside. set_cases (λ c (list : List X). length list ≡ length (get_or rows c [])) rows b (set (get_or rows b []) j x) [] inside (length-set (get_or rows b []) j x) (λ c _. refl) c)
    (λ past. ap (λ l. length (get_or l c [])) (set_past rows b (set (get_or rows b []) j x) past))
    (cases_lt b (length rows))

-- a list is as long as what is kept for it
pub length-held_in : {X Y : Type 0} (f : X → Y) (lists : List (List X)) (b : ℕ) → length (get_or (held_in f lists) b []) ≡ length (get_or lists b [])
length-held_in f lists b = ap length (get_or-map_all (map f) lists b []) ∙ length-map (get_or lists b []) f

-- the cross places of the entries are written that name an agent before b, or that make one of the first n namings of b
pub record AreWritten (rows others : List (List ℕ)) (b : ℕ) (namings : List Naming) (n : ℕ) (crosses : List (List (Option ℕ))) : Type 0 where
  pub one_each : length crosses ≡ length rows
  pub as_long : (a : ℕ) → length (get_or crosses a []) ≡ length (row rows a)
  pub earlier : (a i : ℕ) → i < length (row rows a) → entry rows a i < b → get_or (get_or crosses a []) i None ≡ cross_place others (entry rows a i) a
  pub later : (a i : ℕ) → b < entry rows a i → get_or (get_or crosses a []) i None ≡ None
  pub here : (e : ℕ) → e < n → get_or (get_or crosses (naming_at namings e).by []) (naming_at namings e).place None ≡ cross_place others b (naming_at namings e).by

-- the next naming of b
pub written_more : {rows others : List (List ℕ)} {b n : ℕ} {namings : List Naming} {crosses : List (List (Option ℕ))} (o : Option ℕ)
    → AreNamingsOf rows (length rows) 0 b namings → n < length namings → AreWritten rows others b namings n crosses → o ≡ cross_place others b (naming_at namings n).by
    → AreWritten rows others b namings (n + 1) (set crosses (naming_at namings n).by (set (get_or crosses (naming_at namings n).by []) (naming_at namings n).place o))
written_more {rows} {others} {b} {n} {namings} {crosses} o named lt s is =
    let a : ℕ = (naming_at namings n).by in
    let i : ℕ = (naming_at namings n).place in
    let on : i < length (row rows a) = named.on_list n lt in
    let inside : a < length crosses = let in_range = row_in_range rows a i on in let e = s.one_each in omega arith in
    let there : i < length (get_or crosses a []) = let e = s.as_long a in omega arith in
    let list : List (Option ℕ) = set (get_or crosses a []) i o in
    record {
      one_each = length-set crosses a list ∙ s.one_each;
      as_long = set_cases (λ c (l : List (Option ℕ)). length l ≡ length (row rows c)) crosses a list [] inside (length-set (get_or crosses a []) i o ∙ s.as_long a) (λ c _. s.as_long c);
      earlier = item_cases (λ c k x. k < length (row rows c) → entry rows c k < b → x ≡ cross_place others (entry rows c k) c) crosses a i o None inside there
          (λ _ low. let same = named.names n lt in absurd (omega arith))
          (λ c k _. s.earlier c k);
      later = item_cases (λ c k (x : Option ℕ). b < entry rows c k → x ≡ None) crosses a i o None inside there
          (λ high. let same = named.names n lt in absurd (omega arith))
          (λ c k _. s.later c k);
      here = λ e l. item_cases (λ c k x. c ≡ (naming_at namings e).by → k ≡ (naming_at namings e).place → x ≡ cross_place others b (naming_at namings e).by) crosses a i o None inside there
          (λ same _. is ∙ ap (cross_place others b) same)
          (λ c k other by place. ⊎_elim
          (λ lower. rw (by, place) (s.here e lower))
          (λ le. let last : e ≡ n = omega arith in absurd (other (by ∙ ap (λ f. (naming_at namings f).by) last) (place ∙ ap (λ f. (naming_at namings f).place) last)))
          (cases_lt e n))
          (naming_at namings e).by (naming_at namings e).place refl refl;
    }

-- with all namings of b written, the entries that name it have their cross places
pub written_all : {rows others : List (List ℕ)} {b : ℕ} {namings : List Naming} {crosses : List (List (Option ℕ))} → AreNamingsOf rows (length rows) 0 b namings
    → AreWritten rows others b namings (length namings) crosses → ArePlacesBefore rows others (b + 1) crosses
written_all {rows} {others} {b} {namings} {crosses} named s =
    record {
      one_each = s.one_each;
      as_long = s.as_long;
      written = λ a i on l. ⊎_elim
          (λ lower. s.earlier a i on lower)
          (λ le. let same : entry rows a i ≡ b = omega arith in
          let w = named.earlier_named a i (row_in_range rows a i on) on same in
          let P : ℕ → ℕ → Type 0 = λ c k. get_or (get_or crosses c []) k None ≡ cross_place others b c in
          let here : P a i = subst (P a) w.place (let Q : ℕ → Type 0 = λ c. P c (naming_at namings w.at).place in subst Q w.by (s.here w.at w.there)) in
          here ∙ ap (λ t. cross_place others t a) (sym same))
          (cases_lt (entry rows a i) b);
      unwritten = λ a i l. s.later a i (omega arith);
    }

-- at first none is written
pub places_start : (rows others : List (List ℕ)) (crosses : List (List (Option ℕ))) → crosses ≡ map (λ list. replicate (length list) None) rows → ArePlacesBefore rows others 0 crosses
places_start rows others crosses is =
    let unwritten_of : List ℕ → List (Option ℕ) = λ list. replicate (length list) None in
    let read : (a : ℕ) → get_or crosses a [] ≡ unwritten_of (row rows a) = λ a. ap (λ l. get_or l a []) is ∙ get_or-map_all unwritten_of rows a [] in
    record {
      one_each = ap length is ∙ length-map rows unwritten_of;
      as_long = λ a. ap length (read a) ∙ length-replicate (length (row rows a)) None;
      written = λ a i on l. absurd (omega arith);
      unwritten = λ a i l. ap (λ list. get_or list i None) (read a) ∙ get_or-none (length (row rows a)) i;
    }
  where
    get_or-none : (n i : ℕ) → (let none : Option ℕ = None in get_or (replicate n none) i none ≡ none)
    get_or-none n i =
        let none : Option ℕ = None in
        ⊎_elim (λ l. get_or-replicate n i none none l) (λ l. get_or_past (replicate n none) i none (let long = length-replicate n none in omega arith)) (cases_lt i n)

-- nobody who has no list is on it
no_cross_place : (others : List (List ℕ)) (b a : ℕ) → length others ≤ b → let none : Option ℕ = None in none ≡ cross_place others b a
no_cross_place others b a past = rw (get_or_past others b [] past) refl

-- at last all are written
pub places_end : {rows others : List (List ℕ)} {crosses : List (List (Option ℕ))} {b : ℕ} → b ≡ length others → ArePlacesBefore rows others b crosses → AreCrossPlaces rows others crosses
places_end {rows} {others} {crosses} {b} all s =
    record {
      one_each = s.one_each;
      of = λ a _. record {
        as_long = s.as_long a;
        places = λ i on. ⊎_elim
            (λ lower. s.written a i on lower)
            (λ past. s.unwritten a i past ∙ no_cross_place others (entry rows a i) a (omega arith))
            (cases_lt (entry rows a i) b);
      };
    }

-- what is found on lists of at most so many entries is a place below that
pub noted_fits : (places : List (Option ℕ)) (list_for : ℕ → List ℕ) (b_for : ℕ → ℕ) (most : ℕ) → ((a : ℕ) → length (list_for a) ≤ most)
    → ((a : ℕ) → a < length places → noted_of places a ≡ found_on (list_for a) (b_for a)) → (a : ℕ) → IfSome (noted_of places a) (λ i. i < most)
noted_fits places list_for b_for most short found a =
    let P : Option ℕ → Type 0 = λ o. IfSome o (λ i. i < most) in
    ⊎_elim
    (λ inside. subst P (sym (found a inside)) (found_on-fits (list_for a) (b_for a) most (short a)))
    (λ past. subst P (sym (get_or_past places a None past)) tt)
    (cases_lt a (length places))

-- as many copies of what stands for nothing
map_copies : {X Y : Type 0} (f : X → Y) (n : ℕ) (x : X) (y : Y) → f x ≡ y → map f (replicate n x) ≡ replicate n y
map_copies f zero x y is = refl
map_copies f (suc n) x y is = ap (λ z. z ∷ map f (replicate n x)) is ∙ ap (λ zs. y ∷ zs) (map_copies f n x y is)

-- lists throughout which stands what stands for nothing
pub held_in-filled : {X Y : Type 0} (f : X → Y) (x : X) (y : Y) (rows : List (List ℕ)) → f x ≡ y
    → held_in f (map (λ list. replicate (length list) x) rows) ≡ map (λ list. replicate (length list) y) rows
held_in-filled f x y [] is = refl
held_in-filled f x y (list ∷ rows) is =
    ap (λ l. l ∷ held_in f (map (λ list. replicate (length list) x) rows)) (map_copies f (length list) x y is)
    ∙ ap (λ ls. replicate (length list) y ∷ ls) (held_in-filled f x y rows is)
