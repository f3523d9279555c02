-- How the namings grow, entry by entry.
use Rattle.std.proofs.Common.{◌≡◌, ◌≢◌, ℕ, ◌+◌, ◌<◌, ◌≤◌, List, [], ◌∷◌, ◌++◌, length, map, get_or, set, replicate, refl, sym, ap, subst, ◌∙◌, arith, ⊎_elim}
use Rattle.std.proofs.lemmas.Bool.{cases_lt}
use Rattle.std.proofs.lemmas.List.{get_or_append_left, get_or_push, get_or-map, length-map, length_push, length-replicate, length-set, map-set, map_push}
use Rattle.std.proofs.Math.ListN.{get_or-map as get_or-map_all}
use Rattle.sm_lists.specs.Rows.{row, entry}
use Rattle.sm_lists.specs.Namings.{naming_at, IsNamed, AreNamingsOf, AreNamings, no_naming}
use Rattle.sm_lists.specs.Held.{held_in}
use Rattle.sm_lists.specs.declared.naming.Naming.{Naming}
use Rattle.sm_lists.proofs.ItemLemmas.{set_cases, push_cases, get_or-empty}

module _ {rows : List (List ℕ)} {a k b : ℕ} {namings : List Naming} (n : AreNamingsOf rows a k b namings) where
  -- an entry that names another agent adds no naming
  naming_passes : entry rows a k ≢ b → AreNamingsOf rows a (k + 1) b namings
  naming_passes other =
      record {
        on_list = n.on_list;
        names = n.names;
        reached = n.reached;
        here = λ e l is. let lt = n.here e l is in omega arith;
        rising = n.rising;
        ordered = n.ordered;
        earlier_named = n.earlier_named;
        here_named = λ i l on is. ⊎_elim
            (λ lower. n.here_named i lower on is)
            (λ le. let last : i ≡ k = omega arith in absurd (other (subst (λ j. entry rows a j ≡ b) last is)))
            (cases_lt i k);
      }

  -- an entry that names the agent adds its naming
  naming_adds : k < length (row rows a) → entry rows a k ≡ b → AreNamingsOf rows a (k + 1) b (namings ++ record { by = a; place = k } ∷ [])
  naming_adds on is =
      let x : Naming = record { by = a; place = k } in
      let more : List Naming = namings ++ x ∷ [] in
      let top : ℕ = length namings in
      let long : length more ≡ top + 1 = length_push namings x in
      let old : (e : ℕ) → e < top → naming_at more e ≡ naming_at namings e = λ e l. get_or_append_left namings (x ∷ []) no_naming e l in
      let new : naming_at more top ≡ x = get_or_push namings x no_naming top refl in
      let keeps : (c j : ℕ) → IsNamed namings c j → IsNamed more c j =
      λ c j w. record { at = w.at; there = let l = w.there in omega arith; by = ap (λ (y : Naming). y.by) (old w.at w.there) ∙ w.by; place = ap (λ (y : Naming). y.place) (old w.at w.there) ∙ w.place } in
      record {
        on_list = push_cases (λ e (y : Naming). y.place < length (row rows y.by)) namings x no_naming on n.on_list;
        names = push_cases (λ e (y : Naming). entry rows y.by y.place ≡ b) namings x no_naming is n.names;
        reached = push_cases (λ e (y : Naming). y.by ≤ a) namings x no_naming (omega arith) n.reached;
        here = push_cases (λ e (y : Naming). y.by ≡ a → y.place < k + 1) namings x no_naming (λ _. omega arith) (λ e l same. let lower = n.here e l same in omega arith);
        rising = λ e f low high.
            push_cases (λ g (y : Naming). e < g → (naming_at more e).by ≤ y.by) namings x no_naming
            (λ l. let back = old e l in rw back (n.reached e l))
            (λ g in_all l. let back = old e (omega arith) in rw back (n.rising e g l in_all))
            f high low;
        ordered = λ e f low high.
            push_cases (λ g (y : Naming). e < g → (naming_at more e).by ≡ y.by → (naming_at more e).place < y.place) namings x no_naming
            (λ l same. let back = old e l in rw back (n.here e l (let Q : Naming → Type 0 = λ y. y.by ≡ a in subst Q back same)))
            (λ g in_all l same. let back = old e (omega arith) in rw back (n.ordered e g l in_all (let Q : Naming → Type 0 = λ y. y.by ≡ (naming_at namings g).by in subst Q back same)))
            f high low;
        earlier_named = λ c j before l is. keeps c j (n.earlier_named c j before l is);
        here_named = λ j before l is. ⊎_elim
            (λ lower. keeps a j (n.here_named j lower l is))
            (λ le. record { at = top; there = omega arith; by = ap (λ (y : Naming). y.by) new; place = ap (λ (y : Naming). y.place) new ∙ omega arith })
            (cases_lt j k);
      }

-- at the end of a list the next one begins
naming_next : {rows : List (List ℕ)} {a b : ℕ} {namings : List Naming} → AreNamingsOf rows a (length (row rows a)) b namings → AreNamingsOf rows (a + 1) 0 b namings
naming_next {rows} {a} {b} {namings} n =
    record {
      on_list = n.on_list;
      names = n.names;
      reached = λ e l. let le = n.reached e l in omega arith;
      here = λ e l is. let le = n.reached e l in absurd (omega arith);
      rising = n.rising;
      ordered = n.ordered;
      earlier_named = λ c j before on is. ⊎_elim
          (λ lower. n.earlier_named c j lower on is)
          (λ le. let last : a ≡ c = omega arith in
          let Q : ℕ → Type 0 = λ d. j < length (row rows d) → entry rows d j ≡ b → IsNamed namings d j in
          subst Q last (λ on is. n.here_named j on on is) on is)
          (cases_lt c a);
      here_named = λ j before. absurd (omega arith);
    }

module _ {others a k : ℕ} {rows : List (List ℕ)} {lists : List (List Naming)} (n : AreNamings rows others a k lists) where
  -- an entry that names nobody is passed by
  pub namings_pass : others ≤ entry rows a k → AreNamings rows others a (k + 1) lists
  namings_pass past = record { one_each = n.one_each; of = λ b lt. naming_passes (n.of b lt) (λ is. absurd (omega arith)) }

  -- an entry that names somebody is added to the namings of whom it names
  pub namings_add : (named : ℕ) → k < length (row rows a) → named ≡ entry rows a k → named < others
      → AreNamings rows others a (k + 1) (set lists named (get_or lists named [] ++ record { by = a; place = k } ∷ []))
  namings_add named on is lt =
      let longer : List Naming = get_or lists named [] ++ record { by = a; place = k } ∷ [] in
      record {
        one_each = length-set lists named longer ∙ n.one_each;
        of = set_cases (λ b l. b < others → AreNamingsOf rows a (k + 1) b l) lists named longer [] (let same = n.one_each in omega arith)
            (λ lt. naming_adds (n.of named lt) on (sym is))
            (λ b other lt. naming_passes (n.of b lt) (λ same. other (sym (is ∙ same))));
      }

-- the namings up to the end of a's list are those before the next list
pub namings_next : {others a : ℕ} {rows : List (List ℕ)} {lists : List (List Naming)} → AreNamings rows others a (length (row rows a)) lists → AreNamings rows others (a + 1) 0 lists
namings_next n = record { one_each = n.one_each; of = λ b lt. naming_next (n.of b lt) }

-- nobody is named yet
pub namings_start : {X : Type 0} (f : X → Naming) (rows : List (List ℕ)) (n : ℕ) (lists : List (List X)) → lists ≡ replicate n [] → AreNamings rows n 0 0 (held_in f lists)
namings_start {X} f rows n lists is =
    let none : List X = [] in
    let empty : (b : ℕ) → [] ≡ get_or (held_in f lists) b [] =
    λ b. sym (get_or-map_all (map f) lists b [] ∙ ap (λ all. map f (get_or all b [])) is ∙ ap (map f) (get_or-empty n b)) in
    record {
      one_each = length-map lists (map f) ∙ ap length is ∙ length-replicate n none;
      of = λ b _. subst (AreNamingsOf rows 0 0 b) (empty b)
          (record {
            on_list = λ e l. absurd (omega arith);
            names = λ e l. absurd (omega arith);
            reached = λ e l. absurd (omega arith);
            here = λ e l is. absurd (omega arith);
            rising = λ e f lt l. absurd (omega arith);
            ordered = λ e f lt l is. absurd (omega arith);
            earlier_named = λ c i l on is. absurd (omega arith);
            here_named = λ i l on is. absurd (omega arith);
          });
    }

-- one more item on the list of an agent
pub held_in-pushed : {X Y : Type 0} (f : X → Y) (lists : List (List X)) (b : ℕ) (x : X)
    → held_in f (set lists b (get_or lists b [] ++ x ∷ [])) ≡ set (held_in f lists) b (get_or (held_in f lists) b [] ++ f x ∷ [])
held_in-pushed f lists b x =
    map-set (map f) lists b (get_or lists b [] ++ x ∷ [])
    ∙ ap (set (held_in f lists) b) (map_push f (get_or lists b []) x ∙ ap (λ l. l ++ f x ∷ []) (sym (get_or-map_all (map f) lists b [])))

-- a naming that is read of those that are kept
pub naming_read : {X : Type 0} (f : X → Naming) (items : List X) (e : ℕ) (x : X) (n : Naming) → e < length items → x ≡ get_or items e x → n ≡ f x → n ≡ naming_at (map f items) e
naming_read f items e x n inside read is = is ∙ ap f read ∙ sym (get_or-map f items e x no_naming inside)

-- the namings of an agent that are read of all
pub namings_read : {X : Type 0} {rows : List (List ℕ)} {others a k : ℕ} (f : X → Naming) (lists : List (List X)) (b : ℕ) (items : List X)
    → AreNamings rows others a k (held_in f lists) → b < others → items ≡ get_or lists b [] → AreNamingsOf rows a k b (map f items)
namings_read {X} {rows} {others} {a} {k} f lists b items n lt is =
    let all : map f items ≡ get_or (held_in f lists) b [] = ap (map f) is ∙ sym (get_or-map_all (map f) lists b []) in
    rw all (n.of b lt)
