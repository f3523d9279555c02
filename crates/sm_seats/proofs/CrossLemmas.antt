-- What cross places tell of the lists without inert entries.
use Rattle.std.proofs.Common.{◌≡◌, ℕ, suc, ◌+◌, ◌<◌, ◌++◌, ◌∷◌, [], cond, Bool, true, false, List, Some, None, Option, length, take, get_or, is_some, refl, sym, ap, ◌∙◌, append-nil, nat_lt, arith, inl, inr}
use Rattle.std.specs.List.{filter}
use Rattle.std.proofs.lemmas.Bool.{eq-eqb, ne_eqb, cases_eq, cases_Bool}
use Rattle.std.proofs.lemmas.List.{get_or_read}
use Rattle.std.proofs.lemmas.List.Elements.{filter_more}
use Rattle.sm_lists.specs.Rows.{place_on}
use Rattle.sm_agents.specs.Written.{AgentData, row, entry, place_of}
use Rattle.sm_agents.specs.Sound.{AreSoundEntries}
use Rattle.sm_instance.specs.Crosses.{cross_place, AreCrossPlacesOf}
use Rattle.sm_instance.proofs.PlaceLemmas.{place_of-entry}
use Rattle.sm_instance.proofs.AcceptLemmas.{cross_some}
use Rattle.sm_seats.specs.Mutual.{lists_back}
use Rattle.sm_seats.proofs.FilterLemmas.{place_on-here, place_on-behind, taken, left_out}
use Rattle.sm_seats.proofs.MutualLemmas.{IsMutual}

is_some_choice : (b : Bool) (i : ℕ) → is_some (cond b (Some i) None) ≡ b
is_some_choice true i = refl
is_some_choice false i = refl

-- the cross place of an entry tells whether its agent lists back
pub lists_back-told : (others : List AgentData) (a b : ℕ) {o : Option ℕ} {t : Bool} → o ≡ cross_place others b a → t ≡ is_some o → lists_back others a b ≡ t
lists_back-told others a b is test = sym (test ∙ ap is_some is ∙ is_some_choice (nat_lt (place_of others b a) (length (row others b))) (place_of others b a))

-- the cross place at a place of a list, where it is read
pub cross_read : {agents others : List AgentData} {a i : ℕ} {crosses : List (Option ℕ)} {x o : Option ℕ} → AreCrossPlacesOf agents others a crosses → i < length (row agents a) → x ≡ get_or crosses i x → o ≡ x
    → o ≡ cross_place others (entry agents a i) a
cross_read {i = i} {crosses} {x} s on read is = is ∙ get_or_read crosses i x (omega (arith, s.as_long)) read None ∙ s.places i on

-- who of the first places of a list lists back, with one place more
module _ (agents others : List AgentData) (a i : ℕ) (on : i < length (row agents a)) where
  abbrev back_before : ℕ → List ℕ
  back_before n = filter (lists_back others a) (take n (row agents a))

  -- where the agent at the place lists back, it is one more
  pub back_more : lists_back others a (entry agents a i) ≡ true → back_before (i + 1) ≡ back_before i ++ entry agents a i ∷ []
  back_more yes_ = filter_more (lists_back others a) (row agents a) i 0 on ∙ ap (λ b. back_before i ++ cond b (entry agents a i ∷ []) []) yes_

  -- where it doesn't, they are the same
  pub back_same : lists_back others a (entry agents a i) ≡ false → back_before (i + 1) ≡ back_before i
  back_same no_ = filter_more (lists_back others a) (row agents a) i 0 on ∙ ap (λ b. back_before i ++ cond b (entry agents a i ∷ []) []) no_ ∙ append-nil (back_before i)

-- an entry whose agent lists back, at place j
pub record IsCrossed (agents others : List AgentData) (a i j : ℕ) : Type 0 where
  pub mutual_ : IsMutual agents others a (entry agents a i)
  pub place : place_of agents a (entry agents a i) ≡ i
  pub back : place_of others (entry agents a i) a ≡ j
  pub passes : lists_back others a (entry agents a i) ≡ true

-- an entry with a cross place is of an agent that lists back at that place
pub crossed_at : {agents others : List AgentData} {n a i j : ℕ} {o : Option ℕ} → AreSoundEntries agents n → i < length (row agents a) → o ≡ cross_place others (entry agents a i) a → o ≡ Some j → IsCrossed agents others a i j
crossed_at {agents} {others} {n} {a} {i} {j} sound on is some_ =
    let place = place_of-entry sound a (entry agents a i) i on refl in
    let both = cross_some others (entry agents a i) a j (sym is ∙ some_) in
    record {
      mutual_ = record { lists = omega (arith, place); listed = both.1 };
      place = place;
      back = both.0;
      passes = lists_back-told others a (entry agents a i) is (sym (ap is_some some_));
    }

-- an entry without a cross place is of an agent that doesn't list back
pub lists_back-none : (agents others : List AgentData) (a i : ℕ) {o : Option ℕ} → o ≡ cross_place others (entry agents a i) a → o ≡ None → lists_back others a (entry agents a i) ≡ false
lists_back-none agents others a i is none_ = lists_back-told others a (entry agents a i) is (sym (ap is_some none_))

-- Places on a list of which some entries are left out.

-- those who pass a test before b are those before b of all who pass it, where b does
pub filter-take_place : (t : ℕ → Bool) (xs : List ℕ) (b : ℕ) → t b ≡ true → place_on xs b < length xs → filter t (take (place_on xs b) xs) ≡ take (place_on (filter t xs) b) (filter t xs)
filter-take_place t [] b e h = refl
filter-take_place t (x ∷ xs) b e h = elim (cases_eq x b) [
  | inl same ↦
      let passes : t x ≡ true = ap t same ∙ e in
      rw (place_on-here x b xs (eq-eqb x b same)) (rw (taken t x xs passes) (rw (place_on-here x b (filter t xs) (eq-eqb x b same)) refl))
  | inr other ↦
      let far = ne_eqb x b other in
      let place : place_on (x ∷ xs) b ≡ suc (place_on xs b) = omega (arith, place_on-behind x b xs far) in
      let deep = filter-take_place t xs b e (omega arith) in
      elim (cases_Bool (t x)) [
        | inl passes ↦
            let kept : place_on (x ∷ filter t xs) b ≡ suc (place_on (filter t xs) b) = omega (arith, place_on-behind x b (filter t xs) far) in
            rw place (rw (taken t x (take (place_on xs b) xs) passes) (rw (taken t x xs passes) (rw kept (ap (λ l. x ∷ l) deep))))
        | inr fails ↦ rw place (rw (left_out t x (take (place_on xs b) xs) fails) (rw (left_out t x xs fails) deep))
      ]
]
