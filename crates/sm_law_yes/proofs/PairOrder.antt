-- The order of pairs says nothing in an answer of `solve`, `regret`, `meet` and `join`.
use Rattle.std.proofs.Common.{◌≡◌, ℕ, refl, sym, ap, ap₂, ◌∙◌, true, List, [], ◌∷◌, ◌++◌, Option, Some, None, slice_index_or, subst}
use Rattle.std.specs.Prelude.{IfSome, filter_map}
use Rattle.std.specs.Option.{is_some}
use Rattle.std.proofs.lemmas.Bool.{false≢true}
use Rattle.sm_agents.specs.Written.{Written}
use Rattle.sm_instance.specs.Stable.{IsStable, IsBestOf}
use Rattle.sm_instance.specs.Allowed.{IsAllowed}
use Rattle.sm_instance.specs.Ranks.{regret_of}
use Rattle.sm_agents.specs.declared.kinds.Side.{Side}
use Rattle.sm_theory.specs.declared.choice.Choice.{Choice}
use Rattle.sm_holding.specs.Held.{places_in, CanFollow}
use Rattle.sm_holding.specs.Chosen.{chosen_places}
use Rattle.sm_report.specs.Heads.{HeadData}
use Rattle.sm_report.specs.Lines.{LineData}
use Rattle.sm_report.specs.declared.keywords.Keyword.TheVariants as keyword
use Rattle.sm_report.specs.Keywords.{keyword_of}
use Rattle.sm_check_forms.specs.Keywords.{is_same}
use Rattle.sm_check_clauses.specs.declared.verdicts.Reason.{Reason}
use Rattle.sm_check_clauses.specs.declared.verdicts.Reason.TheVariants as reason
use Rattle.sm_check_clauses.specs.Said.{pair_in, pairs_in, left_in, lefts_in, right_in, rights_in, regret_in}
use Rattle.sm_check_clauses.specs.Pairs.{SolveHolds, ChosenHold, IsWanted, AreAllThere}
use Rattle.sm_check_clauses.specs.Vectors.{RegretClauses}
use Rattle.sm_check_clauses.specs.Judging.{answer, Clauses}
use Rattle.sm_check_clauses.proofs.AnswerLemmas.{said_same}
use Rattle.sm_law_yes.specs.Reordered.{is_free}
use Rattle.sm_law_yes.proofs.Exchanges.{SeesNoOrder}
use Rattle.sm_law_yes.proofs.SamePairs.{AreSamePairs, same_places, free_same, wanted_same, all_there_same}
use Rattle.sm_law_yes.proofs.SaidOrder.{if_said, not_closing, unsaid, unsaid_more, freely, wanted_freely, pairs_more, exchanged_said, alike_said}

-- which lines say pairs
pub has_pair : (x : LineData) → is_some (pair_in x) ≡ is_same (keyword_of x) keyword.Pair
has_pair (LineData.Pair p r) = refl
has_pair _ = refl

has_left : (x : LineData) → is_some (left_in x) ≡ is_same (keyword_of x) keyword.Left
has_left (LineData.LeftPair p r) = refl
has_left _ = refl

has_right : (x : LineData) → is_some (right_in x) ≡ is_same (keyword_of x) keyword.Right
has_right (LineData.RightPair p r) = refl
has_right _ = refl

-- `solve`.
module _ (w : Written) (side : Side) where
  -- as much is read of the pairs
  abbrev pub SolveAlike : List LineData → List LineData → Type 0
  SolveAlike a b = AreSamePairs (pairs_in a) (pairs_in b)

  abbrev SolveClauses : List LineData → LineData → Reason → Type 0
  SolveClauses above line why = SolveHolds w side (pairs_in above) line why

  solve_carries : (a b : List LineData) (z : LineData) (why : Reason) → SolveAlike a b → SolveClauses a z why → SolveClauses b z why
  solve_carries a b z reason.NotAMatching s h = if_said (pair_in z) (λ x f. free_same s f) h
  solve_carries a b z reason.Blocked s h = λ e. subst (IsStable w) (same_places w s) (h e)
  solve_carries a b z reason.NotBest s h = λ e. subst (IsBestOf side w) (same_places w s) (h e)
  solve_carries a b z _ s h = tt

  solve_at : (above : List LineData) (x : LineData) → is_free (keyword_of x) ≡ true → IfSome (pair_in x) (CanFollow w (pairs_in above)) → (why : Reason) → SolveClauses above x why
  solve_at above x f h reason.NotAMatching = h
  solve_at above x f h reason.Blocked = not_closing x f
  solve_at above x f h reason.NotBest = not_closing x f
  solve_at above x f h _ = tt

  -- the order of pairs in `solve`
  pub solve_order : SeesNoOrder (Clauses (answer w (HeadData.Solve (Some side)))) SolveAlike
  solve_order = record {
    carries = solve_carries;
    more = λ a b z s. pairs_more pair_in a b z s;
    exchanges = λ above x y e f hx hy.
        let t = exchanged_said pair_in (freely w) above x y (alike_said pair_in keyword.Pair has_pair x y e) (hx reason.NotAMatching) (hy reason.NotAMatching) in
        record { first = solve_at above y (ap is_free (sym e) ∙ f) t.first; second = solve_at (above ++ y ∷ []) x f t.second; alike = t.alike };
  }

-- `regret`.
no_regret : (x : LineData) → is_free (keyword_of x) ≡ true → regret_in x ≡ None
no_regret (LineData.Regret regret) f = absurd (false≢true f)
no_regret _ f = refl

module _ (w : Written) where
  -- as much is read of the pairs and of the regret
  pub record AreRegretAlike (a b : List LineData) : Type 0 where
    pub pairs : AreSamePairs (pairs_in a) (pairs_in b)
    pub regrets : filter_map regret_in a ≡ filter_map regret_in b

  regret_carries : (a b : List LineData) (z : LineData) (why : Reason) → AreRegretAlike a b → RegretClauses w a z why → RegretClauses w b z why
  regret_carries a b z reason.NotAMatching s h = if_said (pair_in z) (λ x f. free_same s.pairs f) h
  regret_carries a b z reason.Blocked s h = λ e. subst (IsStable w) (same_places w s.pairs) (h e)
  regret_carries a b z reason.NotAllowed s h = λ e. subst (IsAllowed w) (same_places w s.pairs) (h e)
  regret_carries a b z reason.WrongRegret s h = λ e.
      ap (λ (ns : List ℕ). slice_index_or ns 0 0) (sym s.regrets) ∙ h e ∙ ap (regret_of w) (same_places w s.pairs)
  regret_carries a b z _ s h = tt

  regret_at : (above : List LineData) (x : LineData) → is_free (keyword_of x) ≡ true → IfSome (pair_in x) (CanFollow w (pairs_in above)) → (why : Reason) → RegretClauses w above x why
  regret_at above x f h reason.NotAMatching = h
  regret_at above x f h reason.Blocked = not_closing x f
  regret_at above x f h reason.NotAllowed = not_closing x f
  regret_at above x f h reason.WrongRegret = not_closing x f
  regret_at above x f h _ = tt

  -- the order of pairs in `regret`
  pub regret_order : SeesNoOrder (Clauses (answer w HeadData.Regret)) AreRegretAlike
  regret_order = record {
    carries = regret_carries;
    more = λ a b z s. record { pairs = pairs_more pair_in a b z s.pairs; regrets = unsaid_more regret_in a b z s.regrets };
    exchanges = λ above x y e f hx hy.
        let g : is_free (keyword_of y) ≡ true = ap is_free (sym e) ∙ f in
        let t = exchanged_said pair_in (freely w) above x y (alike_said pair_in keyword.Pair has_pair x y e) (hx reason.NotAMatching) (hy reason.NotAMatching) in
        record {
          first = regret_at above y g t.first;
          second = regret_at (above ++ y ∷ []) x f t.second;
          alike = record { pairs = t.alike; regrets = unsaid regret_in above x y (no_regret x f) (no_regret y g) };
        };
  }

-- `meet` and `join`.

-- a line that says a pair of the matching says none of the two that are given
no_left : (x : LineData) → is_some (pair_in x) ≡ true → left_in x ≡ None
no_left (LineData.LeftPair p r) e = absurd (false≢true e)
no_left _ e = refl

no_right : (x : LineData) → is_some (pair_in x) ≡ true → right_in x ≡ None
no_right (LineData.RightPair p r) e = absurd (false≢true e)
no_right _ e = refl

module _ (choice : Choice) (w : Written) where
  -- as much is read of the pairs of all three matchings
  pub record AreChosenAlike (a b : List LineData) : Type 0 where
    pub lefts : AreSamePairs (lefts_in a) (lefts_in b)
    pub rights : AreSamePairs (rights_in a) (rights_in b)
    pub pairs : AreSamePairs (pairs_in a) (pairs_in b)

  abbrev chosen_above : List LineData → List (Option ℕ)
  chosen_above above = chosen_places choice w (places_in w (lefts_in above)) (places_in w (rights_in above))

  -- the clauses of both
  abbrev pub ChosenClauses : List LineData → LineData → Reason → Type 0
  ChosenClauses above line why = ChosenHold choice w (lefts_in above) (rights_in above) (pairs_in above) line why

  chosen_same : (a b : List LineData) → AreChosenAlike a b → chosen_above a ≡ chosen_above b
  chosen_same a b s = ap₂ (chosen_places choice w) (same_places w s.lefts) (same_places w s.rights)

  chosen_carries : (a b : List LineData) (z : LineData) (why : Reason) → AreChosenAlike a b → ChosenClauses a z why → ChosenClauses b z why
  chosen_carries a b z reason.NotAMatching s h = ((if_said (left_in z) (λ x f. free_same s.lefts f) h.0.0, if_said (right_in z) (λ x f. free_same s.rights f) h.0.1), h.1)
  chosen_carries a b z reason.Blocked s h =
      (λ e. let st = h.0 e in (subst (IsStable w) (same_places w s.lefts) st.0, subst (IsStable w) (same_places w s.rights) st.1), h.1)
  chosen_carries a b z reason.WrongPair s h = (
    h.0,
    (
      if_said (pair_in z) (λ x f. subst (λ (m : List (Option ℕ)). IsWanted w m (pairs_in b) x) (chosen_same a b s) (wanted_same s.pairs f)) h.1.0,
      λ e. subst (λ (m : List (Option ℕ)). AreAllThere m (pairs_in b)) (chosen_same a b s) (all_there_same (chosen_above a) s.pairs (h.1.1 e)),
    ),
  )
  chosen_carries a b z _ s h = (tt, tt)

  chosen_at : (above : List LineData) (x : LineData) → is_free (keyword_of x) ≡ true → IfSome (left_in x) (CanFollow w (lefts_in above)) → IfSome (right_in x) (CanFollow w (rights_in above))
      → IfSome (pair_in x) (IsWanted w (chosen_above above) (pairs_in above)) → (why : Reason) → ChosenClauses above x why
  chosen_at above x f l r p reason.NotAMatching = ((l, r), tt)
  chosen_at above x f l r p reason.Blocked = (not_closing x f, tt)
  chosen_at above x f l r p reason.WrongPair = (tt, (p, not_closing x f))
  chosen_at above x f l r p _ = (tt, tt)

  -- one more pair leaves the matching that is wanted
  still_chosen : (above : List LineData) (x : LineData) → is_some (pair_in x) ≡ true → chosen_above (above ++ x ∷ []) ≡ chosen_above above
  still_chosen above x e =
      ap₂ (λ (lefts rights : List (ℕ × ℕ)). chosen_places choice w (places_in w lefts) (places_in w rights)) (said_same left_in above x (no_left x e)) (said_same right_in above x (no_right x e))

  wanted_still : (above : List LineData) (x y : LineData) → is_some (pair_in x) ≡ is_some (pair_in y) → (xs : List (ℕ × ℕ))
      → IfSome (pair_in y) (IsWanted w (chosen_above (above ++ x ∷ [])) xs) → IfSome (pair_in y) (IsWanted w (chosen_above above) xs)
  wanted_still above x y same xs h = go (pair_in y) refl h
    where
      go : (o : Option (ℕ × ℕ)) → pair_in y ≡ o → IfSome o (IsWanted w (chosen_above (above ++ x ∷ [])) xs) → IfSome o (IsWanted w (chosen_above above) xs)
      go None e h = tt
      go (Some b) e h = subst (λ (m : List (Option ℕ)). IsWanted w m xs b) (still_chosen above x (same ∙ ap is_some e)) h

  wanted_again : (above : List LineData) (x y : LineData) → is_some (pair_in x) ≡ is_some (pair_in y) → (xs : List (ℕ × ℕ))
      → IfSome (pair_in x) (IsWanted w (chosen_above above) xs) → IfSome (pair_in x) (IsWanted w (chosen_above (above ++ y ∷ [])) xs)
  wanted_again above x y same xs h = go (pair_in x) refl h
    where
      go : (o : Option (ℕ × ℕ)) → pair_in x ≡ o → IfSome o (IsWanted w (chosen_above above) xs) → IfSome o (IsWanted w (chosen_above (above ++ y ∷ [])) xs)
      go None e h = tt
      go (Some b) e h = subst (λ (m : List (Option ℕ)). IsWanted w m xs b) (sym (still_chosen above y (sym same ∙ ap is_some e))) h

  -- the order of pairs in `meet` and in `join`
  pub chosen_order : SeesNoOrder ChosenClauses AreChosenAlike
  chosen_order = record {
    carries = chosen_carries;
    more = λ a b z s. record { lefts = pairs_more left_in a b z s.lefts; rights = pairs_more right_in a b z s.rights; pairs = pairs_more pair_in a b z s.pairs };
    exchanges = λ above x y e f hx hy.
        let g : is_free (keyword_of y) ≡ true = ap is_free (sym e) ∙ f in
        let same = alike_said pair_in keyword.Pair has_pair x y e in
        let l = exchanged_said left_in (freely w) above x y (alike_said left_in keyword.Left has_left x y e) (hx reason.NotAMatching).0.0 (hy reason.NotAMatching).0.0 in
        let r = exchanged_said right_in (freely w) above x y (alike_said right_in keyword.Right has_right x y e) (hx reason.NotAMatching).0.1 (hy reason.NotAMatching).0.1 in
        let p = exchanged_said pair_in (wanted_freely w (chosen_above above)) above x y same (hx reason.WrongPair).1.0 (wanted_still above x y same (pairs_in (above ++ x ∷ [])) (hy reason.WrongPair).1.0) in
        record {
          first = chosen_at above y g l.first r.first p.first;
          second = chosen_at (above ++ y ∷ []) x f l.second r.second (wanted_again above x y same (pairs_in (above ++ y ∷ [])) p.second);
          alike = record { lefts = l.alike; rights = r.alike; pairs = p.alike };
        };
  }
