-- A right answer of `solve` over roommates gets a yes, where it is a matching.
use Rattle.std.proofs.Common.{◌≡◌, ◌≢◌, ℕ, ◌+◌, ◌<◌, ◌⊎◌, is_some, ◌&&◌, nat_lt, cond, eqb, inl, inr, arith, refl, sym, ap, ◌∙◌, Bool, true, false, List, [], ◌∷◌, ◌++◌, length, map, Option, Some, None, if◌then◌else◌, subst, ext_get_or, eq-eqb, ne_eqb, ltb-true, ltb-false}
use Rattle.std.specs.Prelude.{Contains}
use Rattle.std.specs.List.{list_all}
use Rattle.std.specs.Option.{option_or}
use Rattle.std.proofs.lemmas.Bool.{false≢true}
use Rattle.std.proofs.lemmas.Grind.{flat_map-append}
use Rattle.std.proofs.lemmas.List.{length-map}
use Rattle.std.proofs.lemmas.List.Elements.{filter_map-append}
use Rattle.std.proofs.lemmas.List.FromFn.{length-map-range_with_len, get_or-map-range_with_len}
use Rattle.std.proofs.lemmas.Option.{same_Some}
use Rattle.sm_lists.proofs.Counting.{eq_or_ne}
use Rattle.sm_agents.specs.Written.{AgentData, lists_of}
use Rattle.sm_instance.specs.declared.inputs.Input.TheVariants.{Room}
use Rattle.sm_theory.specs.Rooms.{mate_of, IsRoomMatching, IsRoomStable}
use Rattle.sm_report.specs.Heads.{HeadData}
use Rattle.sm_report.specs.Lines.{LineData}
use Rattle.sm_answer.specs.Lines.{line_or_none, lines_from}
use Rattle.sm_answer_roommates.specs.RoomAnswer.{couple_with, couple_line, couple_lines}
use Rattle.sm_answer_roommates.proofs.LineLemmas.{couples_sound}
use Rattle.sm_report.specs.declared.keywords.Keyword.TheVariants as keyword
use Rattle.sm_check_forms.specs.declared.layouts.LayoutPart.TheVariants.{One}
use Rattle.sm_check_forms.proofs.KeywordLayouts.{is_whole, opening_of, is_placed, solve_layout, parties_layout}
use Rattle.sm_check_forms.specs.Forms.{fits}
use Rattle.sm_holding.specs.Held.{partner_in}
use Rattle.sm_check_clauses.specs.declared.verdicts.Reason.{Reason}
use Rattle.sm_check_clauses.specs.declared.verdicts.Reason.TheVariants as reason
use Rattle.sm_check_clauses.specs.Said.{pair_in, pairs_in}
use Rattle.sm_check_clauses.specs.Rooming.{persons_of, both_ways, mates_in, IsFreeCouple}
use Rattle.sm_check_clauses.specs.Verdicts.{AtLine}
use Rattle.sm_check_clauses.specs.Judging.{couples, Clauses, Holds}
use Rattle.sm_check_clauses.proofs.LinewiseLemmas.{AllHold, all_hold, hold_append, no_end}
use Rattle.sm_check_roommates.proofs.PersonLemmas.{among_of}
use Rattle.sm_check_roommates.proofs.CoupleLemmas.{partner_in-append, partner_there}
use Rattle.sm_law_agree.specs.Agree.{GetYes, CouplesAgree}
use Rattle.sm_law_agree.proofs.LineLemmas.{Steps, Held, numbers_hold, numbers_pass, pass_append, has_word, has_other, is_whole-group, is_whole-append_first, yes_of}

no_mate : {x : ℕ} → ◌≡◌ {A = Option ℕ} None (Some x) → ⊥
no_mate e = grind arith

-- the couples of which one is below b
pub record AreCouplesBelow (mates : List (Option ℕ)) (b : ℕ) (pairs : List (ℕ × ℕ)) : Type 0 where
  pub given : (x y : ℕ) → mate_of mates x ≡ Some y → (x < b) ⊎ (y < b) → partner_in (both_ways pairs) x ≡ Some y
  pub free : (x : ℕ) → ((y : ℕ) → mate_of mates x ≡ Some y → (x < b) ⊎ (y < b) → ⊥) → partner_in (both_ways pairs) x ≡ None

-- before the first person there is no couple
pub no_couples : (mates : List (Option ℕ)) → AreCouplesBelow mates 0 []
no_couples mates = record { given = λ x y e l. elim l [ inl a ↦ absurd (omega (arith, a)) | inr a ↦ absurd (omega (arith, a)) ]; free = λ x none. refl }

-- who has nobody stands in no pair
stands_not : (pairs : List (ℕ × ℕ)) (x : ℕ) → partner_in (both_ways pairs) x ≡ None → ¬ Contains (persons_of pairs) x
stands_not pairs x none c = false≢true (ap is_some (sym none) ∙ partner_there pairs x ∙ among_of (persons_of pairs) x c)

module _ {rows : List (List ℕ)} {mates : List (Option ℕ)} (m : IsRoomMatching rows mates) where
  module _ {b : ℕ} {pairs : List (ℕ × ℕ)} (k : AreCouplesBelow mates b pairs) where
    -- a person without a mate, or whose mate is below it, adds no couple
    pub same_couples : ((y : ℕ) → mate_of mates b ≡ Some y → y < b) → AreCouplesBelow mates (b + 1) pairs
    same_couples low = record {
      given = λ x y e l. k.given x y e (lower x y e l);
      free = λ x none. k.free x (λ y e l. none y e (higher x y l));
    }
      where
        higher : (x y : ℕ) → (x < b) ⊎ (y < b) → (x < b + 1) ⊎ (y < b + 1)
        higher x y (inl a) = inl (omega (arith, a))
        higher x y (inr a) = inr (omega (arith, a))

        lower : (x y : ℕ) → mate_of mates x ≡ Some y → (x < b + 1) ⊎ (y < b + 1) → (x < b) ⊎ (y < b)
        lower x y e l = elim (eq_or_ne x b) [
          | inl is ↦ inr (low y (ap (mate_of mates) (sym is) ∙ e))
          | inr ne ↦ elim (eq_or_ne y b) [
            | inl is ↦ inl (low x (ap (mate_of mates) (sym is) ∙ m.in_turn x y e))
            | inr other ↦ elim l [ inl a ↦ inl (omega (arith, a, ne)) | inr a ↦ inr (omega (arith, a, other)) ]
          ]
        ]

    module _ (y : ℕ) (e : mate_of mates b ≡ Some y) (up : b < y) where
      first_free : partner_in (both_ways pairs) b ≡ None
      first_free = k.free b (λ z f l. elim l [ inl a ↦ absurd (omega (arith, a)) | inr a ↦ absurd (let s = same_Some _ _ (sym e ∙ f) in omega (arith, a, s, up)) ])

      second_free : partner_in (both_ways pairs) y ≡ None
      second_free = k.free y (λ z f l. elim l [ inl a ↦ absurd (omega (arith, a, up)) | inr a ↦ absurd (let s = same_Some _ _ (sym (m.in_turn b y e) ∙ f) in omega (arith, a, s)) ])

      -- its couple with a mate above it is free behind those before it
      pub free_couple : IsFreeCouple rows pairs (b, y)
      free_couple = record { acceptable = m.acceptable b y e; first_free = stands_not pairs b first_free; second_free = stands_not pairs y second_free }

      partner_now : (z : ℕ) → partner_in (both_ways (pairs ++ (b, y) ∷ [])) z ≡ option_or (partner_in (both_ways pairs) z) (cond (eqb b z) (Some y) (cond (eqb y z) (Some b) None))
      partner_now z =
          ap (λ (ps : List (ℕ × ℕ)). partner_in ps z) (flat_map-append (λ (pair : ℕ × ℕ). pair ∷ (pair.1, pair.0) ∷ []) pairs ((b, y) ∷ []))
          ∙ partner_in-append (both_ways pairs) ((b, y) ∷ (y, b) ∷ []) z

      at_first : partner_in (both_ways (pairs ++ (b, y) ∷ [])) b ≡ Some y
      at_first =
          partner_now b ∙ ap (λ o. option_or o (cond (eqb b b) (Some y) (cond (eqb y b) (Some b) None))) first_free
          ∙ ap (λ t. cond t (Some y) (cond (eqb y b) (Some b) None)) (eq-eqb b b refl)

      at_second : partner_in (both_ways (pairs ++ (b, y) ∷ [])) y ≡ Some b
      at_second =
          partner_now y ∙ ap (λ o. option_or o (cond (eqb b y) (Some y) (cond (eqb y y) (Some b) None))) second_free
          ∙ ap (λ t. cond t (Some y) (cond (eqb y y) (Some b) None)) (ne_eqb b y (λ f. omega (arith, f, up)))
          ∙ ap (λ t. cond t (Some b) None) (eq-eqb y y refl)

      at_other : (z : ℕ) → z ≢ b → z ≢ y → partner_in (both_ways (pairs ++ (b, y) ∷ [])) z ≡ partner_in (both_ways pairs) z
      at_other z n o =
          partner_now z
          ∙ ap (λ t. option_or (partner_in (both_ways pairs) z) (cond t (Some y) (cond (eqb y z) (Some b) None))) (ne_eqb b z (λ f. n (sym f)))
          ∙ ap (λ t. option_or (partner_in (both_ways pairs) z) (cond t (Some b) None)) (ne_eqb y z (λ f. o (sym f)))
          ∙ plain (partner_in (both_ways pairs) z)
        where
          plain : (o : Option ℕ) → option_or o None ≡ o
          plain None = refl
          plain (Some u) = refl

      -- and is added to them
      pub one_couple : AreCouplesBelow mates (b + 1) (pairs ++ (b, y) ∷ [])
      one_couple = record { given = given; free = free }
        where
          given : (x z : ℕ) → mate_of mates x ≡ Some z → (x < b + 1) ⊎ (z < b + 1) → partner_in (both_ways (pairs ++ (b, y) ∷ [])) x ≡ Some z
          given x z f l = elim (eq_or_ne x b) [
            | inl is ↦ ap (partner_in (both_ways (pairs ++ (b, y) ∷ []))) is ∙ at_first ∙ sym e ∙ ap (mate_of mates) (sym is) ∙ f
            | inr ne ↦ elim (eq_or_ne x y) [
              | inl is ↦ ap (partner_in (both_ways (pairs ++ (b, y) ∷ []))) is ∙ at_second ∙ sym (m.in_turn b y e) ∙ ap (mate_of mates) (sym is) ∙ f
              | inr other ↦ at_other x ne other ∙ k.given x z f (elim l [
                | inl a ↦ inl (omega (arith, a, ne))
                | inr a ↦ elim (eq_or_ne z b) [
                  | inl is ↦ absurd (other (same_Some _ _ (sym (ap (mate_of mates) (sym is) ∙ m.in_turn x z f) ∙ e)))
                  | inr n ↦ inr (omega (arith, a, n))
                ]
              ])
            ]
          ]

          free : (x : ℕ) → ((z : ℕ) → mate_of mates x ≡ Some z → (x < b + 1) ⊎ (z < b + 1) → ⊥) → partner_in (both_ways (pairs ++ (b, y) ∷ [])) x ≡ None
          free x none = elim (eq_or_ne x b) [
            | inl is ↦ absurd (none y (ap (mate_of mates) is ∙ e) (inl (omega (arith, is))))
            | inr ne ↦ elim (eq_or_ne x y) [
              | inl is ↦ absurd (none b (ap (mate_of mates) is ∙ m.in_turn b y e) (inr (omega arith)))
              | inr other ↦ at_other x ne other ∙ k.free x (λ z f l. none z f (elim l [ inl a ↦ inl (omega (arith, a)) | inr a ↦ inr (omega (arith, a)) ]))
            ]
          ]

-- all couples give the matching
pub all_couples : (persons : List AgentData) {mates : List (Option ℕ)} {pairs : List (ℕ × ℕ)} → IsRoomMatching (lists_of persons) mates → AreCouplesBelow mates (length mates) pairs
    → mates_in persons pairs ≡ mates
all_couples persons {mates} {pairs} m k =
    let long = length-map-range_with_len (partner_in (both_ways pairs)) 0 (length persons) in
    let many = length-map persons (λ (person : AgentData). person.entries) in
    ext_get_or None (mates_in persons pairs) mates (omega (arith, long, many, m.one_each))
    (λ x l. get_or-map-range_with_len (partner_in (both_ways pairs)) 0 (length persons) x x None (omega (arith, l, long)) (omega arith) ∙ at x (omega (arith, l, long, many, m.one_each)))
  where
    at : (x : ℕ) → x < length mates → partner_in (both_ways pairs) x ≡ mate_of mates x
    at x l = go (mate_of mates x) refl
      where
        go : (o : Option ℕ) → mate_of mates x ≡ o → partner_in (both_ways pairs) x ≡ o
        go None e = k.free x (λ y f below. no_mate (sym e ∙ f))
        go (Some y) e = k.given x y e (inl l)

-- The clauses.

module _ (persons : List AgentData) where
  abbrev C : List LineData → LineData → Reason → Type 0
  C = Clauses (couples persons)

  head_holds : (why : Reason) → C [] (LineData.Answer (HeadData.Solve None)) why
  head_holds reason.NotAMatching = tt
  head_holds reason.Blocked = λ e. no_end e
  head_holds _ = tt

  pair_holds : (above : List LineData) (x y : ℕ) → IsFreeCouple (lists_of persons) (pairs_in above) (x, y) → (why : Reason) → C above (LineData.Pair x y) why
  pair_holds above x y free reason.NotAMatching = free
  pair_holds above x y free reason.Blocked = λ e. no_end e
  pair_holds above x y free _ = tt

  end_holds : (above : List LineData) → IsRoomStable (lists_of persons) (mates_in persons (pairs_in above)) → (why : Reason) → C above LineData.End why
  end_holds above stable reason.NotAMatching = tt
  end_holds above stable reason.Blocked = λ _. stable
  end_holds above stable _ = tt

  module _ (mates : List (Option ℕ)) (stable : IsRoomStable (lists_of persons) mates) where
    abbrev head : LineData
    head = LineData.Answer (HeadData.Solve None)

    abbrev pairs : List LineData
    pairs = lines_from (couple_line mates) 0 (length mates)

    abbrev Below : ℕ → List LineData → Type 0
    Below b above = AreCouplesBelow mates b (pairs_in above)

    step : (x : ℕ) (above : List LineData) → Below x above → Steps C (Below (x + 1)) above (couple_line mates x)
    step x above k = go (mate_of mates x) refl
      where
        by_test : (y : ℕ) → mate_of mates x ≡ Some y → (t : Bool) → nat_lt x y ≡ t → Steps C (Below (x + 1)) above (if t then Some (LineData.Pair x y) else None)
        by_test y e true up =
            let less = ltb-true x y up in (
              pair_holds above x y (free_couple stable.matching k y e less),
              subst (AreCouplesBelow mates (x + 1)) (sym (filter_map-append pair_in above (LineData.Pair x y ∷ []))) (one_couple stable.matching k y e less),
            )
        by_test y e false down =
            same_couples stable.matching k (λ z f. let s = same_Some _ _ (sym f ∙ e) in let n = (stable.matching.acceptable x z f).apart in let ge = ltb-false x y down in omega (arith, s, n, ge))

        go : (o : Option ℕ) → mate_of mates x ≡ o → Steps C (Below (x + 1)) above (couple_with x o)
        go None e = same_couples stable.matching k (λ y f. absurd (no_mate (sym e ∙ f)))
        go (Some y) e = by_test y e (nat_lt x y) refl

    front : Held C (Below (length mates)) (head ∷ []) pairs
    front = numbers_hold C Below (couple_line mates) (length mates) (λ x above l k. step x above k) 0 (length mates) (head ∷ []) (omega arith) (no_couples mates)

    all : AllHold C [] (couple_lines mates)
    all = (
      head_holds,
      hold_append C (head ∷ []) pairs (LineData.End ∷ []) front.0
          (end_holds (head ∷ pairs) (subst (IsRoomStable (lists_of persons)) (sym (all_couples persons stable.matching front.1)) stable), tt),
    )

    -- tests that couples pass whose first person has the lower number
    passing : (test : LineData → Bool) → ((x y : ℕ) → nat_lt x y ≡ true → test (LineData.Pair x y) ≡ true) → list_all test pairs ≡ true
    passing test each = numbers_pass test (couple_line mates) (length mates) (λ x l. go x (mate_of mates x)) 0 (length mates) (omega arith)
      where
        by_test : (x y : ℕ) (t : Bool) → nat_lt x y ≡ t → list_all test (line_or_none (if t then Some (LineData.Pair x y) else None)) ≡ true
        by_test x y true up = ap (λ t. t && true) (each x y up)
        by_test x y false down = refl

        go : (x : ℕ) (o : Option ℕ) → list_all test (line_or_none (couple_with x o)) ≡ true
        go x None = refl
        go x (Some y) = by_test x y (nat_lt x y) refl

    fitting : list_all (fits (Room persons)) (couple_lines mates) ≡ true
    fitting = pass_append (fits (Room persons)) pairs (LineData.End ∷ []) (passing (fits (Room persons)) (λ x y up. up)) refl

    placed : is_placed is_whole (Room persons) (couple_lines mates) ≡ true
    placed = is_whole-append_first (solve_layout ∷ []) (parties_layout ∷ []) (map opening_of (pairs ++ LineData.End ∷ []))
        (is_whole-group keyword.Pair (One keyword.End) [] pairs (LineData.End ∷ []) (passing (has_word keyword.Pair) (λ x y up. refl)) refl refl)

    -- a matching is written, and no `none`
    judged : (rest : List LineData) → list_all (has_other keyword.Nothing) rest ≡ true → ((k : ℕ) (why : Reason) → AtLine C (head ∷ rest) k why) → (k : ℕ) (why : Reason) → Holds (Room persons) (head ∷ rest) k why
    judged [] none h = h
    judged (LineData.Nothing ∷ rest) none h = absurd (false≢true none)
    judged (_ ∷ rest) none h = h

    -- the lines of the couples get a yes
    pub couples_yes : GetYes (Room persons) (couple_lines mates)
    couples_yes =
        yes_of (Room persons) (couple_lines mates) (couples_sound refl stable) fitting placed
        (judged (pairs ++ LineData.End ∷ []) (pass_append (has_other keyword.Nothing) pairs (LineData.End ∷ []) (passing (has_other keyword.Nothing) (λ x y up. refl)) refl) (all_hold C (couple_lines mates) all))

-- the law for couples of roommates
pub couples_agree : CouplesAgree
couples_agree persons lines a = subst (GetYes (Room persons)) (sym a.shows) (couples_yes persons a.mates a.stable)
