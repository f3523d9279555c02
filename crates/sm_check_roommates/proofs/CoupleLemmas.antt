-- The couples that are written so far, and one more.
use Rattle.std.proofs.Common.{◌≡◌, ◌≢◌, ℕ, ◌<◌, ◌||◌, cond, eqb, Bool, true, false, List, [], ◌∷◌, ◌++◌, Option, Some, None, is_some, length, set, refl, sym, ap, ◌∙◌, subst, arith, eq-eqb, ne_eqb, ⊎_elim}
use Rattle.std.specs.Prelude.{Contains}
use Rattle.std.specs.Option.{option_or}
use Rattle.std.proofs.lemmas.Bool.{false≢true, cases_eq}
use Rattle.std.proofs.lemmas.Grind.{flat_map-append}
use Rattle.std.proofs.lemmas.List.{length-map, length-set, get_or-set_same, get_or-set_other}
use Rattle.std.proofs.lemmas.List.Elements.{filter_map-append}
use Rattle.std.proofs.lemmas.List.FromFn.{fill_by_all}
use Rattle.std.proofs.lemmas.Option.{none-some, same_Some}
use Rattle.sm_agents.specs.Written.{AgentData, lists_of}
use Rattle.sm_theory.specs.Rooms.{IsAcceptable, IsRoomMatching, IsRoomStable, mate_of}
use Rattle.sm_holding.specs.Held.{partner_in}
use Rattle.sm_report.specs.Lines.{LineData}
use Rattle.sm_check_clauses.specs.declared.verdicts.Reason.{Reason}
use Rattle.sm_check_clauses.specs.declared.verdicts.Reason.TheVariants as reason
use Rattle.sm_check_clauses.specs.Verdicts.{IsFirstThere, Finds, number_of_reason}
use Rattle.sm_check_clauses.specs.Said.{pair_in, pairs_in}
use Rattle.sm_check_clauses.specs.Rooming.{persons_of, both_ways, mates_in, IsFreeCouple, CouplesHold}
use Rattle.sm_check_roommates.specs.CouplesKept.{AreCouplesHeld, AreCouplesKept, HasCoupled}
use Rattle.sm_check_clauses.specs.Walking.{FindsOrKeeps}
use Rattle.sm_check_roommates.proofs.PersonLemmas.{among_of, of_among}
use Rattle.sm_check_roommates.specs.PartiesKept.{is_among}
use Rattle.sm_market.proofs.SeatLemmas.{none_of}

-- whom pairs give somebody that has nobody in the first of them
pub partner_in-append : (xs ys : List (ℕ × ℕ)) (z : ℕ) → partner_in (xs ++ ys) z ≡ option_or (partner_in xs z) (partner_in ys z)
partner_in-append [] ys z = refl
partner_in-append (x ∷ xs) ys z = go (eqb x.0 z) (partner_in-append xs ys z)
  where
    go : (t : Bool) → partner_in (xs ++ ys) z ≡ option_or (partner_in xs z) (partner_in ys z)
        → cond t (Some x.1) (partner_in (xs ++ ys) z) ≡ option_or (cond t (Some x.1) (partner_in xs z)) (partner_in ys z)
    go true e = refl
    go false e = e

-- a person has somebody where it stands in a pair
pub partner_there : (pairs : List (ℕ × ℕ)) (z : ℕ) → is_some (partner_in (both_ways pairs) z) ≡ is_among z (persons_of pairs)
partner_there [] z = refl
partner_there (x ∷ pairs) z = go (eqb x.0 z) (eqb x.1 z) (partner_there pairs z)
  where
    go : (s t : Bool) → is_some (partner_in (both_ways pairs) z) ≡ is_among z (persons_of pairs)
        → is_some (cond s (Some x.1) (cond t (Some x.0) (partner_in (both_ways pairs) z))) ≡ (s || (t || is_among z (persons_of pairs)))
    go true t e = refl
    go false true e = refl
    go false false e = e

module _ {rows : List (List ℕ)} {pairs : List (ℕ × ℕ)} {mates : List (Option ℕ)} (k : AreCouplesHeld rows pairs mates) where
  -- who has a mate stands in a pair, and who has none stands in none
  pub stands : (z : ℕ) → z < length rows → true ≡ is_some (mate_of mates z) → Contains (persons_of pairs) z
  stands z inside some = of_among (persons_of pairs) z (sym (partner_there pairs z) ∙ ap is_some (sym (k.partners z inside)) ∙ sym some)

  -- and who has none stands in none
  pub stands_not : (z : ℕ) → z < length rows → false ≡ is_some (mate_of mates z) → ¬ Contains (persons_of pairs) z
  stands_not z inside none c = false≢true (none ∙ ap is_some (k.partners z inside) ∙ partner_there pairs z ∙ among_of (persons_of pairs) z c)

  module _ (x y : ℕ) (x_in : x < length rows) (y_in : y < length rows) (x_none : false ≡ is_some (mate_of mates x)) (y_none : false ≡ is_some (mate_of mates y)) (h : IsAcceptable rows x y) where
    abbrev new : List (Option ℕ)
    new = set (set mates x (Some y)) y (Some x)

    x_free : mate_of mates x ≡ None
    x_free = none_of (mate_of mates x) (sym x_none)

    y_free : mate_of mates y ≡ None
    y_free = none_of (mate_of mates y) (sym y_none)

    at_y : mate_of new y ≡ Some x
    at_y = get_or-set_same (set mates x (Some y)) y (Some x) None (let long = length-set mates x (Some y) in let same = k.matching.one_each in omega arith)

    at_x : mate_of new x ≡ Some y
    at_x = get_or-set_other (set mates x (Some y)) y x (Some x) None h.apart ∙ get_or-set_same mates x (Some y) None (let same = k.matching.one_each in omega arith)

    at_other : (z : ℕ) → z ≢ x → z ≢ y → mate_of new z ≡ mate_of mates z
    at_other z a b = get_or-set_other (set mates x (Some y)) y z (Some x) None b ∙ get_or-set_other mates x z (Some y) None a

    -- what holds of each person's mate
    by_person : (P : ℕ → Option ℕ → Type 0) → P x (Some y) → P y (Some x) → ((z : ℕ) → z ≢ x → z ≢ y → P z (mate_of mates z)) → (z : ℕ) → P z (mate_of new z)
    by_person P first second others z = ⊎_elim
        (λ (e : z ≡ x). subst (λ n. P n (mate_of new n)) (sym e) (subst (P x) (sym at_x) first))
        (λ other. ⊎_elim
        (λ (e : z ≡ y). subst (λ n. P n (mate_of new n)) (sym e) (subst (P y) (sym at_y) second))
        (λ neither. subst (P z) (sym (at_other z other neither)) (others z other neither))
        (cases_eq z y))
        (cases_eq z x)

    matching : IsRoomMatching rows new
    matching = record {
      one_each = length-set (set mates x (Some y)) y (Some x) ∙ length-set mates x (Some y) ∙ k.matching.one_each;
      acceptable = λ u v. by_person (λ z o. o ≡ Some v → IsAcceptable rows z v)
          (λ e. subst (IsAcceptable rows x) (same_Some _ _ e) h)
          (λ e. subst (IsAcceptable rows y) (same_Some _ _ e) (record { apart = λ f. h.apart (sym f); listed = h.returned; returned = h.listed }))
          (λ z _ _ e. k.matching.acceptable z v e) u;
      in_turn = λ u v. by_person (λ z o. o ≡ Some v → mate_of new v ≡ Some z)
          (λ e. ap (mate_of new) (sym (same_Some _ _ e)) ∙ at_y)
          (λ e. ap (mate_of new) (sym (same_Some _ _ e)) ∙ at_x)
          (λ z _ _ e.
          let back = k.matching.in_turn z v e in
          at_other v (λ f. none-some _ (sym x_free ∙ ap (mate_of mates) (sym f) ∙ back)) (λ f. none-some _ (sym y_free ∙ ap (mate_of mates) (sym f) ∙ back)) ∙ back) u;
    }

    partner_now : (z : ℕ) → partner_in (both_ways (pairs ++ (x, y) ∷ [])) z ≡ option_or (partner_in (both_ways pairs) z) (cond (eqb x z) (Some y) (cond (eqb y z) (Some x) None))
    partner_now z =
        ap (λ (ps : List (ℕ × ℕ)). partner_in ps z) (flat_map-append (λ (pair : ℕ × ℕ). pair ∷ (pair.1, pair.0) ∷ []) pairs ((x, y) ∷ []))
        ∙ partner_in-append (both_ways pairs) ((x, y) ∷ (y, x) ∷ []) z

    none_before : (z : ℕ) → z < length rows → mate_of mates z ≡ None → partner_in (both_ways (pairs ++ (x, y) ∷ [])) z ≡ cond (eqb x z) (Some y) (cond (eqb y z) (Some x) None)
    none_before z inside none = partner_now z ∙ ap (λ o. option_or o (cond (eqb x z) (Some y) (cond (eqb y z) (Some x) None))) (sym (k.partners z inside) ∙ none)

    option_or-none : (o : Option ℕ) → option_or o None ≡ o
    option_or-none None = refl
    option_or-none (Some u) = refl

    -- two who are acceptable to each other and have no mates are one more couple
    pub coupled : HasCoupled rows pairs (x, y) new
    coupled = record {
      free = record { acceptable = h; first_free = stands_not x x_in x_none; second_free = stands_not y y_in y_none };
      held = record {
        matching = matching;
        partners = by_person (λ z o. z < length rows → o ≡ partner_in (both_ways (pairs ++ (x, y) ∷ [])) z)
            (λ _. sym (none_before x x_in x_free ∙ (let t = eq-eqb x x refl in rw t refl)))
            (λ _. sym (none_before y y_in y_free ∙ (let s = ne_eqb x y h.apart in let t = eq-eqb y y refl in rw s (rw t refl))))
            (λ z a b inside. k.partners z inside
            ∙ sym (partner_now z ∙ (let s = ne_eqb x z (λ e. a (sym e)) in let t = ne_eqb y z (λ e. b (sym e)) in
            ap (λ u. option_or (partner_in (both_ways pairs) z) (cond u (Some y) (cond (eqb y z) (Some x) None))) s
            ∙ ap (λ u. option_or (partner_in (both_ways pairs) z) (cond u (Some x) None)) t ∙ option_or-none (partner_in (both_ways pairs) z))));
      };
    }

  -- at the end
  same_mates : (persons : List AgentData) → rows ≡ lists_of persons → mates ≡ mates_in persons pairs
  same_mates persons is =
      let long = length-map persons (λ (person : AgentData). person.entries) in
      let one = k.matching.one_each in
      let same = ap (λ (r : List (List ℕ)). length r) is in
      fill_by_all (partner_in (both_ways pairs)) mates (length persons) None (omega arith) (λ z inside. k.partners z (omega arith))

  -- where the kept mates are stable, those that are said are stable
  pub stable_said : (persons : List AgentData) → rows ≡ lists_of persons → IsRoomStable rows mates → IsRoomStable (lists_of persons) (mates_in persons pairs)
  stable_said persons is s = subst (λ (r : List (List ℕ)). IsRoomStable r (mates_in persons pairs)) is (subst (IsRoomStable rows) (same_mates persons is) s)

  -- and the other way round
  pub said_stable : (persons : List AgentData) → rows ≡ lists_of persons → IsRoomStable (lists_of persons) (mates_in persons pairs) → IsRoomStable rows mates
  said_stable persons is s = subst (IsRoomStable rows) (sym (same_mates persons is)) (subst (λ (r : List (List ℕ)). IsRoomStable r (mates_in persons pairs)) (sym is) s)

  -- where they are stable all clauses hold
  pub end_holds : (persons : List AgentData) → rows ≡ lists_of persons → IsRoomStable rows mates → (why : Reason) → CouplesHold persons pairs LineData.End why
  end_holds persons is s reason.NotAMatching = tt
  end_holds persons is s reason.Blocked = λ _. stable_said persons is s
  end_holds persons is s _ = tt

  -- where they aren't the answer is blocked
  pub end_fails : (persons : List AgentData) → rows ≡ lists_of persons → ¬ IsRoomStable rows mates → IsFirstThere (CouplesHold persons pairs LineData.End) reason.Blocked
  end_fails persons is none = record { clauses_before = before; fails = λ h. none (said_stable persons is (h refl)) }
    where
      before : (other : Reason) → number_of_reason other < 2 → CouplesHold persons pairs LineData.End other
      before reason.NotAMatching l = tt
      before reason.Blocked l = absurd (omega arith)
      before _ l = tt

-- at a line with a couple
pub couple_holds : (persons : List AgentData) (pairs : List (ℕ × ℕ)) (x y : ℕ) → IsFreeCouple (lists_of persons) pairs (x, y) → (why : Reason) → CouplesHold persons pairs (LineData.Pair x y) why
couple_holds persons pairs x y free reason.NotAMatching = free
couple_holds persons pairs x y free reason.Blocked = λ e. absurd (false≢true e)
couple_holds persons pairs x y free _ = tt

-- what is found at a line, and what is kept then
pub couples_judged : {persons : List AgentData} {rows : List (List ℕ)} (line : LineData) (old new : List (Option ℕ)) (why : Option Reason)
    → ((ps : List AgentData) (pairs : List (ℕ × ℕ)) → rows ≡ lists_of ps → AreCouplesHeld rows pairs old → Finds (CouplesHold ps pairs line) why)
    → ((pairs : List (ℕ × ℕ)) → AreCouplesHeld rows pairs old → why ≡ None → AreCouplesHeld rows (pairs ++ pairs_in (line ∷ [])) new)
    → (above : List LineData) → AreCouplesKept persons rows above old → FindsOrKeeps (CouplesHold persons (pairs_in above) line) (AreCouplesKept persons rows (above ++ line ∷ []) new) why
couples_judged {persons} line old new (Some why) found held above k = found persons (pairs_in above) k.lists k.held
couples_judged {persons} {rows} line old new None found held above k = (
  found persons (pairs_in above) k.lists k.held,
  record {
    lists = k.lists;
    held = subst (λ (pairs : List (ℕ × ℕ)). AreCouplesHeld rows pairs new) (sym (filter_map-append pair_in above (line ∷ []))) (held (pairs_in above) k.held refl);
  },
)
