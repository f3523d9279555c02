-- What a yes on an answer of `solve` over roommates means, where a matching is written.
use Rattle.std.proofs.Common.{◌≡◌, ℕ, zero, suc, ◌<◌, ◌⊎◌, inl, inr, arith, refl, sym, ap, ◌∙◌, cond, Bool, true, false, List, [], ◌∷◌, ◌++◌, length, get_or, take, Option, Some, None, is_some, subst, eq-eqb}
use Rattle.std.specs.Prelude.{Contains, IfSome}
use Rattle.std.specs.List.{slice_get, list_all}
use Rattle.std.specs.Option.{option_or}
use Rattle.std.proofs.lemmas.Bool.{ltb-true}
use Rattle.std.proofs.lemmas.Grind.{flat_map-append}
use Rattle.std.proofs.lemmas.List.{length-map}
use Rattle.std.proofs.lemmas.List.FromFn.{length-map-range_with_len, get_or-map-range_with_len}
use Rattle.std.proofs.lemmas.List.Elements.{Contains-append_right, Contains-append_cases}
use Rattle.sm_lists.proofs.RowLemmas.{row_in_range}
use Rattle.sm_agents.specs.Written.{AgentData, lists_of}
use Rattle.sm_instance.specs.declared.inputs.Input.TheVariants.{Room}
use Rattle.sm_market.specs.Lists.{place_of}
use Rattle.sm_theory.specs.Rooms.{IsAcceptable, IsRoomStable, mate_of}
use Rattle.sm_holding.specs.Held.{partner_in}
use Rattle.sm_lists.specs.Pairs.{pair_at}
use Rattle.sm_report.specs.Lines.{LineData}
use Rattle.sm_check_clauses.specs.declared.verdicts.Reason.TheVariants as reason
use Rattle.sm_check_forms.specs.Forms.{fits}
use Rattle.sm_check_clauses.specs.Said.{pair_in, pairs_in}
use Rattle.sm_check_clauses.specs.Rooming.{persons_of, both_ways, mates_in, IsFreeCouple}
use Rattle.sm_cert.specs.Yes.{AreApart, CouplesYes}
use Rattle.sm_check_roommates.proofs.PersonLemmas.{of_among}
use Rattle.sm_check_clauses.proofs.JudgingLemmas.{passes_at}
use Rattle.sm_check_roommates.proofs.CoupleLemmas.{partner_in-append, partner_there}
use Rattle.sm_cert.proofs.YesPairs.{held_there, only_one, no_partner, given_there, pair_there, apart_more}
use Rattle.sm_cert.proofs.YesLines.{right_couples, at_closing, said_above, grown}
use Rattle.sm_market.proofs.SeatLemmas.{none_of}

-- Couples of which each was free behind those before it.

-- a couple that may stand behind these, its lower-numbered person first
abbrev pub IsNewCouple : List (List ℕ) → List (ℕ × ℕ) → ℕ × ℕ → Type 0
IsNewCouple rows pairs x = IsFreeCouple rows pairs x × (x.0 < x.1)

record AreNewCouples (rows : List (List ℕ)) (pairs : List (ℕ × ℕ)) : Type 0 where
  acceptable : (x y : ℕ) → Contains pairs (x, y) → IsAcceptable rows x y
  rising : (x y : ℕ) → Contains pairs (x, y) → x < y
  given : (x y : ℕ) → Contains pairs (x, y) → partner_in (both_ways pairs) x ≡ Some y
  apart : AreApart pairs

no_couple : (rows : List (List ℕ)) → AreNewCouples rows []
no_couple rows = record {
  acceptable = λ x y c. absurd (let l = c.1 in omega arith);
  rising = λ x y c. absurd (let l = c.1 in omega arith);
  given = λ x y c. absurd (let l = c.1 in omega arith);
  apart = λ i j i_j l. absurd (omega arith);
}

-- who stands in no pair has nobody
nobody : (pairs : List (ℕ × ℕ)) (z : ℕ) → ¬ Contains (persons_of pairs) z → partner_in (both_ways pairs) z ≡ None
nobody pairs z none = none_of (partner_in (both_ways pairs) z) (go (is_some (partner_in (both_ways pairs) z)) refl)
  where
    go : (t : Bool) → is_some (partner_in (both_ways pairs) z) ≡ t → is_some (partner_in (both_ways pairs) z) ≡ false
    go false e = e
    go true e = absurd (none (of_among (persons_of pairs) z (sym (partner_there pairs z) ∙ e)))

abbrev ways : ℕ × ℕ → List (ℕ × ℕ)
ways x = x ∷ (x.1, x.0) ∷ []

one_couple : (rows : List (List ℕ)) (pairs : List (ℕ × ℕ)) (x : ℕ × ℕ) → AreNewCouples rows pairs → IsNewCouple rows pairs x → AreNewCouples rows (pairs ++ x ∷ [])
one_couple rows pairs x k f = record {
  acceptable = λ a b c. elim (Contains-append_cases pairs (x ∷ []) (a, b) c) [
    | inl had ↦ k.acceptable a b had
    | inr now ↦ subst (λ (y : ℕ × ℕ). IsAcceptable rows y.0 y.1) (only_one now) f.0.acceptable
  ];
  rising = λ a b c. elim (Contains-append_cases pairs (x ∷ []) (a, b) c) [
    | inl had ↦ k.rising a b had
    | inr now ↦ subst (λ (y : ℕ × ℕ). y.0 < y.1) (only_one now) f.1
  ];
  given = λ a b c. elim (Contains-append_cases pairs (x ∷ []) (a, b) c) [
    | inl had ↦ behind a ∙ ap (λ (o : Option ℕ). option_or o (partner_in (ways x) a)) (k.given a b had)
    | inr now ↦ subst (λ (y : ℕ × ℕ). partner_in (both_ways (pairs ++ x ∷ [])) y.0 ≡ Some y.1) (only_one now) here
  ];
  apart = apart_more pairs x k.apart (λ j l e.
      no_partner (sym none ∙ ap (partner_in (both_ways pairs)) (sym e) ∙ k.given (pair_at pairs j).0 (pair_at pairs j).1 (pair_there pairs j l)));
}
  where
    behind : (z : ℕ) → partner_in (both_ways (pairs ++ x ∷ [])) z ≡ option_or (partner_in (both_ways pairs) z) (partner_in (ways x) z)
    behind z =
        ap (λ (ps : List (ℕ × ℕ)). partner_in ps z) (flat_map-append (λ (pair : ℕ × ℕ). pair ∷ (pair.1, pair.0) ∷ []) pairs (x ∷ []))
        ∙ partner_in-append (both_ways pairs) (ways x) z

    none : partner_in (both_ways pairs) x.0 ≡ None
    none = nobody pairs x.0 f.0.first_free

    here : partner_in (both_ways (pairs ++ x ∷ [])) x.0 ≡ Some x.1
    here =
        behind x.0 ∙ ap (λ (o : Option ℕ). option_or o (partner_in (ways x) x.0)) none
        ∙ ap (λ t. cond t (Some x.1) (partner_in ((x.1, x.0) ∷ []) x.0)) (eq-eqb x.0 x.0 refl)

-- who stands in a pair written both ways stands in one as it is written, or the other way round
one_way : (pairs : List (ℕ × ℕ)) (x y : ℕ) → Contains (both_ways pairs) (x, y) → Contains pairs (x, y) ⊎ Contains pairs (y, x)
one_way [] x y c = absurd (let l = c.1 in omega arith)
one_way (a ∷ pairs) x y c = elim (Contains-append_cases (a ∷ (a.1, a.0) ∷ []) (both_ways pairs) (x, y) c) [
  | inl now ↦ first now.0 now.1 now.2
  | inr later ↦ elim (one_way pairs x y later) [
    | inl had ↦ inl (Contains-append_right (a ∷ []) pairs (x, y) had)
    | inr had ↦ inr (Contains-append_right (a ∷ []) pairs (y, x) had)
  ]
]
  where
    first : (k : ℕ) → k < 2 → get_or (a ∷ (a.1, a.0) ∷ []) k (x, y) ≡ (x, y) → Contains (a ∷ pairs) (x, y) ⊎ Contains (a ∷ pairs) (y, x)
    first zero l e = inl (0, omega arith, e)
    first (suc zero) l e = inr (0, omega arith, ap (λ (z : ℕ × ℕ). (z.1, z.0)) e)
    first (suc (suc k)) l e = absurd (omega (arith, l))

module _ (persons : List AgentData) (pairs : List (ℕ × ℕ)) (k : AreNewCouples (lists_of persons) pairs) where
  mate_is : (x : ℕ) → x < length persons → mate_of (mates_in persons pairs) x ≡ partner_in (both_ways pairs) x
  mate_is x l = get_or-map-range_with_len (partner_in (both_ways pairs)) 0 (length persons) x x None l (omega arith)

  there : (x y : ℕ) → Contains pairs (x, y) → (x < y) × (mate_of (mates_in persons pairs) x ≡ Some y)
  there x y c =
      let l = row_in_range (lists_of persons) x (place_of (lists_of persons) x y) (k.acceptable x y c).listed in
      let long = length-map persons (λ (person : AgentData). person.entries) in
      (k.rising x y c, mate_is x (omega arith) ∙ k.given x y c)

  mate_in : (x y : ℕ) → mate_of (mates_in persons pairs) x ≡ Some y → x < length persons
  mate_in x y e =
      let l = held_there (mates_in persons pairs) x y e in
      let long = length-map-range_with_len (partner_in (both_ways pairs)) 0 (length persons) in
      omega arith

  back : (x y : ℕ) → (x < y) × (mate_of (mates_in persons pairs) x ≡ Some y) → Contains pairs (x, y)
  back x y h = elim (one_way pairs x y (given_there (both_ways pairs) x y (sym (mate_is x (mate_in x y h.1)) ∙ h.1))) [
    | inl had ↦ had
    | inr had ↦ absurd (let up = h.0 in let down = k.rising y x had in omega arith)
  ]

-- a line of its form with a couple that is free
free_line : (persons : List AgentData) (above : List LineData) (line : LineData) → fits (Room persons) line ≡ true → IfSome (pair_in line) (IsFreeCouple (lists_of persons) (pairs_in above))
    → IfSome (pair_in line) (IsNewCouple (lists_of persons) (pairs_in above))
free_line persons above (LineData.Pair x y) e f = (f, ltb-true x y e)
free_line persons above _ e f = tt

free_at : (persons : List AgentData) (lines : List LineData) (k : ℕ) → list_all (fits (Room persons)) lines ≡ true
    → IfSome (slice_get lines k) (λ line. IfSome (pair_in line) (IsFreeCouple (lists_of persons) (pairs_in (take k lines))))
    → IfSome (slice_get lines k) (λ line. IfSome (pair_in line) (IsNewCouple (lists_of persons) (pairs_in (take k lines))))
free_at persons lines k all h = go (slice_get lines k) refl h
  where
    go : (o : Option LineData) → slice_get lines k ≡ o → IfSome o (λ line. IfSome (pair_in line) (IsFreeCouple (lists_of persons) (pairs_in (take k lines))))
        → IfSome o (λ line. IfSome (pair_in line) (IsNewCouple (lists_of persons) (pairs_in (take k lines))))
    go None e f = tt
    go (Some line) e f = free_line persons (take k lines) line (passes_at (fits (Room persons)) lines k line all e) f

-- the law of a yes on couples of roommates
pub couples_yes : CouplesYes
couples_yes persons lines g some =
    let r = right_couples g some in
    let same : pairs_in r.front ≡ pairs_in lines = said_above pair_in r refl in
    let k = grown pair_in (AreNewCouples (lists_of persons)) (IsNewCouple (lists_of persons)) lines (no_couple (lists_of persons)) (one_couple (lists_of persons))
    (λ k. free_at persons lines k g.answer.fitting (r.holds k reason.NotAMatching)) in
    record {
      mates = mates_in persons (pairs_in lines);
      stable = subst (λ (pairs : List (ℕ × ℕ)). IsRoomStable (lists_of persons) (mates_in persons pairs)) same (at_closing r reason.Blocked refl);
      each = λ x y. (there persons (pairs_in lines) k x y, back persons (pairs_in lines) k x y);
      once = k.apart;
    }
