-- The order of couples and of parties says nothing in an answer of `solve` over roommates.
use Rattle.std.proofs.Common.{◌≡◌, ◌≢◌, ◌⊎◌, ℕ, ◌+◌, ◌≤◌, ◌==◌, inl, inr, arith, refl, sym, ap, ◌∙◌, cond, Bool, true, false, List, [], ◌∷◌, ◌++◌, length, map, Option, Some, None, subst, ne_eqb}
use Rattle.std.specs.Prelude.{IfSome, Contains, count_by, find}
use Rattle.std.specs.List.{range_with_len}
use Rattle.std.specs.Option.{is_some, option_or, option_map_or}
use Rattle.std.proofs.lemmas.Bool.{cases_eq, cases_lt}
use Rattle.std.proofs.lemmas.List.{get_or_default}
use Rattle.std.proofs.lemmas.List.Concat.{flat_map-append}
use Rattle.std.proofs.lemmas.List.Folds.{find-append}
use Rattle.std.proofs.lemmas.List.Sums.{sum_by-append}
use Rattle.std.proofs.lemmas.List.Elements.{filter_map-append, Contains-append_left, Contains-append_right, Contains-append_cases}
use Rattle.sm_agents.specs.Written.{AgentData, lists_of}
use Rattle.sm_theory.specs.Rooms.{IsRoomStable}
use Rattle.sm_theory.specs.Partitions.{IsStablePartition}
use Rattle.sm_report.specs.Lines.{LineData}
use Rattle.sm_report.specs.declared.keywords.Keyword.TheVariants as keyword
use Rattle.sm_report.specs.Keywords.{keyword_of}
use Rattle.sm_check_forms.specs.Keywords.{is_same}
use Rattle.sm_holding.specs.Held.{partner_in}
use Rattle.sm_check_clauses.specs.declared.verdicts.Reason.{Reason}
use Rattle.sm_check_clauses.specs.declared.verdicts.Reason.TheVariants as reason
use Rattle.sm_check_clauses.specs.Said.{pair_in, pairs_in, party_in, parties_in}
use Rattle.sm_check_clauses.specs.Rooming.{persons_of, both_ways, IsFreeCouple, CouplesHold, members_of, next_in_party, AreNew, PartiesHold}
use Rattle.sm_check_clauses.specs.Judging.{couples, parties, Clauses}
use Rattle.sm_check_roommates.specs.PartiesKept.{is_among}
use Rattle.sm_check_roommates.proofs.CoupleLemmas.{partner_in-append}
use Rattle.sm_check_roommates.proofs.PersonLemmas.{of_among}
use Rattle.sm_check_roommates.proofs.PartyLemmas.{once_least, stands_at}
use Rattle.sm_law_yes.specs.Reordered.{is_free}
use Rattle.sm_law_yes.proofs.ReorderLemmas.{here, further, first_or_rest}
use Rattle.sm_law_yes.proofs.Exchanges.{SeesNoOrder}
use Rattle.sm_law_yes.proofs.SaidOrder.{if_said, not_closing, AreFreely, exchanged_said, alike_said}
use Rattle.sm_law_yes.proofs.PairOrder.{has_pair}
use Rattle.sm_law_yes.proofs.PartiesRight.{placed_at}

-- what is found in two parts, of which one finds nothing, in either order
swap_first : {X : Type 0} (o u v : Option X) → u ≡ None → option_or (option_or o u) v ≡ option_or (option_or o v) u
swap_first None None None e = refl
swap_first None None (Some v) e = refl
swap_first {X} None (Some u) v e = absurd (some e)
  where
    some : ◌≡◌ {A = Option X} (Some u) None → ⊥
    some e = grind arith
swap_first (Some o) u v e = refl

-- Couples.

-- nobody more stands in them, and each person has the same mate
pub record AreSameCouples (xs ys : List (ℕ × ℕ)) : Type 0 where
  pub persons : (z : ℕ) → Contains (persons_of ys) z → Contains (persons_of xs) z
  pub partners : (z : ℕ) → partner_in (both_ways xs) z ≡ partner_in (both_ways ys) z

persons_apart : (xs ys : List (ℕ × ℕ)) → persons_of (xs ++ ys) ≡ persons_of xs ++ persons_of ys
persons_apart xs ys = flat_map-append (λ (pair : ℕ × ℕ). pair.0 ∷ pair.1 ∷ []) xs ys

both_apart : (xs ys : List (ℕ × ℕ)) (z : ℕ) → partner_in (both_ways (xs ++ ys)) z ≡ option_or (partner_in (both_ways xs) z) (partner_in (both_ways ys) z)
both_apart xs ys z =
    ap (λ (ps : List (ℕ × ℕ)). partner_in ps z) (flat_map-append (λ (pair : ℕ × ℕ). pair ∷ (pair.1, pair.0) ∷ []) xs ys) ∙ partner_in-append (both_ways xs) (both_ways ys) z

-- who stands in the first or the second of two parts stands in both together, and the other way round
module _ (xs ys : List (ℕ × ℕ)) (z : ℕ) where
  into_left : Contains (persons_of xs) z → Contains (persons_of (xs ++ ys)) z
  into_left c = subst (λ (ps : List ℕ). Contains ps z) (sym (persons_apart xs ys)) (Contains-append_left (persons_of xs) (persons_of ys) z c)

  into_right : Contains (persons_of ys) z → Contains (persons_of (xs ++ ys)) z
  into_right c = subst (λ (ps : List ℕ). Contains ps z) (sym (persons_apart xs ys)) (Contains-append_right (persons_of xs) (persons_of ys) z c)

  in_either : Contains (persons_of (xs ++ ys)) z → Contains (persons_of xs) z ⊎ Contains (persons_of ys) z
  in_either c = Contains-append_cases (persons_of xs) (persons_of ys) z (subst (λ (ps : List ℕ). Contains ps z) (persons_apart xs ys) c)

couples_more : {xs ys : List (ℕ × ℕ)} → AreSameCouples xs ys → (zs : List (ℕ × ℕ)) → AreSameCouples (xs ++ zs) (ys ++ zs)
couples_more {xs} {ys} s zs = record {
  persons = λ z c. elim (in_either ys zs z c) [
    | inl first ↦ into_left xs zs z (s.persons z first)
    | inr second ↦ into_right xs zs z second
  ];
  partners = λ z. both_apart xs zs z ∙ ap (λ (o : Option ℕ). option_or o (partner_in (both_ways zs) z)) (s.partners z) ∙ sym (both_apart ys zs z);
}

-- who isn't in a couple has nobody by it
not_in_couple : (a : ℕ × ℕ) (z : ℕ) → a.0 ≢ z → a.1 ≢ z → partner_in (both_ways (a ∷ [])) z ≡ None
not_in_couple a z first second =
    ap (λ t. cond t (Some a.1) (cond (a.1 == z) (Some a.0) None)) (ne_eqb a.0 z first) ∙ ap (λ t. cond t (Some a.0) None) (ne_eqb a.1 z second)

first_of : (a : ℕ × ℕ) → Contains (persons_of (a ∷ [])) a.0
first_of a = here a.0 (a.1 ∷ [])

second_of : (a : ℕ × ℕ) → Contains (persons_of (a ∷ [])) a.1
second_of a = further a.0 (a.1 ∷ []) a.1 (here a.1 [])

module _ (rows : List (List ℕ)) (xs : List (ℕ × ℕ)) (a b : ℕ × ℕ) (f : IsFreeCouple rows xs a) (g : IsFreeCouple rows (xs ++ a ∷ []) b) where
  -- nobody is in both couples
  not_both : (z : ℕ) → Contains (persons_of (a ∷ [])) z → b.0 ≢ z × (b.1 ≢ z)
  not_both z c = (
    λ e. g.first_free (into_right xs (a ∷ []) b.0 (subst (Contains (persons_of (a ∷ []))) (sym e) c)),
    λ e. g.second_free (into_right xs (a ∷ []) b.1 (subst (Contains (persons_of (a ∷ []))) (sym e) c)),
  )

  couple_first : IsFreeCouple rows xs b
  couple_first = record {
    acceptable = g.acceptable;
    first_free = λ c. g.first_free (into_left xs (a ∷ []) b.0 c);
    second_free = λ c. g.second_free (into_left xs (a ∷ []) b.1 c);
  }

  apart_from : (z : ℕ) → b.0 ≢ z × (b.1 ≢ z) → Contains (persons_of (b ∷ [])) z → ⊥
  apart_from z other c = elim (first_or_rest b.0 (b.1 ∷ []) z c) [
    | inl is ↦ other.0 is
    | inr rest ↦ elim (first_or_rest b.1 [] z rest) [
      | inl is ↦ other.1 is
      | inr none ↦ let l = none.1 in omega (arith, l)
    ]
  ]

  couple_second : IsFreeCouple rows (xs ++ b ∷ []) a
  couple_second = record {
    acceptable = f.acceptable;
    first_free = λ c. elim (in_either xs (b ∷ []) a.0 c) [
      | inl before ↦ f.first_free before
      | inr there ↦ apart_from a.0 (not_both a.0 (first_of a)) there
    ];
    second_free = λ c. elim (in_either xs (b ∷ []) a.1 c) [
      | inl before ↦ f.second_free before
      | inr there ↦ apart_from a.1 (not_both a.1 (second_of a)) there
    ];
  }

  same_couples : AreSameCouples ((xs ++ a ∷ []) ++ b ∷ []) ((xs ++ b ∷ []) ++ a ∷ [])
  same_couples = record {
    persons = λ z c. elim (in_either (xs ++ b ∷ []) (a ∷ []) z c) [
      | inl first ↦ elim (in_either xs (b ∷ []) z first) [
        | inl before ↦ into_left (xs ++ a ∷ []) (b ∷ []) z (into_left xs (a ∷ []) z before)
        | inr there ↦ into_right (xs ++ a ∷ []) (b ∷ []) z there
      ]
      | inr second ↦ into_left (xs ++ a ∷ []) (b ∷ []) z (into_right xs (a ∷ []) z second)
    ];
    partners = λ z. parted a b z ∙ exchange z ∙ sym (parted b a z);
  }
    where
      parted : (u v : ℕ × ℕ) (z : ℕ) → partner_in (both_ways ((xs ++ u ∷ []) ++ v ∷ [])) z ≡ option_or (option_or (partner_in (both_ways xs) z) (partner_in (both_ways (u ∷ [])) z)) (partner_in (both_ways (v ∷ [])) z)
      parted u v z = both_apart (xs ++ u ∷ []) (v ∷ []) z ∙ ap (λ (o : Option ℕ). option_or o (partner_in (both_ways (v ∷ [])) z)) (both_apart xs (u ∷ []) z)

      by_second : (z : ℕ) → b.0 ≢ z × (b.1 ≢ z) → option_or (option_or (partner_in (both_ways xs) z) (partner_in (both_ways (a ∷ [])) z)) (partner_in (both_ways (b ∷ [])) z)
          ≡ option_or (option_or (partner_in (both_ways xs) z) (partner_in (both_ways (b ∷ [])) z)) (partner_in (both_ways (a ∷ [])) z)
      by_second z other = sym (swap_first (partner_in (both_ways xs) z) (partner_in (both_ways (b ∷ [])) z) (partner_in (both_ways (a ∷ [])) z) (not_in_couple b z other.0 other.1))

      exchange : (z : ℕ) → option_or (option_or (partner_in (both_ways xs) z) (partner_in (both_ways (a ∷ [])) z)) (partner_in (both_ways (b ∷ [])) z)
          ≡ option_or (option_or (partner_in (both_ways xs) z) (partner_in (both_ways (b ∷ [])) z)) (partner_in (both_ways (a ∷ [])) z)
      exchange z = elim (cases_eq a.0 z) [
        | inl is ↦ by_second z (not_both z (subst (Contains (persons_of (a ∷ []))) is (first_of a)))
        | inr first ↦ elim (cases_eq a.1 z) [
          | inl is ↦ by_second z (not_both z (subst (Contains (persons_of (a ∷ []))) is (second_of a)))
          | inr second ↦ swap_first (partner_in (both_ways xs) z) (partner_in (both_ways (a ∷ [])) z) (partner_in (both_ways (b ∷ [])) z) (not_in_couple a z first second)
        ]
      ]

couples_freely : (rows : List (List ℕ)) → AreFreely (IsFreeCouple rows) AreSameCouples
couples_freely rows = record {
  still = λ xs. record { persons = λ z c. c; partners = λ z. refl };
  first = λ xs a b f g. couple_first rows xs a b f g;
  second = λ xs a b f g. couple_second rows xs a b f g;
  same = λ xs a b f g. same_couples rows xs a b f g;
}

module _ (persons : List AgentData) where
  -- as much is read of the couples
  abbrev pub AreCouplesAlike : List LineData → List LineData → Type 0
  AreCouplesAlike a b = AreSameCouples (pairs_in a) (pairs_in b)

  abbrev CoupleClauses : List LineData → LineData → Reason → Type 0
  CoupleClauses above line why = CouplesHold persons (pairs_in above) line why

  couples_carry : (a b : List LineData) (z : LineData) (why : Reason) → AreCouplesAlike a b → CoupleClauses a z why → CoupleClauses b z why
  couples_carry a b z reason.NotAMatching s h =
      if_said (pair_in z) (λ x f. record { acceptable = f.acceptable; first_free = λ c. f.first_free (s.persons x.0 c); second_free = λ c. f.second_free (s.persons x.1 c) }) h
  couples_carry a b z reason.Blocked s h = λ e.
      subst (IsRoomStable (lists_of persons)) (ap (λ (f : ℕ → Option ℕ). map f (range_with_len 0 (length persons))) (λ i z. s.partners z i)) (h e)
  couples_carry a b z _ s h = tt

  couple_at : (above : List LineData) (x : LineData) → is_free (keyword_of x) ≡ true → IfSome (pair_in x) (IsFreeCouple (lists_of persons) (pairs_in above)) → (why : Reason) → CoupleClauses above x why
  couple_at above x f h reason.NotAMatching = h
  couple_at above x f h reason.Blocked = not_closing x f
  couple_at above x f h _ = tt

  -- the order of couples
  pub couples_order : SeesNoOrder (Clauses (couples persons)) AreCouplesAlike
  couples_order = record {
    carries = couples_carry;
    more = λ a b z s.
        subst (λ (xs : List (ℕ × ℕ)). AreSameCouples xs (pairs_in (b ++ z ∷ []))) (sym (filter_map-append pair_in a (z ∷ [])))
        (subst (AreSameCouples (pairs_in a ++ pairs_in (z ∷ []))) (sym (filter_map-append pair_in b (z ∷ []))) (couples_more s (pairs_in (z ∷ []))));
    exchanges = λ above x y e f hx hy.
        let t = exchanged_said pair_in (couples_freely (lists_of persons)) above x y (alike_said pair_in keyword.Pair has_pair x y e) (hx reason.NotAMatching) (hy reason.NotAMatching) in
        record { first = couple_at above y (ap is_free (sym e) ∙ f) t.first; second = couple_at (above ++ y ∷ []) x f t.second; alike = t.alike };
  }

-- Parties.

abbrev times : ℕ → List ℕ → ℕ
times x xs = count_by (λ (y : ℕ). y == x) xs

-- each person stands in them as often, and in the same party, and no party is missing
pub record AreSameParties (xs ys : List (List ℕ)) : Type 0 where
  pub members : (z : ℕ) → times z (members_of xs) ≡ times z (members_of ys)
  pub party : (z : ℕ) → find (is_among z) xs ≡ find (is_among z) ys
  pub there : (p : List ℕ) → Contains xs p → Contains ys p

members_apart : (xs ys : List (List ℕ)) (z : ℕ) → times z (members_of (xs ++ ys)) ≡ times z (members_of xs) + times z (members_of ys)
members_apart xs ys z = ap (times z) (flat_map-append (λ (p : List ℕ). p) xs ys) ∙ sum_by-append (λ (y : ℕ). cond (y == z) 1 0) (members_of xs) (members_of ys)

members_one : (xs : List (List ℕ)) (p : List ℕ) (z : ℕ) → times z (members_of (xs ++ p ∷ [])) ≡ times z (members_of xs) + times z p
members_one xs p z =
    members_apart xs (p ∷ []) z ∙ ap (λ (n : ℕ). times z (members_of xs) + n) (sum_by-append (λ (y : ℕ). cond (y == z) 1 0) p [] ∙ (let e : times z p + 0 ≡ times z p = omega arith in e))

parties_more : {xs ys : List (List ℕ)} → AreSameParties xs ys → (zs : List (List ℕ)) → AreSameParties (xs ++ zs) (ys ++ zs)
parties_more {xs} {ys} s zs = record {
  members = λ z. members_apart xs zs z ∙ ap (λ (n : ℕ). n + times z (members_of zs)) (s.members z) ∙ sym (members_apart ys zs z);
  party = λ z. find-append (is_among z) xs zs ∙ ap (λ (o : Option (List ℕ)). option_or o (find (is_among z) zs)) (s.party z) ∙ sym (find-append (is_among z) ys zs);
  there = λ p c. elim (Contains-append_cases xs zs p c) [
    | inl first ↦ Contains-append_left ys zs p (s.there p first)
    | inr second ↦ Contains-append_right ys zs p second
  ];
}

-- who is counted among some persons is there
counted_there : (xs : List ℕ) (z : ℕ) → 1 ≤ times z xs → Contains xs z
counted_there xs z some = let d = placed_at xs z some in (d.place, d.on, get_or_default xs d.place z 0 d.on ∙ d.is)

there_counted : (xs : List ℕ) (z : ℕ) → Contains xs z → 1 ≤ times z xs
there_counted xs z c = let s = stands_at z xs c in once_least z xs s.at s.on_list s.is

module _ (xs : List (List ℕ)) (a b : List ℕ) (f : AreNew xs a) (g : AreNew (xs ++ a ∷ []) b) where
  all_three : (z : ℕ) → times z (members_of ((xs ++ a ∷ []) ++ b ∷ [])) ≡ times z (members_of xs) + times z a + times z b
  all_three z = members_one (xs ++ a ∷ []) b z ∙ ap (λ (n : ℕ). n + times z b) (members_one xs a z)

  party_first : AreNew xs b
  party_first z c = let one = g z c in let some = there_counted b z c in omega (arith, one, some, all_three z, members_one xs b z)

  -- nobody is in both parties
  not_in_both : (z : ℕ) → Contains a z → times z b ≡ 0
  not_in_both z c = elim (cases_lt 0 (times z b)) [
    | inl more ↦
        let one = g z (counted_there b z (omega (arith, more))) in
        let some = there_counted a z c in
        absurd (omega (arith, one, some, more, all_three z))
    | inr none ↦ omega (arith, none)
  ]

  party_second : AreNew (xs ++ b ∷ []) a
  party_second z c = let one = f z c in let none = not_in_both z c in omega (arith, one, none, members_one xs a z, members_one (xs ++ b ∷ []) a z, members_one xs b z)

  same_parties : AreSameParties ((xs ++ a ∷ []) ++ b ∷ []) ((xs ++ b ∷ []) ++ a ∷ [])
  same_parties = record {
    members = λ z. omega (arith, all_three z, members_one (xs ++ b ∷ []) a z, members_one xs b z);
    party = λ z. parted a b z ∙ exchange z (is_among z a) refl ∙ sym (parted b a z);
    there = λ p c. elim (Contains-append_cases (xs ++ a ∷ []) (b ∷ []) p c) [
      | inl first ↦ elim (Contains-append_cases xs (a ∷ []) p first) [
        | inl before ↦ Contains-append_left (xs ++ b ∷ []) (a ∷ []) p (Contains-append_left xs (b ∷ []) p before)
        | inr second ↦ Contains-append_right (xs ++ b ∷ []) (a ∷ []) p second
      ]
      | inr last ↦ Contains-append_left (xs ++ b ∷ []) (a ∷ []) p (Contains-append_right xs (b ∷ []) p last)
    ];
  }
    where
      parted : (u v : List ℕ) (z : ℕ) → find (is_among z) ((xs ++ u ∷ []) ++ v ∷ []) ≡ option_or (option_or (find (is_among z) xs) (find (is_among z) (u ∷ []))) (find (is_among z) (v ∷ []))
      parted u v z = find-append (is_among z) (xs ++ u ∷ []) (v ∷ []) ∙ ap (λ (o : Option (List ℕ)). option_or o (find (is_among z) (v ∷ []))) (find-append (is_among z) xs (u ∷ []))

      not_found : (p : List ℕ) (z : ℕ) → is_among z p ≡ false → find (is_among z) (p ∷ []) ≡ None
      not_found p z e = ap (λ t. cond t (Some p) None) e

      not_among : (z : ℕ) → times z b ≡ 0 → is_among z b ≡ false
      not_among z none = go (is_among z b) refl
        where
          go : (t : Bool) → is_among z b ≡ t → t ≡ false
          go false e = refl
          go true e = absurd (let some = there_counted b z (of_among b z e) in omega (arith, some, none))

      exchange : (z : ℕ) (t : Bool) → is_among z a ≡ t → option_or (option_or (find (is_among z) xs) (find (is_among z) (a ∷ []))) (find (is_among z) (b ∷ []))
          ≡ option_or (option_or (find (is_among z) xs) (find (is_among z) (b ∷ []))) (find (is_among z) (a ∷ []))
      exchange z true e =
          sym (swap_first (find (is_among z) xs) (find (is_among z) (b ∷ [])) (find (is_among z) (a ∷ [])) (not_found b z (not_among z (not_in_both z (of_among a z e)))))
      exchange z false e = swap_first (find (is_among z) xs) (find (is_among z) (a ∷ [])) (find (is_among z) (b ∷ [])) (not_found a z e)

parties_freely : AreFreely AreNew AreSameParties
parties_freely = record {
  still = λ xs. record { members = λ z. refl; party = λ z. refl; there = λ p c. c };
  first = λ xs a b f g. party_first xs a b f g;
  second = λ xs a b f g. party_second xs a b f g;
  same = λ xs a b f g. same_parties xs a b f g;
}

has_party : (x : LineData) → is_some (party_in x) ≡ is_same (keyword_of x) keyword.Party
has_party (LineData.Party persons) = refl
has_party _ = refl

module _ (persons : List AgentData) where
  -- as much is read of the parties
  abbrev pub ArePartiesAlike : List LineData → List LineData → Type 0
  ArePartiesAlike a b = AreSameParties (parties_in a) (parties_in b)

  abbrev PartyClauses : List LineData → LineData → Reason → Type 0
  PartyClauses above line why = PartiesHold persons (parties_in above) line why

  parties_carry : (a b : List LineData) (z : LineData) (why : Reason) → ArePartiesAlike a b → PartyClauses a z why → PartyClauses b z why
  parties_carry a b z reason.NotPartition s h = (
    if_said (party_in z) (λ p new x c. let one = new x c in let same = s.members x in omega (arith, one, same, members_one (parties_in a) p x, members_one (parties_in b) p x)) h.0,
    λ e.
        let whole = h.1 e in
        record {
          all = λ x less. counted_there (members_of (parties_in b)) x (let some = there_counted (members_of (parties_in a)) x (whole.all x less) in let same = s.members x in omega (arith, some, same));
          partition = subst (IsStablePartition (lists_of persons))
              (ap (λ (f : ℕ → Option (List ℕ)). map (λ x. option_map_or (next_in_party x) (f x) x) (range_with_len 0 (length persons))) (λ i x. s.party x i)) whole.partition;
        },
  )
  parties_carry a b z reason.NoOddParty s h = λ e. let odd = h e in record { party = odd.party; there = s.there odd.party odd.there; half = odd.half; three = odd.three; odd = odd.odd }
  parties_carry a b z _ s h = tt

  party_at : (above : List LineData) (x : LineData) → is_free (keyword_of x) ≡ true → IfSome (party_in x) (AreNew (parties_in above)) → (why : Reason) → PartyClauses above x why
  party_at above x f h reason.NotPartition = (h, not_closing x f)
  party_at above x f h reason.NoOddParty = not_closing x f
  party_at above x f h _ = tt

  -- the order of parties
  pub parties_order : SeesNoOrder (Clauses (parties persons)) ArePartiesAlike
  parties_order = record {
    carries = parties_carry;
    more = λ a b z s.
        subst (λ (xs : List (List ℕ)). AreSameParties xs (parties_in (b ++ z ∷ []))) (sym (filter_map-append party_in a (z ∷ [])))
        (subst (AreSameParties (parties_in a ++ parties_in (z ∷ []))) (sym (filter_map-append party_in b (z ∷ []))) (parties_more s (parties_in (z ∷ []))));
    exchanges = λ above x y e f hx hy.
        let t = exchanged_said party_in parties_freely above x y (alike_said party_in keyword.Party has_party x y e) (hx reason.NotPartition).0 (hy reason.NotPartition).0 in
        record { first = party_at above y (ap is_free (sym e) ∙ f) t.first; second = party_at (above ++ y ∷ []) x f t.second; alike = t.alike };
  }
