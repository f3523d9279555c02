-- What a yes on an answer of `solve` over roommates means, where there is said to be no stable matching.
use Rattle.std.proofs.Common.{◌≡◌, ◌≢◌, ℕ, zero, suc, ◌+◌, ◌*◌, ◌<◌, ◌≤◌, ◌||◌, ◌==◌, inl, inr, arith, refl, sym, ap, ◌∙◌, cond, Bool, true, false, List, [], ◌∷◌, ◌++◌, length, get_or, take, Option, Some, None, subst, ne_eqb, eq-eqb}
use Rattle.std.specs.Prelude.{Contains, IfSome, All, count_by}
use Rattle.std.specs.List.{slice_get}
use Rattle.std.proofs.lemmas.Bool.{false≢true}
use Rattle.std.proofs.lemmas.List.{length-map}
use Rattle.std.proofs.lemmas.List.FromFn.{get_or-map-range_with_len}
use Rattle.std.proofs.lemmas.List.Folds.{list_any-append}
use Rattle.std.proofs.lemmas.List.Elements.{Contains-append_cases, All-get_or}
use Rattle.std.proofs.lemmas.Option.{slice_get_within, get_or_from_slice_get}
use Rattle.sm_agents.specs.Written.{AgentData, lists_of}
use Rattle.sm_instance.specs.declared.inputs.Input.TheVariants.{Room}
use Rattle.sm_theory.specs.Partitions.{successor_in, after, IsInOddParty}
use Rattle.sm_theory.proofs.Room.Partitions.{odd_party_excludes}
use Rattle.sm_report.specs.Lines.{LineData}
use Rattle.sm_report.specs.Sound.{IsLineOf, IsOnLeft}
use Rattle.sm_check_clauses.specs.declared.verdicts.Reason.TheVariants as reason
use Rattle.sm_check_clauses.specs.Said.{party_in, parties_in}
use Rattle.sm_check_clauses.specs.Rooming.{members_of, next_of, nexts_of, AreNew, IsWholePartition, HasOddParty}
use Rattle.sm_check_roommates.specs.PartiesKept.{is_among, follower}
use Rattle.sm_cert.specs.Yes.{NoneYes}
use Rattle.sm_check_roommates.proofs.PersonLemmas.{of_among}
use Rattle.sm_check_roommates.proofs.PartyLemmas.{times_more, none_times, once_least, twice_least, stands_at, is_among-get_or, next_of-push_there, next_of-push_other, next_in_party-get_or}
use Rattle.sm_cert.proofs.YesPairs.{only_one}
use Rattle.sm_cert.proofs.YesLines.{right_parties, at_closing, said_above, each_line, grown}

-- Parties each of which was new behind those before it.

abbrev IsNewParty : List AgentData → List (List ℕ) → List ℕ → Type 0
IsNewParty persons parties party = AreNew parties party × All (IsOnLeft (Room persons)) party

record AreNewParties (persons : List AgentData) (parties : List (List ℕ)) : Type 0 where
  few : (x : ℕ) → count_by (λ y. y == x) (members_of parties) ≤ 1
  within : (party : List ℕ) → Contains parties party → (j : ℕ) → j < length party → get_or party j 0 < length persons
  distinct : (party : List ℕ) → Contains parties party → (i j : ℕ) → i < j → j < length party → get_or party i 0 ≢ get_or party j 0
  next : (party : List ℕ) → Contains parties party → (j : ℕ) → j < length party → next_of parties (get_or party j 0) ≡ follower party j

no_party : (persons : List AgentData) → AreNewParties persons []
no_party persons = record {
  few = λ x. omega arith;
  within = λ party c. absurd (let l = c.1 in omega arith);
  distinct = λ party c. absurd (let l = c.1 in omega arith);
  next = λ party c. absurd (let l = c.1 in omega arith);
}

-- a member of a party is one of all
among_members : (parties : List (List ℕ)) (party : List ℕ) (z : ℕ) → Contains parties party → is_among z party ≡ true → is_among z (members_of parties) ≡ true
among_members [] party z c e = absurd (let l = c.1 in omega arith)
among_members (q ∷ qs) party z c e = elim (Contains-append_cases (q ∷ []) qs party c) [
  | inl now ↦ list_any-append (λ y. y == z) q (members_of qs) ∙ ap (λ t. t || is_among z (members_of qs)) (ap (is_among z) (only_one now) ∙ e)
  | inr later ↦ list_any-append (λ y. y == z) q (members_of qs) ∙ or_right (is_among z q) (among_members qs party z later e)
]
  where
    or_right : (t : Bool) {u : Bool} → u ≡ true → (t || u) ≡ true
    or_right true e = refl
    or_right false e = e

one_party : (persons : List AgentData) (parties : List (List ℕ)) (party : List ℕ) → AreNewParties persons parties → IsNewParty persons parties party → AreNewParties persons (parties ++ party ∷ [])
one_party persons parties party k f = record {
  few = λ x. at_most x (is_among x party) refl;
  within = λ q c. elim (Contains-append_cases parties (party ∷ []) q c) [
    | inl had ↦ k.within q had
    | inr now ↦ subst (λ (y : List ℕ). (j : ℕ) → j < length y → get_or y j 0 < length persons) (only_one now) (λ j l. All-get_or (IsOnLeft (Room persons)) party j 0 l f.1)
  ];
  distinct = λ q c. elim (Contains-append_cases parties (party ∷ []) q c) [
    | inl had ↦ k.distinct q had
    | inr now ↦ subst (λ (y : List ℕ). (i j : ℕ) → i < j → j < length y → get_or y i 0 ≢ get_or y j 0) (only_one now) apart
  ];
  next = λ q c. elim (Contains-append_cases parties (party ∷ []) q c) [
    | inl had ↦ λ j l. next_of-push_other parties party (get_or q j 0) (old (get_or q j 0) (among_members parties q (get_or q j 0) had (is_among-get_or q j l))) ∙ k.next q had j l
    | inr now ↦ subst (λ (y : List ℕ). (j : ℕ) → j < length y → next_of (parties ++ party ∷ []) (get_or y j 0) ≡ follower y j) (only_one now)
        (λ j l. next_of-push_there parties party (get_or party j 0) (not_before j l) (is_among-get_or party j l) ∙ next_in_party-get_or party apart j l)
  ];
}
  where
    at_most : (x : ℕ) (t : Bool) → is_among x party ≡ t → count_by (λ y. y == x) (members_of (parties ++ party ∷ [])) ≤ 1
    at_most x true e = omega (arith, f.0 x (of_among party x e))
    at_most x false e = omega (arith, times_more parties party x, none_times x party e, k.few x)

    one : (j : ℕ) → j < length party → count_by (λ y. y == get_or party j 0) (members_of (parties ++ party ∷ [])) ≡ 1
    one j l = f.0 (get_or party j 0) (of_among party (get_or party j 0) (is_among-get_or party j l))

    apart : (i j : ℕ) → i < j → j < length party → get_or party i 0 ≢ get_or party j 0
    apart i j i_j l e =
        let all = one j l in
        let more = times_more parties party (get_or party j 0) in
        let two = twice_least (get_or party j 0) party i j i_j l e refl in
        omega arith

    -- who stood before isn't in it
    old : (z : ℕ) → is_among z (members_of parties) ≡ true → is_among z party ≡ false
    old z before = go (is_among z party) refl
      where
        go : (t : Bool) → is_among z party ≡ t → t ≡ false
        go false e = refl
        go true e =
            let had = stands_at z (members_of parties) (of_among (members_of parties) z before) in
            let now = stands_at z party (of_among party z e) in
            let all = f.0 z (of_among party z e) in
            let more = times_more parties party z in
            let first = once_least z (members_of parties) had.at had.on_list had.is in
            let again = once_least z party now.at now.on_list now.is in
            absurd (omega arith)

    not_before : (j : ℕ) → j < length party → is_among (get_or party j 0) (members_of parties) ≡ false
    not_before j l = go (is_among (get_or party j 0) (members_of parties)) refl
      where
        go : (t : Bool) → is_among (get_or party j 0) (members_of parties) ≡ t → t ≡ false
        go false e = refl
        go true e = absurd (false≢true (sym (old (get_or party j 0) e) ∙ is_among-get_or party j l))

-- The first of an odd party stands in an odd party of the permutation.
module _ (persons : List AgentData) (parties : List (List ℕ)) (k : AreNewParties persons parties) (party : List ℕ) (c : Contains parties party) where
  step : (j : ℕ) → j < length party → successor_in (nexts_of persons parties) (get_or party j 0) ≡ follower party j
  step j l =
      let inside = k.within party c j l in
      get_or-map-range_with_len (next_of parties) 0 (length persons) (get_or party j 0) (get_or party j 0) 0 inside (omega arith)
      ∙ k.next party c j l

  steps : (j : ℕ) → j < length party → after (nexts_of persons parties) (get_or party 0 0) j ≡ get_or party j 0
  steps zero l = refl
  steps (suc j) l =
      let before : j < length party = omega (arith, l) in
      let more = ne_eqb (j + 1) (length party) (λ e. omega (arith, e, l)) in
      ap (successor_in (nexts_of persons parties)) (steps j before) ∙ step j before
      ∙ ap (λ t. get_or party (cond t 0 (j + 1)) 0) more
      ∙ ap (λ n. get_or party n 0) (let e : j + 1 ≡ suc j = omega arith in e)

  round : (n : ℕ) → length party ≡ suc n → after (nexts_of persons parties) (get_or party 0 0) (suc n) ≡ get_or party 0 0
  round n e =
      let l : n < length party = omega (arith, e) in
      let last = eq-eqb (n + 1) (length party) (omega (arith, e)) in
      ap (successor_in (nexts_of persons parties)) (steps n l) ∙ step n l
      ∙ ap (λ t. get_or party (cond t 0 (n + 1)) 0) last

  in_odd : (half : ℕ) → 0 < half → length party ≡ 2 * half + 1 → IsInOddParty (lists_of persons) (nexts_of persons parties) (get_or party 0 0)
  in_odd half three odd = record {
    in_range = (let first = k.within party c 0 (omega arith) in let long = length-map persons (λ (person : AgentData). person.entries) in omega arith);
    half = half;
    three = three;
    returns =
        ap (after (nexts_of persons parties) (get_or party 0 0)) (let e : 2 * half + 1 ≡ suc (2 * half) = omega arith in e)
        ∙ round (2 * half) (omega (arith, odd));
    first = λ j some less e. k.distinct party c 0 j some (omega (arith, odd, less)) (sym e ∙ steps j (omega (arith, odd, less)));
  }

-- a line of the persons with a party that is new
new_at : (persons : List AgentData) (lines : List LineData) (k : ℕ) → All (IsLineOf (Room persons)) lines
    → IfSome (slice_get lines k) (λ line. IfSome (party_in line) (AreNew (parties_in (take k lines))))
    → IfSome (slice_get lines k) (λ line. IfSome (party_in line) (IsNewParty persons (parties_in (take k lines))))
new_at persons lines k all h = go (slice_get lines k) refl h
  where
    one_line : (line : LineData) → IsLineOf (Room persons) line → IfSome (party_in line) (AreNew (parties_in (take k lines))) → IfSome (party_in line) (IsNewParty persons (parties_in (take k lines)))
    one_line (LineData.Party party) own new = (new, own.printable)
    one_line _ own new = tt

    go : (o : Option LineData) → slice_get lines k ≡ o → IfSome o (λ line. IfSome (party_in line) (AreNew (parties_in (take k lines))))
        → IfSome o (λ line. IfSome (party_in line) (IsNewParty persons (parties_in (take k lines))))
    go None e f = tt
    go (Some line) e f =
        one_line line (subst (IsLineOf (Room persons)) (get_or_from_slice_get lines k line line e) (All-get_or (IsLineOf (Room persons)) lines k line (slice_get_within lines k line e) all)) f

-- the law of a yes on parties of roommates
pub none_yes : NoneYes
none_yes persons lines g none =
    let r = right_parties g none in
    let parties = parties_in lines in
    let same : parties_in r.front ≡ parties = said_above party_in r refl in
    let whole = subst (IsWholePartition persons) same ((at_closing r reason.NotPartition).1 refl) in
    let odd = subst HasOddParty same (at_closing r reason.NoOddParty refl) in
    let k = grown party_in (AreNewParties persons) (IsNewParty persons) lines (no_party persons) (one_party persons)
    (λ k. new_at persons lines k g.answer.right (each_line r reason.NotPartition {Q = λ above line. IfSome (party_in line) (AreNew (parties_in above))} (λ above line h. h.0) k)) in
    let member = in_odd persons parties k odd.party odd.there odd.half odd.three odd.odd in
    record {
      next = nexts_of persons parties;
      partition = whole.partition;
      once = λ x less.
          let there = stands_at x (members_of parties) (whole.all x less) in
          omega (arith, k.few x, once_least x (members_of parties) there.at there.on_list there.is);
      along = step persons parties k;
      odd = odd;
      none = λ mates. odd_party_excludes (lists_of persons) (nexts_of persons parties) (get_or odd.party 0 0) mates whole.partition member;
    }
