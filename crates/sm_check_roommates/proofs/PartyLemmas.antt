-- The parties that are written so far, and one more.
use Rattle.std.proofs.Common.{◌≡◌, ◌≢◌, ℕ, zero, suc, ◌+◌, ◌<◌, ◌≤◌, ◌⊎◌, inl, inr, ◌||◌, ◌==◌, ◌↔◌, cond, eqb, Bool, true, false, IsTrue, List, [], ◌∷◌, ◌++◌, Option, Some, None, is_some, length, get_or, replicate, append-nil, Vec, refl, sym, ap, ◌∙◌, subst, arith, eq-eqb, ne_eqb, ⊎_elim}
use Rattle.std.specs.Prelude.{Contains, count_by, find, if◌then◌else◌}
use Rattle.std.specs.List.{sum_by, cons_option}
use Rattle.std.specs.declared.alloc.Global.{Global}
use Rattle.std.specs.Option.{option_or, option_map_or}
use Rattle.std.proofs.lemmas.Bool.{false≢true, cases_eq, or_left, or_right, or_cases}
use Rattle.std.proofs.lemmas.Grind.{flat_map-append}
use Rattle.std.proofs.lemmas.List.{get_or_default, get_or-replicate, length-map, length-replicate}
use Rattle.std.proofs.lemmas.List.FromFn.{fill_by_all}
use Rattle.std.proofs.lemmas.List.Folds.{find-append, list_any-append}
use Rattle.std.proofs.lemmas.List.Sums.{sum_by-append, sum_by-cons}
use Rattle.std.proofs.lemmas.List.Elements.{Contains-append_left, Contains-append_right, Contains-append_cases, filter_map-append}
use Rattle.sm_lists.proofs.PlaceLemmas.{place_on_is}
use Rattle.sm_lists.proofs.ResultLemmas.{same_bool}
use Rattle.sm_agents.specs.Written.{AgentData, lists_of}
use Rattle.sm_theory.specs.Partitions.{IsStablePartition}
use Rattle.sm_report.specs.declared.lines.Line.{Line}
use Rattle.sm_report.specs.Lines.{LineData, line_of}
use Rattle.sm_check_clauses.specs.declared.verdicts.Reason.{Reason}
use Rattle.sm_check_clauses.specs.declared.verdicts.Reason.TheVariants as reason
use Rattle.sm_check_clauses.specs.Verdicts.{IsFirstThere, number_of_reason}
use Rattle.sm_check_clauses.specs.Said.{party_in, parties_in}
use Rattle.sm_check_clauses.specs.Rooming.{members_of, next_in_party, next_of, nexts_of, AreNew, IsWholePartition, HasOddParty, PartiesHold}
use Rattle.sm_check_roommates.specs.PartiesKept.{is_among, is_met, AreMet, HasRepeatedPerson, follower, AreLinked, IsOdd, ArePartiesHeld, ArePartiesKept, HasParted}
use Rattle.sm_check_roommates.proofs.PersonLemmas.{among_of, of_among}

-- Who stands among some, and how often.

times_next : (x y : ℕ) (ys : List ℕ) → count_by (λ z. z == x) (y ∷ ys) ≡ cond (eqb y x) 1 0 + count_by (λ z. z == x) ys
times_next x y ys = sum_by-cons (λ z. cond (eqb z x) 1 0) y ys

times_here : (x y : ℕ) (ys : List ℕ) → y ≡ x → count_by (λ z. z == x) (y ∷ ys) ≡ 1 + count_by (λ z. z == x) ys
times_here x y ys e = times_next x y ys ∙ ap (λ b. cond b 1 0 + count_by (λ z. z == x) ys) (eq-eqb y x e)

times_other : (x y : ℕ) (ys : List ℕ) → y ≢ x → count_by (λ z. z == x) (y ∷ ys) ≡ 0 + count_by (λ z. z == x) ys
times_other x y ys ne = times_next x y ys ∙ ap (λ b. cond b 1 0 + count_by (λ z. z == x) ys) (ne_eqb y x ne)

-- nowhere
pub none_times : (x : ℕ) (xs : List ℕ) → is_among x xs ≡ false → count_by (λ z. z == x) xs ≡ 0
none_times x [] e = refl
none_times x (y ∷ ys) e = ⊎_elim
    (λ (is : y ≡ x). let t = eq-eqb y x is in absurd (false≢true (sym (rw t at e))))
    (λ other. let t = ne_eqb y x other in let c = times_other x y ys other in let rest = none_times x ys (rw t at e) in omega (arith, c, rest))
    (cases_eq y x)

-- at least once, and at least twice
pub once_least : (x : ℕ) (xs : List ℕ) (i : ℕ) → i < length xs → get_or xs i 0 ≡ x → 1 ≤ count_by (λ z. z == x) xs
once_least x [] i l e = absurd (omega arith)
once_least x (y ∷ ys) zero l e = omega (arith, times_here x y ys e)
once_least x (y ∷ ys) (suc i) l e = omega (arith, once_least x ys i (omega (arith, l)) e, times_next x y ys)

-- who stands at two places stands there twice or more
pub twice_least : (x : ℕ) (xs : List ℕ) (i j : ℕ) → i < j → j < length xs → get_or xs i 0 ≡ x → get_or xs j 0 ≡ x → 2 ≤ count_by (λ z. z == x) xs
twice_least x [] i j i_j l a b = absurd (omega arith)
twice_least x (y ∷ ys) i zero i_j l a b = absurd (omega arith)
twice_least x (y ∷ ys) zero (suc j) i_j l a b = omega (arith, times_here x y ys a, once_least x ys j (omega (arith, l)) b)
twice_least x (y ∷ ys) (suc i) (suc j) i_j l a b = omega (arith, twice_least x ys i j (omega (arith, i_j)) (omega (arith, l)) a b, times_next x y ys)

-- a person that stands among some stands at a place
pub record StandsAt (x : ℕ) (xs : List ℕ) : Type 0 where
  pub at : ℕ
  pub on_list : at < length xs
  pub is : get_or xs at 0 ≡ x

-- one that is contained has a place
pub stands_at : (x : ℕ) (xs : List ℕ) → Contains xs x → StandsAt x xs
stands_at x xs c = record { at = c.0; on_list = c.1; is = get_or_default xs c.0 0 x c.1 ∙ c.2 }

-- who stands at a place is among them
pub is_among-get_or : (xs : List ℕ) (i : ℕ) → i < length xs → is_among (get_or xs i 0) xs ≡ true
is_among-get_or xs i l = among_of xs (get_or xs i 0) (i, l, get_or_default xs i (get_or xs i 0) 0 l)

-- who stands at none isn't
pub is_among-none : (x : ℕ) (xs : List ℕ) → ((i : ℕ) → i < length xs → get_or xs i 0 ≢ x) → is_among x xs ≡ false
is_among-none x xs none = go (is_among x xs) refl
  where
    go : (b : Bool) → is_among x xs ≡ b → b ≡ false
    go false e = refl
    go true e = let s = stands_at x xs (of_among xs x e) in absurd (none s.at s.on_list s.is)

-- once, where no two are the same
pub once : (x : ℕ) (xs : List ℕ) → ((i j : ℕ) → i < j → j < length xs → get_or xs i 0 ≢ get_or xs j 0) → is_among x xs ≡ true → count_by (λ z. z == x) xs ≡ 1
once x [] apart c = absurd (false≢true c)
once x (y ∷ ys) apart c = ⊎_elim
    (λ (is : y ≡ x). omega (
      arith,
      times_here x y ys is,
      none_times x ys (is_among-none x ys (λ i l e. apart 0 (suc i) (omega arith) (omega (arith, l)) (is ∙ sym e))),
    ))
    (λ other. let t = ne_eqb y x other in omega (
      arith,
      times_other x y ys other,
      once x ys (λ i j i_j l. apart (suc i) (suc j) (omega (arith, i_j)) (omega (arith, l))) (rw t at c),
    ))
    (cases_eq y x)

-- The members of one more party.

or_false : (b : Bool) → (b || false) ≡ b
or_false true = refl
or_false false = refl

-- how often a person is among the members with one more party
pub times_more : (parties : List (List ℕ)) (party : List ℕ) (x : ℕ) → count_by (λ z. z == x) (members_of (parties ++ party ∷ [])) ≡ count_by (λ z. z == x) (members_of parties) + count_by (λ z. z == x) party
times_more parties party x =
    let f : ℕ → ℕ = λ z. cond (eqb z x) 1 0 in
    let all = ap (sum_by f) (flat_map-append (λ (p : List ℕ). p) parties (party ∷ [])) ∙ sum_by-append f (members_of parties) (party ++ []) in
    let last = sum_by-append f party [] in
    omega arith

-- a person is among the members with one more party where it is among the others or in that one
pub is_among-members_push : (parties : List (List ℕ)) (party : List ℕ) (z : ℕ) → is_among z (members_of (parties ++ party ∷ [])) ≡ (is_among z (members_of parties) || is_among z party)
is_among-members_push parties party z =
    ap (is_among z) (flat_map-append (λ (p : List ℕ). p) parties (party ∷ []))
    ∙ list_any-append (λ y. y == z) (members_of parties) (party ++ [])
    ∙ ap (λ b. is_among z (members_of parties) || b) (list_any-append (λ y. y == z) party [] ∙ or_false (is_among z party))

-- a party is new whose members are apart and stand in none of these
pub new_where : (parties : List (List ℕ)) (party : List ℕ) → ((i j : ℕ) → i < j → j < length party → get_or party i 0 ≢ get_or party j 0)
    → ((j : ℕ) → j < length party → is_among (get_or party j 0) (members_of parties) ≡ false) → AreNew parties party
new_where parties party apart not_before x c =
    let s = stands_at x party c in
    let all = times_more parties party x in
    let before = none_times x (members_of parties) (ap (λ z. is_among z (members_of parties)) (sym s.is) ∙ not_before s.at s.on_list) in
    let now = once x party apart (among_of party x c) in
    omega arith

-- a party of a member is found
found_in : (parties : List (List ℕ)) (z : ℕ) → is_some (find (is_among z) parties) ≡ is_among z (members_of parties)
found_in [] z = refl
found_in (p ∷ ps) z = go (is_among z p) (found_in ps z) ∙ sym (list_any-append (λ y. y == z) p (members_of ps))
  where
    go : (t : Bool) → is_some (find (is_among z) ps) ≡ is_among z (members_of ps) → is_some (cond t (Some p) (find (is_among z) ps)) ≡ (t || is_among z (members_of ps))
    go true e = refl
    go false e = e

none_found : (o : Option (List ℕ)) → is_some o ≡ false → o ≡ None
none_found None e = refl
none_found (Some p) e = absurd (false≢true (sym e))

-- who follows a member of one more party, and anybody else
pub next_of-push_there : (parties : List (List ℕ)) (party : List ℕ) (z : ℕ) → is_among z (members_of parties) ≡ false → is_among z party ≡ true → next_of (parties ++ party ∷ []) z ≡ next_in_party z party
next_of-push_there parties party z not_before now =
    ap (λ (o : Option (List ℕ)). option_map_or (next_in_party z) o z)
    (find-append (is_among z) parties (party ∷ [])
    ∙ ap (λ (o : Option (List ℕ)). option_or o (cond (is_among z party) (Some party) None)) (none_found (find (is_among z) parties) (found_in parties z ∙ not_before))
    ∙ ap (λ b. cond b (Some party) None) now)

-- nobody else has another follower
pub next_of-push_other : (parties : List (List ℕ)) (party : List ℕ) (z : ℕ) → is_among z party ≡ false → next_of (parties ++ party ∷ []) z ≡ next_of parties z
next_of-push_other parties party z none =
    ap (λ (o : Option (List ℕ)). option_map_or (next_in_party z) o z)
    (find-append (is_among z) parties (party ∷ []) ∙ ap (λ b. option_or (find (is_among z) parties) (cond b (Some party) None)) none ∙ or_none (find (is_among z) parties))
  where
    or_none : (o : Option (List ℕ)) → option_or o None ≡ o
    or_none None = refl
    or_none (Some p) = refl

-- the member at a place is followed by the next one, and the last by the first
pub next_in_party-get_or : (party : List ℕ) → ((i j : ℕ) → i < j → j < length party → get_or party i 0 ≢ get_or party j 0) → (j : ℕ) → j < length party → next_in_party (get_or party j 0) party ≡ follower party j
next_in_party-get_or party apart j l =
    ap (λ i. if i + 1 == length party then get_or party 0 0 else get_or party (i + 1) 0) (place_on_is party (get_or party j 0) j l refl (λ k lower. apart k j lower l))
    ∙ by_last (eqb (j + 1) (length party))
  where
    by_last : (t : Bool) → cond t (get_or party 0 0) (get_or party (j + 1) 0) ≡ get_or party (cond t 0 (j + 1)) 0
    by_last true = refl
    by_last false = refl

follower_there : (party : List ℕ) (n j : ℕ) → ((i : ℕ) → i < length party → get_or party i 0 < n) → j < length party → follower party j < n
follower_there party n j within l = ⊎_elim
    (λ (e : j + 1 ≡ length party). let t = eq-eqb (j + 1) (length party) e in rw t (within 0 (omega arith)))
    (λ other. let t = ne_eqb (j + 1) (length party) other in rw t (within (j + 1) (omega arith)))
    (cases_eq (j + 1) (length party))

-- One more party.
module _ {n : ℕ} {parties : List (List ℕ)} {next : List ℕ} {met : List Bool} {odd : Bool} (k : ArePartiesHeld n parties next met odd) (party : List ℕ) (within : (j : ℕ) → j < length party → get_or party j 0 < n) where
  module _ {next' : List ℕ} {met' : List Bool} {odd' : Bool} (m : AreMet party met (length party) met') (l : AreLinked party next (length party) next') (o : IsTrue odd' ↔ (IsTrue odd ⊎ IsOdd (length party))) where
    -- a member of it stood in none before
    not_before : (j : ℕ) → j < length party → is_among (get_or party j 0) (members_of parties) ≡ false
    not_before j on = sym (k.stand (get_or party j 0) (within j on)) ∙ m.fresh j on

    next_now : (z : ℕ) → z < n → (b : Bool) → is_among z party ≡ b → (get_or next' z 0 ≡ next_of (parties ++ party ∷ []) z) × (get_or next' z 0 < n)
    next_now z inside true e =
        let s = stands_at z party (of_among party z e) in
        let to = ap (λ y. get_or next' y 0) (sym s.is) ∙ l.told s.at s.on_list in
        let not_old = ap (λ y. is_among y (members_of parties)) (sym s.is) ∙ not_before s.at s.on_list in
        let there = follower_there party n s.at within s.on_list in (
          to ∙ sym (next_of-push_there parties party z not_old e ∙ ap (λ y. next_in_party y party) (sym s.is) ∙ next_in_party-get_or party m.distinct s.at s.on_list),
          rw to there,
        )
    next_now z inside false e =
        let to = l.kept z (λ j on is. false≢true (sym e ∙ ap (λ y. is_among y party) (sym is) ∙ is_among-get_or party j on)) in
        let there = k.in_range z inside in (to ∙ k.nexts z inside ∙ sym (next_of-push_other parties party z e), rw to there)

    stand_now : (z : ℕ) → z < n → is_met met' z ≡ is_among z (members_of (parties ++ party ∷ []))
    stand_now z inside = same_bool (is_met met' z) (is_among z (members_of (parties ++ party ∷ [])))
        (λ now. is_among-members_push parties party z ∙ elim (m.only z now) [
          | inl had ↦ or_left (is_among z (members_of parties)) (is_among z party) (sym (k.stand z inside) ∙ had)
          | inr w ↦ or_right (is_among z (members_of parties)) (is_among z party) (ap (λ y. is_among y party) (sym w.2) ∙ is_among-get_or party w.0 w.1)
        ])
        (λ now. elim (or_cases (is_among z (members_of parties)) (is_among z party) (sym (is_among-members_push parties party z) ∙ now)) [
          | inl had ↦ m.kept z (k.stand z inside ∙ had)
          | inr e ↦ let s = stands_at z party (of_among party z e) in ap (is_met met') (sym s.is) ∙ m.told s.at s.on_list
        ])

    odd_now : IsTrue odd' ↔ HasOddParty (parties ++ party ∷ [])
    odd_now = (
      λ t. elim (o.0 t) [
        | inl had ↦ let h = k.has_odd.0 had in record { party = h.party; there = Contains-append_left parties (party ∷ []) h.party h.there; half = h.half; three = h.three; odd = h.odd }
        | inr now ↦ record { party = party; there = Contains-append_right parties (party ∷ []) party (0, omega arith, refl); half = now.half; three = now.three; odd = now.odd }
      ],
      λ h. o.1 (elim (Contains-append_cases parties (party ∷ []) h.party h.there) [
        | inl had ↦ inl (k.has_odd.1 (record { party = h.party; there = had; half = h.half; three = h.three; odd = h.odd }))
        | inr now ↦ inr (record { half = h.half; three = h.three; odd = ap length (only_one h.party now) ∙ h.odd })
      ]),
    )
      where
        only_one : (q : List ℕ) → Contains (party ∷ []) q → party ≡ q
        only_one q (zero, i, e) = e
        only_one q (suc i, a, e) = absurd (omega arith)

    -- so it may stand behind these, and is kept
    pub parted : HasParted parties party n next' met' odd'
    parted = record {
      fresh = new_where parties party m.distinct not_before;
      held = record {
        next_each = l.one_each ∙ k.next_each;
        met_each = m.one_each ∙ k.met_each;
        in_range = λ z inside. (next_now z inside (is_among z party) refl).1;
        nexts = λ z inside. (next_now z inside (is_among z party) refl).0;
        stand = stand_now;
        has_odd = odd_now;
      };
    }

  -- a member of it stood before
  pub not_new : HasRepeatedPerson party met → ¬ AreNew parties party
  not_new r new =
      let x = get_or party r.at 0 in
      let here : Contains party x = (r.at, r.on_list, get_or_default party r.at x 0 r.on_list) in
      let one = new x here in
      let all = times_more parties party x in
      elim r.before [
        | inl had ↦
            let s = stands_at x (members_of parties) (of_among (members_of parties) x (sym (k.stand x (within r.at r.on_list)) ∙ had)) in
            let before = once_least x (members_of parties) s.at s.on_list s.is in
            let now = once_least x party r.at r.on_list refl in
            omega arith
        | inr w ↦ let now = twice_least x party w.0 r.at w.1 r.on_list w.2 refl in omega arith
      ]

-- the same where what is kept is written otherwise
pub parted_back : {parties : List (List ℕ)} {party : List ℕ} {n : ℕ} {next next' : List ℕ} {met met' : List Bool} {odd : Bool} → next' ≡ next → met' ≡ met
    → HasParted parties party n next met odd → HasParted parties party n next' met' odd
parted_back {parties} {party} {n} {next} {next'} {met} {met'} {odd} a b h =
    subst (λ (m : List Bool). HasParted parties party n next' m odd) (sym b) (subst (λ (l : List ℕ). HasParted parties party n l met odd) (sym a) h)

-- no party so far
pub none_parted : {n : ℕ} (next : List ℕ) (met : List Bool) → length next ≡ n → ((z : ℕ) → z < n → get_or next z 0 ≡ z) → met ≡ replicate n false → ArePartiesHeld n [] next met false
none_parted {n} next met long own is = record {
  next_each = long;
  met_each = ap length is ∙ length-replicate n false;
  in_range = λ z inside. let e = own z inside in omega arith;
  nexts = λ z inside. own z inside;
  stand = λ z inside. ap (λ (m : List Bool). is_met m z) is ∙ get_or-replicate n z false false inside;
  has_odd = (λ t. absurd (false≢true t), λ h. absurd (let l = h.there.1 in omega arith));
}

-- at the end
module _ {rows parties : List (List ℕ)} {next : List ℕ} {met : List Bool} {odd : Bool} (k : ArePartiesHeld (length rows) parties next met odd) (persons : List AgentData) (is : rows ≡ lists_of persons) where
  long : length rows ≡ length persons
  long = ap (λ (r : List (List ℕ)). length r) is ∙ length-map persons (λ (person : AgentData). person.entries)

  same_nexts : next ≡ nexts_of persons parties
  same_nexts = fill_by_all (next_of parties) next (length persons) 0 (k.next_each ∙ long) (λ z inside. k.nexts z (omega (arith, long, inside)))

  stable_said : IsStablePartition rows next → IsStablePartition (lists_of persons) (nexts_of persons parties)
  stable_said s = subst (λ (r : List (List ℕ)). IsStablePartition r (nexts_of persons parties)) is (subst (IsStablePartition rows) same_nexts s)

  said_stable : IsStablePartition (lists_of persons) (nexts_of persons parties) → IsStablePartition rows next
  said_stable s = subst (IsStablePartition rows) (sym same_nexts) (subst (λ (r : List (List ℕ)). IsStablePartition r (nexts_of persons parties)) (sym is) s)

  are_whole : ((z : ℕ) → z < length met → is_met met z ≡ true) → IsStablePartition rows next → IsWholePartition persons parties
  are_whole all s = record {
    all = λ z inside.
        let there : z < length rows = omega (arith, long, inside) in
        of_among (members_of parties) z (sym (k.stand z there) ∙ all z (omega (arith, k.met_each, there)));
    partition = stable_said s;
  }

  not_whole : ¬ IsWholePartition persons parties → IsFirstThere (PartiesHold persons parties LineData.End) reason.NotPartition
  not_whole none = record { clauses_before = before; fails = λ h. none (h.1 refl) }
    where
      before : (other : Reason) → number_of_reason other < 24 → PartiesHold persons parties LineData.End other
      before reason.NotPartition l = absurd (omega arith)
      before reason.NoOddParty l = absurd (omega arith)
      before _ l = tt

  -- where somebody wasn't met, the parties are no partition of all persons
  pub not_all_met : ¬ ((z : ℕ) → z < length met → is_met met z ≡ true) → IsFirstThere (PartiesHold persons parties LineData.End) reason.NotPartition
  not_all_met none = not_whole (λ w. none (λ z inside.
      let there : z < length rows = omega (arith, k.met_each, inside) in
      k.stand z there ∙ among_of (members_of parties) z (w.all z (omega (arith, long, there)))))

  -- where the partition isn't stable, the first clause fails
  pub not_stable : ¬ IsStablePartition rows next → IsFirstThere (PartiesHold persons parties LineData.End) reason.NotPartition
  not_stable none = not_whole (λ w. none (said_stable w.partition))

  -- where it is, and no party is odd, the second clause fails
  pub not_odd : ((z : ℕ) → z < length met → is_met met z ≡ true) → IsStablePartition rows next → odd ≡ false → IsFirstThere (PartiesHold persons parties LineData.End) reason.NoOddParty
  not_odd all s e = record { clauses_before = before; fails = λ h. false≢true (sym e ∙ k.has_odd.1 (h refl)) }
    where
      before : (other : Reason) → number_of_reason other < 25 → PartiesHold persons parties LineData.End other
      before reason.NotPartition l = (tt, λ _. are_whole all s)
      before reason.NoOddParty l = absurd (omega arith)
      before _ l = tt

  -- where one is odd, all clauses hold
  pub all_hold : ((z : ℕ) → z < length met → is_met met z ≡ true) → IsStablePartition rows next → odd ≡ true → (why : Reason) → PartiesHold persons parties LineData.End why
  all_hold all s e reason.NotPartition = (tt, λ _. are_whole all s)
  all_hold all s e reason.NoOddParty = λ _. k.has_odd.0 e
  all_hold all s e _ = tt

-- at a line with a party
pub party_holds : (persons : List AgentData) (parties : List (List ℕ)) (party : List ℕ) → AreNew parties party → (why : Reason) → PartiesHold persons parties (LineData.Party party) why
party_holds persons parties party new reason.NotPartition = (new, λ e. absurd (false≢true e))
party_holds persons parties party new reason.NoOddParty = λ e. absurd (false≢true e)
party_holds persons parties party new _ = tt

-- where the party isn't new, it can't be part of a partition
pub party_fails : (persons : List AgentData) (parties : List (List ℕ)) (party : List ℕ) → ¬ AreNew parties party → IsFirstThere (PartiesHold persons parties (LineData.Party party)) reason.NotPartition
party_fails persons parties party none = record { clauses_before = before; fails = λ h. none h.0 }
  where
    before : (other : Reason) → number_of_reason other < 24 → PartiesHold persons parties (LineData.Party party) other
    before reason.NotPartition l = absurd (omega arith)
    before reason.NoOddParty l = absurd (omega arith)
    before _ l = tt

-- at any other line but the closing one nothing is tried
pub others_hold : (persons : List AgentData) (parties : List (List ℕ)) (line : Line) → ((party : Vec ℕ Global) → line ≢ Line.Party party) → line ≢ Line.End → (why : Reason) → PartiesHold persons parties (line_of line) why
others_hold persons parties (Line.Party party) a b why = absurd (a party refl)
others_hold persons parties Line.End a b why = absurd (b refl)
others_hold persons parties _ a b reason.NotPartition = (tt, λ e. absurd (false≢true e))
others_hold persons parties _ a b reason.NoOddParty = λ e. absurd (false≢true e)
others_hold persons parties _ a b _ = tt

-- such a line says no party
pub nothing_said : (line : Line) → ((party : Vec ℕ Global) → line ≢ Line.Party party) → party_in (line_of line) ≡ None
nothing_said (Line.Party party) a = absurd (a party refl)
nothing_said _ a = refl

-- what is kept behind one more line
pub kept_more : {persons : List AgentData} {rows : List (List ℕ)} {next : List ℕ} {met : List Bool} {odd : Bool} (above : List LineData) (line : LineData) → rows ≡ lists_of persons
    → ArePartiesHeld (length rows) (parties_in above ++ parties_in (line ∷ [])) next met odd → ArePartiesKept persons rows (above ++ line ∷ []) next met odd
kept_more {persons} {rows} {next} {met} {odd} above line is h = record {
  lists = is;
  held = subst (λ (parties : List (List ℕ)). ArePartiesHeld (length rows) parties next met odd) (sym (filter_map-append party_in above (line ∷ []))) h;
}

-- and behind a line without a party
pub kept_same : {persons : List AgentData} {rows : List (List ℕ)} {next : List ℕ} {met : List Bool} {odd : Bool} (above : List LineData) (line : LineData) → party_in line ≡ None
    → ArePartiesKept persons rows above next met odd → ArePartiesKept persons rows (above ++ line ∷ []) next met odd
kept_same {persons} {rows} {next} {met} {odd} above line none k =
    kept_more above line k.lists (subst (λ (parties : List (List ℕ)). ArePartiesHeld (length rows) parties next met odd)
    (sym (append-nil (parties_in above)) ∙ ap (λ (o : Option (List ℕ)). parties_in above ++ cons_option o []) (sym none)) k.held)
