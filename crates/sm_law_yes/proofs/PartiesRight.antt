-- An answer of `solve` over roommates that gets a yes and says that there is no stable matching is a right one, but for the order of
-- its parties.
use Rattle.std.proofs.Common.{◌≡◌, ◌≢◌, ℕ, zero, suc, ◌+◌, ◌-◌, ◌*◌, ◌<◌, ◌≤◌, ◌==◌, nat_le, inl, inr, arith, refl, sym, ap, ◌∙◌, cond, Bool, true, false, List, [], ◌∷◌, ◌++◌, length, map, get_or, slice_index, Option, Some, None, subst, eq-eqb, ne_eqb}
use Rattle.std.specs.Prelude.{Contains, All, count_by, filter_map}
use Rattle.std.specs.List.{slice_get, list_all, cons_option, range_with_len}
use Rattle.std.specs.Option.{option_map}
use Rattle.std.proofs.lemmas.Bool.{false≢true, cases_eq, cases_lt, leb-true}
use Rattle.std.proofs.lemmas.List.{length-map, get_or_default}
use Rattle.std.proofs.lemmas.List.Folds.{list_all_at}
use Rattle.std.proofs.lemmas.List.Sums.{sum_by-append, sum_by-cons}
use Rattle.std.proofs.lemmas.List.Elements.{All-head, All-tail, All-get_or, Contains-get_or}
use Rattle.std.proofs.lemmas.Option.{same_Some}
use Rattle.sm_agents.specs.Written.{AgentData, lists_of}
use Rattle.sm_instance.specs.declared.inputs.Input.TheVariants.{Room}
use Rattle.sm_lists.specs.Rows.{row}
use Rattle.sm_lists.proofs.BoolLemmas.{first_true, second_true}
use Rattle.sm_theory.specs.Partitions.{successor_in, after, IsInOddParty}
use Rattle.sm_report.specs.Heads.{HeadData}
use Rattle.sm_report.specs.Lines.{LineData}
use Rattle.sm_report.specs.Sound.{IsLineOf, IsOnLeft}
use Rattle.sm_report.specs.declared.keywords.Keyword.TheVariants as keyword
use Rattle.sm_answer.specs.Lines.{line_or_none, lines_from}
use Rattle.sm_answer.proofs.AnswerLemmas.{lines_from-same}
use Rattle.sm_answer_roommates.specs.Parties.{IsParty, IsInSomeParty, AreParties}
use Rattle.sm_answer_roommates.specs.RoomAnswer.{party_line, party_lines, IsUnmatchable}
use Rattle.sm_check_forms.proofs.KeywordLayouts.{is_whole, closing, solve_layout, parties_layout, opening_of}
use Rattle.sm_check_forms.specs.Forms.{fits, begins_with_lowest}
use Rattle.sm_check_forms.specs.declared.layouts.LayoutPart.TheVariants.{Many}
use Rattle.sm_check_clauses.specs.Said.{party_in, parties_in}
use Rattle.sm_check_clauses.specs.Rooming.{members_of}
use Rattle.sm_check_roommates.proofs.PartyLemmas.{once_least, twice_least}
use Rattle.sm_cert.specs.Yes.{AreExcludingParties, NoneYes}
use Rattle.sm_cert.proofs.YesLines.{by_head}
use Rattle.sm_law_yes.specs.Reordered.{IsReordered, IsRightButForOrder}
use Rattle.sm_law_yes.specs.Reordered.IsReordered.{kept}
use Rattle.sm_law_yes.specs.YesIsRight.{PartiesAreRight}
use Rattle.sm_law_yes.proofs.ReorderLemmas.{first_or_rest, here, further, nothing, AreNumbered, AreThose, in_order, reordered_before}
use Rattle.sm_law_yes.proofs.LineGroups.{HaveWord, grouped, closes, ended}

-- Things at numbers, one after another.
module _ {X : Type 0} (at : ℕ → Option X) where
  abbrev those : (a n : ℕ) → List X
  those a n = filter_map at (range_with_len a n)

  record IsAtNumber (a n : ℕ) (x : X) : Type 0 where
    number : ℕ
    least : a ≤ number
    below : number < a + n
    is : at number ≡ Some x

  out_of_those : (a n : ℕ) (x : X) → Contains (those a n) x → IsAtNumber a n x
  out_of_those a zero x c = absurd (let l = c.1 in omega (arith, l))
  out_of_those a (suc n) x c = go (at a) refl c (λ d. out_of_those (a + 1) n x d)
    where
      later : IsAtNumber (a + 1) n x → IsAtNumber a (suc n) x
      later d = record { number = d.number; least = (let l = d.least in omega (arith, l)); below = (let l = d.below in omega (arith, l)); is = d.is }

      go : (o : Option X) → at a ≡ o → Contains (cons_option o (those (a + 1) n)) x → (Contains (those (a + 1) n) x → IsAtNumber (a + 1) n x) → IsAtNumber a (suc n) x
      go None e c deep = later (deep c)
      go (Some y) e c deep = elim (first_or_rest y (those (a + 1) n) x c) [
        | inl same ↦ record { number = a; least = omega arith; below = omega arith; is = e ∙ ap Some same }
        | inr rest ↦ later (deep rest)
      ]

  into_those : (a n k : ℕ) (x : X) → a ≤ k → k < a + n → at k ≡ Some x → Contains (those a n) x
  into_those a zero k x low high is = absurd (omega (arith, low, high))
  into_those a (suc n) k x low high is = elim (cases_eq a k) [
    | inl same ↦ subst (λ (o : Option X). Contains (cons_option o (those (a + 1) n)) x) (sym (ap at same ∙ is)) (here x (those (a + 1) n))
    | inr other ↦ go (at a) (into_those (a + 1) n k x (omega (arith, low, other)) (omega (arith, high)) is)
  ]
    where
      go : (o : Option X) → Contains (those (a + 1) n) x → Contains (cons_option o (those (a + 1) n)) x
      go None c = c
      go (Some y) c = further y (those (a + 1) n) x c

  -- their numbers rise
  numbers_rise : (number : X → ℕ) (d : X) → ((k : ℕ) (x : X) → at k ≡ Some x → number x ≡ k) → (a n i j : ℕ) → i < j → j < length (those a n) → number (get_or (those a n) i d) < number (get_or (those a n) j d)
  numbers_rise number d of a zero i j i_j inside = absurd (omega (arith, inside))
  numbers_rise number d of a (suc n) i j i_j inside = go (at a) refl inside (λ p q less there. numbers_rise number d of (a + 1) n p q less there)
    where
      behind : (y : X) → at a ≡ Some y → (i j : ℕ) → i < j → j < length (y ∷ those (a + 1) n) → ((p q : ℕ) → p < q → q < length (those (a + 1) n) → number (get_or (those (a + 1) n) p d) < number (get_or (those (a + 1) n) q d))
          → number (get_or (y ∷ those (a + 1) n) i d) < number (get_or (y ∷ those (a + 1) n) j d)
      behind y e i zero i_j inside deep = absurd (omega (arith, i_j))
      behind y e zero (suc j) i_j inside deep =
          let u = out_of_those (a + 1) n (get_or (those (a + 1) n) j d) (Contains-get_or (those (a + 1) n) j d (omega (arith, inside))) in
          let low = u.least in
          let one = of u.number (get_or (those (a + 1) n) j d) u.is in
          let two = of a y e in
          omega (arith, low, one, two)
      behind y e (suc i) (suc j) i_j inside deep = deep i j (omega (arith, i_j)) (omega (arith, inside))

      go : (o : Option X) → at a ≡ o → j < length (cons_option o (those (a + 1) n)) → ((p q : ℕ) → p < q → q < length (those (a + 1) n) → number (get_or (those (a + 1) n) p d) < number (get_or (those (a + 1) n) q d))
          → number (get_or (cons_option o (those (a + 1) n)) i d) < number (get_or (cons_option o (those (a + 1) n)) j d)
      go None e inside deep = deep i j i_j inside
      go (Some y) e inside deep = behind y e i j i_j inside deep

  -- and their lines
  lines_of_those : (line : X → LineData) (a n : ℕ) → lines_from (λ k. option_map line (at k)) a n ≡ map line (those a n)
  lines_of_those line a zero = refl
  lines_of_those line a (suc n) = go (at a) (lines_of_those line (a + 1) n)
    where
      go : (o : Option X) → lines_from (λ k. option_map line (at k)) (a + 1) n ≡ map line (those (a + 1) n)
          → line_or_none (option_map line o) ++ lines_from (λ k. option_map line (at k)) (a + 1) n ≡ map line (cons_option o (those (a + 1) n))
      go None deep = deep
      go (Some x) deep = ap (λ (ls : List LineData). line x ∷ ls) deep

-- the lines of parties by their numbers
shifted : (f : ℕ → Option LineData) (a n : ℕ) → lines_from f (a + 1) n ≡ lines_from (λ k. f (k + 1)) a n
shifted f a zero = refl
shifted f a (suc n) = ap (λ (ls : List LineData). line_or_none (f (a + 1)) ++ ls) (shifted f (a + 1) n)

lines_of_parties : (parties : List (List ℕ)) → lines_from (party_line parties) 0 (length parties) ≡ map (λ (p : List ℕ). LineData.Party p) parties
lines_of_parties [] = refl
lines_of_parties (p ∷ ps) =
    ap (λ (ls : List LineData). LineData.Party p ∷ ls)
    (shifted (party_line (p ∷ ps)) 0 (length ps)
    ∙ lines_from-same (λ k. party_line (p ∷ ps) (k + 1)) (party_line ps) (λ k. ap (λ (j : ℕ). Some (LineData.Party (row (p ∷ ps) j))) (let e : k + 1 ≡ suc k = omega arith in e)) 0 (length ps)
    ∙ lines_of_parties ps)

-- Members of parties.

-- the first of a party
abbrev head : List ℕ → ℕ
head party = slice_index party 0

abbrev times : ℕ → List ℕ → ℕ
times x xs = count_by (λ (y : ℕ). y == x) xs

times_first : (party : List ℕ) (parties : List (List ℕ)) (x : ℕ) → times x (members_of (party ∷ parties)) ≡ times x party + times x (members_of parties)
times_first party parties x = sum_by-append (λ (y : ℕ). cond (y == x) 1 0) party (members_of parties)

times_within : (parties : List (List ℕ)) (party : List ℕ) (x : ℕ) → Contains parties party → times x party ≤ times x (members_of parties)
times_within [] party x c = absurd (let l = c.1 in omega (arith, l))
times_within (p ∷ ps) party x c = elim (first_or_rest p ps party c) [
  | inl same ↦ let e = ap (times x) same in omega (arith, e, times_first p ps x)
  | inr rest ↦ let deep = times_within ps party x rest in omega (arith, deep, times_first p ps x)
]

-- a party that has a person at a place
record HasPerson (parties : List (List ℕ)) (x : ℕ) : Type 0 where
  party : List ℕ
  there : Contains parties party
  place : ℕ
  on : place < length party
  is : slice_index party place ≡ x

-- an item of a list is at a place
pub record IsPlaced (xs : List ℕ) (x : ℕ) : Type 0 where
  pub place : ℕ
  pub on : place < length xs
  pub is : slice_index xs place ≡ x

-- what is counted is at a place
pub placed_at : (xs : List ℕ) (x : ℕ) → 1 ≤ times x xs → IsPlaced xs x
placed_at [] x some = absurd (omega (arith, some))
placed_at (y ∷ ys) x some = elim (cases_eq y x) [
  | inl same ↦ record { place = 0; on = omega arith; is = same }
  | inr other ↦
      let none = ap {B = ℕ} (λ t. cond t 1 0) (ne_eqb y x other) in
      let more = sum_by-cons (λ (z : ℕ). cond (z == x) 1 0) y ys in
      let deep = placed_at ys x (omega (arith, some, none, more)) in
      record { place = suc deep.place; on = (let l = deep.on in omega (arith, l)); is = deep.is }
]

has_person : (parties : List (List ℕ)) (x : ℕ) → 1 ≤ times x (members_of parties) → HasPerson parties x
has_person [] x some = absurd (omega (arith, some))
has_person (p ∷ ps) x some = elim (cases_lt 0 (times x p)) [
  | inl in_first ↦ let d = placed_at p x (omega (arith, in_first)) in record { party = p; there = here p ps; place = d.place; on = d.on; is = d.is }
  | inr none ↦
      let deep = has_person ps x (omega (arith, some, none, times_first p ps x)) in
      record { party = deep.party; there = further p ps deep.party deep.there; place = deep.place; on = deep.on; is = deep.is }
]

-- the party with a first person, if there is one
abbrev party_at : List (List ℕ) → ℕ → Option (List ℕ)
party_at [] x = None
party_at (p ∷ ps) x = cond (head p == x) (Some p) (party_at ps x)

party_found : (parties : List (List ℕ)) (x : ℕ) (party : List ℕ) → party_at parties x ≡ Some party → Contains parties party × (head party ≡ x)
party_found [] x party e = absurd (nothing e)
party_found (p ∷ ps) x party e = elim (cases_eq (head p) x) [
  | inl same ↦
      let is : p ≡ party = same_Some _ _ (sym (ap (λ t. cond t (Some p) (party_at ps x)) (eq-eqb (head p) x same)) ∙ e) in
      (subst (Contains (p ∷ ps)) is (here p ps), ap head (sym is) ∙ same)
  | inr other ↦
      let deep = party_found ps x party (sym (ap (λ t. cond t (Some p) (party_at ps x)) (ne_eqb (head p) x other)) ∙ e) in
      (further p ps party deep.0, deep.1)
]

party_own : (parties : List (List ℕ)) → AreNumbered head parties → (party : List ℕ) → Contains parties party → party_at parties (head party) ≡ Some party
party_own [] h party c = absurd (let l = c.1 in omega (arith, l))
party_own (p ∷ ps) h party c = elim (first_or_rest p ps party c) [
  | inl same ↦ ap (λ t. cond t (Some p) (party_at ps (head party))) (eq-eqb (head p) (head party) (ap head same)) ∙ ap Some same
  | inr rest ↦ ap (λ t. cond t (Some p) (party_at ps (head party))) (ne_eqb (head p) (head party) (λ e. h.0 party rest (sym e))) ∙ party_own ps h.1 party rest
]

-- What lines of parties are.

record IsOwnParty (persons : List AgentData) (party : List ℕ) : Type 0 where
  lowest : begins_with_lowest party ≡ true
  there : All (IsOnLeft (Room persons)) party

own_parties : (persons : List AgentData) (lines : List LineData) → All (IsLineOf (Room persons)) lines → list_all (fits (Room persons)) lines ≡ true → (party : List ℕ) → Contains (parties_in lines) party → IsOwnParty persons party
own_parties persons [] right fit party c = absurd (let l = c.1 in omega (arith, l))
own_parties persons (LineData.Party p ∷ xs) right fit party c =
    let own = All-head (IsLineOf (Room persons)) (LineData.Party p) xs right in
    elim (first_or_rest p (parties_in xs) party c) [
      | inl same ↦ subst (IsOwnParty persons) same (record { lowest = first_true (begins_with_lowest p) (list_all (fits (Room persons)) xs) fit; there = own.printable })
      | inr rest ↦ own_parties persons xs (All-tail (IsLineOf (Room persons)) (LineData.Party p) xs right) (second_true (begins_with_lowest p) (list_all (fits (Room persons)) xs) fit) party rest
    ]
own_parties persons (x ∷ xs) right fit party c =
    own_parties persons xs (All-tail (IsLineOf (Room persons)) x xs right) (second_true (fits (Room persons) x) (list_all (fits (Room persons)) xs) fit) party c

some_member : (party : List ℕ) → begins_with_lowest party ≡ true → 0 < length party
some_member [] e = absurd (false≢true e)
some_member (x ∷ xs) e = omega arith

lowest_first : (party : List ℕ) → begins_with_lowest party ≡ true → (i : ℕ) → 0 < i → i < length party → head party ≤ slice_index party i
lowest_first [] e i some inside = absurd (false≢true e)
lowest_first (x ∷ xs) e zero some inside = absurd (omega (arith, some))
lowest_first (x ∷ xs) e (suc i) some inside = leb-true x (get_or xs i 0) (passes (nat_le x (get_or xs i 0)) refl)
  where
    passes : (t : Bool) → nat_le x (get_or xs i 0) ≡ t → t ≡ true
    passes true p = refl
    passes false p = absurd (false≢true (sym (list_all_at (nat_le x) xs i 0 (omega (arith, inside)) p) ∙ e))

-- The parties in the order of their first members.
module _ (persons : List AgentData) (parties : List (List ℕ)) (x : AreExcludingParties persons parties) (own : (party : List ℕ) → Contains parties party → IsOwnParty persons party) where
  abbrev n : ℕ
  n = length persons

  member_there : (party : List ℕ) → Contains parties party → (i : ℕ) → i < length party → slice_index party i < n
  member_there party c i inside = let o = own party c in All-get_or (IsOnLeft (Room persons)) party i 0 inside o.there

  apart : (party : List ℕ) → Contains parties party → (i j : ℕ) → i < j → j < length party → slice_index party i ≢ slice_index party j
  apart party c i j i_j inside e =
      let two = twice_least (slice_index party j) party i j i_j inside e refl in
      let most = times_within parties party (slice_index party j) c in
      let one = x.once (slice_index party j) (member_there party c j inside) in
      omega (arith, two, most, one)

  heads_apart : (ps : List (List ℕ)) → ((z : ℕ) → z < n → times z (members_of ps) ≤ 1) → ((party : List ℕ) → Contains ps party → Contains parties party) → AreNumbered head ps
  heads_apart [] most within = tt
  heads_apart (p ∷ ps) most within = (
    λ q c e.
        let there = within q (further p ps q c) in
        let some = (let o = own q there in some_member q o.lowest) in
        let none = (let o = own p (within p (here p ps)) in some_member p o.lowest) in
        let one = once_least (head q) p 0 none (sym e) in
        let other = once_least (head q) q 0 some refl in
        let again = times_within ps q (head q) c in
        let all = most (head q) (member_there q there 0 some) in
        omega (arith, one, other, again, all, times_first p ps (head q)),
    heads_apart ps (λ z less. let all = most z less in omega (arith, all, times_first p ps z)) (λ q c. within q (further p ps q c)),
  )

  numbered : AreNumbered head parties
  numbered = heads_apart parties (λ z less. let one = x.once z less in omega (arith, one)) (λ q c. c)

  abbrev sorted : List (List ℕ)
  sorted = those (party_at parties) 0 n

  head_is : (k : ℕ) (party : List ℕ) → party_at parties k ≡ Some party → head party ≡ k
  head_is k party e = (party_found parties k party e).1

  those_parties : AreThose head (party_at parties) 0 n parties
  those_parties = record {
    each = λ party c.
        let some = (let o = own party c in some_member party o.lowest) in
        let less = member_there party c 0 some in
        (party_own parties numbered party c, omega arith, omega (arith, less));
    once = numbered;
    all = λ k party low high e. (party_found parties k party e).0;
  }

  parties_in_order : IsReordered (map (λ (p : List ℕ). LineData.Party p) parties) (lines_from (party_line sorted) 0 (length sorted))
  parties_in_order =
      subst (IsReordered (map (λ (p : List ℕ). LineData.Party p) parties)) (lines_of_those (party_at parties) (λ (p : List ℕ). LineData.Party p) 0 n ∙ sym (lines_of_parties sorted))
      (in_order (λ (p : List ℕ). LineData.Party p) (λ p q. refl) (λ p. refl) head (party_at parties) head_is 0 n parties those_parties)

  in_sorted : (k : ℕ) → k < length sorted → Contains parties (row sorted k)
  in_sorted k inside =
      let u = out_of_those (party_at parties) 0 n (row sorted k) (Contains-get_or sorted k [] inside) in
      (party_found parties u.number (row sorted k) u.is).0

  is_party : (party : List ℕ) → Contains parties party → IsParty x.next party
  is_party party c =
      let o = own party c in
      let some = some_member party o.lowest in
      record {
        some = some;
        inside = λ i inside.
            let less = member_there party c i inside in
            let long = (let p = x.partition in p.one_each) in
            let count = length-map persons (λ (person : AgentData). person.entries) in
            omega (arith, less, long, count);
        lowest = λ i more inside.
            let le = lowest_first party o.lowest i more inside in
            let other = apart party c 0 i more inside in
            omega (arith, le, other);
        along = λ i inside.
            sym (x.along party c i (omega (arith, inside)) ∙ ap (λ t. slice_index party (cond t 0 (i + 1))) (ne_eqb (i + 1) (length party) (λ e. omega (arith, e, inside))));
        returns =
            x.along party c (length party - 1) (omega (arith, some)) ∙ ap (λ t. slice_index party (cond t 0 (length party - 1 + 1))) (eq-eqb (length party - 1 + 1) (length party) (omega (arith, some)));
      }

  -- a person at a place of a party
  in_party : (z : ℕ) (party : List ℕ) (place : ℕ) → place < length party → slice_index party place ≡ z → Contains sorted party → IsInSomeParty sorted z
  in_party z party place on is c =
      let same : row sorted c.0 ≡ party = get_or_default sorted c.0 [] party c.1 ∙ c.2 in
      record {
        party = c.0;
        at = place;
        on_list = (let e = ap (λ (p : List ℕ). length p) same in omega (arith, on, e));
        is = ap (λ (p : List ℕ). slice_index p place) same ∙ is;
      }

  are_parties : AreParties x.next sorted
  are_parties = record {
    each = λ k inside. is_party (row sorted k) (in_sorted k inside);
    rising = λ j k j_k inside. numbers_rise (party_at parties) head [] head_is 0 n j k j_k inside;
    all = λ z less.
        let long = (let p = x.partition in p.one_each) in
        let count = length-map persons (λ (person : AgentData). person.entries) in
        let inside : z < n = omega (arith, less, long, count) in
        let one = x.once z inside in
        let d = has_person parties z (omega (arith, one)) in
        let some = (let o = own d.party d.there in some_member d.party o.lowest) in
        let first = member_there d.party d.there 0 some in
        in_party z d.party d.place d.on d.is (into_those (party_at parties) 0 n (head d.party) d.party (omega arith) (omega (arith, first)) (party_own parties numbered d.party d.there));
  }

  -- the odd party
  module _ (party : List ℕ) (c : Contains parties party) where
    steps : (j : ℕ) → j < length party → after x.next (head party) j ≡ slice_index party j
    steps zero inside = refl
    steps (suc j) inside =
        let before : j < length party = omega (arith, inside) in
        ap (successor_in x.next) (steps j before) ∙ x.along party c j before
        ∙ ap (λ t. slice_index party (cond t 0 (j + 1))) (ne_eqb (j + 1) (length party) (λ e. omega (arith, e, inside)))
        ∙ ap (slice_index party) (let e : j + 1 ≡ suc j = omega arith in e)

    in_odd : (half : ℕ) → 0 < half → length party ≡ 2 * half + 1 → IsInOddParty (lists_of persons) x.next (head party)
    in_odd half three odd = record {
      in_range = (let first = member_there party c 0 (omega (arith, odd)) in let count = length-map persons (λ (person : AgentData). person.entries) in omega (arith, first, count));
      half = half;
      three = three;
      returns =
          ap (after x.next (head party)) (let e : 2 * half + 1 ≡ suc (2 * half) = omega arith in e)
          ∙ ap (successor_in x.next) (steps (2 * half) (omega (arith, odd))) ∙ x.along party c (2 * half) (omega (arith, odd))
          ∙ ap (λ t. slice_index party (cond t 0 (2 * half + 1))) (eq-eqb (2 * half + 1) (length party) (sym odd));
      first = λ j some less e. apart party c 0 j some (omega (arith, odd, less)) (sym e ∙ steps j (omega (arith, odd, less)));
    }

-- Lines.

-- lines that begin with `none` are a whole answer by the layout of parties
none_said : (rest : List LineData) → slice_get rest 0 ≡ Some LineData.Nothing → is_whole (solve_layout ∷ parties_layout ∷ []) (map opening_of rest) ≡ true
    → (xs : List LineData) × (rest ≡ LineData.Nothing ∷ xs) × (is_whole ((Many keyword.Party ∷ closing) ∷ []) (map opening_of xs) ≡ true)
none_said [] none placed = absurd (nothing none)
none_said (LineData.Nothing ∷ xs) none placed = (xs, refl, placed)
none_said (x ∷ xs) none placed = absurd (false≢true (ap begins_nothing (same_Some _ _ none)))
  where
    begins_nothing : LineData → Bool
    begins_nothing LineData.Nothing = true
    begins_nothing _ = false

parties_written : (lines : List LineData) → HaveWord keyword.Party lines → lines ≡ map (λ (p : List ℕ). LineData.Party p) (parties_in lines)
parties_written [] h = refl
parties_written (LineData.Party p ∷ ys) h = ap (λ (ls : List LineData). LineData.Party p ∷ ls) (parties_written ys h.1)
parties_written (_ ∷ ys) h = absurd (false≢true h.0)

behind_head : (persons : List AgentData) (rest : List LineData) → slice_get rest 0 ≡ Some LineData.Nothing → is_whole (solve_layout ∷ parties_layout ∷ []) (map opening_of rest) ≡ true
    → AreExcludingParties persons (parties_in rest) → ((party : List ℕ) → Contains (parties_in rest) party → IsOwnParty persons party)
    → IsRightButForOrder (IsUnmatchable persons) (LineData.Answer (HeadData.Solve None) ∷ rest)
behind_head persons rest none placed x own =
    let t = none_said rest none placed in
    let g = grouped keyword.Party closing t.0 t.2 in
    let ends = closes g.rest g.whole in
    let said : parties_in rest ≡ parties_in g.group = ap parties_in t.1 ∙ ended party_in g (ap parties_in ends) in
    let is : rest ≡ LineData.Nothing ∷ (map (λ (p : List ℕ). LineData.Party p) (parties_in rest) ++ LineData.End ∷ []) =
    t.1 ∙ ap (λ (ls : List LineData). LineData.Nothing ∷ ls) (g.is ∙ ap (λ (ls : List LineData). g.group ++ ls) ends
    ∙ ap (λ (ls : List LineData). ls ++ LineData.End ∷ []) (parties_written g.group g.words ∙ ap (map (λ (p : List ℕ). LineData.Party p)) (sym said))) in
    let list = sorted persons (parties_in rest) x own in
    let odd = x.odd in
    record {
      answer = party_lines list;
      right = record {
        parties = list;
        excluding = record {
          next = x.next;
          partition = x.partition;
          all = are_parties persons (parties_in rest) x own;
          member = head odd.party;
          odd = in_odd persons (parties_in rest) x own odd.party odd.there odd.half odd.three odd.odd;
          none_stable = x.none;
        };
        shows = refl;
      };
      reordered = kept (LineData.Answer (HeadData.Solve None))
          (subst (λ (ls : List LineData). IsReordered ls (LineData.Nothing ∷ (lines_from (party_line list) 0 (length list) ++ LineData.End ∷ []))) (sym is)
          (kept LineData.Nothing (reordered_before (parties_in_order persons (parties_in rest) x own) (LineData.End ∷ []))));
    }

-- the law of `solve` over roommates, where there is said to be no stable matching
pub parties_are_right : NoneYes → PartiesAreRight
parties_are_right meaning persons lines g none =
    by_head (λ (ls : List LineData). slice_get ls 1 ≡ Some LineData.Nothing → AreExcludingParties persons (parties_in ls) → ((party : List ℕ) → Contains (parties_in ls) party → IsOwnParty persons party)
    → IsRightButForOrder (IsUnmatchable persons) ls) g
    (λ rest placed _ said x own. behind_head persons rest said placed x own) none (meaning persons lines g none) (own_parties persons lines g.answer.right g.answer.fitting)
