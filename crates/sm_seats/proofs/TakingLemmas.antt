-- Seating the proposers of a matching, one reviewer after another and each in its order.
use Rattle.std.proofs.Common.{◌≡◌, ◌≢◌, ℕ, zero, suc, ◌+◌, ◌<◌, ◌≤◌, ◌++◌, ◌==◌, Bool, true, false, List, [], ◌∷◌, Option, Some, None, length, get_or, set, take, replicate, refl, sym, ap, ◌∙◌, subst, arith, inl, inr, ext_get_or}
use Rattle.std.specs.List.{filter}
use Rattle.std.proofs.lemmas.Bool.{cases_lt, cases_eq, false≢true, eq-eqb, cases_Bool}
use Rattle.std.proofs.lemmas.List.{get_or_past, get_or-set_same, get_or-set_other, length-set, length-replicate, get_or-replicate}
use Rattle.std.proofs.lemmas.List.Elements.{filter_more}
use Rattle.sm_lists.specs.Rows.{place_on, row as list_at}
use Rattle.sm_lists.proofs.PlaceLemmas.{get_or-place_on}
use Rattle.sm_agents.specs.Written.{Written, row as written_row, entry as written_entry, lists_of}
use Rattle.sm_agents.specs.Faults.{HasSoundEntries}
use Rattle.sm_instance.specs.Matching.{held, is_at, leads_to, IsAssignment, IsMatching}
use Rattle.sm_instance.proofs.LoadLemmas.{at_place}
use Rattle.sm_market.specs.Lists.{Lists, row, place_of}
use Rattle.sm_seats.specs.Mutual.{mutual_row}
use Rattle.sm_seats.specs.SeatMarket.{seat_count, seats_before, seats_of, seat_market}
use Rattle.sm_seats.specs.Taken.{seated, place_taken, places_taken}
use Rattle.sm_seats.specs.Taking.{AreSeatedBefore, AreSeatedAt, AreFirstSeatedAt}
use Rattle.sm_seats.proofs.FilterLemmas.{AreDistinct}
use Rattle.sm_seats.proofs.MutualLemmas.{mutual_distinct}
use Rattle.sm_seats.proofs.SeatLemmas.{IsSeatOf, one_reviewer, one_number, seat_found, seat_name, row-seat, seat_there, length-reviewers}
use Rattle.sm_seats.proofs.SeatPlaces.{seat_place}
use Rattle.sm_seats.proofs.MarketLaws.{length-proposers}
use Rattle.sm_seats.proofs.LoadLaws.{mutual_at, sits}
use Rattle.sm_seats.proofs.WrittenLemmas.{row-seating}
use Rattle.sm_seats.proofs.TakenLaws.{taken_cases, taken_held, taken_long, below_count}

-- Written lists.

list_same : (w : Written) (lists : List (List ℕ)) → lists ≡ lists_of w.proposers → (q : ℕ) → list_at lists q ≡ written_row w.proposers q
list_same w lists e q = ap (λ (l : List (List ℕ)). list_at l q) e ∙ row-seating w q

-- the place at which a proposer is matched is on its list
pub place_listed : (w : Written) (places : List (Option ℕ)) (lists : List (List ℕ)) → lists ≡ lists_of w.proposers → IsAssignment w places → (q i : ℕ) → held places q ≡ Some i
    → i < length (list_at lists q)
place_listed w places lists e a q i h = let long = ap (λ (l : List ℕ). length l) (list_same w lists e q) in let on = a.on_lists q i h in omega arith

-- One reviewer.

-- whoever is kept of a list without repeats has as many before it as are kept before
pub place_kept : (t : ℕ → Bool) (xs : List ℕ) (j : ℕ) → AreDistinct xs → j < length xs → t (get_or xs j 0) ≡ true → place_on (filter t xs) (get_or xs j 0) ≡ length (filter t (take j xs))
place_kept t [] j d on yes_ = absurd (omega arith)
place_kept t (x ∷ xs) zero d on yes_ =
    let all : filter t (x ∷ xs) ≡ x ∷ filter t xs = rw yes_ refl in
    ap (λ l. place_on l x) all ∙ place_here x (filter t xs)
  where
    place_here : (x : ℕ) (l : List ℕ) → place_on (x ∷ l) x ≡ 0
    place_here x l = (let e : (x == x) ≡ true = eq-eqb x x refl in rw e refl)
place_kept t (x ∷ xs) (suc j) d on yes_ =
    let y = get_or xs j 0 in
    let rest : AreDistinct xs = record { distinct = λ i k less l. d.distinct (suc i) (suc k) (omega arith) (omega arith) } in
    let deep = place_kept t xs j rest (omega arith) yes_ in
    let apart : x ≢ y = d.distinct 0 (suc j) (omega arith) (omega arith) in
    let other : (x == y) ≡ false = Rattle.std.proofs.Common.ne_eqb x y apart in
    elim (cases_Bool (t x)) [
      | inl taken ↦
          let a : filter t (x ∷ xs) ≡ x ∷ filter t xs = rw taken refl in
          let b : filter t (x ∷ take j xs) ≡ x ∷ filter t (take j xs) = rw taken refl in
          let behind : place_on (x ∷ filter t xs) y ≡ place_on (filter t xs) y + 1 = rw other (omega arith) in
          let long = ap (λ (l : List ℕ). length l) b in
          let place = ap (λ (l : List ℕ). place_on l y) a in
          omega arith
      | inr left ↦
          let a : filter t (x ∷ xs) ≡ filter t xs = rw left refl in
          let b : filter t (x ∷ take j xs) ≡ filter t (take j xs) = rw left refl in
          let long = ap (λ (l : List ℕ). length l) b in
          let place = ap (λ (l : List ℕ). place_on l y) a in
          omega arith
    ]

none_held : (n q : ℕ) → held (replicate n None) q ≡ None
none_held n q = elim (cases_lt q n) [
  | inl here ↦ get_or-replicate n q None None here
  | inr past ↦ get_or_past (replicate n None) q None (let long = length-replicate {A = Option ℕ} n None in omega arith)
]

module _ {w : Written} (h : HasSoundEntries w) {places : List (Option ℕ)} (m : IsMatching w places) where
  -- the place that one at r takes, from the place of r's first seat and from how many of r's proposers come before
  pub place_sum : (r j count x : ℕ) → j < length (mutual_row w.reviewers w.proposers r) → is_at w places (get_or (mutual_row w.reviewers w.proposers r) j 0) r ≡ true
      → count ≡ length (filter (λ q. is_at w places q r) (take j (mutual_row w.reviewers w.proposers r)))
      → x ≡ place_of (seat_market w).proposers (get_or (mutual_row w.reviewers w.proposers r) j 0) (seats_before w r) → (i : ℕ)
      → written_entry w.proposers (get_or (mutual_row w.reviewers w.proposers r) j 0) i ≡ r
      → x + count ≡ place_taken w places (get_or (mutual_row w.reviewers w.proposers r) j 0) i
  place_sum r j count x on at counted place i there =
      let q = get_or (mutual_row w.reviewers w.proposers r) j 0 in
      let both = mutual_at h places m.acceptable q r at in
      let k = place_on (seated w places r) q in
      let sit = sits h places m.acceptable q r at in
      let below = below_count h places m r k sit in
      let here = seat_place h {p = q} {r = r} {k = k} both below in
      let first = seat_place h {p = q} {r = r} {k = 0} both (omega arith) in
      let none : seats_before w r + 0 ≡ seats_before w r = omega arith in
      let begin = ap (place_of (seat_market w).proposers q) none in
      let number = place_kept (λ q. is_at w places q r) (mutual_row w.reviewers w.proposers r) j (mutual_distinct h.reviewers w.proposers r) on at in
      let taken : place_taken w places q i ≡ place_of (seat_market w).proposers q (seats_before w r + k) = ap (λ y. place_of (seat_market w).proposers q (seats_before w y + place_on (seated w places y) q)) there in
      omega arith

  -- one that is at r takes the next of its seats
  pub one_seated : {r j count x : ℕ} {before after : List (Option ℕ)} → length before ≡ length w.proposers → AreFirstSeatedAt w places r j count before after → j < length (mutual_row w.reviewers w.proposers r)
      → is_at w places (get_or (mutual_row w.reviewers w.proposers r) j 0) r ≡ true → x ≡ place_of (seat_market w).proposers (get_or (mutual_row w.reviewers w.proposers r) j 0) (seats_before w r)
      → AreFirstSeatedAt w places r (j + 1) (count + 1) before (set after (get_or (mutual_row w.reviewers w.proposers r) j 0) (Some (x + count)))
  one_seated {r} {j} {count} {x} {before} {after} size f on at place = record {
    long = length-set after q (Some (x + count)) ∙ f.long;
    few = (let few = f.few in omega arith);
    counted = counted;
    seated = now;
    others = λ p no_. get_or-set_other after q p (Some (x + count)) None (λ e. false≢true (sym no_ ∙ ap (λ y. is_at w places y r) e ∙ at)) ∙ f.others p no_;
  }
    where
      xs : List ℕ
      xs = mutual_row w.reviewers w.proposers r

      q : ℕ
      q = get_or (mutual_row w.reviewers w.proposers r) j 0

      test : ℕ → Bool
      test = λ q. is_at w places q r

      counted : count + 1 ≡ length (filter (λ q. is_at w places q r) (take (j + 1) (mutual_row w.reviewers w.proposers r)))
      counted =
          let more = filter_more (λ q. is_at w places q r) (mutual_row w.reviewers w.proposers r) j 0 on in
          let cut = ap (λ b. filter (λ q. is_at w places q r) (take j (mutual_row w.reviewers w.proposers r)) ++ Rattle.std.proofs.Common.cond b (get_or (mutual_row w.reviewers w.proposers r) j 0 ∷ []) []) at in
          let long = ap (λ (l : List ℕ). length l) (more ∙ cut) in
          let push = Rattle.std.proofs.lemmas.List.length_push (filter (λ q. is_at w places q r) (take j (mutual_row w.reviewers w.proposers r))) (get_or (mutual_row w.reviewers w.proposers r) j 0) in
          let before = f.counted in
          omega arith

      now : (k i : ℕ) → k < j + 1 → held places (get_or (mutual_row w.reviewers w.proposers r) k 0) ≡ Some i → written_entry w.proposers (get_or (mutual_row w.reviewers w.proposers r) k 0) i ≡ r
          → held (set after (get_or (mutual_row w.reviewers w.proposers r) j 0) (Some (x + count))) (get_or (mutual_row w.reviewers w.proposers r) k 0) ≡ Some (place_taken w places (get_or (mutual_row w.reviewers w.proposers r) k 0) i)
      now k i less holds there = elim (cases_eq k j) [
        | inl same ↦
            let who = ap (λ k. get_or (mutual_row w.reviewers w.proposers r) k 0) same in
            let there' : written_entry w.proposers (get_or (mutual_row w.reviewers w.proposers r) j 0) i ≡ r = ap (λ y. written_entry w.proposers y i) (sym who) ∙ there in
            let inside : get_or (mutual_row w.reviewers w.proposers r) j 0 < length after = (let both = mutual_at h places m.acceptable q r at in let here = Rattle.sm_agents.proofs.ListLemmas.row_in_range w.proposers _ _ both.lists in let long = f.long in omega arith) in
            ap (held (set after (get_or (mutual_row w.reviewers w.proposers r) j 0) (Some (x + count)))) who
            ∙ get_or-set_same after (get_or (mutual_row w.reviewers w.proposers r) j 0) (Some (x + count)) None inside
            ∙ ap Some (place_sum r j count x on at f.counted place i there')
            ∙ ap (λ y. Some (place_taken w places y i)) (sym who)
        | inr other ↦
            let apart : get_or (mutual_row w.reviewers w.proposers r) k 0 ≢ get_or (mutual_row w.reviewers w.proposers r) j 0 =
            (mutual_distinct h.reviewers w.proposers r).distinct k j (omega arith) on in
            get_or-set_other after (get_or (mutual_row w.reviewers w.proposers r) j 0) (get_or (mutual_row w.reviewers w.proposers r) k 0) (Some (x + count)) None apart ∙ f.seated k i (omega arith) holds there
      ]

  -- one that isn't at r is passed
  pub one_passed : {r j count : ℕ} {before after : List (Option ℕ)} → AreFirstSeatedAt w places r j count before after → j < length (mutual_row w.reviewers w.proposers r)
      → is_at w places (get_or (mutual_row w.reviewers w.proposers r) j 0) r ≡ false → AreFirstSeatedAt w places r (j + 1) count before after
  one_passed {r} {j} {count} {before} {after} f on no_ = record {
    long = f.long;
    few = (let few = f.few in omega arith);
    counted =
        let more = filter_more (λ q. is_at w places q r) (mutual_row w.reviewers w.proposers r) j 0 on in
        let cut = ap (λ b. filter (λ q. is_at w places q r) (take j (mutual_row w.reviewers w.proposers r)) ++ Rattle.std.proofs.Common.cond b (get_or (mutual_row w.reviewers w.proposers r) j 0 ∷ []) []) no_ in
        let none = Rattle.std.proofs.Common.append-nil (filter (λ q. is_at w places q r) (take j (mutual_row w.reviewers w.proposers r))) in
        f.counted ∙ sym (ap (λ (l : List ℕ). length l) (more ∙ cut ∙ none));
    seated = λ k i less holds there. elim (cases_eq k j) [
      | inl same ↦
          let at = at_place w places (get_or (mutual_row w.reviewers w.proposers r) k 0) r i holds there in
          absurd (false≢true (sym no_ ∙ ap (λ k. is_at w places (get_or (mutual_row w.reviewers w.proposers r) k 0) r) (sym same) ∙ at))
      | inr other ↦ f.seated k i (omega arith) holds there
    ];
    others = f.others;
  }

  -- at the end of r's list all those at r have their seats
  pub all_seated : {r j count : ℕ} {before after : List (Option ℕ)} → AreFirstSeatedAt w places r j count before after → length (mutual_row w.reviewers w.proposers r) ≤ j → AreSeatedAt w places r before after
  all_seated {r} {j} {count} {before} {after} f past = record {
    long = f.long;
    seated = λ q i holds there.
        let at = at_place w places q r i holds there in
        let both = mutual_at h places m.acceptable q r at in
        let on = Rattle.sm_seats.proofs.MutualLemmas.mutual_on_row (Rattle.sm_seats.proofs.MutualLemmas.mutual_turned both) in
        let k = place_on (mutual_row w.reviewers w.proposers r) q in
        let who : get_or (mutual_row w.reviewers w.proposers r) k 0 ≡ q = get_or-place_on (mutual_row w.reviewers w.proposers r) q on in
        rw who at (f.seated k i (omega arith) (rw who holds) (rw who there));
    others = f.others;
  }

  -- All reviewers.

  -- before the first seat nobody is seated
  pub nobody_seated : AreSeatedBefore w places 0 (replicate (length (seat_market w).proposers) None)
  nobody_seated = record {
    long = length-replicate (length (seat_market w).proposers) _ ∙ length-proposers w;
    alone = λ q _. none_held (length (seat_market w).proposers) q;
    seated = λ q i _ less. absurd (omega arith);
  }

  -- a seat that isn't the first of its reviewer
  pub same_seated : {seat r k : ℕ} {taken : List (Option ℕ)} → IsSeatOf w seat r k → 0 < k → AreSeatedBefore w places seat taken → AreSeatedBefore w places (seat + 1) taken
  same_seated {seat} {r} {k} {taken} s later b = record {
    long = b.long;
    alone = b.alone;
    seated = λ q i holds less. elim (cases_lt (seats_before w (written_entry w.proposers q i)) seat) [
      | inl before ↦ b.seated q i holds before
      | inr ge ↦ absurd (
          let x = written_entry w.proposers q i in
          let at = at_place w places q x i holds refl in
          let below = below_count h places m x _ (sits h places m.acceptable q x at) in
          let t : IsSeatOf w seat x 0 = record { is = omega arith; below = omega arith } in
          let e = one_number s t in
          omega arith)
    ];
  }

  -- the first seat of a reviewer
  pub more_seated : {seat r : ℕ} {taken after : List (Option ℕ)} → IsSeatOf w seat r 0 → AreSeatedBefore w places seat taken → AreSeatedAt w places r taken after → AreSeatedBefore w places (seat + 1) after
  more_seated {seat} {r} {taken} {after} s b a = record {
    long = a.long ∙ b.long;
    alone = λ q none. a.others q (ap (leads_to w q r) none) ∙ b.alone q none;
    seated = λ q i holds less. elim (cases_eq (written_entry w.proposers q i) r) [
      | inl same ↦ a.seated q i holds same
      | inr other ↦
          let x = written_entry w.proposers q i in
          let no_ : is_at w places q r ≡ false = ap (leads_to w q r) holds ∙ Rattle.std.proofs.Common.ne_eqb x r other in
          elim (cases_lt (seats_before w x) seat) [
            | inl before ↦ a.others q no_ ∙ b.seated q i holds before
            | inr ge ↦ absurd (
                let at = at_place w places q x i holds refl in
                let below = below_count h places m x _ (sits h places m.acceptable q x at) in
                let t : IsSeatOf w seat x 0 = record { is = omega arith; below = omega arith } in
                other (one_reviewer t s))
          ]
    ];
  }

  -- behind the last seat everybody has the place that the matching takes
  pub everybody_seated : {seat : ℕ} {taken : List (Option ℕ)} → AreSeatedBefore w places seat taken → length (seat_market w).reviewers ≤ seat → taken ≡ places_taken w places
  everybody_seated {seat} {taken} b past = ext_get_or None taken (places_taken w places) (b.long ∙ sym (taken_long h places m ∙ length-proposers w)) (λ q _. elim (taken_cases h places m q) [
    | inl alone ↦ b.alone q alone.held_is ∙ sym alone.taken_is
    | inr it ↦
        let x = written_entry w.proposers q it.written in
        let at = at_place w places q x it.written it.held_is refl in
        let below = below_count h places m x _ (sits h places m.acceptable q x at) in
        let s : IsSeatOf w (seats_before w x) x 0 = record { is = omega arith; below = omega arith } in
        let there = seat_there s in
        let count = length-reviewers w in
        b.seated q it.written it.held_is (omega arith) ∙ sym (taken_held h places m q ∙ ap (Rattle.std.specs.Option.option_map _) it.held_is)
  ])

-- a seat with the number 1 is the first of its reviewer
pub seat_first : (w : Written) (seat r number : ℕ) → seat < length (seat_market w).reviewers → (r, number) ≡ get_or (seats_of w) seat (0, 0) → number ≡ 1 → IsSeatOf w seat r 0
seat_first w seat r number on is one =
    let s = seat_found w seat (length w.reviewers) (omega (arith, length-reviewers w)) in
    let name = is ∙ seat_name s.of in
    let r_is : r ≡ s.reviewer = ap (λ (x : ℕ × ℕ). x.0) name in
    let k_is : number ≡ s.number + 1 = ap (λ (x : ℕ × ℕ). x.1) name in
    let zero_ : s.number ≡ 0 = omega arith in
    rw (sym r_is) at (rw zero_ at s.of)

-- a seat that isn't the first of its reviewer
pub record IsLater (w : Written) (seat : ℕ) : Type 0 where
  pub reviewer : ℕ
  pub number : ℕ
  pub of : IsSeatOf w seat reviewer number
  pub later : 0 < number

-- a seat with another number than 1 is such a one
pub seat_later : (w : Written) (seat r number : ℕ) → seat < length (seat_market w).reviewers → (r, number) ≡ get_or (seats_of w) seat (0, 0) → number ≢ 1 → IsLater w seat
seat_later w seat r number on is other =
    let s = seat_found w seat (length w.reviewers) (omega (arith, length-reviewers w)) in
    let k_is : number ≡ s.number + 1 = ap (λ (x : ℕ × ℕ). x.1) (is ∙ seat_name s.of) in
    record { reviewer = s.reviewer; number = s.number; of = s.of; later = elim (cases_lt 0 s.number) [ inl l ↦ l | inr z ↦ absurd (other (omega arith)) ] }

-- The same of a market and of names of seats that are those of the instance.

module _ (w : Written) (l : Lists) (is : l ≡ seat_market w) where
  -- where r has a seat, its first one is there
  pub first_there : (seat r : ℕ) → seat ≡ seats_before w r → 0 < seat_count w r → seat < length l.reviewers
  first_there seat r first has =
      let s : IsSeatOf w seat r 0 = record { is = omega arith; below = has } in
      let there = seat_there s in
      let count = length-reviewers w in
      let same = ap (λ (l : Lists). length l.reviewers) is in
      omega arith

  -- a proposer of the market is one of the instance
  pub proposer_there : (q : ℕ) → q < length l.proposers → q < length w.proposers
  proposer_there q here = (let same = ap (λ (l : Lists). length l.proposers) is in let count = length-proposers w in omega arith)

  -- the list of r's first seat is that of r's acceptable proposers
  pub first_list : (seat r : ℕ) → seat ≡ seats_before w r → 0 < seat_count w r → row l.reviewers seat ≡ mutual_row w.reviewers w.proposers r
  first_list seat r first has =
      let s : IsSeatOf w seat r 0 = record { is = omega arith; below = has } in
      ap (λ (l : Lists). row l.reviewers seat) is ∙ row-seat s

  -- a seat of the market is one of the instance's
  pub seat_below : (seat : ℕ) → seat < length l.reviewers → seat < length (seat_market w).reviewers
  seat_below seat on = (let same = ap (λ (l : Lists). length l.reviewers) is in omega arith)

  module _ (h : HasSoundEntries w) {places : List (Option ℕ)} (m : IsMatching w places) where
    -- at first nobody is seated
    pub begin : (items : List (Option ℕ)) → items ≡ replicate (length l.proposers) None → AreSeatedBefore w places 0 items
    begin items e =
        let all : items ≡ replicate (length (seat_market w).proposers) None = e ∙ ap (λ k. replicate k None) (ap (λ (l : Lists). length l.proposers) is) in
        subst (AreSeatedBefore w places 0) (sym all) (nobody_seated h m)

    -- one that is at r, as it is read of the list of r's first seat, takes the next seat of r
    pub step_yes : (seat r j count q x : ℕ) (before after : List (Option ℕ)) → seat ≡ seats_before w r → 0 < seat_count w r → length before ≡ length w.proposers → AreFirstSeatedAt w places r j count before after
        → j < length (row l.reviewers seat) → q ≡ get_or (row l.reviewers seat) j 0 → is_at w places q r ≡ true → x ≡ place_of l.proposers (get_or (row l.reviewers seat) j 0) seat
        → AreFirstSeatedAt w places r (j + 1) (count + 1) before (set after q (Some (x + count)))
    step_yes seat r j count q x before after first has size f on who at place =
        let list = first_list seat r first has in
        let on' : j < length (mutual_row w.reviewers w.proposers r) = (let long = ap (λ (l : List ℕ). length l) list in omega arith) in
        let who' : q ≡ get_or (mutual_row w.reviewers w.proposers r) j 0 = who ∙ ap (λ (l : List ℕ). get_or l j 0) list in
        let place' : x ≡ place_of (seat_market w).proposers (get_or (mutual_row w.reviewers w.proposers r) j 0) (seats_before w r) =
        place ∙ (λ t. place_of (is t).proposers (get_or (list t) j 0) (first t)) in
        subst (λ y. AreFirstSeatedAt w places r (j + 1) (count + 1) before (set after y (Some (x + count)))) (sym who')
        (one_seated h m size f on' (ap (λ y. is_at w places y r) (sym who') ∙ at) place')

    -- one that isn't at r is passed
    pub step_no : (seat r j count q : ℕ) (before after : List (Option ℕ)) → seat ≡ seats_before w r → 0 < seat_count w r → AreFirstSeatedAt w places r j count before after
        → j < length (row l.reviewers seat) → q ≡ get_or (row l.reviewers seat) j 0 → is_at w places q r ≡ false → AreFirstSeatedAt w places r (j + 1) count before after
    step_no seat r j count q before after first has f on who no_ =
        let list = first_list seat r first has in
        let on' : j < length (mutual_row w.reviewers w.proposers r) = (let long = ap (λ (l : List ℕ). length l) list in omega arith) in
        let who' : q ≡ get_or (mutual_row w.reviewers w.proposers r) j 0 = who ∙ ap (λ (l : List ℕ). get_or l j 0) list in
        one_passed h m f on' (ap (λ y. is_at w places y r) (sym who') ∙ no_)

    -- at the end of that list all those at r have their seats
    pub row_seated : (seat r j count : ℕ) (before after : List (Option ℕ)) → seat ≡ seats_before w r → 0 < seat_count w r → AreFirstSeatedAt w places r j count before after
        → length (row l.reviewers seat) ≤ j → AreSeatedAt w places r before after
    row_seated seat r j count before after first has f past = all_seated h m f (let long = ap (λ (l : List ℕ). length l) (first_list seat r first has) in omega arith)

-- a seat whose name has the number 1 is the first of its reviewer
pub first_named : (w : Written) (seats : List (ℕ × ℕ)) (seat : ℕ) → seats ≡ seats_of w → seat < length (seat_market w).reviewers → (get_or seats seat (0, 0)).1 ≡ 1 → IsSeatOf w seat (get_or seats seat (0, 0)).0 0
first_named w seats seat is on one = seat_first w seat (get_or seats seat (0, 0)).0 (get_or seats seat (0, 0)).1 on (ap (λ (l : List (ℕ × ℕ)). get_or l seat (0, 0)) is) one

-- a seat whose name has another number is a later one of its reviewer
pub later_named : (w : Written) (seats : List (ℕ × ℕ)) (seat : ℕ) → seats ≡ seats_of w → seat < length (seat_market w).reviewers → (get_or seats seat (0, 0)).1 ≢ 1 → IsLater w seat
later_named w seats seat is on other = seat_later w seat (get_or seats seat (0, 0)).0 (get_or seats seat (0, 0)).1 on (ap (λ (l : List (ℕ × ℕ)). get_or l seat (0, 0)) is) other
