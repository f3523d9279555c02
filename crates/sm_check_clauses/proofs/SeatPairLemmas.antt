-- The pairs of a proposer and a seat that are written so far, and one more.
use Rattle.std.proofs.Common.{◌≡◌, ◌≢◌, ℕ, zero, suc, ◌+◌, ◌<◌, ◌==◌, ◌⊎◌, inl, inr, cond, not, Bool, true, false, List, [], ◌∷◌, ◌++◌, Option, Some, None, IsSome, length, map, get_or, set, replicate, refl, sym, ap, ◌∙◌, subst, arith, eqb-true, eq-eqb}
use Rattle.std.specs.List.{range_with_len}
use Rattle.std.specs.Option.{option_map}
use Rattle.std.proofs.lemmas.Bool.{cases_lt, false≢true, ne_eqb}
use Rattle.std.proofs.lemmas.Bool.Decides.{eqb_tells}
use Rattle.std.proofs.lemmas.Option.{none-some}
use Rattle.std.proofs.lemmas.List.{get_or-replicate, get_or_past, length-set, get_or-set_same, get_or-set_other, length-replicate}
use Rattle.std.proofs.lemmas.List.Sums.{sum_by-cons}
use Rattle.sm_lists.proofs.PlaceLemmas.{get_or-place_on}
use Rattle.sm_market.specs.Lists.{Lists, row, entry, place_of, IsMarket}
use Rattle.sm_market.specs.Matching.{Places, IsMatching, held, standing}
use Rattle.sm_market.specs.Pairing.{Paired, IsPairingOf}
use Rattle.sm_market.specs.PairingFaults.{AreHeld, IsPastList, IsTaken}
use Rattle.sm_market.specs.Stable.{IsStable}
use Rattle.sm_market.proofs.Bridge.{sides_of, stand_of, fit_of, standing-none}
use Rattle.sm_market.proofs.Core.{Fit, pair_at, one_proposer}
use Rattle.sm_market.proofs.PairingLemmas.{one_matching}
use Rattle.sm_theory.specs.Lattice.{with_proposers}
use Rattle.sm_theory.proofs.Core.Seats.{fit_of_seats}
use Rattle.sm_theory.proofs.Bridge.Places.{row_past, held_map, matching_with, seats_with}
use Rattle.sm_holding.specs.Held.{partner_in, times_second}
use Rattle.sm_holding.proofs.HoldingLemmas.{changed_at, partner_in-push_same, partner_in-push_other}
use Rattle.sm_check_clauses.specs.SeatMatchings.{IsFreeSeat, seat_places_in, AreSeatPairs}
use Rattle.sm_check_clauses.specs.SeatPairsKept.{HasTakenSeat}
use Rattle.sm_check_clauses.specs.declared.seat_pairs.SeatPairs.{SeatPairs}
use Rattle.sm_holding.proofs.PairLemmas.{times_second-push}

-- a matching is the one that is made of the places of its proposers
pub with_proposers_is : {l : Lists} (h : IsMarket l) {m : Places} → IsMatching l m → with_proposers l m.proposers ≡ m
with_proposers_is {l} h {m} f = one_matching (matching_with h m.proposers f.proposers.one_each f.proposers.on_list fit) f refl
  where
    fit : Fit (sides_of l h) (stand_of l (with_proposers l m.proposers))
    fit = fit_of_seats (fit_of h f).left.within (λ p q r on on' e e'. one_proposer (pair_at p r (fit_of h f) on e) (pair_at q r (fit_of h f) on' e')) (seats_with h m.proposers)

nothing : {X : Type 0} (x : X) (n a : ℕ) → replicate n x ≡ map (λ _. x) (range_with_len a n)
nothing x zero a = refl
nothing x (suc n) a = ap (λ xs. x ∷ xs) (nothing x n (a + 1))

-- nobody holds a place where no place is given
none_held : (n q i : ℕ) → ¬ (held (replicate n None) q ≡ Some i)
none_held zero q i e = none-some i e
none_held (suc n) zero i e = none-some i e
none_held (suc n) (suc q) i e = none_held n q i e

-- no pair so far
pub no_seat_pairs : (l : Lists) (kept : SeatPairs) → kept.places.items ≡ replicate (length l.proposers) None → kept.taken.items ≡ replicate (length l.reviewers) false → AreSeatPairs l [] kept
no_seat_pairs l kept places taken = record {
  places = places ∙ nothing None (length l.proposers) 0;
  held = subst (AreHeld l) (sym places) (record {
    one_each = length-replicate (length l.proposers) None;
    on_lists = λ p past. none_held (length l.proposers) p past.at past.holds;
    untaken = λ p other. none_held (length l.proposers) p other.at other.holds;
  });
  seats_each = ap length taken ∙ length-replicate (length l.reviewers) false;
  taken = λ r inside. ap (λ xs. get_or xs r false) taken ∙ get_or-replicate (length l.reviewers) r false false inside;
}

-- what a test adds to a count
pub counted : (b : Bool) → b ≡ true → 0 + cond b 1 0 ≡ 1
counted true e = refl
counted false e = absurd (false≢true e)

-- where it fails it adds nothing
pub passed_over : (b : Bool) → b ≡ false → 0 + cond b 1 0 ≡ 0
passed_over false e = refl
passed_over true e = absurd (false≢true (sym e))

-- whoever is given to a proposer stands second
pub partner_counts : (pairs : List (ℕ × ℕ)) (q r : ℕ) → partner_in pairs q ≡ Some r → 0 < times_second pairs r
partner_counts [] q r e = absurd (none-some r e)
partner_counts (pair ∷ pairs) q r e = by_first (partner_counts pairs q r) (pair.0 == q) e
  where
    more : times_second (pair ∷ pairs) r ≡ cond (pair.1 == r) 1 0 + times_second pairs r
    more = sum_by-cons (λ (x : ℕ × ℕ). cond (x.1 == r) 1 0) pair pairs

    by_first : (partner_in pairs q ≡ Some r → 0 < times_second pairs r) → (b : Bool) → cond b (Some pair.1) (partner_in pairs q) ≡ Some r → 0 < times_second (pair ∷ pairs) r
    by_first deep true f = let same : pair.1 ≡ r = cc in let one = counted (pair.1 == r) (eq-eqb pair.1 r same) in omega (arith, more, one)
    by_first deep false f = omega (arith, more, deep f)

module _ {l : Lists} {pairs : List (ℕ × ℕ)} {before : SeatPairs} (k : AreSeatPairs l pairs before) where
  held_is : (q : ℕ) → q < length l.proposers → held before.places.items q ≡ option_map (place_of l.proposers q) (partner_in pairs q)
  held_is q inside = ap (λ xs. held xs q) k.places ∙ held_map l.proposers (λ p. option_map (place_of l.proposers p) (partner_in pairs p)) q inside

  -- who holds no seat is in no pair, and who holds one is in one
  none_in : (p : ℕ) → p < length l.proposers → held before.places.items p ≡ None → partner_in pairs p ≡ None
  none_in p inside none = by_partner (partner_in pairs p) refl
    where
      by_partner : (o : Option ℕ) → partner_in pairs p ≡ o → partner_in pairs p ≡ None
      by_partner None e = e
      by_partner (Some r) e = absurd (none-some _ (sym none ∙ held_is p inside ∙ ap (option_map (place_of l.proposers p)) e))

  -- the reviewer of a place that is held stands second in a pair
  second_at : (q i : ℕ) → held before.places.items q ≡ Some i → 0 < times_second pairs (entry l.proposers q i)
  second_at q i e = by_partner (partner_in pairs q) refl
    where
      inside : q < length l.proposers
      inside = elim (cases_lt q (length l.proposers)) [
        | inl less ↦ less
        | inr past ↦ absurd (none-some i (sym (get_or_past before.places.items q None (let one = k.held.one_each in omega (arith, one, past))) ∙ e))
      ]

      on : i < length (row l.proposers q)
      on = elim (cases_lt i (length (row l.proposers q))) [
        | inl less ↦ less
        | inr past ↦ absurd (k.held.on_lists q (record { at = i; holds = e; past = past }))
      ]

      by_partner : (o : Option ℕ) → partner_in pairs q ≡ o → 0 < times_second pairs (entry l.proposers q i)
      by_partner None f = absurd (none-some i (sym (held_is q inside ∙ ap (option_map (place_of l.proposers q)) f) ∙ e))
      by_partner (Some r) f =
          let given : ◌≡◌ {A = Option ℕ} (Some (place_of l.proposers q r)) (Some i) = sym (held_is q inside ∙ ap (option_map (place_of l.proposers q)) f) ∙ e in
          let same : place_of l.proposers q r ≡ i = cc in
          let there : entry l.proposers q i ≡ r = ap (entry l.proposers q) (sym same) ∙ get_or-place_on (row l.proposers q) r (omega (arith, same, on)) in
          subst (λ s. 0 < times_second pairs s) (sym there) (partner_counts pairs q r f)

  module _ (p s : ℕ) (p_in : p < length l.proposers) (s_in : s < length l.reviewers) where
    -- a seat that isn't taken stands second nowhere
    none_second : get_or before.taken.items s false ≡ false → times_second pairs s ≡ 0
    none_second e = go (times_second pairs s == 0) refl
      where
        go : (b : Bool) → (times_second pairs s == 0) ≡ b → times_second pairs s ≡ 0
        go true f = eqb-true _ _ f
        go false f = absurd (false≢true (sym e ∙ k.taken s s_in ∙ ap not f))

    -- one more pair
    pub takes : (after : SeatPairs) (place : ℕ) → place ≡ place_of l.proposers p s → place < length (row l.proposers p) → held before.places.items p ≡ None → get_or before.taken.items s false ≡ false
        → after.places.items ≡ set before.places.items p (Some place) → after.taken.items ≡ set before.taken.items s true → HasTakenSeat l pairs (p, s) after
    takes after place is on none free places taken = record {
      free = record { acceptable = omega (arith, is, on); proposer_free = alone; seat_free = zero_times };
      kept = record {
        places = places ∙ ap (λ xs. set xs p (Some place)) k.places ∙ changed_at (place_at pairs) (place_at (pairs ++ (p, s) ∷ [])) (length l.proposers) p (Some place)
            (ap (option_map (place_of l.proposers p)) (partner_in-push_same pairs p s alone) ∙ ap Some (sym is))
            (λ q ne. ap (option_map (place_of l.proposers q)) (partner_in-push_other pairs p s q alone ne));
        held = subst (AreHeld l) (sym places) (record {
          one_each = length-set before.places.items p (Some place) ∙ k.held.one_each;
          on_lists = λ q past. on_list q past (eqb_tells q p);
          untaken = λ q other. apart q other (eqb_tells q p) (eqb_tells other.earlier p);
        });
        seats_each = ap length taken ∙ length-set before.taken.items s true ∙ k.seats_each;
        taken = λ r r_in. ap (λ xs. get_or xs r false) taken ∙ told r r_in (eqb_tells r s);
      };
    }
      where
        place_at : List (ℕ × ℕ) → ℕ → Option ℕ
        place_at said q = option_map (place_of l.proposers q) (partner_in said q)

        alone : partner_in pairs p ≡ None
        alone = none_in p p_in none

        zero_times : times_second pairs s ≡ 0
        zero_times = none_second free

        there : entry l.proposers p place ≡ s
        there = ap (entry l.proposers p) is ∙ get_or-place_on (row l.proposers p) s (omega (arith, is, on))

        here : held (set before.places.items p (Some place)) p ≡ Some place
        here = get_or-set_same before.places.items p (Some place) None (let one = k.held.one_each in omega (arith, one, p_in))

        elsewhere : (q : ℕ) → q ≢ p → held (set before.places.items p (Some place)) q ≡ held before.places.items q
        elsewhere q ne = get_or-set_other before.places.items p q (Some place) None ne

        on_list : (q : ℕ) → IsPastList l (set before.places.items p (Some place)) q → (((q == p) ≡ true) × (q ≡ p)) ⊎ (((q == p) ≡ false) × (q ≢ p)) → ⊥
        on_list q past (inl x) =
            let both : ◌≡◌ {A = Option ℕ} (Some place) (Some past.at) = sym here ∙ ap (held (set before.places.items p (Some place))) (sym x.1) ∙ past.holds in
            let same : place ≡ past.at = cc in
            let length_is = ap (λ (n : ℕ). length (row l.proposers n)) x.1 in
            omega (arith, same, on, past.past, length_is)
        on_list q past (inr x) = k.held.on_lists q (record { at = past.at; holds = sym (elsewhere q x.1) ∙ past.holds; past = past.past })

        -- the reviewer of the new place is no other proposer's
        not_second : (q i : ℕ) → held before.places.items q ≡ Some i → entry l.proposers q i ≡ s → ⊥
        not_second q i e same = (let n = ap (times_second pairs) same in omega (arith, n, zero_times, second_at q i e))

        apart : (q : ℕ) (other : IsTaken l (set before.places.items p (Some place)) q) → (((q == p) ≡ true) × (q ≡ p)) ⊎ (((q == p) ≡ false) × (q ≢ p))
            → (((other.earlier == p) ≡ true) × (other.earlier ≡ p)) ⊎ (((other.earlier == p) ≡ false) × (other.earlier ≢ p)) → ⊥
        apart q other (inl x) (inl y) = omega (arith, x.1, y.1, other.before)
        apart q other (inl x) (inr y) =
            let both : ◌≡◌ {A = Option ℕ} (Some place) (Some other.at) = sym here ∙ ap (held (set before.places.items p (Some place))) (sym x.1) ∙ other.holds in
            let same : other.at ≡ place = cc in
            not_second other.earlier other.there (sym (elsewhere other.earlier y.1) ∙ other.earlier_holds)
            (other.same ∙ ap (λ n. entry l.proposers n other.at) x.1 ∙ ap (entry l.proposers p) same ∙ there)
        apart q other (inr x) (inl y) =
            let both : ◌≡◌ {A = Option ℕ} (Some place) (Some other.there) = sym here ∙ ap (held (set before.places.items p (Some place))) (sym y.1) ∙ other.earlier_holds in
            let same : other.there ≡ place = cc in
            not_second q other.at (sym (elsewhere q x.1) ∙ other.holds)
            (sym other.same ∙ ap (λ n. entry l.proposers n other.there) y.1 ∙ ap (entry l.proposers p) same ∙ there)
        apart q other (inr x) (inr y) = k.held.untaken q (record {
          at = other.at;
          holds = sym (elsewhere q x.1) ∙ other.holds;
          earlier = other.earlier;
          before = other.before;
          there = other.there;
          earlier_holds = sym (elsewhere other.earlier y.1) ∙ other.earlier_holds;
          same = other.same;
        })

        told : (r : ℕ) → r < length l.reviewers → (((r == s) ≡ true) × (r ≡ s)) ⊎ (((r == s) ≡ false) × (r ≢ s)) → get_or (set before.taken.items s true) r false ≡ not (times_second (pairs ++ (p, s) ∷ []) r == 0)
        told r r_in (inl x) =
            let some : times_second (pairs ++ (p, s) ∷ []) s ≡ 1 = (let one = counted (s == s) (eq-eqb s s refl) in omega (arith, times_second-push pairs p s s, one, zero_times)) in
            ap (λ n. get_or (set before.taken.items s true) n false) x.1 ∙ get_or-set_same before.taken.items s true false (let e = k.seats_each in omega (arith, e, s_in))
            ∙ sym (ap (λ n. not (times_second (pairs ++ (p, s) ∷ []) n == 0)) x.1 ∙ ap (λ n. not (n == 0)) some)
        told r r_in (inr x) =
            let same : times_second (pairs ++ (p, s) ∷ []) r ≡ times_second pairs r = (let none = passed_over (s == r) (ne_eqb s r (λ e. x.1 (sym e))) in omega (arith, times_second-push pairs p s r, none)) in
            get_or-set_other before.taken.items s r true false x.1 ∙ k.taken r r_in ∙ ap (λ n. not (n == 0)) (sym same)

    -- or it can't stand there
    pub not_alone : IsSome (held before.places.items p) → ¬ IsFreeSeat l pairs (p, s)
    not_alone some free = let none = held_is p p_in ∙ ap (option_map (place_of l.proposers p)) free.proposer_free in let x = subst IsSome none some in cc

  -- the matching that is made of the places that are kept
  pub made_is : IsMarket l → (m : Paired) → IsPairingOf l m → m.places.proposers ≡ before.places.items → m.places ≡ seat_places_in l pairs
  made_is h m made e = sym (with_proposers_is h made.matching) ∙ ap (with_proposers l) (e ∙ k.places)

-- beside a stable matching nobody is free
pub none_free : {l : Lists} (h : IsMarket l) (pairs : List (ℕ × ℕ)) → IsStable l (seat_places_in l pairs) → (p s : ℕ) → ¬ IsFreeSeat l pairs (p, s)
none_free {l} h pairs stable p s free = stable.unblocked p (place_of l.proposers p s) (record {
  on_list = free.acceptable;
  proposer_gains = omega (arith, stands, free.acceptable);
  reviewer_gains = subst (λ r. place_of l.reviewers r p < standing l.reviewers (seat_places_in l pairs).reviewers r) (sym there)
      (let back = subst (λ r. place_of l.reviewers r p < length (row l.reviewers r)) there (h.proposers.returned p (place_of l.proposers p s) free.acceptable) in omega (arith, back, standing-none l.reviewers (seat_places_in l pairs).reviewers s alone));
})
  where
    p_in : p < length l.proposers
    p_in = elim (cases_lt p (length l.proposers)) [
      | inl less ↦ less
      | inr past ↦ (let none = row_past l.proposers p past in absurd (omega (arith, none, free.acceptable)))
    ]

    there : entry l.proposers p (place_of l.proposers p s) ≡ s
    there = get_or-place_on (row l.proposers p) s free.acceptable

    given : (q : ℕ) → q < length l.proposers → held (seat_places_in l pairs).proposers q ≡ option_map (place_of l.proposers q) (partner_in pairs q)
    given q inside = held_map l.proposers (λ p. option_map (place_of l.proposers p) (partner_in pairs p)) q inside

    stands : standing l.proposers (seat_places_in l pairs).proposers p ≡ length (row l.proposers p)
    stands = standing-none l.proposers (seat_places_in l pairs).proposers p (given p p_in ∙ ap (option_map (place_of l.proposers p)) free.proposer_free)

    alone : held (seat_places_in l pairs).reviewers s ≡ None
    alone = go (held (seat_places_in l pairs).reviewers s) refl
      where
        go : (o : Option ℕ) → held (seat_places_in l pairs).reviewers s ≡ o → held (seat_places_in l pairs).reviewers s ≡ None
        go None e = e
        go (Some k) e = absurd (by_partner (partner_in pairs q) refl)
          where
            q : ℕ
            q = entry l.reviewers s k

            on : k < length (row l.reviewers s)
            on = stable.matching.reviewers.on_list s k e

            turn : held (seat_places_in l pairs).proposers q ≡ Some (place_of l.proposers q s)
            turn = stable.matching.reviewers.in_turn s k e

            q_in : q < length l.proposers
            q_in = h.reviewers.in_range s k on

            listed : place_of l.proposers q s < length (row l.proposers q)
            listed = h.reviewers.returned s k on

            by_partner : (o : Option ℕ) → partner_in pairs q ≡ o → ⊥
            by_partner None f = none-some _ (sym (given q q_in ∙ ap (option_map (place_of l.proposers q)) f) ∙ turn)
            by_partner (Some r) f =
                let both : ◌≡◌ {A = Option ℕ} (Some (place_of l.proposers q r)) (Some (place_of l.proposers q s)) = sym (given q q_in ∙ ap (option_map (place_of l.proposers q)) f) ∙ turn in
                let same : place_of l.proposers q r ≡ place_of l.proposers q s = cc in
                let is : r ≡ s = sym (get_or-place_on (row l.proposers q) r (omega (arith, same, listed))) ∙ ap (entry l.proposers q) same ∙ get_or-place_on (row l.proposers q) s listed in
                let n = ap (times_second pairs) is in
                omega (arith, n, free.seat_free, partner_counts pairs q r f)
