-- Proposals, one by one.
use Rattle.std.proofs.Common.{◌≡◌, ◌≢◌, ℕ, ◌+◌, ◌-◌, ◌<◌, ◌≤◌, ◌⊎◌, List, [], Option, Some, None, length, get_or, set, replicate, unwrap_or, Fits, w32, map, refl, sym, ap, subst, ◌∙◌, arith, ⊎_elim, inl, inr}
use Rattle.std.proofs.lemmas.Bool.{cases_lt, cases_eq}
use Rattle.std.proofs.lemmas.List.{get_or_past, get_or-replicate, length-map, length-replicate, get_or-set_same, get_or-set_other, length-set}
use Rattle.std.proofs.Math.ListN.{get_or-map}
use Rattle.std.proofs.lemmas.List.Sums.{sum_by-set}
use Rattle.std.specs.List.{sum_by}
use Rattle.sm_market.specs.Lists.{Lists, row, entry, place_of, IsMarket}
use Rattle.sm_market.specs.Limits.{IsWithinLimits}
use Rattle.sm_market.specs.Matching.{Places, held, standing, IsMatching}
use Rattle.sm_market.specs.Stable.{IsStable}
use Rattle.sm_lists.proofs.PlaceLemmas.{place_of-le, entry-place_of}
use Rattle.sm_market.proofs.PlaceLemmas.{place_of-entry}
use Rattle.sm_lists.proofs.RowLemmas.{row_fits, entries_below}
use Rattle.sm_lists.proofs.ItemLemmas.{set_cases}
use Rattle.sm_market.proofs.SeatLemmas.{same_place}
use Rattle.sm_accept.specs.Accepting.{IsHolding, holds, AreFree, IsProgress, TakesProposal, IsTakenIn, IsTakenFor, IsRejected}

zeros : (n p : ℕ) → let zero : ℕ = 0 in get_or (replicate n zero) p zero ≡ zero
zeros n p =
    let zero : ℕ = 0 in
    let long = length-replicate n zero in
    ⊎_elim (λ l. get_or-replicate n p zero zero l) (λ l. get_or_past (replicate n zero) p zero (omega arith)) (cases_lt p n)

-- every reviewer whose standing is the length of its list is free
pub free_past_lists : (l : Lists) (standings : List ℕ) → standings ≡ map (λ list. length list) l.reviewers → AreFree l standings
free_past_lists l standings e = record {
  one_each = ap length e ∙ length-map l.reviewers (λ list. length list);
  free = λ r. ap (λ list. get_or list r 0) e ∙ get_or-map (λ list. length list) l.reviewers r [];
}

-- before anybody proposes
pub progress_start : (l : Lists) (next standings : List ℕ) → next ≡ replicate (length l.proposers) 0 → AreFree l standings → IsProgress l 0 0 next standings
progress_start l next standings e f =
    let zero_at : (p : ℕ) → get_or next p 0 ≡ 0 = λ p. rw e (zeros (length l.proposers) p) in
    let z : ℕ = 0 in
    record {
      proposers_each = ap length e ∙ length-replicate (length l.proposers) z;
      reviewers_each = f.one_each;
      next_on_list = λ p. let is = zero_at p in omega arith;
      standing_on_list = λ r. let is = f.free r in omega arith;
      holds_next = λ r h. let is = f.free r in absurd (omega arith);
      holds_begun = λ r h. let is = f.free r in absurd (omega arith);
      away_is_free = λ r h. let is = f.free r in absurd (omega arith);
      others_rest = λ p b. absurd (omega arith);
      turned_down = λ p i h. let is = zero_at p in absurd (omega arith);
      best = λ n s p. let is = zero_at p in omega arith;
    }

-- the next proposer begins
pub progress_begins : {l : Lists} {p : ℕ} {next standings : List ℕ} → IsProgress l p p next standings → IsProgress l (p + 1) p next standings
progress_begins {p = p} g =
    record {
      proposers_each = g.proposers_each;
      reviewers_each = g.reviewers_each;
      next_on_list = g.next_on_list;
      standing_on_list = g.standing_on_list;
      holds_next = g.holds_next;
      holds_begun = λ r h. let lt = g.holds_begun r h in omega arith;
      away_is_free = g.away_is_free;
      others_rest = λ q b ne. g.others_rest q (omega arith) ne;
      turned_down = g.turned_down;
      best = g.best;
    }

-- the one that is away is at the end of its list
pub progress_stops : {l : Lists} {b q : ℕ} {next standings : List ℕ} → IsProgress l b q next standings → length (row l.proposers q) ≤ get_or next q 0 → IsProgress l b b next standings
progress_stops {l} {b} {q} {next} g end =
    record {
      proposers_each = g.proposers_each;
      reviewers_each = g.reviewers_each;
      next_on_list = g.next_on_list;
      standing_on_list = g.standing_on_list;
      holds_next = g.holds_next;
      holds_begun = g.holds_begun;
      away_is_free = λ r h. let lt = g.holds_begun r h in omega arith;
      others_rest = λ p lt ne on. ⊎_elim
          (λ same. absurd (let on' = subst (λ x. get_or next x 0 < length (row l.proposers x)) same on in omega arith))
          (λ other. g.others_rest p lt other on)
          (cases_eq p q);
      turned_down = g.turned_down;
      best = g.best;
    }

-- the reviewer at the next place of q's list holds somebody that it prefers to q
pub record IsTurnedDown (l : Lists) (q : ℕ) (next standings : List ℕ) : Type 0 where
  pub on_list : get_or next q 0 < length (row l.proposers q)
  pub prefers : let r = entry l.proposers q (get_or next q 0) in get_or standings r 0 < place_of l.reviewers r q

-- a proposer that stands at a place of its list in a matching is that place's reviewer's
partner_of : {l : Lists} {n : Places} → IsMatching l n → (p i : ℕ) → standing l.proposers n.proposers p ≡ i → i < length (row l.proposers p)
    → let r = entry l.proposers p i in held n.reviewers r ≡ Some (place_of l.reviewers r p)
partner_of {l} {n} m p i is on = m.proposers.in_turn p i (held_is (held n.proposers p) (length (row l.proposers p)) is on)
  where
    held_is : (o : Option ℕ) (len : ℕ) → unwrap_or o len ≡ i → i < len → o ≡ Some i
    held_is None len e lt = absurd (omega arith)
    held_is (Some j) len e lt = ap Some e

module _ {l : Lists} {b q : ℕ} {next standings : List ℕ} (market : IsMarket l) (g : IsProgress l b q next standings) where
  -- whoever is turned down has no better partner in a stable matching
  turned_down_best : IsTurnedDown l q next standings → (n : Places) → IsStable l n → get_or next q 0 < standing l.proposers n.proposers q
  turned_down_best t n s =
      let k : ℕ = get_or next q 0 in
      let r : ℕ = entry l.proposers q k in
      let ahead : k ≤ standing l.proposers n.proposers q = g.best n s q in
      let h : ℕ = holds l standings r in
      let le : place_of l.reviewers r q ≤ length (row l.reviewers r) = place_of-le l.reviewers r q in
      let prefers : get_or standings r 0 < place_of l.reviewers r q = t.prefers in
      let holding : IsHolding l standings r = omega arith in
      let next_h : get_or next h 0 ≡ place_of l.proposers h r = g.holds_next r holding in
      let listed : place_of l.proposers h r < length (row l.proposers h) = market.reviewers.returned r (get_or standings r 0) holding in
      let there : entry l.proposers h (place_of l.proposers h r) ≡ r = entry-place_of l.proposers h r listed in
      let rank : place_of l.reviewers r h ≡ get_or standings r 0 = place_of-entry market.reviewers r (get_or standings r 0) holding in
      let before : place_of l.proposers h r ≤ standing l.proposers n.proposers h = let le' = g.best n s h in omega arith in
      ⊎_elim (λ lt. lt)
      (λ ge.
      let q_has : held n.reviewers r ≡ Some (place_of l.reviewers r q) = partner_of s.matching q k (omega arith) t.on_list in
      let stands : standing l.reviewers n.reviewers r ≡ place_of l.reviewers r q = ap (λ o. unwrap_or o (length (row l.reviewers r))) q_has in
      ⊎_elim
      (λ lower. absurd (s.unblocked h (place_of l.proposers h r) (record {
        on_list = listed;
        proposer_gains = lower;
        reviewer_gains = let Q : ℕ → Type 0 = λ c. place_of l.reviewers c h < standing l.reviewers n.reviewers c in
            subst Q (sym there) (omega arith);
      })))
      (λ upper.
      let Q : ℕ → Type 0 = λ c. held n.reviewers c ≡ Some (place_of l.reviewers c h) in
      let h_has : held n.reviewers r ≡ Some (place_of l.reviewers r h) = subst Q there (partner_of s.matching h (place_of l.proposers h r) (omega arith) listed) in
      let same : place_of l.reviewers r q ≡ place_of l.reviewers r h = same_place q_has h_has in
      absurd (omega arith))
      (cases_lt (place_of l.proposers h r) (standing l.proposers n.proposers h)))
      (cases_lt k (standing l.proposers n.proposers q))

  -- it goes on to the next place of its list
  pub progress_goes_on : q < length l.proposers → IsTurnedDown l q next standings → IsProgress l b q (set next q (get_or next q 0 + 1)) standings
  progress_goes_on in_range t =
      let k : ℕ = get_or next q 0 in
      let there : q < length next = let each = g.proposers_each in omega arith in
      let other : (p : ℕ) → p ≢ q → get_or (set next q (k + 1)) p 0 ≡ get_or next p 0 = λ p ne. get_or-set_other next q p (k + 1) 0 ne in
      record {
        proposers_each = length-set next q (k + 1) ∙ g.proposers_each;
        reviewers_each = g.reviewers_each;
        next_on_list = set_cases (λ p x. x ≤ length (row l.proposers p)) next q (k + 1) 0 there (let on = t.on_list in omega arith) (λ p _. g.next_on_list p);
        standing_on_list = g.standing_on_list;
        holds_next = λ r h. other (holds l standings r) (g.away_is_free r h) ∙ g.holds_next r h;
        holds_begun = g.holds_begun;
        away_is_free = g.away_is_free;
        others_rest = λ p lt ne. let Q : ℕ → Type 0 = λ x. x < length (row l.proposers p) → get_or standings (entry l.proposers p x) 0 ≡ place_of l.reviewers (entry l.proposers p x) p in
            subst Q (sym (other p ne)) (g.others_rest p lt ne);
        turned_down = λ p i. set_cases (λ p x. i < x → get_or standings (entry l.proposers p i) 0 < place_of l.reviewers (entry l.proposers p i) p) next q (k + 1) 0 there
            (λ lt. ⊎_elim (λ lower. g.turned_down q i lower)
            (λ ge. let last : k ≡ i = omega arith in let Q : ℕ → Type 0 = λ j. get_or standings (entry l.proposers q j) 0 < place_of l.reviewers (entry l.proposers q j) q in subst Q last t.prefers)
            (cases_lt i k))
            (λ p _. g.turned_down p i) p;
        best = λ n s. set_cases (λ p x. x ≤ standing l.proposers n.proposers p) next q (k + 1) 0 there (let lt = turned_down_best t n s in omega arith) (λ p _. g.best n s p);
      }

  module _ {r : ℕ} (is : r ≡ entry l.proposers q (get_or next q 0)) (on : get_or next q 0 < length (row l.proposers q)) where
    -- q stands on the list of the reviewer that it proposes to
    returned : place_of l.reviewers r q < length (row l.reviewers r)
    returned = let Q : ℕ → Type 0 = λ c. place_of l.reviewers c q < length (row l.reviewers c) in subst Q (sym is) (market.proposers.returned q (get_or next q 0) on)

    -- and is not the one that it holds
    unheld : place_of l.reviewers r q ≢ get_or standings r 0
    unheld same =
        let lt = returned in
        g.away_is_free r (omega arith) (ap (λ k. entry l.reviewers r k) (sym same) ∙ entry-place_of l.reviewers r q lt)

    -- the reviewer keeps whom it holds
    pub refused_is_turned_down : get_or standings r 0 ≤ place_of l.reviewers r q → IsTurnedDown l q next standings
    refused_is_turned_down le =
        let ne = unheld in
        let Q : ℕ → Type 0 = λ c. get_or standings c 0 < place_of l.reviewers c q in
        record { on_list = on; prefers = subst Q is (omega arith) }

    -- the reviewer takes q; `other` is then away
    took : (other : ℕ) (after : List ℕ) → q < b → r < length l.reviewers → q ≢ other → TakesProposal l q r standings after
        → ((s : ℕ) → s ≢ r → IsHolding l standings s → holds l standings s ≢ other)
        → ((p : ℕ) → p ≢ other → place_of l.reviewers r p < length (row l.reviewers r) → get_or standings r 0 ≢ place_of l.reviewers r p)
        → IsProgress l b other next after
    took other after begun in_range not_other takes is_free not_held =
        let at : (p : ℕ) → ℕ = λ p. entry l.proposers p (get_or next p 0) in
        let k : ℕ = place_of l.reviewers r q in
        let there : r < length standings = let each = g.reviewers_each in omega arith in
        let on_r : k < length (row l.reviewers r) = returned in
        let who : entry l.reviewers r k ≡ q = entry-place_of l.reviewers r q on_r in
        let lower : k < get_or standings r 0 = takes.prefers in
        let now : get_or (set standings r k) r 0 ≡ k = get_or-set_same standings r k 0 there in
        let place : place_of l.proposers q r ≡ get_or next q 0 = ap (λ c. place_of l.proposers q c) is ∙ place_of-entry market.proposers q (get_or next q 0) on in
        rw takes.stands
        (record {
          proposers_each = g.proposers_each;
          reviewers_each = length-set standings r k ∙ g.reviewers_each;
          next_on_list = g.next_on_list;
          standing_on_list = set_cases (λ s x. x ≤ length (row l.reviewers s)) standings r k 0 there (omega arith) (λ s _. g.standing_on_list s);
          holds_next = set_cases (λ s x. x < length (row l.reviewers s) → get_or next (entry l.reviewers s x) 0 ≡ place_of l.proposers (entry l.reviewers s x) s) standings r k 0 there
              (λ _. rw who (sym place)) (λ s _. g.holds_next s);
          holds_begun = set_cases (λ s x. x < length (row l.reviewers s) → entry l.reviewers s x < b) standings r k 0 there
              (λ _. rw who begun) (λ s _. g.holds_begun s);
          away_is_free = set_cases (λ s x. x < length (row l.reviewers s) → entry l.reviewers s x ≢ other) standings r k 0 there
              (λ _. rw who not_other) (λ s ne. is_free s ne);
          others_rest = λ p lt ne on_p. ⊎_elim
              (λ same. let Q : ℕ → Type 0 = λ x. get_or (set standings r k) (entry l.proposers x (get_or next x 0)) 0 ≡ place_of l.reviewers (entry l.proposers x (get_or next x 0)) x in
              subst Q (sym same) (rw (← is) now))
              (λ other_one.
              let held_there : get_or standings (at p) 0 ≡ place_of l.reviewers (at p) p = g.others_rest p lt other_one on_p in
              let elsewhere : at p ≢ r = λ there.
              let Q : ℕ → Type 0 = λ c. get_or standings c 0 ≡ place_of l.reviewers c p in
              let R : ℕ → Type 0 = λ c. place_of l.reviewers c p < length (row l.reviewers c) in
              not_held p ne (subst R there (market.proposers.returned p (get_or next p 0) on_p)) (subst Q there held_there) in
              get_or-set_other standings r (at p) k 0 elsewhere ∙ held_there)
              (cases_eq p q);
          turned_down = λ p i before. set_cases (λ s x. s ≡ entry l.proposers p i → x < place_of l.reviewers s p) standings r k 0 there
              (λ same. let old = g.turned_down p i before in let Q : ℕ → Type 0 = λ s. get_or standings s 0 < place_of l.reviewers s p in let old' = subst Q (sym same) old in omega arith)
              (λ s _ same. let Q : ℕ → Type 0 = λ s. get_or standings s 0 < place_of l.reviewers s p in subst Q (sym same) (g.turned_down p i before))
              (entry l.proposers p i) refl;
          best = g.best;
        })

    -- a free reviewer takes q
    pub progress_taken_in : {after : List ℕ} → q < b → r < length l.reviewers → IsTakenIn l q r standings after → IsProgress l b b next after
    progress_taken_in {after} begun in_range t =
        let free = t.was_free in
        took b after begun in_range (omega arith) t.takes
        (λ s _ h. let lt = g.holds_begun s h in omega arith)
        (λ p _ listed. omega arith)

    -- a reviewer takes q for another one, who is turned down
    pub progress_taken_for : {after : List ℕ} {other : ℕ} → q < b → r < length l.reviewers → IsTakenFor l q r other standings after → IsProgress l b other next after × IsTurnedDown l other next after
    progress_taken_for {after} {other} begun in_range t =
        let j : ℕ = get_or standings r 0 in
        let k : ℕ = place_of l.reviewers r q in
        let holding : IsHolding l standings r = t.held_one in
        let who : other ≡ holds l standings r = t.lets_go in
        let next_is : get_or next other 0 ≡ place_of l.proposers other r = rw who (g.holds_next r holding) in
        let listed : place_of l.proposers other r < length (row l.proposers other) = rw who (market.reviewers.returned r j holding) in
        let there : entry l.proposers other (get_or next other 0) ≡ r = rw next_is (entry-place_of l.proposers other r listed) in
        let rank : place_of l.reviewers r other ≡ j = rw who (place_of-entry market.reviewers r j holding) in
        let not_other : q ≢ other = λ same. g.away_is_free r holding (sym who ∙ sym same) in
        let lower : k < j = t.takes.prefers in
        let in_standings : r < length standings = let each = g.reviewers_each in omega arith in
        let now : get_or after r 0 ≡ k = ap (λ s. get_or s r 0) t.takes.stands ∙ get_or-set_same standings r k 0 in_standings in (
          took other after begun in_range not_other t.takes
              (λ s ne h is_other.
              let next_s : get_or next other 0 ≡ place_of l.proposers other s = rw (← is_other) (g.holds_next s h) in
              let listed_s : place_of l.proposers other s < length (row l.proposers other) = rw (← is_other) (market.reviewers.returned s (get_or standings s 0) h) in
              ne (sym (entry-place_of l.proposers other s listed_s) ∙ ap (λ i. entry l.proposers other i) (sym next_s) ∙ there))
              (λ p ne listed_p same. ne (sym (entry-place_of l.reviewers r p listed_p) ∙ ap (λ i. entry l.reviewers r i) (sym same) ∙ sym who)),
          record {
            on_list = rw next_is listed;
            prefers = let Q : ℕ → Type 0 = λ c. get_or after c 0 < place_of l.reviewers c other in subst Q (sym there) (omega arith);
          },
        )

-- one is turned down and goes on, whoever it is
pub record GoesOn (l : Lists) (b q : ℕ) (next standings : List ℕ) : Type 0 where
  pub begun : q < b
  pub progress : IsProgress l b q next standings
  pub down : IsTurnedDown l q next standings

-- after an answer to a proposal the proposals go on from whom it leaves without a partner
pub answered : {l : Lists} {b q other : ℕ} {next standings after : List ℕ} → IsMarket l → IsProgress l b q next standings → q < b → get_or next q 0 < length (row l.proposers q)
    → (let r = entry l.proposers q (get_or next q 0) in IsTakenFor l q r other standings after ⊎ IsRejected l q r other standings after) → GoesOn l b other next after
answered {l} {b} {q} {other} {next} {standings} {after} market g begun on (inl t) =
    let r : ℕ = entry l.proposers q (get_or next q 0) in
    let made = progress_taken_for market g refl on begun (market.proposers.in_range q (get_or next q 0) on) t in
    record { begun = let lt = g.holds_begun r t.held_one in let who = t.lets_go in omega arith; progress = made.0; down = made.1 }
answered market g begun on (inr t) =
    rw (t.refused, t.same) (record { begun = begun; progress = g; down = refused_is_turned_down market g refl on t.keeps })

-- how many places the proposers have left in all
abbrev pub places_left : List (List ℕ) → List ℕ → ℕ
places_left rows next = sum_by (λ list. length list) rows - sum_by (λ i. i) next

-- fewer where one goes on
pub places_left_fall : {l : Lists} {b q : ℕ} {next standings : List ℕ} → IsMarket l → IsProgress l b q next standings → q < length l.proposers → IsTurnedDown l q next standings
    → places_left l.proposers (set next q (get_or next q 0 + 1)) < places_left l.proposers next
places_left_fall {l} {b} {q} {next} {standings} market g in_range t =
    let after = progress_goes_on market g in_range t in
    let le = entries_below l.proposers (set next q (get_or next q 0 + 1)) after.proposers_each after.next_on_list in
    let there : q < length next = let each = g.proposers_each in omega arith in
    let more = sum_by-set (λ (i : ℕ). i) next q (get_or next q 0 + 1) 0 there in
    omega arith

-- a place that is followed by another one fits a `u32`
pub next_fits : {l : Lists} {q : ℕ} {next standings : List ℕ} → IsWithinLimits l → IsTurnedDown l q next standings → Fits w32 (get_or next q 0 + 1)
next_fits {l} {q} limits t = let lt = row_fits limits.proposers q in let on = t.on_list in omega arith
