-- Offers of places over the written lists, one by one.
use Rattle.std.proofs.Common.{◌≡◌, ◌≢◌, ℕ, zero, suc, ◌+◌, ◌<◌, ◌≤◌, ◌⊎◌, ltb, true, false, cond, List, Option, Some, None, length, get_or, set, replicate, unwrap_or, refl, sym, ap, subst, ◌∙◌, arith, inl, inr}
use Rattle.std.specs.Option.{option_map}
use Rattle.std.proofs.lemmas.Bool.{cases_lt, cases_eq, eq-eqb, ne_eqb, lt-ltb, le-ltb, false≢true, cases_Bool}
use Rattle.std.proofs.lemmas.List.{get_or_past, get_or-set_same, get_or-set_other, length-set, length-replicate}
use Rattle.std.proofs.lemmas.List.FromFn.{get_or-map-range_with_len, length-map-range_with_len}
use Rattle.sm_lists.proofs.Counting.{less_same_more}
use Rattle.sm_lists.proofs.PlaceLemmas.{get_or-place_on}
use Rattle.sm_agents.specs.Written.{AgentData, Written, no_agent, row, entry, place_of, capacity_of, IsAcceptable}
use Rattle.sm_agents.specs.Sound.{IsInstance}
use Rattle.sm_instance.specs.Matching.{held, standing, leads_to, is_at, load_before, load}
use Rattle.sm_instance.specs.Stable.{Blocks, IsStable, IsReviewersBest, HasWorse}
use Rattle.sm_instance.specs.Crosses.{cross_place}
use Rattle.sm_instance.proofs.AcceptLemmas.{cross_some, cross_none}
use Rattle.sm_instance.proofs.PlaceLemmas.{place_of-entry, length-row-le-others}
use Rattle.sm_instance.proofs.LoadLemmas.{load_before-suc, load_before-suc_at, load_before-suc_other, load_same, place_at, at_place}
use Rattle.sm_instance.proofs.BlockLemmas.{standing-le}
use Rattle.sm_answer_solve.specs.Ends.{end_at, ended_places}
use Rattle.sm_answer_solve.specs.Offering.{IsOffering, IsAnswer, on_its_way, given_up, begun_till, past_lists}
use Rattle.sm_answer_solve.proofs.LeftLemmas.{zeros, left, one_less}
use Rattle.sm_answer_solve.proofs.EndPlaces.{ended_on, ended_past, length-ended, held_ended, ended_at}

-- Loads.

-- a proposer is at r in one matching, and not in another
record IsElsewhere (w : Written) (places others : List (Option ℕ)) (r : ℕ) : Type 0 where
  proposer : ℕ
  there : is_at w others proposer r ≡ true
  not_here : is_at w places proposer r ≡ false

-- where r has more proposers in one matching than in another
elsewhere : (w : Written) (places others : List (Option ℕ)) (r k : ℕ) → load_before w places k r < load_before w others k r → IsElsewhere w places others r
elsewhere w places others r zero less = absurd (omega (arith, less))
elsewhere w places others r (suc k) less =
    let e : suc k ≡ k + 1 = omega arith in
    let more : load_before w places (k + 1) r < load_before w others (k + 1) r = subst (λ n. load_before w places n r < load_before w others n r) e less in
    elim (cases_Bool (is_at w others k r)) [
      | inl there ↦ elim (cases_Bool (is_at w places k r)) [
        | inl here ↦ elsewhere w places others r k (omega (arith, more, load_before-suc_at w others k r there, load_before-suc_at w places k r here))
        | inr not_here ↦ record { proposer = k; there = there; not_here = not_here }
      ]
      | inr none ↦ elsewhere w places others r k (omega (arith, more, load_before-suc_other w others k r none, load_before-suc w places k r))
    ]

-- where one proposer's place changes, the loads change by it alone
module _ (w : Written) (before after : List (Option ℕ)) (p r : ℕ) (others : (q : ℕ) → q ≢ p → held after q ≡ held before q) where
  at_other : (q : ℕ) → q ≢ p → is_at w after q r ≡ is_at w before q r
  at_other q ne = ap (leads_to w q r) (others q ne)

  low : (k : ℕ) → k ≤ p → load_before w after k r ≡ load_before w before k r
  low zero le = refl
  low (suc k) le =
      let e : suc k ≡ k + 1 = omega arith in
      let deep = low k (omega (arith, le)) in
      let same = ap (λ b. let one : ℕ = cond b 1 0 in one) (at_other k (λ i. omega (arith, i, le))) in
      let step : load_before w after (k + 1) r ≡ load_before w before (k + 1) r = omega (arith, deep, same, load_before-suc w after k r, load_before-suc w before k r) in
      subst (λ n. load_before w after n r ≡ load_before w before n r) (sym e) step

  pub load_changed : (k : ℕ) → p < k → load_before w after k r + cond (is_at w before p r) 1 0 ≡ load_before w before k r + cond (is_at w after p r) 1 0
  load_changed zero lt = absurd (omega (arith, lt))
  load_changed (suc k) lt =
      let e : suc k ≡ k + 1 = omega arith in
      let step : load_before w after (k + 1) r + cond (is_at w before p r) 1 0 ≡ load_before w before (k + 1) r + cond (is_at w after p r) 1 0 = elim (cases_lt p k) [
        | inl below ↦
            let deep = load_changed k below in
            let same = ap (λ b. let one : ℕ = cond b 1 0 in one) (at_other k (λ i. omega (arith, i, below))) in
            omega (arith, deep, same, load_before-suc w after k r, load_before-suc w before k r)
        | inr ge ↦
            let here : p ≡ k = omega (arith, ge, lt) in
            let was = ap (λ q. let one : ℕ = cond (is_at w before q r) 1 0 in one) here in
            let is = ap (λ q. let one : ℕ = cond (is_at w after q r) 1 0 in one) here in
            omega (arith, low k (omega (arith, here)), was, is, load_before-suc w after k r, load_before-suc w before k r)
      ] in
      subst (λ n. load_before w after n r + cond (is_at w before p r) 1 0 ≡ load_before w before n r + cond (is_at w after p r) 1 0) (sym e) step

-- Places that are on their way.

-- of the one that is away one place is
one_away : (r : ℕ) → on_its_way (Some r) r ≡ 1
one_away r = ap (λ b. let one : ℕ = cond b 1 0 in one) (eq-eqb r r refl)

-- and none of another reviewer
none_away : (r s : ℕ) → s ≢ r → on_its_way (Some r) s ≡ 0
none_away r s ne = ap (λ b. let one : ℕ = cond b 1 0 in one) (ne_eqb r s (λ e. ne (sym e)))

-- what a proposer holds is one of a reviewer's places, if it is at the reviewer
leads : (w : Written) (p s : ℕ) (o : Option ℕ) → (let one : ℕ = cond (leads_to w p s o) 1 0 in one) ≡ on_its_way (option_map (entry w.proposers p) o) s
leads w p s None = refl
leads w p s (Some i) = refl

-- Steps.

module _ {w : Written} (inst : IsInstance w) {begun : ℕ → ℕ} {r : ℕ} {nexts places : List ℕ} (g : IsOffering w begun (Some r) nexts places) where
  -- the reviewer that is away is one of the instance
  pub away_there : r < length w.reviewers
  away_there = elim (cases_lt r (length w.reviewers)) [
    | inl lt ↦ lt
    | inr past ↦
        let none : capacity_of w.reviewers r ≡ 0 = ap (λ (x : AgentData). x.capacity) (get_or_past w.reviewers r no_agent past) in
        absurd (omega (arith, none, g.few r, g.within r, one_away r))
  ]

  module _ (on : get_or nexts r 0 < length (row w.reviewers r)) where
    -- it comes to the next place of its list
    abbrev moved : List ℕ
    moved = set nexts r (get_or nexts r 0 + 1)

    -- and offers to whom it lists there
    abbrev asked : ℕ
    asked = entry w.reviewers r (get_or nexts r 0)

    moved_at : get_or moved r 0 ≡ get_or nexts r 0 + 1
    moved_at = get_or-set_same nexts r (get_or nexts r 0 + 1) 0 (omega (arith, away_there, g.reviewers_each))

    moved_other : (s : ℕ) → s ≢ r → get_or moved s 0 ≡ get_or nexts s 0
    moved_other s ne = get_or-set_other nexts r s (get_or nexts r 0 + 1) 0 ne

    risen : (s : ℕ) → get_or nexts s 0 ≤ get_or moved s 0
    risen s = elim (cases_eq s r) [
      | inl same ↦ subst (λ x. get_or nexts x 0 ≤ get_or moved x 0) (sym same) (omega (arith, moved_at))
      | inr other ↦ omega (arith, moved_other s other)
    ]

    moved_on : (s : ℕ) → get_or moved s 0 ≤ length (row w.reviewers s)
    moved_on s = elim (cases_eq s r) [
      | inl same ↦ subst (λ x. get_or moved x 0 ≤ length (row w.reviewers x)) (sym same) (omega (arith, moved_at, on))
      | inr other ↦ omega (arith, moved_other s other, g.on_lists s)
    ]

    -- so fewer places are left
    pub offers_left : left moved < left nexts
    offers_left = one_less nexts r (omega (arith, away_there, g.reviewers_each)) (λ s. omega (arith, moved_on s, length-row-le-others inst.reviewer_entries s, inst.limits.proposers))

    -- the one that is asked is there
    pub asked_there : asked < length w.proposers
    asked_there = (inst.reviewer_entries.sound r (get_or nexts r 0) on).in_range

    asked_place : place_of w.reviewers r asked ≡ get_or nexts r 0
    asked_place = place_of-entry inst.reviewer_entries r asked (get_or nexts r 0) on refl

    -- whoever was asked was asked before, but for this one
    passed : (q s : ℕ) → IsAcceptable w q s → place_of w.reviewers s q < get_or moved s 0 → (place_of w.reviewers s q < get_or nexts s 0) ⊎ ((q ≡ asked) × (s ≡ r))
    passed q s a lt = elim (cases_eq s r) [
      | inl same ↦ elim (cases_lt (place_of w.reviewers s q) (get_or nexts s 0)) [
        | inl early ↦ inl early
        | inr late ↦
            let at_s : get_or moved s 0 ≡ get_or nexts s 0 + 1 = subst (λ x. get_or moved x 0 ≡ get_or nexts x 0 + 1) (sym same) moved_at in
            let place : place_of w.reviewers s q ≡ get_or nexts s 0 = omega (arith, lt, late, at_s) in
            inr (sym (get_or-place_on (row w.reviewers s) q a.reviewer_lists) ∙ ap (entry w.reviewers s) place ∙ ap (λ x. entry w.reviewers x (get_or nexts x 0)) same, same)
      ]
      | inr other ↦ inl (omega (arith, lt, moved_other s other))
    ]

    -- the one that is asked holds as good an offer, or can't have this one
    pub passes : (IsAcceptable w asked r → get_or places asked 0 ≤ place_of w.proposers asked r) → IsOffering w begun (Some r) moved places
    passes better = record {
      reviewers_each = length-set nexts r (get_or nexts r 0 + 1) ∙ g.reviewers_each;
      proposers_each = g.proposers_each;
      on_lists = moved_on;
      acceptable = g.acceptable;
      offered = λ p held_on. omega (arith, g.offered p held_on, risen (entry w.proposers p (get_or places p 0)));
      answered = λ q s a lt. elim (passed q s a lt) [
        | inl early ↦ g.answered q s a early
        | inr now ↦
            let Q : ℕ → ℕ → Type 0 = λ q s. IsAcceptable w q s → get_or places q 0 ≤ place_of w.proposers q s in
            subst (λ x. Q x s) (sym now.0) (subst (λ y. Q asked y) (sym now.1) better) a
      ];
      few = g.few;
      within = g.within;
      settled = λ s. elim (g.settled s) [ inl all ↦ inl all | inr end ↦ inr (omega (arith, end, risen s)) ];
      worst = g.worst;
    }

    module _ (acceptable : IsAcceptable w asked r) (gains : place_of w.proposers asked r < get_or places asked 0) where
      -- it holds this offer instead
      abbrev taken : List ℕ
      taken = set places asked (place_of w.proposers asked r)

      taken_at : get_or taken asked 0 ≡ place_of w.proposers asked r
      taken_at = get_or-set_same places asked (place_of w.proposers asked r) 0 (omega (arith, asked_there, g.proposers_each))

      taken_other : (q : ℕ) → q ≢ asked → get_or taken q 0 ≡ get_or places q 0
      taken_other q ne = get_or-set_other places asked q (place_of w.proposers asked r) 0 ne

      taken-le : (q : ℕ) → get_or taken q 0 ≤ get_or places q 0
      taken-le q = elim (cases_eq q asked) [
        | inl same ↦ subst (λ x. get_or taken x 0 ≤ get_or places x 0) (sym same) (omega (arith, taken_at, gains))
        | inr other ↦ omega (arith, taken_other q other)
      ]

      names : entry w.proposers asked (place_of w.proposers asked r) ≡ r
      names = get_or-place_on (row w.proposers asked) r acceptable.proposer_lists

      -- a reviewer that is full in a stable matching has one there that it hasn't got
      full : (others : List (Option ℕ)) → IsStable w others → place_of w.proposers asked r < standing w others asked → capacity_of w.reviewers r ≤ load w others r → ⊥
      full others st less all =
          let it = elsewhere w (ended_places w places) others r (length w.proposers) (omega (arith, all, g.within r, one_away r, g.few r)) in
          let q = it.proposer in
          let x = place_at w q r (held others q) it.there in
          let on_list = st.matching.assigned.on_lists q x.0 x.1 in
          let place : place_of w.proposers q r ≡ x.0 = place_of-entry inst.proposer_entries q r x.0 on_list x.2 in
          let both : IsAcceptable w q r = subst (IsAcceptable w q) x.2 (st.matching.acceptable q x.0 x.1) in
          let stands : standing w others q ≡ x.0 = ap (λ o. unwrap_or o (length (row w.proposers q))) x.1 in
          elim (less_same_more (place_of w.reviewers r q) (get_or nexts r 0)) [
            | inl before ↦
                let same : get_or places q 0 ≡ x.0 = omega (arith, g.answered q r both before, g.worst others st q, stands, place) in
                let ends : held (ended_places w places) q ≡ Some x.0 = held_ended w places q ∙ ap (end_at (length (row w.proposers q))) same ∙ ended_on (length (row w.proposers q)) x.0 on_list in
                false≢true (sym it.not_here ∙ at_place w (ended_places w places) q r x.0 ends x.2)
            | inr (inl same) ↦
                let is : q ≡ asked = sym (get_or-place_on (row w.reviewers r) q both.reviewer_lists) ∙ ap (entry w.reviewers r) same in
                let Q : ℕ → Type 0 = λ y. standing w others y ≡ place_of w.proposers y r in
                let e : Q asked = subst Q is (stands ∙ sym place) in
                omega (arith, e, less)
            | inr (inr behind) ↦
                let worse : HasWorse w others r asked = record { other = q; at = x.0; holds = x.1; there = x.2; worse = omega (arith, behind, asked_place) } in
                st.unblocked asked r (record { acceptable = acceptable; proposer_gains = less; reviewer_gains = inr worse })
          ]

      -- so in no stable matching does it stand worse
      no_worse : (others : List (Option ℕ)) → IsStable w others → standing w others asked ≤ place_of w.proposers asked r
      no_worse others st = elim (cases_lt (place_of w.proposers asked r) (standing w others asked)) [
        | inl less ↦ elim (cases_lt (load w others r) (capacity_of w.reviewers r)) [
          | inl free ↦ absurd (st.unblocked asked r (record { acceptable = acceptable; proposer_gains = less; reviewer_gains = inl free }))
          | inr all ↦ absurd (full others st less all)
        ]
        | inr le ↦ le
      ]

      held_asked : held (ended_places w taken) asked ≡ Some (place_of w.proposers asked r)
      held_asked = held_ended w taken asked ∙ ap (end_at (length (row w.proposers asked))) taken_at ∙ ended_on (length (row w.proposers asked)) (place_of w.proposers asked r) acceptable.proposer_lists

      -- the place that was free is held, and the one that is given up is free
      counted : (s : ℕ) → load w (ended_places w taken) s + on_its_way (given_up w asked (get_or places asked 0)) s ≡ load w (ended_places w places) s + on_its_way (Some r) s
      counted s =
          let change = load_changed w (ended_places w places) (ended_places w taken) asked s
          (λ q ne. held_ended w taken q ∙ ap (end_at (length (row w.proposers q))) (taken_other q ne) ∙ sym (held_ended w places q)) (length w.proposers) asked_there in
          let was = ap (λ o. let one : ℕ = cond (leads_to w asked s o) 1 0 in one) (held_ended w places asked) ∙ leads w asked s (end_at (length (row w.proposers asked)) (get_or places asked 0)) in
          let is = ap (λ o. let one : ℕ = cond (leads_to w asked s o) 1 0 in one) held_asked ∙ leads w asked s (Some (place_of w.proposers asked r)) ∙ ap (λ x. on_its_way (Some x) s) names in
          omega (arith, change, was, is)

      -- the one that is asked takes the place, and gives up what it holds
      pub takes : IsOffering w begun (given_up w asked (get_or places asked 0)) moved taken
      takes = record {
        reviewers_each = length-set nexts r (get_or nexts r 0 + 1) ∙ g.reviewers_each;
        proposers_each = length-set places asked (place_of w.proposers asked r) ∙ g.proposers_each;
        on_lists = moved_on;
        acceptable = λ p held_on. elim (cases_eq p asked) [
          | inl same ↦
              let it : IsAcceptable w asked (entry w.proposers asked (get_or taken asked 0)) = subst (IsAcceptable w asked) (sym (ap (entry w.proposers asked) taken_at ∙ names)) acceptable in
              subst (λ x. IsAcceptable w x (entry w.proposers x (get_or taken x 0))) (sym same) it
          | inr other ↦
              let e = taken_other p other in
              subst (λ n. IsAcceptable w p (entry w.proposers p n)) (sym e) (g.acceptable p (omega (arith, e, held_on)))
        ];
        offered = λ p held_on. elim (cases_eq p asked) [
          | inl same ↦
              let Q : ℕ → ℕ → Type 0 = λ x s. place_of w.reviewers s x < get_or moved s 0 in
              let it : Q asked (entry w.proposers asked (get_or taken asked 0)) = subst (Q asked) (sym (ap (entry w.proposers asked) taken_at ∙ names)) (omega (arith, asked_place, moved_at)) in
              subst (λ x. Q x (entry w.proposers x (get_or taken x 0))) (sym same) it
          | inr other ↦
              let e = taken_other p other in
              let Q : ℕ → Type 0 = λ s. place_of w.reviewers s p < get_or moved s 0 in
              subst (λ n. Q (entry w.proposers p n)) (sym e) (omega (arith, g.offered p (omega (arith, e, held_on)), risen (entry w.proposers p (get_or places p 0))))
        ];
        answered = λ q s a lt. elim (passed q s a lt) [
          | inl early ↦ omega (arith, g.answered q s a early, taken-le q)
          | inr now ↦
              let Q : ℕ → ℕ → Type 0 = λ x y. get_or taken x 0 ≤ place_of w.proposers x y in
              subst (λ x. Q x s) (sym now.0) (subst (λ y. Q asked y) (sym now.1) (omega (arith, taken_at)))
        ];
        few = g.few;
        within = λ s. omega (arith, g.within s, counted s);
        settled = λ s. elim (g.settled s) [ inl all ↦ inl (counted s ∙ all) | inr end ↦ inr (omega (arith, end, risen s)) ];
        worst = λ others st p. elim (cases_eq p asked) [
          | inl same ↦ subst (λ x. standing w others x ≤ get_or taken x 0) (sym same) (omega (arith, no_worse others st, taken_at))
          | inr other ↦ omega (arith, g.worst others st p, taken_other p other)
        ];
      }

    -- its answer to an offer at a place of its list
    pub answered : {offered : ℕ} {after : List ℕ} {away : Option ℕ} → Some offered ≡ cross_place w.proposers asked r → IsAnswer w r asked offered places after away → IsOffering w begun away moved after
    answered {offered} {after} {away} cross answer =
        let x = cross_some w.proposers asked r offered (sym cross) in
        elim answer [
          | inl declined ↦ rw (declined.same, declined.away_is) (passes (λ _. omega (arith, declined.holds, x.0)))
          | inr taken ↦
              let acceptable : IsAcceptable w asked r = record { proposer_lists = x.1; reviewer_lists = omega (arith, asked_place, on) } in
              let it = takes acceptable (omega (arith, taken.gains, x.0)) in
              rw (taken.takes, taken.away_is) (subst (λ n. IsOffering w begun (given_up w asked (get_or places asked 0)) moved (set places asked n)) x.0 it)
        ]

    -- or it doesn't list the reviewer
    pub inert : (let none : Option ℕ = None in cross_place w.proposers asked r ≡ none) → IsOffering w begun (Some r) moved places
    inert none = passes (λ a. absurd (omega (arith, cross_none w.proposers asked r none, a.proposer_lists)))

-- How many places have begun.

-- all of a reviewer before r
begun_before : (w : Written) (r k s : ℕ) → s < r → begun_till w r k s ≡ capacity_of w.reviewers s
begun_before w r k s lt = ap (λ b. cond b k (cond (ltb s r) (capacity_of w.reviewers s) 0)) (ne_eqb s r (λ e. omega (arith, e, lt))) ∙ ap (λ b. cond b (capacity_of w.reviewers s) 0) (lt-ltb s r lt)

-- k of r
begun_at : (w : Written) (r k s : ℕ) → s ≡ r → begun_till w r k s ≡ k
begun_at w r k s same = ap (λ b. cond b k (cond (ltb s r) (capacity_of w.reviewers s) 0)) (eq-eqb s r same)

-- none of a reviewer behind r
begun_behind : (w : Written) (r k s : ℕ) → r < s → begun_till w r k s ≡ 0
begun_behind w r k s lt = ap (λ b. cond b k (cond (ltb s r) (capacity_of w.reviewers s) 0)) (ne_eqb s r (λ e. omega (arith, e, lt))) ∙ ap (λ b. let none : ℕ = cond b (capacity_of w.reviewers s) 0 in none) (le-ltb s r (omega (arith, lt)))

module _ {w : Written} (inst : IsInstance w) where
  -- before any place is offered
  pub none_offered : (nexts places : List ℕ) → nexts ≡ replicate (length w.reviewers) 0 → places ≡ past_lists w → IsOffering w (begun_till w 0 0) None nexts places
  none_offered nexts places first longest =
      let next_is : (s : ℕ) → get_or nexts s 0 ≡ 0 = λ s. ap (λ l. get_or l s 0) first ∙ zeros (length w.reviewers) s in
      let lengths : ℕ → ℕ = λ p. length (row w.proposers p) in
      let long : length (past_lists w) ≡ length w.proposers = length-map-range_with_len lengths 0 (length w.proposers) in
      let place_is : (p : ℕ) → get_or places p 0 ≡ length (row w.proposers p) = λ p. ap (λ l. get_or l p 0) longest ∙ elim (cases_lt p (length w.proposers)) [
        | inl here ↦ get_or-map-range_with_len lengths 0 (length w.proposers) p p 0 here (omega arith)
        | inr past ↦ get_or_past (past_lists w) p 0 (omega (arith, past, long)) ∙ sym (ap (λ (x : AgentData). length x.entries) (get_or_past w.proposers p no_agent past))
      ] in
      let begun_is : (s : ℕ) → begun_till w 0 0 s ≡ 0 = λ s. elim (cases_eq s 0) [ inl same ↦ begun_at w 0 0 s same | inr other ↦ begun_behind w 0 0 s (omega (arith, other)) ] in
      let load_is : (s : ℕ) → load w (ended_places w places) s ≡ 0 = λ s. load_same w (ended_places w places) s 0 (length w.proposers) (omega arith) (λ q _ _. ap (leads_to w q s) (held_ended w places q ∙ ended_past (length (row w.proposers q)) (get_or places q 0) (omega (arith, place_is q)))) in
      record {
        reviewers_each = ap length first ∙ length-replicate (length w.reviewers) 0;
        proposers_each = ap length longest ∙ long;
        on_lists = λ s. omega (arith, next_is s);
        acceptable = λ p held_on. absurd (omega (arith, held_on, place_is p));
        offered = λ p held_on. absurd (omega (arith, held_on, place_is p));
        answered = λ p s a lt. absurd (omega (arith, lt, next_is s));
        few = λ s. omega (arith, begun_is s);
        within = λ s. omega (arith, begun_is s, load_is s);
        settled = λ s. inl (omega (arith, begun_is s, load_is s));
        worst = λ others st p. omega (arith, standing-le st.matching.assigned p, place_is p);
      }

  -- the same offers, counted otherwise
  recounted : {begun again : ℕ → ℕ} {away next : Option ℕ} {nexts places : List ℕ} → IsOffering w begun away nexts places
      → ((s : ℕ) → again s ≤ capacity_of w.reviewers s)
      → ((s : ℕ) → load w (ended_places w places) s + on_its_way next s ≤ again s)
      → ((s : ℕ) → (load w (ended_places w places) s + on_its_way next s ≡ again s) ⊎ (length (row w.reviewers s) ≤ get_or nexts s 0))
      → IsOffering w again next nexts places
  recounted g few within settled = record {
    reviewers_each = g.reviewers_each;
    proposers_each = g.proposers_each;
    on_lists = g.on_lists;
    acceptable = g.acceptable;
    offered = g.offered;
    answered = g.answered;
    few = few;
    within = within;
    settled = settled;
    worst = g.worst;
  }

  -- a free place that is at the end of the list stays free
  pub stopped : {begun : ℕ → ℕ} {r : ℕ} {nexts places : List ℕ} → IsOffering w begun (Some r) nexts places → length (row w.reviewers r) ≤ get_or nexts r 0 → IsOffering w begun None nexts places
  stopped {begun} {r} {nexts} {places} g end = recounted g g.few (λ s. omega (arith, g.within s)) (λ s. elim (cases_eq s r) [
    | inl same ↦ inr (subst (λ x. length (row w.reviewers x) ≤ get_or nexts x 0) (sym same) end)
    | inr other ↦ elim (g.settled s) [ inl held ↦ inl (omega (arith, held, none_away r s other)) | inr past ↦ inr past ]
  ])

  -- one more place of r begins
  pub one_begins : {r k : ℕ} {nexts places : List ℕ} → IsOffering w (begun_till w r k) None nexts places → k < capacity_of w.reviewers r → get_or nexts r 0 < length (row w.reviewers r)
      → IsOffering w (begun_till w r (k + 1)) (Some r) nexts places
  one_begins {r} {k} {nexts} {places} g free on = recounted g
      (λ s. elim (cases_eq s r) [
        | inl same ↦ omega (arith, begun_at w r (k + 1) s same, ap (capacity_of w.reviewers) same, free)
        | inr other ↦ omega (arith, g.few s, alike s other)
      ])
      (λ s. elim (cases_eq s r) [
        | inl same ↦ omega (arith, begun_at w r (k + 1) s same, begun_at w r k s same, g.within s, ap (on_its_way (Some r)) same, one_away r)
        | inr other ↦ omega (arith, g.within s, alike s other, none_away r s other)
      ])
      (λ s. elim (g.settled s) [
        | inl all ↦ inl (elim (cases_eq s r) [
          | inl same ↦ omega (arith, begun_at w r (k + 1) s same, begun_at w r k s same, all, ap (on_its_way (Some r)) same, one_away r)
          | inr other ↦ omega (arith, all, alike s other, none_away r s other)
        ])
        | inr end ↦ inr end
      ])
    where
      alike : (s : ℕ) → s ≢ r → begun_till w r (k + 1) s ≡ begun_till w r k s
      alike s ne = elim (cases_lt s r) [
        | inl lt ↦ begun_before w r (k + 1) s lt ∙ sym (begun_before w r k s lt)
        | inr ge ↦ begun_behind w r (k + 1) s (omega (arith, ge, ne)) ∙ sym (begun_behind w r k s (omega (arith, ge, ne)))
      ]

  -- r has offered all its places, or is at the end of its list
  pub one_done : (r k : ℕ) {nexts places : List ℕ} → IsOffering w (begun_till w r k) None nexts places → (capacity_of w.reviewers r ≤ k) ⊎ (length (row w.reviewers r) ≤ get_or nexts r 0)
      → IsOffering w (begun_till w (r + 1) 0) None nexts places
  one_done r k {nexts} {places} g done = recounted g
      (λ s. elim (cases_eq s r) [
        | inl same ↦ omega (arith, begun_before w (r + 1) 0 s (omega (arith, same)))
        | inr other ↦ omega (arith, g.few s, alike s other)
      ])
      (λ s. elim (cases_eq s r) [
        | inl same ↦ omega (arith, begun_before w (r + 1) 0 s (omega (arith, same)), g.few s, g.within s)
        | inr other ↦ omega (arith, g.within s, alike s other)
      ])
      (λ s. elim (cases_eq s r) [
        | inl same ↦ elim done [
          | inl all ↦ elim (g.settled s) [
            | inl held ↦ inl (omega (arith, begun_before w (r + 1) 0 s (omega (arith, same)), begun_at w r k s same, g.few s, held, all, ap (capacity_of w.reviewers) same))
            | inr end ↦ inr end
          ]
          | inr end ↦ inr (subst (λ x. length (row w.reviewers x) ≤ get_or nexts x 0) (sym same) end)
        ]
        | inr other ↦ elim (g.settled s) [ inl held ↦ inl (held ∙ sym (alike s other)) | inr end ↦ inr end ]
      ])
    where
      alike : (s : ℕ) → s ≢ r → begun_till w (r + 1) 0 s ≡ begun_till w r k s
      alike s ne = elim (cases_lt s r) [
        | inl lt ↦ begun_before w (r + 1) 0 s (omega (arith, lt)) ∙ sym (begun_before w r k s lt)
        | inr ge ↦
            let none : begun_till w (r + 1) 0 s ≡ 0 = elim (cases_eq s (r + 1)) [ inl next ↦ begun_at w (r + 1) 0 s next | inr other ↦ begun_behind w (r + 1) 0 s (omega (arith, ge, ne, other)) ] in
            none ∙ sym (begun_behind w r k s (omega (arith, ge, ne)))
      ]

  -- all places of all reviewers have begun
  pub all_done : {r : ℕ} {nexts places : List ℕ} → IsOffering w (begun_till w r 0) None nexts places → r ≡ length w.reviewers → IsOffering w (capacity_of w.reviewers) None nexts places
  all_done {r} {nexts} {places} g all =
      let same : (s : ℕ) → begun_till w r 0 s ≡ capacity_of w.reviewers s = λ s. elim (cases_lt s r) [
        | inl lt ↦ begun_before w r 0 s lt
        | inr ge ↦
            let none : begun_till w r 0 s ≡ 0 = elim (cases_eq s r) [ inl is ↦ begun_at w r 0 s is | inr other ↦ begun_behind w r 0 s (omega (arith, ge, other)) ] in
            none ∙ sym (ap (λ (x : AgentData). x.capacity) (get_or_past w.reviewers s no_agent (omega (arith, ge, all))))
      ] in
      recounted g (λ s. omega arith) (λ s. omega (arith, g.within s, same s)) (λ s. elim (g.settled s) [ inl held ↦ inl (held ∙ same s) | inr end ↦ inr end ])

  -- so the proposers end in the reviewers' best matching
  module _ {nexts places : List ℕ} (g : IsOffering w (capacity_of w.reviewers) None nexts places) where
    stands : (p : ℕ) → standing w (ended_places w places) p ≤ get_or places p 0
    stands p = elim (cases_lt (get_or places p 0) (length (row w.proposers p))) [
      | inl on ↦ omega (arith, ap (λ o. unwrap_or o (length (row w.proposers p))) (held_ended w places p ∙ ended_on (length (row w.proposers p)) (get_or places p 0) on))
      | inr past ↦ omega (arith, past, ap (λ o. unwrap_or o (length (row w.proposers p))) (held_ended w places p ∙ ended_past (length (row w.proposers p)) (get_or places p 0) past))
    ]

    stands_past : (p n : ℕ) → n ≤ get_or places p 0 → n ≤ length (row w.proposers p) → n ≤ standing w (ended_places w places) p
    stands_past p n le short = elim (cases_lt (get_or places p 0) (length (row w.proposers p))) [
      | inl on ↦ omega (arith, le, ap (λ o. unwrap_or o (length (row w.proposers p))) (held_ended w places p ∙ ended_on (length (row w.proposers p)) (get_or places p 0) on))
      | inr past ↦ omega (arith, short, ap (λ o. unwrap_or o (length (row w.proposers p))) (held_ended w places p ∙ ended_past (length (row w.proposers p)) (get_or places p 0) past))
    ]

    unblocked : (p r : ℕ) → ¬ Blocks w (ended_places w places) p r
    unblocked p r b =
        let lists = b.acceptable.reviewer_lists in
        elim (cases_lt (place_of w.reviewers r p) (get_or nexts r 0)) [
          | inl asked ↦ omega (arith, g.answered p r b.acceptable asked, b.proposer_gains, stands p)
          | inr not_asked ↦ elim b.reviewer_gains [
            | inl free ↦ elim (g.settled r) [
              | inl held ↦ omega (arith, held, free)
              | inr end ↦ omega (arith, end, not_asked, lists)
            ]
            | inr worse ↦
                let at = ended_at w places worse.other worse.at worse.holds in
                let Q : ℕ → Type 0 = λ i. place_of w.reviewers (entry w.proposers worse.other i) worse.other < get_or nexts (entry w.proposers worse.other i) 0 in
                let before = subst Q at.0 (g.offered worse.other (omega (arith, at.0, at.1))) in
                let here : place_of w.reviewers r worse.other < get_or nexts r 0 = subst (λ s. place_of w.reviewers s worse.other < get_or nexts s 0) worse.there before in
                omega (arith, here, worse.worse, not_asked)
          ]
        ]

    pub offers_end : IsReviewersBest w (ended_places w places)
    offers_end = record {
      stable = record {
        matching = record {
          assigned = record { one_each = length-ended w places; on_lists = λ p i h. (ended_at w places p i h).1 };
          acceptable = λ p i h.
              let at = ended_at w places p i h in
              subst (λ n. IsAcceptable w p (entry w.proposers p n)) at.0 (g.acceptable p (omega (arith, at.0, at.1)));
          within = λ r. omega (arith, g.within r);
        };
        unblocked = unblocked;
      };
      worst = λ others st p. stands_past p (standing w others p) (g.worst others st p) (standing-le st.matching.assigned p);
    }
