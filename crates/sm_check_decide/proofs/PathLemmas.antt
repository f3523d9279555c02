-- The way along successors: it goes on, ends, or goes round a rotation.
use Rattle.std.proofs.Common.{◌≡◌, ◌≢◌, ℕ, zero, suc, ◌+◌, ◌-◌, ◌<◌, ◌≤◌, inl, inr, arith, refl, sym, ap, ◌∙◌, List, [], ◌∷◌, ◌++◌, length, slice_index}
use Rattle.std.specs.List.{Contains}
use Rattle.std.proofs.lemmas.List.{get_or_append_left, get_or_push, length_push}
use Rattle.std.proofs.lemmas.List.Elements.{Contains-append_left, Contains-append_right}
use Rattle.sm_lists.proofs.Counting.{lt_or_le, eq_or_ne, less_same_more}
use Rattle.sm_market.specs.Lists.{Lists, entry, IsMarket}
use Rattle.sm_market.specs.Matching.{Places, standing, IsMatching}
use Rattle.sm_market.proofs.Core.{Pair, pair_of, one_reviewer}
use Rattle.sm_market.proofs.Bridge.{sides_of, stand_of, fit_of}
use Rattle.sm_theory.specs.Rotations.{IsSuccessor, IsNext, IsNoneBelow}
use Rattle.sm_theory.proofs.Core.Cycle.{Cycle, Succ, Exposed, target, turn, turn_in, turn_last, turn_more}
use Rattle.sm_theory.proofs.Bridge.Rotation.{pair_of_held, succ_at}
use Rattle.sm_check_decide.specs.Exposure.{IsSafe}
use Rattle.sm_check_decide.specs.ExposureKept.{IsSuccessorPath, AreSafe, AreClosed, EndsOrLeads}
use Rattle.sm_check_decide.proofs.AmongLemmas.{contains_at}
use Rattle.sm_check_decide.proofs.SafeLemmas.{none_round, safe_before, safe_in_round}

-- a way goes on
pub path_goes_on : {l : Lists} {m : Places} {items : List ℕ} {start p q next : ℕ} → IsSuccessorPath l m items start p q → IsNext l m q next → IsSuccessorPath l m (items ++ q ∷ []) start p next
path_goes_on {l} {m} {items} {start} {p} {q} {next} w x = record {
  start_in = omega (arith, w.start_in, length_push items q);
  empty = λ e. absurd (omega (arith, w.start_in, length_push items q));
  begins = λ less. elim (eq_or_ne start (length items)) [
    | inl e ↦ new start e ∙ w.empty e
    | inr ne ↦ old start (omega (arith, w.start_in)) ∙ w.begins (omega (arith, w.start_in))
  ];
  next = λ k more less. elim (eq_or_ne (k + 1) (length items)) [
    | inl e ↦ rw (old k (omega arith), new (k + 1) e) (w.last k more e)
    | inr ne ↦ rw (old k (omega (arith, length_push items q)), old (k + 1) (omega (arith, length_push items q))) (w.next k more (omega (arith, length_push items q)))
  ];
  last = λ k more e. rw (new k (omega (arith, length_push items q))) x;
}
  where
    old : (k : ℕ) → k < length items → slice_index (items ++ q ∷ []) k ≡ slice_index items k
    old k less = get_or_append_left items (q ∷ []) 0 k less

    new : (k : ℕ) → k ≡ length items → slice_index (items ++ q ∷ []) k ≡ q
    new k e = get_or_push items q 0 k (sym e)

-- what was safe before stays so
pub before_pushed : {l : Lists} {m : Places} {items : List ℕ} {start p q bound : ℕ} → IsSuccessorPath l m items start p q → ((k : ℕ) → k < start → IsSafe l m bound (slice_index items k)) → (k : ℕ) → k < start → IsSafe l m bound (slice_index (items ++ q ∷ []) k)
before_pushed {l} {m} {items} {start} {p} {q} w before k less =
    let same : slice_index (items ++ q ∷ []) k ≡ slice_index items k = get_or_append_left items (q ∷ []) 0 k (omega (arith, w.start_in)) in
    rw same (before k less)

module _ {l : Lists} (h : IsMarket l) {m : Places} (f : IsMatching l m) {items : List ℕ} {start p q : ℕ} (w : IsSuccessorPath l m items start p q) where
  -- where the end of the way is safe, all of it is
  pub path_safe : {bound : ℕ} → IsSafe l m bound q → (k : ℕ) → start ≤ k → k < length items → IsSafe l m bound (slice_index items k)
  path_safe {bound} safe k more less = back (length items - suc k) k more (omega arith)
    where
      back : (d k : ℕ) → start ≤ k → k + suc d ≡ length items → IsSafe l m bound (slice_index items k)
      back zero k more e = safe_before h f (w.last k more (omega arith)) safe
      back (suc d) k more e = safe_before h f (w.next k more (omega arith)) (back d (k + 1) (omega arith) (omega arith))

  -- and so is where it began
  pub begin_safe : {bound : ℕ} → IsSafe l m bound q → IsSafe l m bound p
  begin_safe {bound} safe = elim (eq_or_ne start (length items)) [
    | inl e ↦ rw (w.empty e) at safe
    | inr ne ↦ rw (w.begins (omega (arith, w.start_in))) at (path_safe safe start (omega arith) (omega (arith, w.start_in)))
  ]

  -- and so are all of the trail, where those before it are
  pub all_safe : {bound : ℕ} → ((k : ℕ) → k < start → IsSafe l m bound (slice_index items k)) → IsSafe l m bound q → AreSafe l m bound items
  all_safe before safe = record { safe = λ k less. elim (lt_or_le k start) [ inl early ↦ before k early | inr more ↦ path_safe safe k more less ] }

  -- and all of the trail are safe with the end of the way put on it
  pub all_pushed : {bound : ℕ} → ((k : ℕ) → k < start → IsSafe l m bound (slice_index items k)) → IsSafe l m bound q → AreSafe l m bound (items ++ q ∷ [])
  all_pushed {bound} before safe = record {
    safe = λ k less. elim (eq_or_ne k (length items)) [
      | inl e ↦ let new : slice_index (items ++ q ∷ []) k ≡ q = get_or_push items q 0 k (sym e) in rw new safe
      | inr ne ↦
          let inside : k < length items = omega (arith, length_push items q) in
          let old : slice_index (items ++ q ∷ []) k ≡ slice_index items k = get_or_append_left items (q ∷ []) 0 k inside in
          rw old ((all_safe before safe).safe k inside)
    ];
  }

  -- where the way comes to itself, it goes round a rotation from there on
  module _ (distinct : (i j : ℕ) → i < j → j < length items → slice_index items i ≢ slice_index items j) (spot : ℕ) (more : start ≤ spot) (less : spot < length items) (there : slice_index items spot ≡ q) where
    abbrev round : Cycle
    round = record { size = length items - spot; who = λ k. slice_index items (spot + k); has = λ k. entry l.proposers (slice_index items (spot + k)) (standing l.proposers m.proposers (slice_index items (spot + k))) }

    onward : (k : ℕ) → k < length items - spot → IsNext l m (slice_index items (spot + k)) (slice_index items (spot + turn (length items - spot) k))
    onward k inside = elim (eq_or_ne (k + 1) (length items - spot)) [
      | inl e ↦
          let first : slice_index items (spot + turn (length items - spot) k) ≡ q = ap (slice_index items) (omega (arith, turn_last (length items - spot) k e)) ∙ there in
          rw first (w.last (spot + k) (omega arith) (omega arith))
      | inr ne ↦
          let next : spot + turn (length items - spot) k ≡ spot + k + 1 = omega (arith, turn_more (length items - spot) k ne) in
          rw next (w.next (spot + k) (omega arith) (omega arith))
    ]

    succ : (k : ℕ) (inside : k < length items - spot) → Succ (sides_of l h) (stand_of l m) (slice_index items (spot + k)) (onward k inside).target
    succ k inside = succ_at h f (slice_index items (spot + k)) (onward k inside).target (onward k inside).next

    paired : (k : ℕ) → k < length items - spot → Pair (sides_of l h) (stand_of l m) (slice_index items (spot + k)) (round.has k)
    paired k inside = let x = succ k inside in pair_of (slice_index items (spot + k)) (fit_of h f) (omega (arith, x.behind, x.on))

    exposed : Exposed (sides_of l h) (stand_of l m) round
    exposed = record {
      some = omega arith;
      distinct = λ i j a b e. elim (less_same_more i j) [
        | inl k ↦ absurd (distinct (spot + i) (spot + j) (omega arith) (omega arith) e)
        | inr d ↦ elim d [ inl k ↦ k | inr k ↦ absurd (distinct (spot + j) (spot + i) (omega arith) (omega arith) (sym e)) ]
      ];
      paired = paired;
      next = λ k inside.
          let after = turn_in (length items - spot) k inside in
          let pair = pair_of_held h f (slice_index items (spot + turn (length items - spot) k)) (onward k inside).target (onward k inside).has in
          let same : (onward k inside).target ≡ target round k = one_reviewer pair (paired (turn (length items - spot) k) after) in
          rw same at (succ k inside);
    }

    -- so it is safe where nobody on it is below the bound, and else there is a rotation with somebody who is
    pub round_safe : {bound : ℕ} → ((k : ℕ) → spot ≤ k → k < length items → bound ≤ slice_index items k) → IsSafe l m bound q
    round_safe {bound} all =
        let first : slice_index items (spot + 0) ≡ q = ap (slice_index items) (omega arith) ∙ there in
        rw first at (safe_in_round h f exposed (λ i inside. all (spot + i) (omega arith) (omega arith)) 0 (omega arith))

    -- where no exposed rotation has a proposer below the bound, nobody on the round is below it
    pub round_below : {bound : ℕ} → IsNoneBelow l m bound → (k : ℕ) → spot ≤ k → k < length items → bound ≤ slice_index items k
    round_below {bound} none k after inside =
        let here : spot + (k - spot) ≡ k = omega arith in
        rw here at (none_round h none exposed (k - spot) (omega arith))

-- who leads to a trail leads to a longer one
pub lead_more : {l : Lists} {m : Places} {items more : List ℕ} {p : ℕ} → ((x : ℕ) → Contains items x → Contains more x) → EndsOrLeads l m items p → EndsOrLeads l m more p
lead_more kept (inl none) = inl none
lead_more kept (inr v) = inr (record { next = v.next; is = v.is; on = kept v.next v.on })

-- where a way leads to one on a trail, no successor leads away from the trail
module _ {l : Lists} {m : Places} {items : List ℕ} {start p q : ℕ} (w : IsSuccessorPath l m items start p q) (more : List ℕ) (kept : (x : ℕ) → Contains items x → Contains more x) (there : Contains more q) where
  leads : (k : ℕ) → start ≤ k → k < length items → EndsOrLeads l m more (slice_index items k)
  leads k after less = elim (eq_or_ne (k + 1) (length items)) [
    | inl e ↦ inr (record { next = q; is = w.last k after e; on = there })
    | inr ne ↦ inr (record { next = slice_index items (k + 1); is = w.next k after (omega arith); on = kept (slice_index items (k + 1)) (contains_at items (slice_index items (k + 1)) (k + 1) (omega arith) refl) })
  ]

  -- and it began on the trail
  pub begin_on : Contains more p
  begin_on = elim (eq_or_ne start (length items)) [
    | inl e ↦ rw (w.empty e) at there
    | inr ne ↦ let less : start < length items = omega (arith, w.start_in) in kept p (contains_at items p start less (w.begins less))
  ]

module _ {l : Lists} {m : Places} {items : List ℕ} {start p q : ℕ} (w : IsSuccessorPath l m items start p q) (early : (k : ℕ) → k < start → EndsOrLeads l m items (slice_index items k)) where
  -- the way leads to one that was on the trail
  pub closed_there : Contains items q → AreClosed l m items
  closed_there there = record { closed = λ k less. elim (lt_or_le k start) [ inl before ↦ early k before | inr after ↦ leads w items (λ x v. v) there k after less ] }

  -- or to one that has no successor
  pub closed_pushed : ((i : ℕ) → ¬ IsSuccessor l m q i) → AreClosed l m (items ++ q ∷ [])
  closed_pushed none = record {
    closed = λ k less. elim (eq_or_ne k (length items)) [
      | inl e ↦ let new : slice_index (items ++ q ∷ []) k ≡ q = get_or_push items q 0 k (sym e) in rw new (inl none)
      | inr ne ↦
          let inside : k < length items = omega (arith, length_push items q) in
          let old : slice_index (items ++ q ∷ []) k ≡ slice_index items k = get_or_append_left items (q ∷ []) 0 k inside in
          rw old (elim (lt_or_le k start) [
            | inl before ↦ lead_more (Contains-append_left items (q ∷ [])) (early k before)
            | inr after ↦ leads w (items ++ q ∷ []) (Contains-append_left items (q ∷ [])) (Contains-append_right items (q ∷ []) q (0, omega arith, refl)) k after inside
          ])
    ];
  }

-- those early on a trail do so once one is pushed on it
pub early_pushed : {l : Lists} {m : Places} {items : List ℕ} {start : ℕ} (q : ℕ) → start ≤ length items → ((k : ℕ) → k < start → EndsOrLeads l m items (slice_index items k)) → (k : ℕ) → k < start → EndsOrLeads l m (items ++ q ∷ []) (slice_index (items ++ q ∷ []) k)
early_pushed {items = items} q le early k less =
    let old : slice_index (items ++ q ∷ []) k ≡ slice_index items k = get_or_append_left items (q ∷ []) 0 k (omega arith) in
    rw old (lead_more (Contains-append_left items (q ∷ [])) (early k less))
