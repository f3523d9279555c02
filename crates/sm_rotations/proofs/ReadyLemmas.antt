-- The heap has what is exposed, turn after turn.
use Rattle.std.proofs.Common.{◌≡◌, ◌≢◌, ℕ, ◌+◌, ◌<◌, ◌≤◌, inl, inr, arith, sym, ap, ◌∙◌, List, length, true, false, not, slice_index_or, All}
use Rattle.std.specs.Bool.{nat_eq}
use Rattle.std.specs.declared.cmp.Reverse.{Reverse}
use Rattle.std.proofs.lemmas.Bool.{eqb-true, false_from_ne_true}
use Rattle.sm_lists.proofs.ResultLemmas.{same_bool}
use Rattle.sm_market.specs.Lists.{Lists, row, IsMarket}
use Rattle.sm_market.specs.Matching.{Places}
use Rattle.sm_market.specs.Stable.{IsStable}
use Rattle.sm_lists.proofs.Counting.{eq_or_ne, lt_or_le, by_contradiction, Decided-true}
use Rattle.sm_theory.specs.Rotations.{IsExposed, eliminated, IsNothingExposed, IsLowestExposed}
use Rattle.sm_theory.specs.Chains.{rotation_at, IsCompleteChain, IsNeededBy}
use Rattle.sm_rotations.specs.Graph.{times, times_below, AreFollowers, AreCounts}
use Rattle.sm_rotations.specs.Ordering.{times_ready, is_passed, IsPassed, left_over, IsLead, AreLeads, IsHeapEntry, IsTurned, AreReady, AreReadyAtFirst, IsReleased}
use Rattle.sm_rotations.proofs.TimesLemmas.{count_found, below_none, below_some, below_alike, below_apart}
use Rattle.sm_rotations.proofs.TurnLemmas.{turned_exposed, turned_first}
use Rattle.sm_rotations.proofs.PassedLemmas.{IsReadyOne, none_passed, passed_needs, ready_exposed, exposed_ready_one, all_passed, now_passed, still_passed, no_other_passed}

module _ {l : Lists} (h : IsMarket l) {first : Places} {rotations : List (List (ℕ × ℕ))} (chain : IsCompleteChain l first rotations)
    {followers : List (List ℕ)} (f : AreFollowers l rotations (length rotations) followers) where
  -- no need is left over exactly where all needs are passed
  none_left : (m : Places) (k : ℕ) → k < length rotations → left_over l first rotations followers m k ≡ 0
      → (i : ℕ) → i < length rotations → IsNeededBy l (rotation_at rotations i) (rotation_at rotations k) → IsPassed l first rotations m i
  none_left m k g none i a need = by_contradiction (Decided-true (is_passed l first rotations m i)) (λ out.
      let left = ap not (false_from_ne_true (is_passed l first rotations m i) out) in
      omega (arith, none, below_some followers k (λ i. not (is_passed l first rotations m i)) (length rotations) i a left, f.all i k g a need))

  all_left : (m : Places) (k : ℕ) → ((i : ℕ) → i < length rotations → IsNeededBy l (rotation_at rotations i) (rotation_at rotations k) → IsPassed l first rotations m i)
      → left_over l first rotations followers m k ≡ 0
  all_left m k all = below_none followers k (λ i. not (is_passed l first rotations m i)) (length rotations) (λ i a left. elim (lt_or_le 0 (times (row followers i) k)) [
    | inr none ↦ omega arith
    | inl some ↦
        let passed : not (is_passed l first rotations m i) ≡ false = ap not (all i a (f.sound i k some).2) in
        let no : true ≡ false = sym left ∙ passed in
        absurd (grind arith)
  ])

  -- at first all needs are left over
  pub ready_start : (unmet : List ℕ) (ready : List (Reverse (ℕ × ℕ))) → AreCounts followers (length followers) unmet → {leads : List ℕ} → AreLeads rotations (length rotations) leads
      → AreReadyAtFirst leads unmet (length rotations) ready → AreReady l first rotations followers first unmet ready
  ready_start unmet ready c leads r = record {
    one_each = c.one_each ∙ f.one_each;
    counts = λ k g. c.each k (omega (arith, f.one_each)) ∙ ap (times_below (λ _. true) followers k) f.one_each
        ∙ below_alike followers k (λ _. true) (λ i. not (is_passed l first rotations first i)) (length rotations) (λ i a.
        sym (ap not (false_from_ne_true (is_passed l first rotations first i) (none_passed h chain i a))));
    entries = r.entries rotations leads;
    once = λ k g _ e. r.once k g e;
    passed = λ k g e. absurd (none_passed h chain k g e);
    waiting = λ k g ne. r.waiting k g ne;
  }

  module _ {m : Places} (s : IsStable l m) {unmet : List ℕ} {ready : List (Reverse (ℕ × ℕ))} (r : AreReady l first rotations followers m unmet ready) where
    -- what stands in the heap is not passed and has no unmet need
    pub in_heap_out : (k : ℕ) → k < length rotations → 0 < times_ready ready k → ¬ IsPassed l first rotations m k
    in_heap_out k g some e = omega (arith, r.passed k g e)

    in_heap_met : (k : ℕ) → k < length rotations → 0 < times_ready ready k → slice_index_or unmet k 0 ≡ 0
    in_heap_met k g some = elim (eq_or_ne (slice_index_or unmet k 0) 0) [ inl e ↦ e | inr ne ↦ absurd (omega (arith, r.waiting k g ne)) ]

    -- what stands in the heap stands there once
    pub in_heap_once : (k : ℕ) → k < length rotations → 0 < times_ready ready k → times_ready ready k ≡ 1
    in_heap_once k g some = r.once k g (in_heap_out k g some) (in_heap_met k g some)

    -- so it is exposed
    pub in_heap_exposed : (k : ℕ) → k < length rotations → 0 < times_ready ready k → IsExposed l m (rotation_at rotations k)
    in_heap_exposed k g some = ready_exposed h chain s k g (in_heap_out k g some) (none_left m k g (sym (r.counts k g) ∙ in_heap_met k g some))

    -- and what is ready stands in the heap
    ready_in_heap : (k : ℕ) → k < length rotations → ¬ IsPassed l first rotations m k
        → ((i : ℕ) → i < length rotations → IsNeededBy l (rotation_at rotations i) (rotation_at rotations k) → IsPassed l first rotations m i) → times_ready ready k ≡ 1
    ready_in_heap k g out all = r.once k g out (r.counts k g ∙ all_left m k all)

    -- an empty heap: nothing is exposed
    pub nothing_left : ((k : ℕ) → times_ready ready k ≡ 0) → IsNothingExposed l m
    nothing_left empty = record {
      none = λ other x.
          let w : IsReadyOne l first rotations m other = exposed_ready_one h chain s other x in
          w.out (all_passed h chain s (λ k g out all. omega (arith, empty k, ready_in_heap k g out all)) w.at w.below);
    }

    -- the heap's first is the exposed rotation with the lowest-numbered proposer
    pub first_is_lowest : (x : Reverse (ℕ × ℕ)) (turned : List (ℕ × ℕ)) → IsHeapEntry rotations x → 0 < times_ready ready x.0.1 → All (λ y. x.0.0 ≤ y.0.0) ready
        → IsTurned (rotation_at rotations x.0.1) turned → IsLowestExposed l m turned
    first_is_lowest x turned entry some least t = record {
      exposed = turned_exposed h s (in_heap_exposed x.0.1 entry.0 some) t;
      lowest = λ other y i inside.
          let w : IsReadyOne l first rotations m other = exposed_ready_one h chain s other y in
          let v = w.among i inside in
          let u = count_found (λ z. nat_eq z.0.1 w.at) ready x (omega (arith, ready_in_heap w.at w.below w.out w.prepared)) in
          let same : (slice_index_or ready u.at x).0.1 ≡ w.at = eqb-true (slice_index_or ready u.at x).0.1 w.at u.is in
          let there : IsLead (rotation_at rotations w.at) (slice_index_or ready u.at x).0.0 = rw same at ((r.entries u.at x u.inside).1) in
          let one = turned_first h s (in_heap_exposed x.0.1 entry.0 some) t in
          let two = t.lowest.least entry.1.pair entry.1.lowest.inside in
          let three = least u.at x u.inside in
          let four = there.lowest.least v.pair v.pair_in in
          omega (arith, one, two, three, four, entry.1.is, there.is, v.is);
    }

    -- once the first is taken off and eliminated
    module _ (k : ℕ) (g : k < length rotations) (some : 0 < times_ready ready k) where
      x : IsExposed l m (rotation_at rotations k)
      x = in_heap_exposed k g some

      fewer : (j : ℕ) → left_over l first rotations followers m j ≡ left_over l first rotations followers (eliminated l m (rotation_at rotations k)) j + times (row followers k) j
      fewer j = below_apart followers j (λ i. not (is_passed l first rotations m i)) (λ i. not (is_passed l first rotations (eliminated l m (rotation_at rotations k)) i)) (length rotations) k g
          (ap not (false_from_ne_true (is_passed l first rotations m k) (in_heap_out k g some)))
          (ap not (now_passed h chain s k g x))
          (λ i a ne. ap not (same_bool (is_passed l first rotations m i) (is_passed l first rotations (eliminated l m (rotation_at rotations k)) i) (still_passed h chain s k g x i a) (no_other_passed h chain s k g x i a ne)))

      -- no rotation stands among the followers of the first more often than it has unmet needs
      pub enough : (j : ℕ) → j < length rotations → times (row followers k) j ≤ slice_index_or unmet j 0
      enough j a = omega (arith, fewer j, r.counts j a)

      -- with the needs met that the first met, the heap is right for the matching behind it
      pub ready_more : {unmet_after : List ℕ} {rest ready_after : List (Reverse (ℕ × ℕ))}
          → ((j : ℕ) → j ≢ k → times_ready rest j ≡ times_ready ready j) → times_ready rest k + 1 ≡ times_ready ready k → All (IsHeapEntry rotations) rest
          → length unmet_after ≡ length unmet → {leads : List ℕ} → AreLeads rotations (length rotations) leads → IsReleased leads (row followers k) unmet rest unmet_after ready_after → AreReady l first rotations followers (eliminated l m (rotation_at rotations k)) unmet_after ready_after
      ready_more {unmet_after} {rest} {ready_after} others this entries long leads d = record {
        one_each = long ∙ r.one_each;
        counts = λ j a. omega (arith, d.counts j, fewer j, r.counts j a);
        entries = d.entries rotations leads entries;
        once = once;
        passed = passed;
        waiting = waiting;
      }
        where
          once : (j : ℕ) → j < length rotations → ¬ IsPassed l first rotations (eliminated l m (rotation_at rotations k)) j → slice_index_or unmet_after j 0 ≡ 0 → times_ready ready_after j ≡ 1
          once j a out none = elim (eq_or_ne j k) [
            | inl e ↦ let now : IsPassed l first rotations (eliminated l m (rotation_at rotations k)) j = ap (is_passed l first rotations (eliminated l m (rotation_at rotations k))) e ∙ now_passed h chain s k g x in absurd (out now)
            | inr ne ↦ elim (eq_or_ne (slice_index_or unmet j 0) 0) [
              | inl met ↦ omega (arith, (d.fallen j).same (inl met), others j ne, r.once j a (λ e. out (still_passed h chain s k g x j a e)) met)
              | inr unmet ↦ omega (arith, (d.fallen j).fallen (omega arith) none, others j ne, r.waiting j a unmet)
            ]
          ]

          met_here : (j : ℕ) → j ≡ k → slice_index_or unmet j 0 ≡ 0
          met_here j e = ap (λ j. slice_index_or unmet j 0) e ∙ in_heap_met k g some

          passed : (j : ℕ) → j < length rotations → IsPassed l first rotations (eliminated l m (rotation_at rotations k)) j → times_ready ready_after j ≡ 0
          passed j a e = elim (eq_or_ne j k) [
            | inl is ↦
                let taken : times_ready rest j ≡ times_ready rest k = ap (times_ready rest) is in
                omega (arith, (d.fallen j).same (inl (met_here j is)), taken, this, in_heap_once k g some)
            | inr ne ↦
                let before = no_other_passed h chain s k g x j a ne e in
                let met : slice_index_or unmet j 0 ≡ 0 = r.counts j a ∙ all_left m j (λ i b need. passed_needs h chain s i j b a before need) in
                omega (arith, (d.fallen j).same (inl met), others j ne, r.passed j a before)
          ]

          waiting : (j : ℕ) → j < length rotations → slice_index_or unmet_after j 0 ≢ 0 → times_ready ready_after j ≡ 0
          waiting j a ne =
              let more : slice_index_or unmet j 0 ≢ 0 = λ e. ne (omega (arith, d.counts j)) in
              let other : j ≢ k = λ e. more (met_here j e) in
              omega (arith, (d.fallen j).same (inr (omega arith)), others j other, r.waiting j a more)
