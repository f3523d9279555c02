-- Turn after turn the heap's first is written, until all is written.
use Rattle.std.proofs.Common.{◌≡◌, ◌≢◌, ℕ, ◌<◌, ◌≤◌, inl, inr, arith, refl, sym, ap, ◌∙◌, List, [], ◌∷◌, ◌++◌, Vec, length, set, slice_index_or, get_or}
use Rattle.std.specs.BinaryHeap.{IsUpperBound}
use Rattle.std.specs.List.Sorted.{IsPermutation}
use Rattle.std.specs.declared.cmp.Reverse.{Reverse}
use Rattle.std.specs.declared.alloc.Global.{Global}
use Rattle.std.proofs.lemmas.List.{get_or-map, get_or-set_other, length-set}
use Rattle.sm_market.specs.Lists.{Lists, row, IsMarket}
use Rattle.sm_market.specs.Matching.{Places}
use Rattle.sm_market.specs.Vectors.{rows_of}
use Rattle.sm_lists.proofs.Counting.{lt_or_le}
use Rattle.sm_theory.specs.Rotations.{eliminated, IsExposed, IsLowestExposed}
use Rattle.sm_theory.specs.Chains.{rotation_at, stage, IsCompleteChain, IsPrintedChain}
use Rattle.sm_theory.specs.Values.{rotations_of}
use Rattle.sm_theory.specs.declared.rotations.Rotation.{Rotation}
use Rattle.sm_theory.proofs.Bridge.Rotation.{eliminated_stable}
use Rattle.sm_rotations.specs.Chaining.{LeadsTo}
use Rattle.sm_rotations.specs.Graph.{times, AreFollowers, AreCounts}
use Rattle.sm_rotations.specs.Ordering.{later_first, times_ready, AreLeads, IsHeapEntry, IsTurned, AreReadyAtFirst, IsPassed, IsReleased, AreWritten, AreLeft}
use Rattle.sm_rotations.proofs.ChainingLemmas.{leads_start, leads_on, leads_whole, places_below, places_fall}
use Rattle.sm_rotations.proofs.NeedsLemmas.{as_many}
use Rattle.sm_rotations.proofs.PassedLemmas.{now_passed, still_passed}
use Rattle.sm_rotations.proofs.TurnLemmas.{turned_eliminated}
use Rattle.sm_rotations.proofs.HeapLemmas.{least_of_heap, one_popped, others_popped, entry_popped, entries_popped}
use Rattle.sm_rotations.proofs.ReadyLemmas.{ready_start, in_heap_out, in_heap_exposed, nothing_left, first_is_lowest, enough, ready_more}

-- the pairs of a rotation in a value
pub pairs_at : (rotations : List Rotation) (j : ℕ) (r : Rotation) → j < length rotations → (get_or rotations j r).pairs.items ≡ rotation_at (rotations_of rotations) j
pairs_at rotations j r inside = sym (get_or-map (λ (r : Rotation). r.pairs.items) rotations j r [] inside)

-- a list without items
pub nil_of : {X : Type 0} (xs : List X) → length xs ≡ 0 → xs ≡ []
nil_of [] e = refl
nil_of (x ∷ xs) e = absurd (omega arith)

-- a complete chain, and for each rotation those that need it
pub record HasFollowers (l : Lists) (first : Places) (rotations : List (List (ℕ × ℕ))) (followers : List (List ℕ)) : Type 0 where
  pub market : IsMarket l
  pub chain : IsCompleteChain l first rotations
  pub are : AreFollowers l rotations (length rotations) followers

-- a complete chain and the followers of its rotations, as they are held
pub has_followers : {l : Lists} {first : Places} (rotations : List Rotation) (followers : List (Vec ℕ Global)) → IsMarket l → IsCompleteChain l first (rotations_of rotations)
    → AreFollowers l (rotations_of rotations) (length rotations) (rows_of followers) → HasFollowers l first (rotations_of rotations) (rows_of followers)
has_followers rotations followers h chain are = record { market = h; chain = chain; are = rw (as_many rotations) are }

module _ {l : Lists} {first : Places} {rotations : List (List (ℕ × ℕ))} {followers : List (List ℕ)} (u : HasFollowers l first rotations followers) where
  -- with nothing written the heap has what is ready at first
  pub written_start : {written : List (List (ℕ × ℕ))} (unmet : List ℕ) (ready : List (Reverse (ℕ × ℕ))) → written ≡ [] → AreCounts followers (length followers) unmet
      → {leads : List ℕ} → AreLeads rotations (length rotations) leads → AreReadyAtFirst leads unmet (length rotations) ready → AreWritten l first rotations followers written unmet ready
  written_start unmet ready none c leads r = rw none (record {
    stable = u.chain.from_best.stable;
    leads = leads_start l first first refl;
    heap = ready_start u.market u.chain u.are unmet ready c leads r;
  })

  module _ {written : List (List (ℕ × ℕ))} {unmet : List ℕ} {ready : List (Reverse (ℕ × ℕ))} (w : AreWritten l first rotations followers written unmet ready) where
    -- the end
    pub written_whole : ready ≡ [] → IsPrintedChain l first written
    written_whole empty = leads_whole u.chain.from_best w.leads (nothing_left u.market u.chain u.are w.stable w.heap (λ k. ap (λ items. times_ready items k) empty))

    -- a turn
    module _ (x : Reverse (ℕ × ℕ)) {rest : List (Reverse (ℕ × ℕ))} (popped : IsPermutation ready (x ∷ rest)) where
      entry : IsHeapEntry rotations x
      entry = entry_popped x ready rest popped rotations w.heap.entries

      -- the heap's first is a rotation of the chain
      pub popped_in_range : x.0.1 < length rotations
      popped_in_range = entry.0

      stands : 0 < times_ready ready x.0.1
      stands = omega (arith, one_popped x ready rest popped)

      -- the heap's first isn't passed
      pub popped_out : ¬ IsPassed l first rotations (stage l first written (length written)) x.0.1
      popped_out = in_heap_out u.market u.chain u.are w.stable w.heap x.0.1 entry.0 stands

      -- the heap's first is exposed
      pub popped_exposed : IsExposed l (stage l first written (length written)) (rotation_at rotations x.0.1)
      popped_exposed = in_heap_exposed u.market u.chain u.are w.stable w.heap x.0.1 entry.0 stands

      -- no rotation stands among its followers more often than it has unmet needs
      pub enough_unmet : (j : ℕ) → times (row followers x.0.1) j ≤ slice_index_or unmet j 0
      enough_unmet j = elim (lt_or_le 0 (times (row followers x.0.1) j)) [
        | inl some ↦ enough u.market u.chain u.are w.stable w.heap x.0.1 entry.0 stands j (u.are.sound x.0.1 j some).0
        | inr none ↦ omega arith
      ]

      module _ (order : IsUpperBound later_first x ready) {turned : List (ℕ × ℕ)} (t : IsTurned (rotation_at rotations x.0.1) turned) {written_after : List (List (ℕ × ℕ))} (more : written_after ≡ written ++ turned ∷ []) where
        low : IsLowestExposed l (stage l first written (length written)) turned
        low = first_is_lowest u.market u.chain u.are w.stable w.heap x turned entry stands (least_of_heap x ready order) t

        leads : LeadsTo l first (written ++ turned ∷ []) (eliminated l (stage l first written (length written)) turned)
        leads = leads_on turned w.leads low refl

        -- writing it leaves fewer places below the proposers
        pub places_left : places_below l (stage l first written_after (length written_after)) < places_below l (stage l first written (length written))
        places_left = rw more (places_fall turned u.market w.stable low.exposed (sym leads.at_end))

        -- writing it, turned, leads to what is left once it is eliminated
        pub next_is : stage l first written_after (length written_after) ≡ eliminated l (stage l first written (length written)) (rotation_at rotations x.0.1)
        next_is = rw more (sym leads.at_end ∙ turned_eliminated u.market w.stable popped_exposed t)

        -- and it leaves the others that aren't passed as they were
        pub left_more : {left : List (List (ℕ × ℕ))} (new : List (ℕ × ℕ)) → AreLeft l first rotations (stage l first written (length written)) left
            → AreLeft l first rotations (stage l first written_after (length written_after)) (set left x.0.1 new)
        left_more {left} new a = rw next_is (record {
          one_each = length-set left x.0.1 new ∙ a.one_each;
          each = λ k g out.
              let other : k ≢ x.0.1 = λ same. out (rw same (now_passed u.market u.chain w.stable x.0.1 entry.0 popped_exposed)) in
              rw (get_or-set_other left x.0.1 k new [] other) (a.each k g (λ e. out (still_passed u.market u.chain w.stable x.0.1 entry.0 popped_exposed k g e)));
        })

        -- once its followers' needs are met, what is written and the heap are right again
        pub written_more : {unmet_after : List ℕ} {ready_after : List (Reverse (ℕ × ℕ))} → length unmet_after ≡ length unmet
            → {leads : List ℕ} → AreLeads rotations (length rotations) leads → IsReleased leads (row followers x.0.1) unmet rest unmet_after ready_after
            → AreWritten l first rotations followers written_after unmet_after ready_after
        written_more {unmet_after} {ready_after} long leads_are released = rw more (record {
          stable = rw (sym leads.at_end) (eliminated_stable u.market w.stable low.exposed);
          leads = rw (sym leads.at_end) leads;
          heap = rw (sym leads.at_end ∙ turned_eliminated u.market w.stable popped_exposed t)
              (ready_more u.market u.chain u.are w.stable w.heap x.0.1 entry.0 stands (others_popped x ready rest popped) (one_popped x ready rest popped) (entries_popped x ready rest popped rotations w.heap.entries) long leads_are released);
        })
