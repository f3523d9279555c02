-- Whom a search for exposed rotations may pass over.
use Rattle.std.proofs.Common.{◌≡◌, ℕ, ◌<◌, ◌≤◌, ◌⊎◌, inl, inr, arith, sym, ◌∙◌, Bool, List, [], length, slice_index}
use Rattle.std.specs.List.{Contains}
use Rattle.std.proofs.lemmas.List.{get_or_default}
use Rattle.sm_lists.proofs.Counting.{lt_or_le}
use Rattle.sm_market.specs.Lists.{Lists, place_of, IsMarket}
use Rattle.sm_market.specs.Matching.{Places, IsMatching}
use Rattle.sm_market.proofs.Core.{Pair, one_proposer}
use Rattle.sm_market.proofs.Bridge.{sides_of, stand_of}
use Rattle.sm_theory.specs.Rotations.{IsExposed, IsNoneBelow, IsSuccessor, proposer_at, target_at}
use Rattle.sm_theory.proofs.Core.Cycle.{succ_unique, go_round, turn, turn_in}
use Rattle.sm_theory.proofs.Bridge.Rotation.{exposed_of, pair_of_held, succ_at}
use Rattle.sm_successors.specs.Search.{IsSearchAt}
use Rattle.sm_check_decide.specs.Exposure.{IsPassed, IsSearchOf}
use Rattle.sm_check_decide.specs.ExposureKept.{AreSafe, AreClosed, AreOn, AreStartsAdded, LeadsTo}

-- who is on a list stands at a place of it
stands_at : (items : List ℕ) (p : ℕ) (w : Contains items p) → slice_index items w.0 ≡ p
stands_at items p w = sym (get_or_default items w.0 p 0 w.1) ∙ w.2

module _ {l : Lists} (h : IsMarket l) {m : Places} (f : IsMatching l m) where
  -- a rotation with a proposer on a trail from which no successor leads away is all on it
  pub round_on : {items : List ℕ} → AreClosed l m items → (other : List (ℕ × ℕ)) → IsExposed l m other → (i : ℕ) → i < length other → Contains items (proposer_at other i) → (j : ℕ) → j < length other → Contains items (proposer_at other j)
  round_on {items} c other x = go_round (length other) (λ k. Contains items (proposer_at other k)) step
    where
      step : (i : ℕ) → i < length other → Contains items (proposer_at other i) → Contains items (proposer_at other (turn (length other) i))
      step i a w =
          let at = stands_at items (proposer_at other i) w in
          elim (c.closed w.0 w.1) [
            | inl none ↦ let none' : (k : ℕ) → ¬ IsSuccessor l m (proposer_at other i) k = rw at at none in absurd (none' (place_of l.proposers (proposer_at other i) (target_at other i)) (x.next i a))
            | inr v ↦
                let v' : LeadsTo l m items (proposer_at other i) = rw at at v in
                let e = exposed_of h f x in
                let same : target_at other i ≡ v'.is.target = succ_unique (e.next i a) (succ_at h f (proposer_at other i) v'.is.target v'.is.next) in
                let next : Pair (sides_of l h) (stand_of l m) (proposer_at other (turn (length other) i)) v'.is.target = rw same at (e.paired (turn (length other) i) (turn_in (length other) i a)) in
                let is : proposer_at other (turn (length other) i) ≡ v'.next = one_proposer next (pair_of_held h f v'.next v'.is.target v'.is.has) in
                rw is v'.on
          ]

  -- nobody below the bound is in an exposed rotation, and nobody who is passed over, but for those that were before and are on no
  -- trail that all rotations with a start are on
  pub searched_on : {from starts items : List ℕ} {before after : List Bool} {quiet bound : ℕ} {places : List ℕ} → IsSearchOf l m (record { from = from; starts = starts; passed = before; quiet = quiet }) → IsSearchAt l m places
      → AreClosed l m items → ((q : ℕ) → Contains starts q → Contains items q) → IsNoneBelow l m bound → ((p : ℕ) → IsPassed after p → (IsPassed before p × (¬ Contains items p)) ⊎ (p < bound))
      → IsSearchOf l m (record { from = places; starts = []; passed = after; quiet = bound })
  searched_on w places c on n left = record {
    places = places;
    quiet = λ other x i a low. absurd (omega (arith, low, n.none other x i a));
    passed = λ other x i a marked. absurd (elim (left (proposer_at other i) marked) [
      | inr low ↦ omega (arith, low, n.none other x i a)
      | inl old ↦ let v = w.passed other x i a old.0 in old.1 (round_on c other x v.pair v.pair_in (on (proposer_at other v.pair) v.among) i a)
    ]);
  }

module _ {l : Lists} {m : Places} where
  -- more starts serve as well
  pub searched_more : {from before after : List ℕ} {passed : List Bool} {quiet : ℕ} → IsSearchOf l m (record { from = from; starts = before; passed = passed; quiet = quiet }) → ((q : ℕ) → Contains before q → Contains after q)
      → {places : List ℕ} → IsSearchAt l m places → IsSearchOf l m (record { from = places; starts = after; passed = passed; quiet = quiet })
  searched_more w kept places = record {
    places = places;
    quiet = λ other x i a low. let v = w.quiet other x i a low in record { pair = v.pair; pair_in = v.pair_in; among = kept (proposer_at other v.pair) v.among };
    passed = λ other x i a marked. let v = w.passed other x i a marked in record { pair = v.pair; pair_in = v.pair_in; among = kept (proposer_at other v.pair) v.among };
  }

  -- where all from whom the search begins are safe, and so many begin it, no exposed rotation has a proposer below the bound
  pub none_of_searched : {from before starts : List ℕ} {passed : List Bool} {quiet bound : ℕ} → IsSearchOf l m (record { from = from; starts = before; passed = passed; quiet = quiet }) → ((q : ℕ) → Contains before q → Contains starts q)
      → AreStartsAdded passed quiet bound starts → AreSafe l m bound starts → IsNoneBelow l m bound
  none_of_searched {from} {before} {starts} {passed} {quiet} {bound} w kept added all = record {
    none = λ other x i a. elim (lt_or_le (proposer_at other i) bound) [
      | inr more ↦ more
      | inl less ↦ elim (lt_or_le (proposer_at other i) quiet) [
        | inl low ↦ let v = w.quiet other x i a low in safe other x v.pair v.pair_in (kept (proposer_at other v.pair) v.among) i a
        | inr more ↦ elim (added (proposer_at other i) more less) [
          | inl marked ↦ let v = w.passed other x i a marked in safe other x v.pair v.pair_in (kept (proposer_at other v.pair) v.among) i a
          | inr start ↦ safe other x i a start i a
        ]
      ]
    ];
  }
    where
      safe : (other : List (ℕ × ℕ)) → IsExposed l m other → (i : ℕ) → i < length other → Contains starts (proposer_at other i) → (j : ℕ) → j < length other → bound ≤ proposer_at other j
      safe other x i a v j b = (all.safe v.0 v.1).none other x i a (sym (stands_at starts (proposer_at other i) v)) j b

-- who is on a list of which all are on another is on that one
pub on_of : (starts items : List ℕ) → AreOn starts items → (q : ℕ) → Contains starts q → Contains items q
on_of starts items on q w = rw (stands_at starts q w) at (on w.0 w.1)
