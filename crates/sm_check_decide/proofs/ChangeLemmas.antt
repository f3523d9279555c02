-- A rotation that is exposed only once another one is eliminated has a proposer that changed: one that was moved, or that a
-- reviewer was moved past.
use Rattle.std.proofs.Common.{◌≡◌, ℕ, ◌+◌, ◌<◌, ◌⊎◌, inl, inr, arith, refl, sym, ap, ◌∙◌, Bool, List, length}
use Rattle.std.specs.List.{Contains}
use Rattle.sm_lists.specs.Rows.{place_on}
use Rattle.sm_lists.proofs.Counting.{lt_or_le, eq_or_ne, search_below, Decided}
use Rattle.sm_lists.proofs.PlaceLemmas.{entry-place_of, get_or-place_on}
use Rattle.sm_market.specs.Lists.{Lists, row, entry, place_of, IsMarket}
use Rattle.sm_market.specs.Matching.{Places, standing, IsMatching}
use Rattle.sm_market.specs.Stable.{IsStable}
use Rattle.sm_market.proofs.Bridge.{fit_of}
use Rattle.sm_theory.specs.Rotations.{IsExposed, proposer_at, target_at, next_in, eliminated}
use Rattle.sm_theory.proofs.Core.Cycle.{turn, turn_in}
use Rattle.sm_theory.proofs.Core.Rotation.{exposed_before}
use Rattle.sm_theory.proofs.Bridge.Rotation.{exposed_of, exposed_back, elim_of, eliminated_matching}
use Rattle.sm_successors.proofs.SearchLemmas.{search_goes_on}
use Rattle.sm_check_decide.specs.Exposure.{HasOneOf, IsSearchOf}
use Rattle.sm_check_decide.specs.ExposureKept.{AreChanged, IsSpanAdded}
use Rattle.sm_check_decide.proofs.AmongLemmas.{place_in, contains_at}

-- a rotation has one of these proposers, or none of them
one_or_none : (other : List (ℕ × ℕ)) (items : List ℕ) → HasOneOf other items ⊎ ((i : ℕ) → i < length other → ¬ Contains items (proposer_at other i))
one_or_none other items = elim (search_below (length other) (λ i. Contains items (proposer_at other i)) (λ i _. among (proposer_at other i))) [
  | inl w ↦ inl (record { pair = w.at; pair_in = w.below; among = w.holds })
  | inr none ↦ inr none
]
  where
    among : (p : ℕ) → Decided (Contains items p)
    among p = elim (lt_or_le (place_on items p) (length items)) [
      | inl on ↦ inl (contains_at items p (place_on items p) on (get_or-place_on items p on))
      | inr off ↦ inr (λ w. omega (arith, off, place_in items p w))
    ]

module _ {l : Lists} (h : IsMarket l) where
  -- one more pair of a rotation is added, with whom its reviewer, as it is read, is moved past
  pub changed_step : {rotation : List (ℕ × ℕ)} {i : ℕ} {before after : List ℕ} (r better worse : ℕ) → r ≡ target_at rotation i → better ≡ place_of l.reviewers (target_at rotation i) (proposer_at rotation i)
      → worse ≡ place_of l.reviewers (target_at rotation i) (proposer_at rotation (next_in rotation i)) → AreChanged l rotation i before → ((q : ℕ) → Contains before q → Contains after q)
      → Contains after (proposer_at rotation i) → IsSpanAdded l r better worse after → AreChanged l rotation (i + 1) after
  changed_step {rotation} {i} {before} {after} r better worse is low high w kept has span = record {
    moved = λ p v. elim (eq_or_ne v.pair i) [
      | inl e ↦ let here : proposer_at rotation i ≡ p = ap (proposer_at rotation) (sym e) ∙ v.is in rw here at has
      | inr ne ↦ kept p (w.moved p (record { pair = v.pair; pair_in = omega (arith, v.pair_in); is = v.is }))
    ];
    passed = λ p x on v. elim (eq_or_ne v.pair i) [
      | inl e ↦
          let q : ℕ = entry l.proposers p x in
          let target : target_at rotation i ≡ q = ap (target_at rotation) (sym e) ∙ v.reviewer in
          let gains : place_of l.reviewers q (proposer_at rotation i) < place_of l.reviewers q p = rw e at v.gains in
          let loses : place_of l.reviewers q p < place_of l.reviewers q (proposer_at rotation (next_in rotation i)) = rw e at v.loses in
          let low' : better ≡ place_of l.reviewers q (proposer_at rotation i) = rw target at low in
          let high' : worse ≡ place_of l.reviewers q (proposer_at rotation (next_in rotation i)) = rw target at high in
          let span' : IsSpanAdded l q better worse after = rw (is ∙ target) at span in
          let there : entry l.reviewers q (place_of l.reviewers q p) ≡ p = entry-place_of l.reviewers q p (h.proposers.returned p x on) in
          rw there at (span' (place_of l.reviewers q p) (omega arith) (omega arith))
      | inr ne ↦ kept p (w.passed p x on (record { pair = v.pair; pair_in = omega (arith, v.pair_in); reviewer = v.reviewer; gains = v.gains; loses = v.loses }))
    ];
  }

module _ {l : Lists} (h : IsMarket l) {m : Places} where
  module _ (f : IsMatching l m) {rotation : List (ℕ × ℕ)} (x : IsExposed l m rotation) {items : List ℕ} (changed : AreChanged l rotation (length rotation) items) where
    -- a rotation of proposers that didn't change was exposed before
    pub unchanged_before : (other : List (ℕ × ℕ)) → IsExposed l (eliminated l m rotation) other → ((i : ℕ) → i < length other → ¬ Contains items (proposer_at other i)) → IsExposed l m other
    unchanged_before other y none = exposed_back h other (exposed_before (fit_of h f) (exposed_of h f x) (elim_of h f x) (exposed_of h (eliminated_matching h f x) y) out over)
      where
        out : (i j : ℕ) → i < length other → j < length rotation → proposer_at rotation j ≡ proposer_at other i → ⊥
        out i j a b is = none i a (rw is at (changed.moved (proposer_at rotation j) (record { pair = j; pair_in = b; is = refl })))

        over : (i j : ℕ) → i < length other → j < length rotation → let p = proposer_at other i in let r = target_at rotation j in
            place_of l.proposers p r < length (row l.proposers p) → place_of l.reviewers r (proposer_at rotation j) < place_of l.reviewers r p → place_of l.reviewers r p < standing l.reviewers m.reviewers r → ⊥
        over i j a b on gains loses =
            let p : ℕ = proposer_at other i in
            let r : ℕ = target_at rotation j in
            let is : entry l.proposers p (place_of l.proposers p r) ≡ r = entry-place_of l.proposers p r on in
            let next = (exposed_of h f x).paired (turn (length rotation) j) (turn_in (length rotation) j b) in
            none i a (changed.passed p (place_of l.proposers p r) on (record { pair = j; pair_in = b; reviewer = sym is; gains = rw is gains; loses = rw is (omega (arith, loses, next.rank_is)) }))

  -- a search goes on once a rotation is eliminated, where who changed is added
  pub search_further : IsStable l m → {rotation : List (ℕ × ℕ)} → IsExposed l m rotation → {from before after : List ℕ} {passed : List Bool} {quiet : ℕ} → IsSearchOf l m (record { from = from; starts = before; passed = passed; quiet = quiet })
      → ((q : ℕ) → Contains before q → Contains after q) → AreChanged l rotation (length rotation) after → IsSearchOf l (eliminated l m rotation) (record { from = from; starts = after; passed = passed; quiet = quiet })
  search_further s {rotation} x {from} {before} {after} w kept changed = record {
    places = search_goes_on l m rotation from h s x w.places;
    quiet = λ other y i a low. either other y (λ z. w.quiet other z i a low);
    passed = λ other y i a marked. either other y (λ z. w.passed other z i a marked);
  }
    where
      either : (other : List (ℕ × ℕ)) → IsExposed l (eliminated l m rotation) other → (IsExposed l m other → HasOneOf other before) → HasOneOf other after
      either other y old = elim (one_or_none other after) [
        | inl one ↦ one
        | inr none ↦ let v = old (unchanged_before s.matching x changed other y none) in record { pair = v.pair; pair_in = v.pair_in; among = kept (proposer_at other v.pair) v.among }
      ]
