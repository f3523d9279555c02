-- Before which place of its list each reviewer gains, and whom a proposer blocks with.
use Rattle.std.proofs.Common.{◌≡◌, ℕ, ◌+◌, ◌<◌, ◌≤◌, ◌⊎◌, List, Option, Some, None, length, set, max, refl, sym, ap, subst, ◌∙◌, arith, ⊎_elim, inl, inr}
use Rattle.std.specs.Prelude.{slice_index}
use Rattle.std.proofs.lemmas.Bool.{cases_lt}
use Rattle.std.proofs.lemmas.List.{length-set, get_or-set_same, get_or-set_other}
use Rattle.sm_agents.specs.Written.{Written, row, entry, place_of, capacity_of}
use Rattle.sm_agents.specs.Sound.{IsInstance}
use Rattle.sm_instance.specs.Crosses.{cross_place}
use Rattle.sm_instance.specs.Matching.{held, standing, load, IsMatching}
use Rattle.sm_instance.specs.Stable.{Blocks, IsStable, IsGainLimit}
use Rattle.sm_instance.proofs.AcceptLemmas.{cross_some}
use Rattle.sm_agents.proofs.ListLemmas.{row_in_range}
use Rattle.sm_instance.proofs.PlaceLemmas.{place_of-entry}
use Rattle.sm_lists.proofs.PlaceLemmas.{get_or-place_on}
use Rattle.sm_holding.specs.Gains.{IsWorstBelow, AreWorstBelow, BlocksNone, IsFirstWith}

-- a reviewer with a free place gains by all whom it lists
pub limit_free : (w : Written) (places : List (Option ℕ)) (r : ℕ) → load w places r < capacity_of w.reviewers r → IsGainLimit w places r (length (row w.reviewers r))
limit_free w places r free = record { gains = λ p lt. inl free; others = λ p on past. absurd (omega arith) }

-- a full one gains by those whom it likes better than its worst
pub limit_full : {w : Written} {places : List (Option ℕ)} {r worst : ℕ} → IsMatching w places → (load w places r < capacity_of w.reviewers r → ⊥) → IsWorstBelow w places (length w.proposers) r worst → IsGainLimit w places r worst
limit_full {w} {places} {r} {worst} m full h =
    record {
      gains = λ p lt. inr (h.attained p lt);
      others = λ p on past. ⊎_elim full (λ x.
          let lt = row_in_range w.proposers x.other x.at (m.assigned.on_lists x.other x.at x.holds) in
          let le = h.above x.other x.at lt x.holds x.there in
          let worse = x.worse in
          omega arith);
    }

-- the places of the worst where some reviewers' limits are known already
pub record AreLimitsBelow (w : Written) (places : List (Option ℕ)) (k : ℕ) (limits : List ℕ) : Type 0 where
  pub one_each : length limits ≡ length w.reviewers
  pub known : (r : ℕ) → r < k → r < length w.reviewers → IsGainLimit w places r (slice_index limits r)
  pub rest : (r : ℕ) → k ≤ r → r < length w.reviewers → IsWorstBelow w places (length w.proposers) r (slice_index limits r)

-- one more with a free place
pub limits_free : {w : Written} {places : List (Option ℕ)} {k : ℕ} {limits : List ℕ} → AreLimitsBelow w places k limits → k < length w.reviewers → load w places k < capacity_of w.reviewers k
    → (n : ℕ) → n ≡ length (row w.reviewers k) → AreLimitsBelow w places (k + 1) (set limits k n)
limits_free {w} {places} {k} {limits} h inside free n e =
    record {
      one_each = length-set limits k n ∙ h.one_each;
      known = λ r lt in_range. ⊎_elim
          (λ less. subst (IsGainLimit w places r) (sym (get_or-set_other limits k r n 0 (λ same. omega arith))) (h.known r less in_range))
          (λ ge. let same : r ≡ k = omega arith in
          let Q : ℕ → Type 0 = λ s. IsGainLimit w places s (slice_index (set limits k n) s) in
          subst Q (sym same) (subst (IsGainLimit w places k) (sym e ∙ sym (get_or-set_same limits k n 0 (let one = h.one_each in omega arith))) (limit_free w places k free)))
          (cases_lt r k);
      rest = λ r le in_range. subst (IsWorstBelow w places (length w.proposers) r) (sym (get_or-set_other limits k r n 0 (λ same. omega arith))) (h.rest r (omega arith) in_range);
    }

-- one more that is full
pub limits_full : {w : Written} {places : List (Option ℕ)} {k : ℕ} {limits : List ℕ} → IsMatching w places → AreLimitsBelow w places k limits → (load w places k < capacity_of w.reviewers k → ⊥) → AreLimitsBelow w places (k + 1) limits
limits_full {w} {places} {k} {limits} m h full =
    record {
      one_each = h.one_each;
      known = λ r lt in_range. ⊎_elim
          (λ less. h.known r less in_range)
          (λ ge. let same : r ≡ k = omega arith in
          let Q : ℕ → Type 0 = λ s. IsGainLimit w places s (slice_index limits s) in
          subst Q (sym same) (limit_full m full (h.rest k (omega arith) (omega arith))))
          (cases_lt r k);
      rest = λ r le. h.rest r (omega arith);
    }

-- one more proposer, which has the reviewer of this place
pub worst_more : {w : Written} {places : List (Option ℕ)} {k : ℕ} {worst : List ℕ} → AreWorstBelow w places k worst → (i back r : ℕ) → held places k ≡ Some i → r ≡ entry w.proposers k i → r < length w.reviewers
    → Some back ≡ cross_place w.reviewers (entry w.proposers k i) k → (n : ℕ) → n ≡ max back (slice_index worst r) → AreWorstBelow w places (k + 1) (set worst r n)
worst_more {w} {places} {k} {worst} h i back r holds there inside cross n e =
    let at : place_of w.reviewers r k ≡ back = ap (λ s. place_of w.reviewers s k) there ∙ (cross_some w.reviewers (entry w.proposers k i) k back (sym cross)).0 in
    let one = h.one_each in
    let here : slice_index (set worst r n) r ≡ n = get_or-set_same worst r n 0 (omega arith) in
    record {
      one_each = length-set worst r n ∙ h.one_each;
      each = λ s in_range. ⊎_elim
          (λ same.
          let old = h.each r inside in
          let new : IsWorstBelow w places (k + 1) r n = record {
            above = λ q j lt at_q there_q. ⊎_elim
                (λ less. let le = old.above q j less at_q there_q in omega arith)
                (λ ge. let is : q ≡ k = omega arith in let p = ap (place_of w.reviewers r) is in omega arith)
                (cases_lt q k);
            attained = λ p lt. ⊎_elim
                (λ less. old.attained p less)
                (λ ge. record { other = k; at = i; holds = holds; there = sym there; worse = omega arith })
                (cases_lt (place_of w.reviewers r p) (slice_index worst r));
          } in
          let Q : ℕ → Type 0 = λ t. IsWorstBelow w places (k + 1) t (slice_index (set worst r n) t) in
          subst Q (sym same) (subst (IsWorstBelow w places (k + 1) r) (sym here) new))
          (λ other.
          let old = h.each s in_range in
          subst (IsWorstBelow w places (k + 1) s) (sym (get_or-set_other worst r s n 0 other))
          (record {
            above = λ q j lt at_q there_q. ⊎_elim
                (λ less. old.above q j less at_q there_q)
                (λ ge. let is : q ≡ k = omega arith in
                let j_is : j ≡ i = (let a : held places k ≡ Some j = ap (held places) (sym is) ∙ at_q in cc) in
                absurd (other (sym there_q ∙ ap (λ t. entry w.proposers t j) is ∙ ap (entry w.proposers k) j_is ∙ sym there)))
                (cases_lt q k);
            attained = old.attained;
          }))
          (same_or s r);
    }
  where
    same_or : (a b : ℕ) → (a ≡ b) ⊎ (a ≡ b → ⊥)
    same_or a b = ⊎_elim (λ l. inr (λ e. omega arith)) (λ g. ⊎_elim (λ l. inr (λ e. omega arith)) (λ h. inl (omega arith)) (cases_lt b a)) (cases_lt a b)

-- one more proposer, which has nobody
pub worst_skip : {w : Written} {places : List (Option ℕ)} {k : ℕ} {worst : List ℕ} → AreWorstBelow w places k worst → (let none : Option ℕ = None in held places k ≡ none) → AreWorstBelow w places (k + 1) worst
worst_skip {w} {places} {k} {worst} h nobody =
    record {
      one_each = h.one_each;
      each = λ r in_range. let old = h.each r in_range in record {
        above = λ q i lt holds there. ⊎_elim (λ less. old.above q i less holds there) (λ ge. let is : q ≡ k = omega arith in let a : held places k ≡ Some i = ap (held places) (sym is) ∙ holds in absurd cc) (cases_lt q k);
        attained = old.attained;
      };
    }

-- where nobody before its partner blocks with p, it blocks with nobody
pub blocks_none : {w : Written} {places : List (Option ℕ)} (p n : ℕ) → standing w places p ≤ n → ((i : ℕ) → i < n → ¬ Blocks w places p (entry w.proposers p i)) → BlocksNone w places p
blocks_none {w} {places} p n whole none r b =
    let lt = b.proposer_gains in
    let there = get_or-place_on (row w.proposers p) r b.acceptable.proposer_lists in
    none (place_of w.proposers p r) (omega arith) (subst (Blocks w places p) (sym there) b)

-- the first at a place with which p blocks
pub first_here : {w : Written} {places : List (Option ℕ)} → IsInstance w → (p i : ℕ) → i < length (row w.proposers p) → ((j : ℕ) → j < i → ¬ Blocks w places p (entry w.proposers p j)) → Blocks w places p (entry w.proposers p i) → IsFirstWith w places p (entry w.proposers p i)
first_here {w} {places} inst p i on none h =
    let at : place_of w.proposers p (entry w.proposers p i) ≡ i = place_of-entry inst.proposer_entries p (entry w.proposers p i) i on refl in
    record {
      blocks = h;
      earlier = λ s lt b.
          let there = get_or-place_on (row w.proposers p) s b.acceptable.proposer_lists in
          none (place_of w.proposers p s) (omega arith) (subst (Blocks w places p) (sym there) b);
    }

-- a matching that no proposer blocks with anybody is stable
pub stable_of : {w : Written} {places : List (Option ℕ)} → IsMatching w places → (n : ℕ) → length w.proposers ≤ n → ((q : ℕ) → q < n → BlocksNone w places q) → IsStable w places
stable_of {w} m n whole none = record { matching = m; unblocked = λ p r b. let lt = row_in_range w.proposers p _ b.acceptable.proposer_lists in none p (omega arith) r b }

-- who stands at a place before a standing
pub standing_on : {w : Written} {places : List (Option ℕ)} → IsMatching w places → (p : ℕ) → standing w places p ≤ length (row w.proposers p)
standing_on {w} {places} m p = by_held (held places p) refl
  where
    by_held : (o : Option ℕ) → held places p ≡ o → standing w places p ≤ length (row w.proposers p)
    by_held None e = rw e (omega arith)
    by_held (Some i) e = let on = m.assigned.on_lists p i e in rw e (omega arith)
