-- What a change of some proposers' places leaves as it was, and what it may make.
use Rattle.std.proofs.Common.{◌≡◌, ℕ, zero, suc, ◌+◌, ◌<◌, ◌≤◌, ◌⊎◌, inl, inr, arith, refl, sym, ap, ◌∙◌, subst, Bool, true, false, List, length, min, set, get_or, slice_index, Option, Some, None, is_some, IsTrue}
use Rattle.std.proofs.lemmas.Bool.{false≢true, eqb-true, cases_Bool}
use Rattle.std.proofs.lemmas.List.{get_or_past, get_or_default, length-set, get_or-set_same, get_or-set_other}
use Rattle.std.specs.Prelude.{if◌then◌else◌}
use Rattle.std.proofs.lemmas.Option.{same_Some}
use Rattle.sm_lists.proofs.Counting.{lt_or_le, eq_or_ne}
use Rattle.sm_lists.proofs.PlaceLemmas.{get_or-place_on}
use Rattle.sm_agents.specs.Written.{Written, row, entry, place_of, capacity_of, IsAcceptable}
use Rattle.sm_agents.specs.Sound.{IsInstance}
use Rattle.sm_instance.specs.Matching.{held, leads_to, is_at, load_before, load, standing, IsAssignment, IsMatching}
use Rattle.sm_instance.specs.Stable.{HasWorse, Blocks, IsStable, IsGainLimit}
use Rattle.sm_instance.specs.Crosses.{cross_place}
use Rattle.sm_agents.proofs.ListLemmas.{row_in_range}
use Rattle.sm_instance.proofs.PlaceLemmas.{place_of-entry}
use Rattle.sm_instance.proofs.AcceptLemmas.{cross_some, accepts_at, one_sided_at}
use Rattle.sm_instance.proofs.LoadLemmas.{load_before-suc, place_at, at_place}
use Rattle.sm_check_clauses.specs.declared.verdicts.Reason.{Reason}
use Rattle.sm_check_clauses.specs.declared.verdicts.Reason.TheVariants as reason
use Rattle.sm_check_clauses.specs.Verdicts.{number_of_reason, IsFirstThere}
use Rattle.sm_check_answers.specs.declared.tried.Tried.{Tried}
use Rattle.sm_check_answers.specs.Tried.{IsTried, StableHolds, AreLimits, is_touched, IsTouchedAt, AreTouched, IsUnblockedFrom, BlocksNoneFrom, AreSet}

-- a reviewer with the same proposers in both
module _ (w : Written) (a b : List (Option ℕ)) (r : ℕ) (same : (q : ℕ) → is_at w a q r ≡ is_at w b q r) where
  same_load : (k : ℕ) → load_before w a k r ≡ load_before w b k r
  same_load zero = refl
  same_load (suc k) =
      let one : suc k ≡ k + 1 = omega arith in
      ap (λ n. load_before w a n r) one ∙ load_before-suc w a k r
      ∙ ap (λ n. n + (if is_at w a k r then 1 else 0)) (same_load k)
      ∙ ap (λ t. load_before w b k r + (if t then 1 else 0)) (same k)
      ∙ sym (load_before-suc w b k r) ∙ ap (λ n. load_before w b n r) (sym one)

  worse_too : (p : ℕ) → HasWorse w a r p → HasWorse w b r p
  worse_too p h =
      let x = place_at w h.other r (held b h.other) (sym (same h.other) ∙ at_place w a h.other r h.at h.holds h.there) in
      record { other = h.other; at = x.0; holds = x.1; there = x.2; worse = h.worse }

-- has the same limit
same_limit : {w : Written} {a b : List (Option ℕ)} {r : ℕ} → ((q : ℕ) → is_at w a q r ≡ is_at w b q r) → (limit : ℕ) → IsGainLimit w a r limit → IsGainLimit w b r limit
same_limit {w} {a} {b} {r} same limit g =
    let load_is = same_load w a b r same (length w.proposers) in
    record {
      gains = λ p lt. elim (g.gains p lt) [ inl free ↦ inl (omega (arith, free, load_is)) | inr h ↦ inr (worse_too w a b r same p h) ];
      others = λ p on le x. g.others p on le (elim x [ inl free ↦ inl (omega (arith, free, load_is)) | inr h ↦ inr (worse_too w b a r (λ q. sym (same q)) p h) ]);
    }

-- whoever is at a reviewer touches it, where its place is of a touched one
at_touched : (w : Written) (touched : List Bool) (p r : ℕ) (place : Option ℕ) → IsTouchedAt w touched p place → is_touched touched r ≡ false → leads_to w p r place ≡ false
at_touched w touched p r None t not_so = refl
at_touched w touched p r (Some i) t not_so =
    elim (cases_Bool (leads_to w p r (Some i))) [
      | inl at ↦ absurd (false≢true (sym not_so ∙ sym (ap (is_touched touched) (eqb-true (entry w.proposers p i) r at)) ∙ t))
      | inr elsewhere ↦ elsewhere
    ]

-- a reviewer that isn't touched has the same proposers in both
untouched : {w : Written} {old new : List (Option ℕ)} {touched : List Bool} → IsAssignment w old → IsAssignment w new → AreTouched w old new (length w.proposers) touched
    → (r : ℕ) → is_touched touched r ≡ false → (q : ℕ) → is_at w old q r ≡ is_at w new q r
untouched {w} {old} {new} {touched} before after t r not_so q =
    elim (lt_or_le q (length w.proposers)) [
      | inl h ↦ elim (t.told q h) [
        | inl stays ↦ ap (leads_to w q r) stays
        | inr both ↦ at_touched w touched q r (held old q) both.0 not_so ∙ sym (at_touched w touched q r (held new q) both.1 not_so)
      ]
      | inr past ↦ ap (leads_to w q r) (get_or_past old q None (omega (arith, past, before.one_each)) ∙ sym (get_or_past new q None (omega (arith, past, after.one_each))))
    ]

-- so it keeps its limit
pub untouched_limit : {w : Written} {old new : List (Option ℕ)} {touched : List Bool} {limits : List ℕ} → IsAssignment w old → IsAssignment w new → AreTouched w old new (length w.proposers) touched → AreLimits w old limits
    → (r : ℕ) → r < length w.reviewers → is_touched touched r ≡ false → IsGainLimit w new r (slice_index limits r)
untouched_limit {w} {old} {new} {touched} {limits} before after t l r h not_so = same_limit (untouched before after t r not_so) (slice_index limits r) (l.of r h)

-- a matching, where its pairs are acceptable and no touched reviewer has too many
pub matching_again : {w : Written} {old new : List (Option ℕ)} {touched : List Bool} → IsMatching w old → IsAssignment w new → AreTouched w old new (length w.proposers) touched
    → ((p i : ℕ) → held new p ≡ Some i → IsAcceptable w p (entry w.proposers p i))
    → ((r : ℕ) → r < length w.reviewers → is_touched touched r ≡ true → load w new r ≤ capacity_of w.reviewers r) → IsMatching w new
matching_again {w} {old} {new} {touched} m after t acceptable within = record {
  assigned = after;
  acceptable = acceptable;
  within = λ r. elim (cases_Bool (is_touched touched r)) [
    | inl so ↦ elim (lt_or_le r (length w.reviewers)) [
      | inl h ↦ within r h so
      | inr past ↦ absurd (false≢true (sym (get_or_past touched r false (omega (arith, past, t.one_each))) ∙ so))
    ]
    | inr not_so ↦ omega (arith, m.within r, same_load w old new r (untouched m.assigned after t r not_so) (length w.proposers))
  ];
}

-- a stable one, where no reviewer blocks with those whom it lists from its old limit on, and no proposer with those whom it
-- lists from its old place on
pub stable_again : {w : Written} {old new : List (Option ℕ)} {limits : List ℕ} → IsStable w old → AreLimits w old limits → IsMatching w new
    → ((r : ℕ) → r < length w.reviewers → IsUnblockedFrom w new r (slice_index limits r))
    → ((p : ℕ) → p < length w.proposers → BlocksNoneFrom w new p (standing w old p)) → IsStable w new
stable_again {w} {old} {new} {limits} s l m reviewers proposers = record {
  matching = m;
  unblocked = λ p r b.
      let r_in = row_in_range w.reviewers r (place_of w.reviewers r p) b.acceptable.reviewer_lists in
      let p_in = row_in_range w.proposers p (place_of w.proposers p r) b.acceptable.proposer_lists in
      elim (lt_or_le (place_of w.reviewers r p) (slice_index limits r)) [
        | inl before ↦ elim (lt_or_le (place_of w.proposers p r) (standing w old p)) [
          | inl better ↦ s.unblocked p r (record { acceptable = b.acceptable; proposer_gains = better; reviewer_gains = (l.of r r_in).gains p before })
          | inr behind ↦ proposers p p_in r behind b
        ]
        | inr behind ↦ reviewers r r_in p behind b
      ];
}

-- a place that is read is the one that is held
pub read_held : {w : Written} {places : List (Option ℕ)} → IsAssignment w places → (p i : ℕ) (read : Option ℕ) → p < length w.proposers → read ≡ get_or places p read → read ≡ Some i → held places p ≡ Some i
read_held {w} {places} assigned p i read h is some = get_or_default places p None read (omega (arith, h, assigned.one_each)) ∙ sym is ∙ some

-- whether a held place is of a reviewer that lists its proposer
pub acceptable_by : {w : Written} → IsInstance w → (places : List (Option ℕ)) (p i : ℕ) → held places p ≡ Some i → i < length (row w.proposers p)
    → (back : Option ℕ) → back ≡ cross_place w.reviewers (entry w.proposers p i) p → (b : Bool) → b ≡ is_some back
    → (IsTrue b → (j : ℕ) → held places p ≡ Some j → IsAcceptable w p (entry w.proposers p j)) × (((j : ℕ) → held places p ≡ Some j → IsAcceptable w p (entry w.proposers p j)) → IsTrue b)
acceptable_by {w} inst places p i here on None cross b test = (λ t. absurd (false≢true (sym test ∙ t)), λ all. absurd (one_sided_at w p i cross (all i here)))
acceptable_by {w} inst places p i here on (Some k) cross b test = (
  λ t j there.
      let same : i ≡ j = same_Some _ _ (sym here ∙ there) in
      subst (λ n. IsAcceptable w p (entry w.proposers p n)) same (accepts_at inst p i k on cross),
  λ all. test,
)

-- whether a reviewer and the proposer at place k of its list block, where it would gain by that one
pub blocks_back_by : {w : Written} {places : List (Option ℕ)} → IsInstance w → (r k back : ℕ) → k < length (row w.reviewers r) → Some back ≡ cross_place w.proposers (entry w.reviewers r k) r
    → ((load w places r < capacity_of w.reviewers r) ⊎ HasWorse w places r (entry w.reviewers r k))
    → (back < standing w places (entry w.reviewers r k) → Blocks w places (entry w.reviewers r k) r) × (Blocks w places (entry w.reviewers r k) r → back < standing w places (entry w.reviewers r k))
blocks_back_by {w} {places} inst r k back on cross gains =
    let p = entry w.reviewers r k in
    let x = cross_some w.proposers p r back (sym cross) in
    let at : place_of w.reviewers r p ≡ k = place_of-entry inst.reviewer_entries r p k on refl in (
      λ better. record {
        acceptable = record { proposer_lists = x.1; reviewer_lists = omega (arith, at, on) };
        proposer_gains = omega (arith, x.0, better);
        reviewer_gains = gains;
      },
      λ b. omega (arith, x.0, b.proposer_gains),
    )

-- nobody blocks with a reviewer from a place on, where none at the places before its limit does
pub unblocked_to : {w : Written} {places : List (Option ℕ)} (r from limit to : ℕ) → IsGainLimit w places r limit → to ≡ min limit (length (row w.reviewers r))
    → ((k : ℕ) → from ≤ k → k < to → ¬ Blocks w places (entry w.reviewers r k) r) → IsUnblockedFrom w places r from
unblocked_to {w} {places} r from limit to g to_is none q behind b =
    let on = b.acceptable.reviewer_lists in
    elim (lt_or_le (place_of w.reviewers r q) limit) [
      | inl before ↦ none (place_of w.reviewers r q) behind (omega (arith, before, on, to_is))
          (subst (λ p. Blocks w places p r) (sym (get_or-place_on (row w.reviewers r) q on)) b)
      | inr past ↦ g.others q on past b.reviewer_gains
    ]

-- where the proposer at a place from there on blocks with the reviewer, it isn't so
pub not_unblocked : {w : Written} {places : List (Option ℕ)} → IsInstance w → (r from k : ℕ) → from ≤ k → k < length (row w.reviewers r) → Blocks w places (entry w.reviewers r k) r → IsUnblockedFrom w places r from → ⊥
not_unblocked {w} inst r from k le on b none = none (entry w.reviewers r k) (omega (arith, le, place_of-entry inst.reviewer_entries r (entry w.reviewers r k) k on refl)) b

-- a proposer blocks with nobody from a place on, where it doesn't at the places before its own
pub none_to : {w : Written} {places : List (Option ℕ)} (p from to : ℕ) → to ≡ standing w places p
    → ((k : ℕ) → from ≤ k → k < to → ¬ Blocks w places p (entry w.proposers p k)) → BlocksNoneFrom w places p from
none_to {w} {places} p from to to_is none r behind b =
    none (place_of w.proposers p r) behind (omega (arith, to_is, b.proposer_gains))
    (subst (λ s. Blocks w places p s) (sym (get_or-place_on (row w.proposers p) r b.acceptable.proposer_lists)) b)

-- where it blocks with the reviewer at a place from there on, it isn't so
pub not_none : {w : Written} {places : List (Option ℕ)} → IsInstance w → (p from k : ℕ) → from ≤ k → k < length (row w.proposers p) → Blocks w places p (entry w.proposers p k) → BlocksNoneFrom w places p from → ⊥
not_none {w} inst p from k le on b none = none (entry w.proposers p k) (omega (arith, le, place_of-entry inst.proposer_entries p (entry w.proposers p k) k on refl)) b

-- the limits that are written, one reviewer after another
module _ {w : Written} {places : List (Option ℕ)} {r : ℕ} {old_limits limits : List ℕ} {old_touched touched : List Bool} (s : AreSet w places r old_limits limits old_touched touched) where
  -- one that keeps its limit
  pub set_same : IsGainLimit w places r (slice_index old_limits r) → AreSet w places (r + 1) old_limits limits old_touched touched
  set_same g = record {
    limits_each = s.limits_each;
    touched_each = s.touched_each;
    of = λ q h. elim (eq_or_ne q r) [ inl e ↦ rw (e, s.kept_limits r (omega arith)) g | inr e ↦ s.of q (omega (arith, h, e)) ];
    unblocked = λ q h. elim (eq_or_ne q r) [ inl e ↦ rw e (λ p past b. g.others p b.acceptable.reviewer_lists past b.reviewer_gains) | inr e ↦ s.unblocked q (omega (arith, h, e)) ];
    kept_limits = λ q h. s.kept_limits q (omega (arith, h));
    kept_touched = λ q h. s.kept_touched q (omega (arith, h));
  }

  -- one that has another
  pub set_more : (limit : ℕ) → r < length w.reviewers → IsGainLimit w places r limit → IsUnblockedFrom w places r (slice_index limits r) → AreSet w places (r + 1) old_limits (set limits r limit) old_touched (set touched r false)
  set_more limit h g none = record {
    limits_each = length-set limits r limit ∙ s.limits_each;
    touched_each = length-set touched r false ∙ s.touched_each;
    of = λ q below. elim (eq_or_ne q r) [
      | inl e ↦ rw (e, get_or-set_same limits r limit 0 (omega (arith, h, s.limits_each))) g
      | inr e ↦ rw (get_or-set_other limits r q limit 0 e) (s.of q (omega (arith, below, e)))
    ];
    unblocked = λ q below. elim (eq_or_ne q r) [
      | inl e ↦ rw e (subst (λ n. IsUnblockedFrom w places r n) (s.kept_limits r (omega arith)) none)
      | inr e ↦ s.unblocked q (omega (arith, below, e))
    ];
    kept_limits = λ q past. get_or-set_other limits r q limit 0 (λ e. omega (arith, past, e)) ∙ s.kept_limits q (omega (arith, past));
    kept_touched = λ q past. get_or-set_other touched r q false false (λ e. omega (arith, past, e)) ∙ s.kept_touched q (omega (arith, past));
  }

-- what the first two clauses say of a stable matching, and what fails where a matching isn't stable
pub stable_holds : {w : Written} {places : List (Option ℕ)} → IsStable w places → (why : Reason) → StableHolds w places why
stable_holds s reason.NotAMatching = s.matching
stable_holds s reason.Blocked = s
stable_holds s _ = tt

before_blocked : {w : Written} {places : List (Option ℕ)} → IsMatching w places → (why : Reason) → number_of_reason why < 2 → StableHolds w places why
before_blocked m reason.NotAMatching l = m
before_blocked m reason.Blocked l = absurd (omega (arith, l))
before_blocked m _ l = tt

-- a matching that isn't stable is blocked, and that is the first clause that fails
pub blocked_first : {w : Written} {places : List (Option ℕ)} → IsMatching w places → ¬ IsStable w places → IsFirstThere (StableHolds w places) reason.Blocked
blocked_first m not_so = record { clauses_before = before_blocked m; fails = not_so }

-- what is kept of a matching is of the one that is kept
pub own_tried : {w : Written} {places : List (Option ℕ)} {tried : Tried} → IsTried w places tried → IsTried w tried.matching.places.items tried
own_tried {w} {places} {tried} t = subst (λ (own : List (Option ℕ)). IsTried w own tried) (sym t.matching) t
