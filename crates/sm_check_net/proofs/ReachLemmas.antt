-- What is reached over steps that are given by their pairs of nodes.
use Rattle.std.proofs.Common.{◌≡◌, ◌≢◌, ℕ, ◌+◌, ◌<◌, ◌≤◌, inl, inr, arith, refl, sym, ap, ◌∙◌, subst, List, [], ◌∷◌, ◌++◌, length, slice_index, eqb-true, eq-eqb, Contains}
use Rattle.std.specs.Prelude.{◌==◌, ◌&&◌}
use Rattle.std.proofs.lemmas.List.{get_or_append_left, get_or_push, length_push, get_or_default}
use Rattle.std.proofs.lemmas.List.Elements.{Contains-push, Contains-append_left}
use Rattle.std.proofs.lemmas.List.Folds.{list_any_at}
use Rattle.std.proofs.lemmas.Bool.{and_from}
use Rattle.sm_lists.proofs.Counting.{eq_or_ne, lt_or_le}
use Rattle.sm_theory.specs.Net.{IsPath, IsReachable}
use Rattle.sm_theory.proofs.Net.Paths.{reach_on}
use Rattle.sm_theory.proofs.Net.Tests.{and_parts, some_passes}
use Rattle.sm_check_net.specs.Pairs.{AreOrdered, IsParted}
use Rattle.sm_lists.specs.Pairs.{pair_at}
use Rattle.sm_check_decide.specs.Trails.{Trail}
use Rattle.sm_check_net.specs.Reaching.{IsStepOf, TrailGoesOn, IsReachedTrail}

contained : (items : List ℕ) (k : ℕ) → k < length items → Contains items (slice_index items k)
contained items k less = (k, less, get_or_default items k (slice_index items k) 0 less)

-- a pair at a place is a step
pub step_at : (steps : List (ℕ × ℕ)) (k i : ℕ) → k < length steps → (pair_at steps k).0 ≡ i → IsStepOf steps i (pair_at steps k).1
step_at steps k i less e = list_any_at (λ (x : ℕ × ℕ). x.0 == i && x.1 == (pair_at steps k).1) steps k (0, 0) less (and_from _ _ (eq-eqb _ i e) (eq-eqb _ _ refl))

-- where the steps from one node are gone through, from the first of them to place k
pub record IsGoing (steps : List (ℕ × ℕ)) (from start k : ℕ) (before after : Trail) : Type 0 where
  pub same_bound : after.bound ≡ before.bound
  pub longer : length before.items ≤ length after.items
  pub kept : (j : ℕ) → j < length before.items → slice_index after.items j ≡ slice_index before.items j
  pub new : (j : ℕ) → length before.items ≤ j → j < length after.items → IsStepOf steps from (slice_index after.items j)
  pub done : (a : ℕ) → start ≤ a → a < k → Contains after.items (pair_at steps a).1
  pub within : length after.items ≤ after.bound

-- a step to a node that the trail has
pub going_known : {steps : List (ℕ × ℕ)} {from start k : ℕ} {before after : Trail} → IsGoing steps from start k before after → Contains after.items (pair_at steps k).1 → IsGoing steps from start (k + 1) before after
going_known {steps} {k = k} {after = after} g c = record {
  same_bound = g.same_bound;
  longer = g.longer;
  kept = g.kept;
  new = g.new;
  done = λ a more less. elim (eq_or_ne a k) [
    | inl e ↦ subst (λ b. Contains after.items (pair_at steps b).1) (sym e) c
    | inr ne ↦ g.done a more (omega arith)
  ];
  within = g.within;
}

-- a step to a new node
pub going_on : {steps : List (ℕ × ℕ)} {from start k : ℕ} {before after : Trail} → IsGoing steps from start k before after → k < length steps → (pair_at steps k).0 ≡ from → length after.items < after.bound
    → IsGoing steps from start (k + 1) before (record { bound = after.bound; items = after.items ++ (pair_at steps k).1 ∷ [] })
going_on {steps} {from} {k = k} {before} {after} g less e room = record {
  same_bound = g.same_bound;
  longer = omega (arith, g.longer, long);
  kept = λ j h. old j (omega (arith, g.longer)) ∙ g.kept j h;
  new = λ j more h. elim (eq_or_ne j (length after.items)) [
    | inl same ↦ subst (IsStepOf steps from) (sym (get_or_push after.items _ 0 j (sym same))) (step_at steps k from less e)
    | inr ne ↦ subst (IsStepOf steps from) (sym (old j (omega (arith, long)))) (g.new j more (omega (arith, long)))
  ];
  done = λ a more h. elim (eq_or_ne a k) [
    | inl same ↦ subst (λ b. Contains (after.items ++ (pair_at steps k).1 ∷ []) (pair_at steps b).1) (sym same) (Contains-push after.items _)
    | inr ne ↦ Contains-append_left after.items _ _ (g.done a more (omega arith))
  ];
  within = omega (arith, long);
}
  where
    long : length (after.items ++ (pair_at steps k).1 ∷ []) ≡ length after.items + 1
    long = length_push after.items _

    old : (j : ℕ) → j < length after.items → slice_index (after.items ++ (pair_at steps k).1 ∷ []) j ≡ slice_index after.items j
    old j h = get_or_append_left after.items _ 0 j h

-- the steps from a node stand from its first one on, up to the first of a later node
pub going_ends : {steps : List (ℕ × ℕ)} {from start k : ℕ} {before after : Trail} → AreOrdered steps → IsParted steps (from, 0) start → IsGoing steps from start k before after → start ≤ k
    → (k < length steps → (pair_at steps k).0 ≢ from) → TrailGoesOn steps from before after
going_ends {steps} {from} {start} {k} {before} {after} o p g come other = record {
  same_bound = g.same_bound;
  longer = g.longer;
  kept = g.kept;
  new = g.new;
  all = all;
  within = g.within;
}
  where
    all : (j : ℕ) → IsStepOf steps from j → Contains after.items j
    all j step =
        let w = some_passes (λ (x : ℕ × ℕ). x.0 == from && x.1 == j) steps (0, 0) step in
        let both = and_parts _ _ w.holds in
        let is_from : (pair_at steps w.at).0 ≡ from = eqb-true _ from both.0 in
        let is_to : (pair_at steps w.at).1 ≡ j = eqb-true _ j both.1 in
        subst (Contains after.items) is_to (g.done w.at (behind w.at is_from) (before_k w.at w.below is_from))
      where
        behind : (a : ℕ) → (pair_at steps a).0 ≡ from → start ≤ a
        behind a e = elim (lt_or_le a start) [
          | inl h ↦ elim (p.lower a h) [ inl less ↦ absurd (omega (arith, e)) | inr same ↦ absurd (let x = same.1 in omega arith) ]
          | inr h ↦ h
        ]

        before_k : (a : ℕ) → a < length steps → (pair_at steps a).0 ≡ from → a < k
        before_k a less e = elim (lt_or_le a k) [
          | inl h ↦ h
          | inr h ↦ absurd (other (omega arith) (same_from h))
        ]
          where
            at_least : k ≤ a → (pair_at steps k).0 ≤ from
            at_least h = elim (eq_or_ne k a) [
              | inl same ↦ omega (arith, e, ap (λ b. (pair_at steps b).0) same)
              | inr ne ↦ elim (o.ordered k a (omega arith) less) [ inl x ↦ omega (arith, e) | inr x ↦ omega (arith, e, x.0) ]
            ]

            at_most : k ≤ a → from ≤ (pair_at steps k).0
            at_most h = elim (p.higher k come (omega arith)) [ inl x ↦ omega arith | inr x ↦ omega (arith, x.0) ]

            same_from : k ≤ a → (pair_at steps k).0 ≡ from
            same_from h = omega (arith, at_least h, at_most h)

-- the steps from the first few nodes of a trail lead to nodes of the trail
pub record IsFollowing (bound : ℕ) (steps : List (ℕ × ℕ)) (trail : Trail) (next : ℕ) : Type 0 where
  pub same_bound : trail.bound ≡ bound
  pub begins : (0 < length trail.items) × (slice_index trail.items 0 ≡ 0)
  pub sound : (k : ℕ) → k < length trail.items → IsReachable (IsStepOf steps) 0 (slice_index trail.items k)
  pub passed : (k : ℕ) → k < next → k < length trail.items → (j : ℕ) → IsStepOf steps (slice_index trail.items k) j → Contains trail.items j
  pub within : length trail.items ≤ bound
  pub come : next ≤ length trail.items

keeps : {steps : List (ℕ × ℕ)} {from : ℕ} {before after : Trail} → TrailGoesOn steps from before after → (v : ℕ) → Contains before.items v → Contains after.items v
keeps {after = after} g v c = subst (Contains after.items) (g.kept c.0 c.1 ∙ get_or_default _ c.0 0 v c.1 ∙ c.2) (contained after.items c.0 (omega (arith, g.longer, c.1)))

-- the steps from one more node of the trail are followed
pub following_on : {bound next : ℕ} {steps : List (ℕ × ℕ)} {before after : Trail} → IsFollowing bound steps before next → next < length before.items → TrailGoesOn steps (slice_index before.items next) before after → IsFollowing bound steps after (next + 1)
following_on {bound} {next} {steps} {before} {after} f less g = record {
  same_bound = g.same_bound ∙ f.same_bound;
  begins = (omega (arith, g.longer, f.begins.0), g.kept 0 f.begins.0 ∙ f.begins.1);
  sound = λ k few. elim (lt_or_le k (length before.items)) [
    | inl h ↦ subst (IsReachable (IsStepOf steps) 0) (sym (g.kept k h)) (f.sound k h)
    | inr h ↦ reach_on (f.sound next less) (g.new k h few)
  ];
  passed = λ k small few j step. elim (eq_or_ne k next) [
    | inl e ↦ g.all j (subst (λ v. IsStepOf steps v j) (ap (slice_index after.items) e ∙ g.kept next less) step)
    | inr ne ↦ keeps g j (f.passed k (omega arith) (omega (arith, f.come)) j (subst (λ v. IsStepOf steps v j) (g.kept k (omega (arith, f.come))) step))
  ];
  within = omega (arith, g.within, g.same_bound, f.same_bound);
  come = omega (arith, g.longer);
}

-- where all are passed, the trail is what is reached
pub followed : {bound next : ℕ} {steps : List (ℕ × ℕ)} {trail : Trail} → IsFollowing bound steps trail next → length trail.items ≤ next → IsReachedTrail bound steps trail
followed {bound} {next} {steps} {trail} f all = record {
  bound = f.same_bound;
  exact = λ v. (
    (λ c. subst (IsReachable (IsStepOf steps) 0) (get_or_default _ c.0 0 v c.1 ∙ c.2) (f.sound c.0 c.1)),
    (λ r. along r.path 0 v r.is (subst (Contains trail.items) f.begins.1 (contained trail.items 0 f.begins.0))),
  );
}
  where
    along : (path : List ℕ) (i v : ℕ) → IsPath (IsStepOf steps) i path v → Contains trail.items i → Contains trail.items v
    along [] i v e c = subst (Contains trail.items) e c
    along (k ∷ path) i v w c = along path k v w.1 (f.passed c.0 (omega (arith, c.1)) c.1 k (subst (λ u. IsStepOf steps u k) (sym (get_or_default _ c.0 0 i c.1 ∙ c.2)) w.0))
