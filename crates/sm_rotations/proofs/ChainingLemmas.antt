-- A chain grows rotation by rotation.
use Rattle.std.proofs.Common.{◌≡◌, ℕ, suc, ◌-◌, ◌<◌, ◌≤◌, ◌^◌, inl, inr, arith, refl, sym, ap, ◌∙◌, List, [], ◌∷◌, ◌++◌, length}
use Rattle.std.proofs.lemmas.List.{length_push}
use Rattle.sm_market.specs.Lists.{Lists, row, IsMarket}
use Rattle.sm_market.specs.Matching.{Places, standing}
use Rattle.sm_market.specs.Limits.{IsWithinLimits}
use Rattle.sm_market.specs.Stable.{IsStable, IsProposersBest}
use Rattle.sm_lists.proofs.Counting.{lt_or_le, eq_or_ne}
use Rattle.sm_market.proofs.Bridge.{sides_of, stable_of}
use Rattle.sm_theory.specs.Rotations.{proposer_at, IsExposed, eliminated, IsNothingExposed, IsLowestExposed}
use Rattle.sm_theory.specs.Chains.{stage, IsPrintedChain}
use Rattle.sm_theory.specs.Values.{rotations_of}
use Rattle.sm_theory.specs.declared.rotations.Rotation.{Rotation}
use Rattle.sm_theory.proofs.Core.Rotation.{goes_down, never_up, elim_stable}
use Rattle.sm_theory.proofs.Bridge.Rotation.{exposed_of, elim_of}
-- a chain with one more rotation, passed on
pub use Rattle.sm_theory.proofs.Bridge.Chain.{rotation_at-push_before, rotation_at-push_new, stage_before}
use Rattle.sm_rotations.specs.Chaining.{LeadsTo}
use Rattle.sm_theory.proofs.Chains.Length.{sum_below, sums_le, sums_less, sum_of_lengths}

-- no rotation leads to the first matching itself
pub leads_start : (l : Lists) (first m : Places) → m ≡ first → LeadsTo l first [] m
leads_start l first m e = record { lowest = λ k less. absurd (omega arith); at_end = e }

-- one more rotation, the lowest that is exposed, leads on to what is left once it is eliminated
pub leads_on : {l : Lists} {first m n : Places} {xs : List (List (ℕ × ℕ))} (x : List (ℕ × ℕ)) → LeadsTo l first xs m → IsLowestExposed l m x → n ≡ eliminated l m x → LeadsTo l first (xs ++ x ∷ []) n
leads_on {l} {first} {m} {n} {xs} x a low e = record {
  lowest = λ k less. elim (eq_or_ne k (length xs)) [
    | inl is ↦ rw (there k is, rotation_at-push_new xs x k is) low
    | inr ne ↦ rw (stage_before l first xs x k (before k less), rotation_at-push_before xs x k (inside k less ne)) (a.lowest k (inside k less ne))
  ];
  at_end = e ∙ ap (λ m. eliminated l m x) (sym (there (length xs) refl)) ∙ ap (eliminated l (stage l first (xs ++ x ∷ []) (length xs))) (sym (rotation_at-push_new xs x (length xs) refl)) ∙ ap (stage l first (xs ++ x ∷ [])) top;
}
  where
    top : suc (length xs) ≡ length (xs ++ x ∷ [])
    top = omega (arith, length_push xs x)

    before : (k : ℕ) → k < length (xs ++ x ∷ []) → k ≤ length xs
    before k less = omega (arith, length_push xs x)

    inside : (k : ℕ) → k < length (xs ++ x ∷ []) → (k ≡ length xs → ⊥) → k < length xs
    inside k less ne = elim (lt_or_le k (length xs)) [ inl h ↦ h | inr h ↦ absurd (ne (omega (arith, length_push xs x))) ]

    there : (k : ℕ) → k ≡ length xs → stage l first (xs ++ x ∷ []) k ≡ m
    there k is = stage_before l first xs x k (omega arith) ∙ ap (stage l first xs) is ∙ sym a.at_end

-- where nothing is exposed at the end, a chain from the proposers' best is the printed one
pub leads_whole : {l : Lists} {first m : Places} {xs : List (List (ℕ × ℕ))} → IsProposersBest l first → LeadsTo l first xs m → IsNothingExposed l m → IsPrintedChain l first xs
leads_whole {l} {first} {m} {xs} best a none = record {
  chain = record { from_best = best; exposed = λ k less. (a.lowest k less).exposed; complete = λ other x. none.none other (rw a.at_end x) };
  lowest = a.lowest;
}

-- it comes to an end, since its proposers go down their lists
pub places_below : Lists → Places → ℕ
places_below l m = sum_below (λ p. length (row l.proposers p)) (length l.proposers) - sum_below (standing l.proposers m.proposers) (length l.proposers)

-- eliminating a rotation leaves fewer places below the proposers
pub places_fall : {l : Lists} {m n : Places} (x : List (ℕ × ℕ)) → IsMarket l → IsStable l m → IsExposed l m x → n ≡ eliminated l m x → places_below l n < places_below l m
unfolding places_below
places_fall {l} {m} {n} x h s y e =
    let hm = stable_of h s in
    let z = exposed_of h s.matching y in
    let el = elim_of h s.matching y in
    let more = elim_stable hm z el in
    let p : ℕ = proposer_at x 0 in
    let down : standing l.proposers m.proposers p < standing l.proposers (eliminated l m x).proposers p = goes_down hm.fit z el 0 y.not_empty in
    let inside : p < length l.proposers = elim (lt_or_le p (length l.proposers)) [ inl k ↦ k | inr k ↦ absurd (omega (arith, (sides_of l h).left.few p k, (z.paired 0 y.not_empty).matched)) ] in
    let less = sums_less (standing l.proposers m.proposers) (standing l.proposers (eliminated l m x).proposers) (length l.proposers) p (λ q. never_up hm.fit z el q) inside down in
    let fits = sums_le (standing l.proposers (eliminated l m x).proposers) (λ p. length (row l.proposers p)) (length l.proposers) (λ q. more.fit.left.within q) in
    rw e (omega arith)

-- there are fewer than 2^24 places below the proposers
pub few_places : {l : Lists} (m : Places) → IsWithinLimits l → places_below l m < 2 ^ 24
unfolding places_below
few_places {l} m limits = omega (arith, sum_of_lengths l.proposers (length l.proposers) (omega arith), limits.proposers.entries)

-- one more rotation that is held is one more list of pairs
pub rotations_of-push : (rotations : List Rotation) (r : Rotation) → rotations_of (rotations ++ r ∷ []) ≡ rotations_of rotations ++ r.pairs.items ∷ []
rotations_of-push [] r = refl
rotations_of-push (q ∷ rotations) r = ap (λ rest. q.pairs.items ∷ rest) (rotations_of-push rotations r)
