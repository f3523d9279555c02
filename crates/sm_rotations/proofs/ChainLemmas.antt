-- What is found for each rotation is what it needs, and it is added to the lists of those.
use Rattle.std.proofs.Common.{◌≡◌, ◌≢◌, ℕ, ◌+◌, ◌<◌, inl, inr, arith, sym, ap, ◌∙◌, List, [], length, Option, slice_index_or}
use Rattle.std.proofs.lemmas.List.{get_or_default}
use Rattle.sm_market.specs.Lists.{Lists, row, IsMarket}
use Rattle.sm_market.specs.Matching.{Places, IsMatching}
use Rattle.sm_lists.proofs.Counting.{lt_or_le, eq_or_ne}
use Rattle.sm_theory.specs.Chains.{rotation_at, AreEliminable, IsNeededBy}
use Rattle.sm_theory.proofs.Chains.Marks.{found_is_need, need_is_found}
use Rattle.sm_rotations.specs.Marking.{AreLastMoves, AreMarks, IsFoundNeed, Adds}
use Rattle.sm_rotations.specs.Graph.{times, AreFollowers, AreAddedTo}
use Rattle.sm_rotations.proofs.TimesLemmas.{times_of_contains, contains_of_times}
use Rattle.sm_rotations.proofs.AddingLemmas.{times-push_same, times-push_other}

module _ {l : Lists} (h : IsMarket l) {first : Places} (fits : IsMatching l first) {rotations : List (List (ℕ × ℕ))} (chain : AreEliminable l first rotations) where
  module _ {j : ℕ} (inside : j < length rotations) {notes : List (Option ℕ)} {marks : List (List (Option ℕ))} (lasts : AreLastMoves rotations j notes) (marked : AreMarks l rotations j marks) where
    -- once a rotation is added to what is found for it, it stands with those that it needs
    pub followed : {found : List ℕ} {before after : List (List ℕ)} → Adds (λ i. IsFoundNeed l (rotation_at rotations j) (length (rotation_at rotations j)) notes marks i) [] found
        → AreFollowers l rotations j before → AreAddedTo j found before after → AreFollowers l rotations (j + 1) after
    followed {found} {before} {after} f w step = record {
      one_each = step.one_each ∙ w.one_each;
      sound = λ i k some. elim (lt_or_le 0 (times found i)) [
        | inr none ↦ old i k (omega (arith, some, same i k (omega arith)))
        | inl is_found ↦ elim (eq_or_ne k j) [
          | inl is ↦ rw is (let need = found_is i is_found in (omega arith, need.0, need.1))
          | inr ne ↦ old i k (omega (arith, some, other i k is_found ne))
        ]
      ];
      all = λ i k below within need. elim (eq_or_ne k j) [
        | inl is ↦ rw is (
            let is_found : 0 < times found i = times_of_contains found i (f.added i (need_is_found h fits chain inside lasts marked i within (rw is at need))) in
            omega (arith, this i is_found))
        | inr ne ↦ let there = w.all i k (omega arith) within need in elim (lt_or_le 0 (times found i)) [
          | inl is_found ↦ omega (arith, there, other i k is_found ne)
          | inr none ↦ omega (arith, there, same i k (omega arith))
        ]
      ];
      once = λ i k. elim (lt_or_le 0 (times found i)) [
        | inr none ↦ omega (arith, w.once i k, same i k (omega arith))
        | inl is_found ↦ elim (eq_or_ne k j) [
          | inl is ↦ rw is (omega (arith, this i is_found, none_yet i))
          | inr ne ↦ omega (arith, w.once i k, other i k is_found ne)
        ]
      ];
    }
      where
        none_yet : (i : ℕ) → times (row before i) j ≡ 0
        none_yet i = elim (lt_or_le 0 (times (row before i) j)) [
          | inl some ↦ absurd (omega (arith, (w.sound i j some).0))
          | inr none ↦ omega arith
        ]

        this : (i : ℕ) → 0 < times found i → times (row after i) j ≡ times (row before i) j + 1
        this i is_found = ap (λ xs. times xs j) (step.to i is_found) ∙ times-push_same (row before i) j

        other : (i k : ℕ) → 0 < times found i → k ≢ j → times (row after i) k ≡ times (row before i) k
        other i k is_found ne = ap (λ xs. times xs k) (step.to i is_found) ∙ times-push_other (row before i) j k (λ e. ne (sym e))

        same : (i k : ℕ) → times found i ≡ 0 → times (row after i) k ≡ times (row before i) k
        same i k none = ap (λ xs. times xs k) (step.others i none)

        old : (i k : ℕ) → 0 < times (row before i) k → (k < j + 1) × (i < length rotations) × IsNeededBy l (rotation_at rotations i) (rotation_at rotations k)
        old i k some = let is = w.sound i k some in (omega (arith, is.0), is.1, is.2)

        found_is : (i : ℕ) → 0 < times found i → (i < length rotations) × IsNeededBy l (rotation_at rotations i) (rotation_at rotations j)
        found_is i some = elim (f.only i (contains_of_times found i some)) [
          | inl none ↦ absurd (omega (arith, none.1))
          | inr is ↦ found_is_need h fits chain inside lasts marked i is
        ]

    -- only rotations that there are are found
    pub found_in_range : {found : List ℕ} → Adds (λ i. IsFoundNeed l (rotation_at rotations j) (length (rotation_at rotations j)) notes marks i) [] found → (a : ℕ) → a < length found → slice_index_or found a 0 < length rotations
    found_in_range {found} f a within =
        let x : ℕ = slice_index_or found a 0 in
        elim (f.only x (a, within, get_or_default found a x 0 within)) [
          | inl none ↦ absurd (omega (arith, none.1))
          | inr is ↦ (found_is_need h fits chain inside lasts marked x is).0
        ]
