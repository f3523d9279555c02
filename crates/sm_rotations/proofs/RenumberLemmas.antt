-- What each rotation needs takes new numbers while the rotations are written.
use Rattle.std.proofs.Common.{◌≡◌, ◌≢◌, ℕ, ◌+◌, ◌<◌, ◌≤◌, inl, inr, arith, refl, sym, ap, ◌∙◌, List, [], ◌∷◌, ◌++◌, length, set, slice_index_or}
use Rattle.std.proofs.lemmas.List.{get_or-set_same, get_or-set_other, length-set, length_push, get_or_push, get_or_append_left}
use Rattle.sm_market.specs.Lists.{Lists, row, IsMarket}
use Rattle.sm_market.specs.Matching.{Places}
use Rattle.sm_market.specs.Stable.{IsStable}
use Rattle.sm_lists.proofs.Counting.{eq_or_ne, lt_or_le}
use Rattle.sm_theory.specs.Rotations.{IsExposed, eliminated}
use Rattle.sm_theory.specs.Chains.{rotation_at, IsCompleteChain, AreNeeds}
use Rattle.sm_theory.proofs.Core.Chain.{needs_lower, way_of}
use Rattle.sm_theory.proofs.Bridge.Chain.{chain_of, needs_of}
use Rattle.sm_rotations.specs.Graph.{times, AreFollowers, AreAddedTo}
use Rattle.sm_rotations.specs.Ordering.{IsTurned, IsPassed, number_at, AreNewNeeds, AreRenumbered}
use Rattle.sm_rotations.proofs.ChainingLemmas.{rotation_at-push_before, rotation_at-push_new}
use Rattle.sm_rotations.proofs.PassedLemmas.{now_passed, still_passed}
use Rattle.sm_rotations.proofs.TurnLemmas.{turned_needs, needs_of_turned}
use Rattle.sm_rotations.proofs.TurnedBackLemmas.{rising_push, rising_like}

-- nothing is written yet
pub renumbered_start : {l : Lists} {first : Places} {rotations : List (List (ℕ × ℕ))} {followers : List (List ℕ)} {m : Places} {written : List (List (ℕ × ℕ))} {noted needs : List (List ℕ)}
    → written ≡ [] → needs ≡ [] → length noted ≡ length rotations → ((k : ℕ) → row noted k ≡ []) → AreRenumbered l first rotations followers m written noted needs
renumbered_start {written = written} {noted} none none' long empty = rw (none, none') (record {
  numbers = [];
  numbers_each = refl;
  in_range = λ n less. absurd (omega arith);
  turned = λ n less. absurd (omega arith);
  noted_each = long;
  lower = λ k a less. absurd (let short : length (row noted k) ≡ 0 = ap length (empty k) in omega arith);
  noted_are = λ k inside out. rw (empty k) (record {
    rising = λ a b less within. absurd (omega arith);
    sound = λ a within. absurd (omega arith);
    all = λ i p. absurd (omega (arith, p.0));
  });
  needs_each = refl;
  needs_are = λ n less. absurd (omega arith);
})

-- one more number
module _ (numbers : List ℕ) (k : ℕ) where
  -- the earlier numbers stay
  pub number_before : (n : ℕ) → n < length numbers → number_at (numbers ++ k ∷ []) n ≡ number_at numbers n
  number_before n less = get_or_append_left numbers (k ∷ []) 0 n less

  -- and the new one is the last
  pub number_new : (n : ℕ) → n ≡ length numbers → number_at (numbers ++ k ∷ []) n ≡ k
  number_new n e = get_or_push numbers k 0 n (sym e)

  -- what has been noted stays
  pub needs_before : (followers : List (List ℕ)) (n j : ℕ) {list : List ℕ} → n ≤ length numbers → AreNewNeeds followers numbers n j list → AreNewNeeds followers (numbers ++ k ∷ []) n j list
  needs_before followers n j le f = rising_like f
      (λ i p. (p.0, rw (number_before i (omega (arith, p.0))) p.1))
      (λ i p. (p.0, rw (number_before i (omega (arith, p.0))) at p.1))

  -- the new number is added for those that need it
  pub needs_with : (followers : List (List ℕ)) (j : ℕ) {list : List ℕ} → 0 < times (row followers k) j → AreNewNeeds followers numbers (length numbers) j list
      → AreNewNeeds followers (numbers ++ k ∷ []) (length numbers + 1) j (list ++ length numbers ∷ [])
  needs_with followers j some f = rising_push (length numbers) (needs_before followers (length numbers) j (omega arith) f)
      (λ i p. p.0)
      (λ i p. (omega (arith, p.0), p.1))
      (omega arith, rw (number_new (length numbers) refl) some)
      (λ i p ne. (omega (arith, p.0), p.1))

  -- a rotation that doesn't need it keeps its list
  pub needs_without : (followers : List (List ℕ)) (j : ℕ) {list : List ℕ} → times (row followers k) j ≡ 0 → AreNewNeeds followers numbers (length numbers) j list
      → AreNewNeeds followers (numbers ++ k ∷ []) (length numbers + 1) j list
  needs_without followers j none f = rising_like (needs_before followers (length numbers) j (omega arith) f)
      (λ i p. (omega (arith, p.0), p.1))
      (λ i p. (below i p.0 p.1, p.1))
    where
      below : (i : ℕ) → i < length numbers + 1 → 0 < times (row followers (number_at (numbers ++ k ∷ []) i)) j → i < length numbers
      below i less some = elim (eq_or_ne i (length numbers)) [
        | inl same ↦ absurd (omega (arith, rw (number_new i same) at some, none))
        | inr ne ↦ omega arith
      ]

module _ {l : Lists} (h : IsMarket l) {first : Places} {rotations : List (List (ℕ × ℕ))} (chain : IsCompleteChain l first rotations)
    {followers : List (List ℕ)} where
  -- a rotation is written, and its list is taken away
  module _ {m : Places} {written : List (List (ℕ × ℕ))} {noted needs : List (List ℕ)} (r : AreRenumbered l first rotations followers m written noted needs) (k : ℕ) (g : k < length rotations) where
    -- all that is noted is still a number of what is written
    pub lower_still : (j a : ℕ) → a < length (row (set noted k []) j) → slice_index_or (row (set noted k []) j) a 0 < length written
    lower_still j a less = elim (eq_or_ne j k) [
      | inl same ↦ absurd (let none : length (row (set noted k []) j) ≡ 0 = ap (λ j. length (row (set noted k []) j)) same ∙ ap length (get_or-set_same noted k [] [] (omega (arith, r.noted_each))) in omega arith)
      | inr other ↦ let old = get_or-set_other noted k j [] [] other in rw old (r.lower j a (rw old at less))
    ]

    module _ (s : IsStable l m) (out : ¬ IsPassed l first rotations m k) (x : IsExposed l m (rotation_at rotations k)) {turned : List (ℕ × ℕ)} (t : IsTurned (rotation_at rotations k) turned)
        {after : List (List ℕ)} (added : AreAddedTo (length written) (row followers k) (set noted k []) after) where
      -- the lists of those that aren't passed then
      row_with : (j : ℕ) → j ≢ k → 0 < times (row followers k) j → row after j ≡ row noted j ++ length written ∷ []
      row_with j other some = added.to j some ∙ ap (λ xs. xs ++ length written ∷ []) (get_or-set_other noted k j [] [] other)

      row_without : (j : ℕ) → j ≢ k → times (row followers k) j ≡ 0 → row after j ≡ row noted j
      row_without j other none = added.others j none ∙ get_or-set_other noted k j [] [] other

      lower_after : (j a : ℕ) → a < length (row after j) → slice_index_or (row after j) a 0 < length written + 1
      lower_after j a less = elim (lt_or_le 0 (times (row followers k) j)) [
        | inr none ↦ let same = added.others j (omega arith) in rw same (omega (arith, lower_still j a (rw same at less)))
        | inl some ↦
            let same = added.to j some in
            let less' = rw same at less in
            elim (lt_or_le a (length (row (set noted k []) j))) [
              | inl old ↦ rw same (omega (arith, lower_still j a old, get_or_append_left (row (set noted k []) j) (length written ∷ []) 0 a old))
              | inr new ↦ rw same (omega (arith, get_or_push (row (set noted k []) j) (length written) 0 a (omega (arith, length_push (row (set noted k []) j) (length written)))))
            ]
      ]

      noted_after : (j : ℕ) → j < length rotations → ¬ IsPassed l first rotations (eliminated l m (rotation_at rotations k)) j → AreNewNeeds followers (r.numbers ++ k ∷ []) (length written + 1) j (row after j)
      noted_after j a left = rw (sym r.numbers_each) (
          elim (lt_or_le 0 (times (row followers k) j)) [
            | inl some ↦ rw (row_with j other some, sym r.numbers_each) (needs_with r.numbers k followers j some old)
            | inr none ↦ rw (row_without j other (omega arith)) (needs_without r.numbers k followers j (omega arith) old)
          ])
        where
          other : j ≢ k
          other same = let now : IsPassed l first rotations (eliminated l m (rotation_at rotations k)) j = rw same (now_passed h chain s k g x) in left now

          old : AreNewNeeds followers r.numbers (length r.numbers) j (row noted j)
          old = rw r.numbers_each (r.noted_are j a (λ e. left (still_passed h chain s k g x j a e)))

      -- with its followers noted, what is written, noted and needed is right behind it
      pub renumbered_more : {n : Places} {written_after : List (List (ℕ × ℕ))} {needs_after : List (List ℕ)} → n ≡ eliminated l m (rotation_at rotations k)
          → written_after ≡ written ++ turned ∷ [] → needs_after ≡ needs ++ row noted k ∷ [] → AreRenumbered l first rotations followers n written_after after needs_after
      renumbered_more to_is more more' = rw (to_is, more, more') (record {
        numbers = r.numbers ++ k ∷ [];
        numbers_each = omega (arith, length_push r.numbers k, length_push written turned, r.numbers_each);
        in_range = λ n less. elim (eq_or_ne n (length written)) [
          | inl new ↦ rw (number_new r.numbers k n (omega (arith, r.numbers_each))) g
          | inr ne ↦ rw (number_before r.numbers k n (before n less ne)) (r.in_range n (inside n less ne))
        ];
        turned = λ n less. elim (eq_or_ne n (length written)) [
          | inl new ↦ rw (number_new r.numbers k n (omega (arith, r.numbers_each)), rotation_at-push_new written turned n new) t
          | inr ne ↦ rw (number_before r.numbers k n (before n less ne), rotation_at-push_before written turned n (inside n less ne)) (r.turned n (inside n less ne))
        ];
        noted_each = added.one_each ∙ length-set noted k [] ∙ r.noted_each;
        lower = λ j a less. omega (arith, lower_after j a less, length_push written turned);
        noted_are = λ j a left. let long : length (written ++ turned ∷ []) ≡ length written + 1 = omega (arith, length_push written turned) in rw long (noted_after j a left);
        needs_each = omega (arith, length_push needs (row noted k), length_push written turned, r.needs_each);
        needs_are = λ n less. elim (eq_or_ne n (length written)) [
          | inl new ↦ rw (number_new r.numbers k n (omega (arith, r.numbers_each)), get_or_push needs (row noted k) [] n (omega (arith, r.needs_each)), new)
              (needs_before r.numbers k followers (length written) k (omega (arith, r.numbers_each)) (r.noted_are k g out))
          | inr ne ↦ rw (number_before r.numbers k n (before n less ne), get_or_append_left needs (row noted k ∷ []) [] n (omega (arith, inside n less ne, r.needs_each)))
              (needs_before r.numbers k followers n (number_at r.numbers n) (omega (arith, before n less ne)) (r.needs_are n (inside n less ne)))
        ];
      })
        where
          inside : (n : ℕ) → n < length (written ++ turned ∷ []) → n ≢ length written → n < length written
          inside n less ne = elim (lt_or_le n (length written)) [ inl a ↦ a | inr a ↦ absurd (ne (omega (arith, length_push written turned))) ]

          before : (n : ℕ) → n < length (written ++ turned ∷ []) → n ≢ length written → n < length r.numbers
          before n less ne = omega (arith, inside n less ne, r.numbers_each)

  -- all is written: these are the needs
  pub needs_written : {m : Places} {written : List (List (ℕ × ℕ))} {noted needs : List (List ℕ)} → AreFollowers l rotations (length rotations) followers → IsCompleteChain l first written
      → AreRenumbered l first rotations followers m written noted needs → AreNeeds l written needs
  needs_written {written = written} {needs = needs} f printed r = record {
    one_each = r.needs_each;
    each = λ j a. record {
      rising = (r.needs_are j a).rising;
      sound = λ b less. omega (arith, ((r.needs_are j a).sound b less).0);
      each = λ b less.
          let p = (r.needs_are j a).sound b less in
          let i : ℕ = slice_index_or (row needs j) b 0 in
          let inside : i < length written = omega (arith, p.0) in
          turned_needs (r.turned i inside) (r.turned j a) ((f.sound (number_at r.numbers i) (number_at r.numbers j) p.1).2);
      all = λ i inside need. (r.needs_are j a).all i (
        needs_lower (way_of (chain_of h printed)) i j inside a (needs_of h need),
        f.all (number_at r.numbers i) (number_at r.numbers j) (r.in_range j a) (r.in_range i inside) (needs_of_turned (r.turned i inside) (r.turned j a) need),
      );
    };
  }
