-- The market of specs/WitnessesListing.antt.
use Rattle.std.proofs.Common.{◌≡◌, ℕ, zero, suc, ◌+◌, ◌<◌, ◌≤◌, ◌⊎◌, arith, refl, sym, ap, ◌∙◌, subst, slice_index, slice_index_or, List, [], ◌∷◌, length, Bool, true, false, inl, inr, None}
use Rattle.std.proofs.lemmas.Bool.{false≢true}
use Rattle.sm_market.specs.Lists.{place_of, IsMarket}
use Rattle.sm_market.specs.Matching.{Places}
use Rattle.sm_theory.specs.Rotations.{IsSuccessor, IsExposed, proposer_at, target_at}
use Rattle.sm_theory.specs.Chains.{rotation_at, stage, IsCompleteChain, IsNeededBy}
use Rattle.sm_theory.specs.ClosedSets.{IsMember, IsClosed, matching_of, IsReady}
use Rattle.sm_theory.specs.Vectors.{IsBefore, IsAllowed, IsAllowedVector, level_vector_of}
use Rattle.sm_theory.specs.Listings.{IsListing}
use Rattle.sm_theory.specs.WitnessesListing.{two_pairs, two_pairs_first, two_pairs_chain, two_pairs_ranks, both_best, second_worst, first_worst, both_worst, TwoApart, Listed, Orders, NextOnes, TwoPairs}
use Rattle.sm_theory.proofs.Vectors.Order.{irreflexive, transitive}
use Rattle.sm_theory.proofs.Vectors.Listings.{first_is_next}
use Rattle.sm_theory.proofs.Chains.Rotations.{predecessor_is_earlier, sets_are_matchings, printed_of}
use Rattle.sm_theory.proofs.Tests.Pairs.{market_pass, matching_pass, firsts_best, exposed_pass, none_pass, levels_pass}
use Rattle.sm_theory.proofs.Tests.Markets.{below_two}

-- the lists of twice two are a market
pub market : IsMarket two_pairs
market = market_pass two_pairs refl

-- its chain is complete
pub complete : IsCompleteChain two_pairs two_pairs_first two_pairs_chain
complete = record {
  from_best = firsts_best two_pairs two_pairs_first (matching_pass two_pairs two_pairs_first refl) refl;
  exposed = below_two (λ k. IsExposed two_pairs (stage two_pairs two_pairs_first two_pairs_chain k) (rotation_at two_pairs_chain k))
      (exposed_pass two_pairs two_pairs_first (rotation_at two_pairs_chain 0) refl)
      (exposed_pass two_pairs (stage two_pairs two_pairs_first two_pairs_chain 1) (rotation_at two_pairs_chain 1) refl);
  complete = none_pass two_pairs (stage two_pairs two_pairs_first two_pairs_chain 2) refl;
}

-- proposers 0 and 1 have the last on their lists once the first rotation is eliminated
settled : (p i : ℕ) → IsSuccessor two_pairs (stage two_pairs two_pairs_first two_pairs_chain 1) p i → 2 ≤ p
settled zero i w = absurd (omega (arith, w.on_list, w.behind))
settled (suc zero) i w = absurd (omega (arith, w.on_list, w.behind))
settled (suc (suc p)) i w = omega arith

-- neither rotation needs the other
passes_none : (i : ℕ) → i < 2 → (j : ℕ) → j < 2
    → place_of two_pairs.proposers (proposer_at (rotation_at two_pairs_chain 1) j) (target_at (rotation_at two_pairs_chain 0) i) < place_of two_pairs.proposers (proposer_at (rotation_at two_pairs_chain 1) j) (target_at (rotation_at two_pairs_chain 1) j) → ⊥
passes_none = below_two (λ i. (j : ℕ) → j < 2
    → place_of two_pairs.proposers (proposer_at (rotation_at two_pairs_chain 1) j) (target_at (rotation_at two_pairs_chain 0) i) < place_of two_pairs.proposers (proposer_at (rotation_at two_pairs_chain 1) j) (target_at (rotation_at two_pairs_chain 1) j) → ⊥)
    (below_two _ (λ h. omega arith) (λ h. omega arith))
    (below_two _ (λ h. omega arith) (λ h. omega arith))

apart : (i : ℕ) → i < 2 → (j : ℕ) → j < 2 → proposer_at (rotation_at two_pairs_chain 0) i ≡ proposer_at (rotation_at two_pairs_chain 1) j → ⊥
apart = below_two (λ i. (j : ℕ) → j < 2 → proposer_at (rotation_at two_pairs_chain 0) i ≡ proposer_at (rotation_at two_pairs_chain 1) j → ⊥)
    (below_two _ (λ h. omega arith) (λ h. omega arith))
    (below_two _ (λ h. omega arith) (λ h. omega arith))

-- neither rotation is a predecessor of the other, nor of itself
pub none_needed : (i j : ℕ) → i < 2 → j < 2 → IsNeededBy two_pairs (rotation_at two_pairs_chain i) (rotation_at two_pairs_chain j) → ⊥
none_needed zero zero a b w = omega (arith, predecessor_is_earlier two_pairs two_pairs_first two_pairs_chain 0 0 market complete a b w)
none_needed zero (suc zero) a b (inl w) = apart w.pair w.pair_in w.other w.other_in w.same_proposer
none_needed zero (suc zero) a b (inr w) = passes_none w.pair w.pair_in w.other w.other_in w.before
none_needed (suc zero) zero a b w = omega (arith, predecessor_is_earlier two_pairs two_pairs_first two_pairs_chain 1 0 market complete a b w)
none_needed (suc zero) (suc zero) a b w = omega (arith, predecessor_is_earlier two_pairs two_pairs_first two_pairs_chain 1 1 market complete a b w)
none_needed (suc (suc i)) j a b w = omega arith
none_needed zero (suc (suc j)) a b w = omega arith
none_needed (suc zero) (suc (suc j)) a b w = omega arith

all_closed : (s : List Bool) → length s ≡ 2 → IsClosed two_pairs two_pairs_chain s
all_closed s e = record { one_each = e; closed = λ i j a b member need. absurd (none_needed i j a b need) }

abbrev IsOne : List ℕ → Type 0
IsOne = IsAllowedVector two_pairs two_pairs_ranks [] []

nothing_asked : (m : Places) → IsAllowed two_pairs_ranks [] [] m
nothing_asked m = record { holds = λ c h. absurd (omega arith); avoids = λ c h. absurd (omega arith) }

of_set : (s : List Bool) → length s ≡ 2 → IsOne (level_vector_of two_pairs two_pairs_ranks (matching_of two_pairs two_pairs_first two_pairs_chain s))
of_set s e = record {
  matching = matching_of two_pairs two_pairs_first two_pairs_chain s;
  stable = (sets_are_matchings two_pairs two_pairs_first two_pairs_chain market complete).stable s (all_closed s e);
  allowed = nothing_asked (matching_of two_pairs two_pairs_first two_pairs_chain s);
  vector = refl;
}

-- the four vectors, and no other
data Four (v : List ℕ) : Type 0 where
  Best : both_best ≡ v → Four v
  Second : second_worst ≡ v → Four v
  First : first_worst ≡ v → Four v
  Worst : both_worst ≡ v → Four v

four : (v : List ℕ) → IsOne v → Four v
four v a = let s = (sets_are_matchings two_pairs two_pairs_first two_pairs_chain market complete).all a.matching a.stable in go s.0 s.1.one_each (ap (level_vector_of two_pairs two_pairs_ranks) s.2 ∙ sym a.vector)
  where
    go : (s : List Bool) → length s ≡ 2 → level_vector_of two_pairs two_pairs_ranks (matching_of two_pairs two_pairs_first two_pairs_chain s) ≡ v → Four v
    go [] e x = absurd (omega arith)
    go (b ∷ []) e x = absurd (omega arith)
    go (false ∷ false ∷ []) e x = Best x
    go (false ∷ true ∷ []) e x = Second x
    go (true ∷ false ∷ []) e x = First x
    go (true ∷ true ∷ []) e x = Worst x
    go (b ∷ c ∷ d ∷ s) e x = absurd (omega arith)

-- a number below 3, and one below 4
below_three : (P : ℕ → Type 0) → P 0 → P 1 → P 2 → (i : ℕ) → i < 3 → P i
below_three P a b c zero h = a
below_three P a b c (suc zero) h = b
below_three P a b c (suc (suc zero)) h = c
below_three P a b c (suc (suc (suc i))) h = absurd (omega arith)

-- what holds of 0, 1, 2 and 3 holds below 4
pub below_four : (P : ℕ → Type 0) → P 0 → P 1 → P 2 → P 3 → (i : ℕ) → i < 4 → P i
below_four P a b c d zero h = a
below_four P a b c d (suc zero) h = b
below_four P a b c d (suc (suc zero)) h = c
below_four P a b c d (suc (suc (suc zero))) h = d
below_four P a b c d (suc (suc (suc (suc i)))) h = absurd (omega arith)

-- all four in one order
whole_listing : (order : List ℕ) (limit : ℕ) (a b c d : List ℕ) → 4 ≤ limit → IsBefore order a b → IsBefore order b c → IsBefore order c d → IsOne a → IsOne b → IsOne c → IsOne d
    → ((v : List ℕ) → IsOne v → (k : ℕ) × (k < 4) × (slice_index_or (a ∷ b ∷ c ∷ d ∷ []) k [] ≡ v)) → IsListing (IsBefore order) IsOne None limit (a ∷ b ∷ c ∷ d ∷ []) false
whole_listing order limit a b c d le ab bc cd one two three last all = record {
  begins = λ _. tt;
  rises = λ k h. below_three (λ k. IsBefore order (slice_index_or (a ∷ b ∷ c ∷ d ∷ []) k []) (slice_index_or (a ∷ b ∷ c ∷ d ∷ []) (k + 1) [])) ab bc cd k (omega arith);
  sound = λ k h. below_four (λ k. IsOne (slice_index_or (a ∷ b ∷ c ∷ d ∷ []) k [])) one two three last k h;
  whole = λ v x _. inl (all v x);
  limited = le;
  ended = (
    (λ _ v x behind. let w = all v x in below_four (λ k. slice_index_or (a ∷ b ∷ c ∷ d ∷ []) k [] ≡ v → ⊥)
        (λ e. no a (transitive order a c d (transitive order a b c ab bc) cd) v e behind)
        (λ e. no b (transitive order b c d bc cd) v e behind)
        (λ e. no c cd v e behind)
        (λ e. irreflexive order d (subst (IsBefore order d) (sym e) behind))
        w.0 w.1 w.2),
    λ _. refl,
  );
  cut = λ e. absurd (false≢true e);
}
  where
    no : (x : List ℕ) → IsBefore order x d → (v : List ℕ) → x ≡ v → IsBefore order d v → ⊥
    no x less v e behind = irreflexive order d (transitive order d x d (subst (IsBefore order d) (sym e) behind) less)

abbrev forth : List ℕ
forth = 0 ∷ 1 ∷ 2 ∷ 3 ∷ []

abbrev across : List ℕ
across = 2 ∷ 3 ∷ 0 ∷ 1 ∷ []

best_second : IsBefore forth both_best second_worst
best_second = record { at = 2; within = omega arith; smaller = omega arith; alike = λ j h. below_two (λ j. slice_index both_best (slice_index forth j) ≡ slice_index second_worst (slice_index forth j)) refl refl j h }

second_first : IsBefore forth second_worst first_worst
second_first = record { at = 0; within = omega arith; smaller = omega arith; alike = λ j h. absurd (omega arith) }

first_both : IsBefore forth first_worst both_worst
first_both = record { at = 2; within = omega arith; smaller = omega arith; alike = λ j h. below_two (λ j. slice_index first_worst (slice_index forth j) ≡ slice_index both_worst (slice_index forth j)) refl refl j h }

best_first : IsBefore across both_best first_worst
best_first = record { at = 2; within = omega arith; smaller = omega arith; alike = λ j h. below_two (λ j. slice_index both_best (slice_index across j) ≡ slice_index first_worst (slice_index across j)) refl refl j h }

first_second : IsBefore across first_worst second_worst
first_second = record { at = 0; within = omega arith; smaller = omega arith; alike = λ j h. absurd (omega arith) }

second_both : IsBefore across second_worst both_worst
second_both = record { at = 2; within = omega arith; smaller = omega arith; alike = λ j h. below_two (λ j. slice_index second_worst (slice_index across j) ≡ slice_index both_worst (slice_index across j)) refl refl j h }

is_best : IsOne both_best
is_best = of_set (false ∷ false ∷ []) refl

is_second : IsOne second_worst
is_second = of_set (false ∷ true ∷ []) refl

is_first : IsOne first_worst
is_first = of_set (true ∷ false ∷ []) refl

is_worst : IsOne both_worst
is_worst = of_set (true ∷ true ∷ []) refl

ready : (set : List Bool) (k : ℕ) → k < 2 → (IsMember set k → ⊥) → IsReady two_pairs two_pairs_chain set k
ready set k h out = record { outside = out; prepared = λ i a need. absurd (none_needed i k a h need) }

two_apart : TwoApart
two_apart = (
  none_needed,
  ready (true ∷ false ∷ []) 1 (omega arith) false≢true,
  ready (false ∷ true ∷ []) 0 (omega arith) false≢true,
  (λ r. r.outside refl),
)

listed : Listed
listed = (
  whole_listing forth 9 both_best second_worst first_worst both_worst (omega arith) best_second second_first first_both is_best is_second is_first is_worst in_order,
  whole_listing across 4 both_best first_worst second_worst both_worst (omega arith) best_first first_second second_both is_best is_first is_second is_worst in_other_order,
  record {
    begins = λ _. best_second;
    rises = rises;
    sound = λ k h. below_two (λ k. IsOne (slice_index_or (second_worst ∷ first_worst ∷ []) k [])) is_second is_first k h;
    whole = λ v one b. whole v (four v one) b;
    limited = omega arith;
    ended = (λ e. absurd (false≢true (sym e)), λ none. absurd (none both_worst is_worst first_both));
    cut = λ _. refl;
  },
)
  where
    in_order : (v : List ℕ) → IsOne v → (k : ℕ) × (k < 4) × (slice_index_or (both_best ∷ second_worst ∷ first_worst ∷ both_worst ∷ []) k [] ≡ v)
    in_order v one = elim (four v one) [
      | Best e ↦ (0, omega arith, e)
      | Second e ↦ (1, omega arith, e)
      | First e ↦ (2, omega arith, e)
      | Worst e ↦ (3, omega arith, e)
    ]

    in_other_order : (v : List ℕ) → IsOne v → (k : ℕ) × (k < 4) × (slice_index_or (both_best ∷ first_worst ∷ second_worst ∷ both_worst ∷ []) k [] ≡ v)
    in_other_order v one = elim (four v one) [
      | Best e ↦ (0, omega arith, e)
      | Second e ↦ (2, omega arith, e)
      | First e ↦ (1, omega arith, e)
      | Worst e ↦ (3, omega arith, e)
    ]

    rises : (k : ℕ) → k + 1 < 2 → IsBefore forth (slice_index_or (second_worst ∷ first_worst ∷ []) k []) (slice_index_or (second_worst ∷ first_worst ∷ []) (k + 1) [])
    rises zero h = second_first
    rises (suc k) h = absurd (omega arith)

    whole : (v : List ℕ) → Four v → IsBefore forth both_best v → ((k : ℕ) × (k < 2) × (slice_index_or (second_worst ∷ first_worst ∷ []) k [] ≡ v)) ⊎ IsBefore forth first_worst v
    whole v (Best e) b = absurd (irreflexive forth both_best (subst (IsBefore forth both_best) (sym e) b))
    whole v (Second e) b = inl (0, omega arith, e)
    whole v (First e) b = inl (1, omega arith, e)
    whole v (Worst e) b = inr (subst (IsBefore forth first_worst) e first_both)

-- a list of the four, each once
pub orders : Orders
orders = (
  record {
    long = refl;
    in_range = below_four (λ j. slice_index forth j < 4) (omega arith) (omega arith) (omega arith) (omega arith);
    each = below_four (λ p. (j : ℕ) × (j < 4) × (slice_index forth j ≡ p)) (0, omega arith, refl) (1, omega arith, refl) (2, omega arith, refl) (3, omega arith, refl);
  },
  (λ o. let w = o.each 3 (omega arith) in below_four (λ j. slice_index (0 ∷ 1 ∷ 2 ∷ 2 ∷ []) j ≡ 3 → ⊥) (λ e. omega arith) (λ e. omega arith) (λ e. omega arith) (λ e. omega arith) w.0 w.1 w.2),
)

next_ones : NextOnes
next_ones = (first_is_next (irreflexive forth) (transitive forth) listed.2, listed.0.ended.0 refl)

-- what is said of the market of twice two holds
pub two_pairs_are : TwoPairs
two_pairs_are = (
  market,
  printed_of complete (below_two _ (λ other x i h. omega arith) (λ other x i h. settled _ _ (x.next i h))),
  levels_pass two_pairs two_pairs_ranks refl,
  two_apart,
  (refl, refl),
  listed,
  orders,
  next_ones,
  (omega arith, refl, refl, λ h. omega arith),
)
