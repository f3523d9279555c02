-- The small instances of specs/Witnesses.antt.
use Rattle.std.proofs.Common.{◌≡◌, ◌≢◌, ℕ, zero, suc, ◌<◌, ◌≤◌, IsTrue, IfSome, [], ◌∷◌, Option, Some, None, length, refl, subst, arith, ⊎_elim, inl, inr, true, ap, slice_index}
use Rattle.std.proofs.lemmas.Bool.{false≢true}
use Rattle.std.proofs.lemmas.Bool.Decides.{nat_tests}
use Rattle.std.proofs.lemmas.Option.{same_Some, none-some}
use Rattle.std.specs.List.{All}
use Rattle.sm_text.specs.Name as name
use Rattle.sm_agents.specs.Written.{agent_at, row, entry, place_of, capacity_of, IsAcceptable}
use Rattle.sm_instance.specs.Matching.{held, is_at, load, IsMatching}
use Rattle.sm_instance.specs.Stable.{HasWorse, Blocks}
use Rattle.sm_agents.specs.Sound.{IsSoundAgent, IsSoundEntry}
use Rattle.sm_lists.proofs.OrderLemmas.{apart_each_once}
use Rattle.sm_instance.specs.Witnesses.{small_hospitals, settled, left_over, passed_over, persons, NobodyBlocks, FreePlaceBlocks, WorseResidentBlocks, NoMatchings, InertEntryCounts, SecondsCount, OrdersHaveEach, OwnName}

-- what holds of the place that three proposers hold, where they hold one
each : (P : ℕ → ℕ → Type 0) (a b c : Option ℕ) → IfSome a (P 0) → IfSome b (P 1) → IfSome c (P 2) → (p i : ℕ) → held (a ∷ b ∷ c ∷ []) p ≡ Some i → P p i
each P a b c x y z = by_number
  where
    only : (Q : ℕ → Type 0) (o : Option ℕ) → IfSome o Q → (i : ℕ) → o ≡ Some i → Q i
    only Q None t i e = absurd (none-some i e)
    only Q (Some k) t i e = subst Q (same_Some k i e) t

    by_number : (p i : ℕ) → held (a ∷ b ∷ c ∷ []) p ≡ Some i → P p i
    by_number zero i e = only (P 0) a x i e
    by_number (suc zero) i e = only (P 1) b y i e
    by_number (suc (suc zero)) i e = only (P 2) c z i e
    by_number (suc (suc (suc p))) i e = absurd (none-some i e)

-- the place is on the list of its proposer, and names a hospital that lists the proposer
abbrev listed_back : ℕ → ℕ → Type 0
listed_back p i = IsAcceptable small_hospitals p (entry small_hospitals.proposers p i)

-- matchings of the small hospitals
matching : (a b c : Option ℕ) → IfSome a (λ i. i < 2) → IfSome b (λ i. i < 2) → IfSome c (λ i. i < 2) → IfSome a (listed_back 0) → IfSome b (listed_back 1) → IfSome c (listed_back 2)
    → ((r : ℕ) → load small_hospitals (a ∷ b ∷ c ∷ []) r ≤ capacity_of small_hospitals.reviewers r) → IsMatching small_hospitals (a ∷ b ∷ c ∷ [])
matching a b c x y z u v w within = record {
  assigned = record { one_each = refl; on_lists = each (λ p i. i < length (row small_hospitals.proposers p)) a b c x y z };
  acceptable = each listed_back a b c u v w;
  within = within;
}

both_list : {p r : ℕ} → place_of small_hospitals.proposers p r < length (row small_hospitals.proposers p) → place_of small_hospitals.reviewers r p < length (row small_hospitals.reviewers r) → IsAcceptable small_hospitals p r
both_list h g = record { proposer_lists = h; reviewer_lists = g }

settled_within : (r : ℕ) → load small_hospitals settled r ≤ capacity_of small_hospitals.reviewers r
settled_within zero = omega arith
settled_within (suc zero) = omega arith
settled_within (suc (suc zero)) = omega arith
settled_within (suc (suc (suc r))) = grind (arith, nat_tests)

settled_matching : IsMatching small_hospitals settled
settled_matching = matching (Some 0) (Some 1) (Some 0) (omega arith) (omega arith) (omega arith)
    (both_list (omega arith) (omega arith)) (both_list (omega arith) (omega arith)) (both_list (omega arith) (omega arith)) settled_within

left_over_within : (r : ℕ) → load small_hospitals left_over r ≤ capacity_of small_hospitals.reviewers r
left_over_within zero = omega arith
left_over_within (suc zero) = omega arith
left_over_within (suc (suc zero)) = omega arith
left_over_within (suc (suc (suc r))) = grind (arith, nat_tests)

left_over_matching : IsMatching small_hospitals left_over
left_over_matching = matching (Some 1) None (Some 0) (omega arith) tt (omega arith)
    (both_list (omega arith) (omega arith)) tt (both_list (omega arith) (omega arith)) left_over_within

passed_over_within : (r : ℕ) → load small_hospitals passed_over r ≤ capacity_of small_hospitals.reviewers r
passed_over_within zero = omega arith
passed_over_within (suc zero) = omega arith
passed_over_within (suc (suc zero)) = omega arith
passed_over_within (suc (suc (suc r))) = grind (arith, nat_tests)

passed_over_matching : IsMatching small_hospitals passed_over
passed_over_matching = matching (Some 1) (Some 1) None (omega arith) (omega arith) tt
    (both_list (omega arith) (omega arith)) (both_list (omega arith) (omega arith)) tt passed_over_within

-- whoever is at r is liked no less than p
none_worse : (a b c : Option ℕ) (p r : ℕ) → (let fine : ℕ → ℕ → Type 0 = λ q i. entry small_hospitals.proposers q i ≡ r → place_of small_hospitals.reviewers r q ≤ place_of small_hospitals.reviewers r p in
    IfSome a (fine 0) → IfSome b (fine 1) → IfSome c (fine 2) → ¬ HasWorse small_hospitals (a ∷ b ∷ c ∷ []) r p)
none_worse a b c p r x y z w =
    let below = each (λ q i. entry small_hospitals.proposers q i ≡ r → place_of small_hospitals.reviewers r q ≤ place_of small_hospitals.reviewers r p) a b c x y z w.other w.at w.holds w.there in
    omega (arith, w.worse, below)

-- a and c have their first choice, and z has no place for b
settled_unblocked : (p r : ℕ) → ¬ Blocks small_hospitals settled p r
settled_unblocked zero r b = omega (arith, b.proposer_gains)
settled_unblocked (suc zero) zero b = omega (arith, b.proposer_gains)
settled_unblocked (suc zero) (suc zero) b = omega (arith, b.proposer_gains)
settled_unblocked (suc zero) (suc (suc zero)) b = ⊎_elim (λ free. omega (arith, free)) (λ w. none_worse (Some 0) (Some 1) (Some 0) 1 2 (λ e. omega (arith, e)) (λ e. omega (arith, e)) (λ e. omega (arith, e)) w) b.reviewer_gains
settled_unblocked (suc zero) (suc (suc (suc r))) b = omega (arith, b.acceptable.reviewer_lists)
settled_unblocked (suc (suc zero)) r b = omega (arith, b.proposer_gains)
settled_unblocked (suc (suc (suc p))) r b = omega (arith, b.acceptable.proposer_lists)

-- a isn't at h
pub nobody_blocks_is : NobodyBlocks
nobody_blocks_is = (record { matching = settled_matching; unblocked = settled_unblocked }, refl, refl, refl, refl, refl, λ a. false≢true (a.forced 0 (0, 0) (omega arith)))

-- h has its two best, and z no place
pub free_place_blocks_is : FreePlaceBlocks
free_place_blocks_is = (
  record { matching = left_over_matching; forced = forced; forbidden = forbidden },
  record { acceptable = both_list (omega arith) (omega arith); proposer_gains = omega arith; reviewer_gains = inl (omega arith) },
  (λ b. ⊎_elim (λ free. omega (arith, free)) (λ w. none_worse (Some 1) None (Some 0) 1 0 (λ e. omega arith) tt (λ e. omega arith) w) b.reviewer_gains),
  (λ b. ⊎_elim (λ free. omega (arith, free)) (λ w. none_worse (Some 1) None (Some 0) 1 2 (λ e. omega (arith, e)) tt (λ e. omega (arith, e)) w) b.reviewer_gains),
  refl,
  refl,
  refl,
  refl,
)
  where
    forced : All (λ pair. IsTrue (is_at small_hospitals left_over pair.0 pair.1)) small_hospitals.forced
    forced zero d h = refl
    forced (suc k) d h = absurd (omega arith)

    forbidden : All (λ pair. ¬ IsTrue (is_at small_hospitals left_over pair.0 pair.1)) small_hospitals.forbidden
    forbidden zero d h t = false≢true t
    forbidden (suc k) d h t = omega arith

-- h likes a, whom it has, less than c
pub worse_resident_blocks_is : WorseResidentBlocks
worse_resident_blocks_is = (
  passed_over_matching,
  record { acceptable = both_list (omega arith) (omega arith); proposer_gains = omega arith; reviewer_gains = inr (record { other = 0; at = 1; holds = refl; there = refl; worse = omega arith }) },
  refl,
  λ a. a.forbidden 0 (0, 0) (omega arith) refl,
)

-- the assignments that are said to be no matchings are none
pub no_matchings_are : NoMatchings
no_matchings_are = ((λ m. let a = m.acceptable 2 1 refl in omega (arith, a.reviewer_lists)), (λ m. omega (arith, m.within 0)))

-- an inert entry counts as said
pub inert_entry_is : InertEntryCounts
inert_entry_is = (refl, refl, refl)

-- second weights count as said
pub seconds_count : SecondsCount
seconds_count = (refl, refl, refl)

-- an order that has each number once, and one that has not
pub orders_have_each : OrdersHaveEach
orders_have_each = (apart_each_once (2 ∷ 0 ∷ 1 ∷ []) 3 refl (record { in_range = below; once = differ }), λ o. o.once 1 2 (omega arith) (omega arith) refl)
  where
    below : (j : ℕ) → j < 3 → slice_index (2 ∷ 0 ∷ 1 ∷ []) j < 3
    below zero l = omega arith
    below (suc zero) l = omega arith
    below (suc (suc zero)) l = omega arith
    below (suc (suc (suc j))) l = absurd (omega (arith, l))

    differ : (i j : ℕ) → i < j → j < 3 → slice_index (2 ∷ 0 ∷ 1 ∷ []) i ≢ slice_index (2 ∷ 0 ∷ 1 ∷ []) j
    differ i zero less l e = omega (arith, less)
    differ zero (suc zero) less l e = omega (arith, e)
    differ (suc i) (suc zero) less l e = omega (arith, less)
    differ zero (suc (suc zero)) less l e = omega (arith, e)
    differ (suc zero) (suc (suc zero)) less l e = omega (arith, e)
    differ (suc (suc i)) (suc (suc zero)) less l e = omega (arith, less)
    differ i (suc (suc (suc j))) less l e = omega (arith, l)

-- persons may list themselves
pub own_name_is : OwnName
unfolding name.begins_name name.is_name_byte
own_name_is = record { limits = record { proposers = omega arith; reviewers = omega arith; entries = omega arith }; agents = record { sound = agents }; entries = record { sound = entries } }
  where
    fresh_name : (b : ℕ) → b < 1 → (agent_at persons b).name ≢ 50 ∷ []
    fresh_name zero l e = let same = ap (λ xs. slice_index xs 0) e in omega (arith, same)
    fresh_name (suc b) l e = omega (arith, l)

    fresh_entry : (j : ℕ) → j < 1 → entry persons 0 j ≢ 0
    fresh_entry zero l e = omega (arith, e)
    fresh_entry (suc j) l e = omega (arith, l)

    agents : (a : ℕ) → a < 2 → IsSoundAgent persons true a
    agents zero h = record { name = refl; fresh = λ b l. absurd (omega arith); capacity = omega arith; one = λ t. refl }
    agents (suc zero) h = record { name = refl; fresh = fresh_name; capacity = omega arith; one = λ t. refl }
    agents (suc (suc a)) h = absurd (omega arith)

    entries : (a i : ℕ) → i < length (row persons a) → IsSoundEntry persons 2 a i
    entries zero zero h = record { in_range = omega arith; fresh = λ j l. absurd (omega arith) }
    entries zero (suc zero) h = record { in_range = omega arith; fresh = fresh_entry }
    entries zero (suc (suc i)) h = absurd (omega arith)
    entries (suc zero) zero h = record { in_range = omega arith; fresh = λ j l. absurd (omega arith) }
    entries (suc zero) (suc i) h = absurd (omega arith)
    entries (suc (suc a)) i h = absurd (omega arith)
