-- Cross places, and who is acceptable to whom.
use Rattle.std.proofs.Common.{◌≡◌, ℕ, ◌<◌, ◌≤◌, ltb, cond, Bool, true, false, List, length, Option, Some, None, IfSome, IsTrue, refl, sym, ap, ◌∙◌, arith, ⊎_elim}
use Rattle.std.proofs.lemmas.Bool.{cases_lt}
use Rattle.std.proofs.lemmas.Bool.Decides.{nat_tests}
use Rattle.std.specs.Option.{is_some}
use Rattle.sm_text.specs.Limits.{most_agents}
use Rattle.sm_agents.specs.Written.{Written, AgentData, row, entry, place_of, IsAcceptable}
use Rattle.sm_agents.specs.Sound.{IsInstance}
use Rattle.sm_instance.specs.Matching.{held, IsAssignment}
use Rattle.sm_instance.specs.Crosses.{cross_place}
use Rattle.sm_instance.proofs.PlaceLemmas.{length-row-le-others}
use Rattle.sm_lists.proofs.PlaceLemmas.{get_or-place_on, place_on-lt}

-- no list of a proposer has more entries than a side has agents
pub proposer_row_fits : {w : Written} → IsInstance w → (p : ℕ) → length (row w.proposers p) ≤ most_agents
proposer_row_fits {w} i p = let le = length-row-le-others i.proposer_entries p in let few = i.limits.reviewers in omega arith

some_pick : (b : Bool) (n i : ℕ) → (let none : Option ℕ = None in cond b (Some n) none ≡ Some i) → (b ≡ true) × (n ≡ i)
some_pick true n i h = (refl, cc)
some_pick false n i h = cc

-- a cross place is the place, on the list
pub cross_some : (agents : List AgentData) (a b i : ℕ) → cross_place agents a b ≡ Some i → (place_of agents a b ≡ i) × (place_of agents a b < length (row agents a))
cross_some agents a b i h =
    let x = some_pick (ltb (place_of agents a b) (length (row agents a))) (place_of agents a b) i h in
    (x.1, grind (arith, nat_tests, x.0))

-- who has no cross place on a's list isn't on it
pub cross_none : (agents : List AgentData) (a b : ℕ) → (let none : Option ℕ = None in cross_place agents a b ≡ none) → length (row agents a) ≤ place_of agents a b
cross_none agents a b h = ⊎_elim (λ l. absurd (let on : ltb (place_of agents a b) (length (row agents a)) ≡ true = grind (arith, nat_tests) in let e = ap (λ t. cond t (Some (place_of agents a b)) None) on in cc)) (λ g. g) (cases_lt (place_of agents a b) (length (row agents a)))

-- and fits, since a list has no more entries than a side has agents
pub cross_fits : {w : Written} → IsInstance w → (r p : ℕ) (o : Option ℕ) → o ≡ cross_place w.reviewers r p → IfSome o (λ back. back < most_agents)
cross_fits {w} i r p None h = tt
cross_fits {w} i r p (Some k) h =
    let x = cross_some w.reviewers r p k (sym h) in
    let on = x.1 in
    let e = x.0 in
    let le = length-row-le-others i.reviewer_entries r in
    let few = i.limits.proposers in
    omega arith

-- what fits fits where there is more room
pub fits_more : (o : Option ℕ) {most more : ℕ} → most ≤ more → IfSome o (λ i. i < most) → IfSome o (λ i. i < more)
fits_more None le fits = tt
fits_more (Some i) le fits = omega arith

-- the test of acceptability, where the place of r on p's list is known
pub acceptable_at : (w : Written) (p r i : ℕ) → Some i ≡ cross_place w.proposers p r → (o : Option ℕ) → o ≡ cross_place w.reviewers (entry w.proposers p i) p → (b : Bool) → b ≡ is_some o
    → (IsTrue b → IsAcceptable w p r) × (IsAcceptable w p r → IsTrue b)
acceptable_at w p r i h o cross b test =
    let x = cross_some w.proposers p r i (sym h) in
    let there : entry w.proposers p i ≡ r = ap (entry w.proposers p) (sym x.0) ∙ get_or-place_on (row w.proposers p) r x.1 in
    let cross' : o ≡ cross_place w.reviewers r p = cross ∙ ap (λ s. cross_place w.reviewers s p) there in
    by_cross o cross' test
  where
    by_cross : (o : Option ℕ) → o ≡ cross_place w.reviewers r p → b ≡ is_some o → (IsTrue b → IsAcceptable w p r) × (IsAcceptable w p r → IsTrue b)
    by_cross None c t = (λ e. cc, λ a. let le = cross_none w.reviewers r p (sym c) in let lt = a.reviewer_lists in absurd (omega arith))
    by_cross (Some k) c t = (λ e. record { proposer_lists = (cross_some w.proposers p r i (sym h)).1; reviewer_lists = (cross_some w.reviewers r p k (sym c)).1 }, λ a. t)

-- the reviewer at place i lists p, or doesn't
pub accepts_at : {w : Written} → IsInstance w → (p i k : ℕ) → i < length (row w.proposers p) → Some k ≡ cross_place w.reviewers (entry w.proposers p i) p → IsAcceptable w p (entry w.proposers p i)
accepts_at {w} inst p i k on c =
    record { proposer_lists = place_on-lt (row w.proposers p) (entry w.proposers p i) i on refl; reviewer_lists = (cross_some w.reviewers (entry w.proposers p i) p k (sym c)).1 }

-- a reviewer whom p lists, and who doesn't list p, isn't acceptable to p
pub one_sided_at : (w : Written) (p i : ℕ) → (let none : Option ℕ = None in none ≡ cross_place w.reviewers (entry w.proposers p i) p) → IsAcceptable w p (entry w.proposers p i) → ⊥
one_sided_at w p i c a = let le = cross_none w.reviewers (entry w.proposers p i) p (sym c) in let lt = a.reviewer_lists in omega arith

-- a held place is on its list
pub held_on : {w : Written} {places : List (Option ℕ)} → IsAssignment w places → (p : ℕ) (o : Option ℕ) → o ≡ held places p → IfSome o (λ place. place < length (row w.proposers p))
held_on assigned p None h = tt
held_on assigned p (Some i) h = assigned.on_lists p i (sym h)

-- an option that has something has some item
pub is_none_not : (o : Option ℕ) → is_some o ≡ true → (k : ℕ) × (o ≡ Some k)
is_none_not None h = cc
is_none_not (Some k) h = (k, refl)

-- what is less passes the test of being less
pub lt_true : (a b : ℕ) → a < b → ltb a b ≡ true
lt_true a b l = grind (arith, nat_tests)

-- what passes it is less
pub true_lt : (a b : ℕ) → ltb a b ≡ true → a < b
true_lt a b h = grind (arith, nat_tests, h)

-- who stands at the place that is found
pub entry_cross : (agents : List AgentData) (a b i : ℕ) → Some i ≡ cross_place agents a b → entry agents a i ≡ b
entry_cross agents a b i h = let x = cross_some agents a b i (sym h) in ap (entry agents a) (sym x.0) ∙ get_or-place_on (row agents a) b x.1
