-- How many proposers a reviewer has: those who name it, one after another.
use Rattle.std.proofs.Common.{◌≡◌, ℕ, zero, suc, ◌+◌, ◌<◌, ◌≤◌, ◌⊎◌, ◌++◌, ◌∷◌, [], cond, true, false, List, Option, Some, None, length, map, sum, refl, sym, ap, subst, ◌∙◌, arith, ⊎_elim, inl, inr}
use Rattle.std.proofs.lemmas.Bool.{eqb-true, eq-eqb, cases_lt, cases_Bool}
use Rattle.std.proofs.lemmas.List.FromFn.{map-range_with_len_more}
use Rattle.std.proofs.lemmas.List.Sums.{fold-append}
use Rattle.std.specs.List.{range_with_len}
use Rattle.sm_agents.specs.Written.{Written, entry, place_of}
use Rattle.sm_agents.specs.Sound.{AreSoundEntries}
use Rattle.sm_instance.specs.Matching.{held, leads_to, is_at, load_before, load, IsAssignment}
use Rattle.sm_instance.specs.Stable.{HasWorse}
use Rattle.sm_lists.specs.CompactNamings.{naming_at, IsNamed}
use Rattle.sm_instance.specs.Namings.{AreAskedOf}
use Rattle.sm_lists.specs.declared.compact_naming.CompactNaming.{CompactNaming}
use Rattle.sm_instance.proofs.NamingLemmas.{asked_there}
use Rattle.sm_instance.proofs.PlaceLemmas.{place_of-entry}

sum_push : (xs : List ℕ) (x : ℕ) → sum (xs ++ x ∷ []) ≡ sum xs + x
sum_push xs x = fold-append ◌+◌ 0 xs (x ∷ [])

-- one more proposer
pub load_before-suc : (w : Written) (places : List (Option ℕ)) (k r : ℕ) → load_before w places (k + 1) r ≡ load_before w places k r + cond (is_at w places k r) 1 0
load_before-suc w places k r =
    let one : ℕ → ℕ = λ q. cond (is_at w places q r) 1 0 in
    ap sum (map-range_with_len_more one 0 k k (omega arith)) ∙ sum_push (map one (range_with_len 0 k)) (one k)

-- a proposer at r adds one to its load
pub load_before-suc_at : (w : Written) (places : List (Option ℕ)) (k r : ℕ) → is_at w places k r ≡ true → load_before w places (k + 1) r ≡ load_before w places k r + 1
load_before-suc_at w places k r at = load_before-suc w places k r ∙ ap (λ b. load_before w places k r + cond b 1 0) at

-- another proposer adds nothing
pub load_before-suc_other : (w : Written) (places : List (Option ℕ)) (k r : ℕ) → is_at w places k r ≡ false → load_before w places (k + 1) r ≡ load_before w places k r
load_before-suc_other w places k r at = load_before-suc w places k r ∙ ap (λ b. load_before w places k r + cond b 1 0) at ∙ (let e : load_before w places k r + 0 ≡ load_before w places k r = omega arith in e)

-- proposers that are elsewhere add nothing
pub load_same : (w : Written) (places : List (Option ℕ)) (r j k : ℕ) → j ≤ k → ((q : ℕ) → j ≤ q → q < k → is_at w places q r ≡ false) → load_before w places k r ≡ load_before w places j r
load_same w places r j zero le none = ap (λ n. load_before w places n r) (let e : 0 ≡ j = omega arith in e)
load_same w places r j (suc k) le none =
    ⊎_elim
    (λ l. ap (λ n. load_before w places n r) (let e : suc k ≡ k + 1 = omega arith in e)
    ∙ load_before-suc_other w places k r (none k (omega arith) (omega arith))
    ∙ load_same w places r j k (omega arith) (λ q a b. none q a (omega arith)))
    (λ ge. ap (λ n. load_before w places n r) (let e : suc k ≡ j = omega arith in e))
    (cases_lt j (suc k))

-- who is at r holds a place that names it
pub place_at : (w : Written) (p r : ℕ) (o : Option ℕ) → leads_to w p r o ≡ true → (i : ℕ) × (o ≡ Some i) × (entry w.proposers p i ≡ r)
place_at w p r None h = cc
place_at w p r (Some i) h = (i, refl, eqb-true _ _ h)

-- who holds the place of r on its list is at r
pub at_place : (w : Written) (places : List (Option ℕ)) (p r i : ℕ) → held places p ≡ Some i → entry w.proposers p i ≡ r → is_at w places p r ≡ true
at_place w places p r i h there = ap (leads_to w p r) h ∙ eq-eqb _ _ there

-- who doesn't hold the place of r on its list isn't at r
pub not_at : (w : Written) (places : List (Option ℕ)) (p r i : ℕ) → IsAssignment w places → AreSoundEntries w.proposers (length w.reviewers) → i ≡ place_of w.proposers p r
    → (held places p ≡ Some i → ⊥) → is_at w places p r ≡ false
not_at w places p r i assigned sound place other =
    ⊎_elim
    (λ at. let x = place_at w p r (held places p) at in
    let b = place_of-entry sound p r x.0 (assigned.on_lists p x.0 x.1) x.2 in
    let same : x.0 ≡ i = sym b ∙ sym place in
    absurd (other (x.1 ∙ ap Some same)))
    (λ no. no)
    (cases_Bool (is_at w places p r))

-- what is held with a naming is held with the same naming
pub held_by : {m n : CompactNaming} → m ≡ n → (places : List (Option ℕ)) → held places m.by ≡ Some m.place → held places n.by ≡ Some n.place
held_by is places h = let Q : CompactNaming → Type 0 = λ n. held places n.by ≡ Some n.place in subst Q is h

-- so many of the first e that name r are at it: where all of these are below k, and no other is, this is the load before k
pub record IsCounted (w : Written) (places : List (Option ℕ)) (r : ℕ) (all : List CompactNaming) (e count : ℕ) : Type 0 where
  pub is : (k : ℕ) → ((f : ℕ) → f < e → (naming_at all f).by < k) → ((f : ℕ) → e ≤ f → f < length all → k ≤ (naming_at all f).by) → load_before w places k r ≡ count

-- the greatest place, on the list of r, of the proposers at r among the first e that name it
pub record IsWorstSoFar (w : Written) (places : List (Option ℕ)) (r : ℕ) (all : List CompactNaming) (e worst : ℕ) : Type 0 where
  pub above : (f : ℕ) → f < e → held places (naming_at all f).by ≡ Some (naming_at all f).place → place_of w.reviewers r (naming_at all f).by ≤ worst
  pub attained : (p : ℕ) → place_of w.reviewers r p < worst → HasWorse w places r p

module _ {w : Written} {places : List (Option ℕ)} {r : ℕ} {all : List CompactNaming} (assigned : IsAssignment w places) (sound : AreSoundEntries w.proposers (length w.reviewers)) (named : AreAskedOf w.proposers r all) where
  -- whoever is at r names it
  pub named_at : (q : ℕ) → is_at w places q r ≡ true → (i : ℕ) × (held places q ≡ Some i) × IsNamed all q i
  named_at q at =
      let x = place_at w q r (held places q) at in
      let on = assigned.on_lists q x.0 x.1 in
      (x.0, x.1, named.named q x.0 on x.2)

  -- nobody between two namings is at r
  none_between : (j k : ℕ) → ((f : ℕ) → f < length all → ((naming_at all f).by < j) ⊎ (k ≤ (naming_at all f).by)) → (q : ℕ) → j ≤ q → q < k → is_at w places q r ≡ false
  none_between j k apart q low high =
      ⊎_elim
      (λ at. let x = named_at q at in let n = x.2 in let by = n.by in
      ⊎_elim (λ l. absurd (omega arith)) (λ g. absurd (omega arith)) (apart n.at n.there))
      (λ no. no)
      (cases_Bool (is_at w places q r))

  -- before any naming nobody is counted
  pub counted_start : IsCounted w places r all 0 0
  counted_start = record { is = λ k before behind. load_same w places r 0 k (omega arith) (none_between 0 k (λ f l. inr (behind f (omega arith) l))) }

  -- the load before the next naming
  pub load_next : {e count : ℕ} → IsCounted w places r all e count → e < length all → load_before w places (naming_at all e).by r ≡ count
  load_next {e} {count} c l =
      c.is (naming_at all e).by (λ f lt. named.rising f e lt l)
      (λ f le inside. ⊎_elim (λ lt. let up = named.rising e f lt inside in omega arith) (λ ge. let same : e ≡ f = omega arith in let s = ap (λ g. (naming_at all g).by) same in omega arith) (cases_lt e f))

  -- the load behind it
  load_behind : (e k : ℕ) → e < length all → ((f : ℕ) → f < e + 1 → (naming_at all f).by < k) → ((f : ℕ) → e + 1 ≤ f → f < length all → k ≤ (naming_at all f).by)
      → load_before w places k r ≡ load_before w places ((naming_at all e).by + 1) r
  load_behind e k l before behind =
      let here = before e (omega arith) in
      load_same w places r ((naming_at all e).by + 1) k (omega arith)
      (none_between ((naming_at all e).by + 1) k (λ f inside. ⊎_elim
      (λ lt. inl (⊎_elim (λ less. let up = named.rising f e less l in omega arith) (λ ge. let same : f ≡ e = omega arith in let s = ap (λ g. (naming_at all g).by) same in omega arith) (cases_lt f e)))
      (λ ge. inr (behind f ge inside))
      (cases_lt f (e + 1))))

  -- a naming by a proposer that is there counts
  pub counted_yes : {e count : ℕ} → IsCounted w places r all e count → e < length all → held places (naming_at all e).by ≡ Some (naming_at all e).place → IsCounted w places r all (e + 1) (count + 1)
  counted_yes {e} {count} c l h =
      record {
        is = λ k before behind. load_behind e k l before behind
            ∙ load_before-suc_at w places (naming_at all e).by r (at_place w places (naming_at all e).by r (naming_at all e).place h (asked_there named e l (naming_at all e).by (naming_at all e).place refl refl (assigned.on_lists (naming_at all e).by (naming_at all e).place h)))
            ∙ ap (λ n. n + 1) (load_next c l);
      }

  -- another naming doesn't count
  pub counted_no : {e count : ℕ} → IsCounted w places r all e count → e < length all → (held places (naming_at all e).by ≡ Some (naming_at all e).place → ⊥) → IsCounted w places r all (e + 1) count
  counted_no {e} {count} c l h =
      record {
        is = λ k before behind. load_behind e k l before behind
            ∙ load_before-suc_other w places (naming_at all e).by r (not_at w places (naming_at all e).by r (naming_at all e).place assigned sound (named.places e l) h)
            ∙ load_next c l;
      }

  -- what is counted over all namings of r is its load
  pub counted_end : {e count : ℕ} → IsCounted w places r all e count → length all ≡ e → load w places r ≡ count
  counted_end {e} {count} c whole = c.is (length w.proposers) (λ f l. named.in_range f (omega arith)) (λ f le l. absurd (omega arith))
