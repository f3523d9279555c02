-- The first blocking pair.
use Rattle.std.proofs.Common.{◌≡◌, ℕ, ◌+◌, ◌<◌, ◌≤◌, ◌⊎◌, cond, Bool, true, false, List, Option, Some, None, MatchOption, IfSome, unwrap_or, length, refl, sym, ap, subst, ◌∙◌, arith, ⊎_elim, inl, inr}
use Rattle.std.proofs.lemmas.Bool.{cases_lt}
use Rattle.std.proofs.lemmas.Bool.Decides.{nat_tests}
use Rattle.sm_agents.specs.Written.{Written, row, entry, place_of}
use Rattle.sm_agents.specs.Sound.{IsInstance}
use Rattle.sm_instance.specs.Matching.{held, standing, IsAssignment, IsMatching}
use Rattle.sm_instance.specs.Stable.{Blocks, IsStable, IsFirstBlocking, IsGainLimit}
use Rattle.sm_lists.specs.CompactNamings.{naming_at}
use Rattle.sm_instance.specs.Crosses.{cross_place}
use Rattle.sm_instance.specs.Namings.{AreAskedOf}
use Rattle.sm_instance.specs.Loads.{IsFirstBlockingWith, IsFirstPairBelow, IsFirstBelow, is_sooner, sooner_of}
use Rattle.sm_lists.specs.declared.compact_naming.CompactNaming.{CompactNaming}
use Rattle.sm_agents.proofs.ListLemmas.{row_in_range}
use Rattle.sm_instance.proofs.PlaceLemmas.{place_of-entry}
use Rattle.sm_lists.proofs.PlaceLemmas.{get_or-place_on}
use Rattle.sm_instance.proofs.AcceptLemmas.{cross_some, held_on}

-- whether p and the reviewer at place i block, by the place of p on the other list
pub blocks_by : {w : Written} {places : List (Option ℕ)} → IsInstance w → (p i k limit : ℕ) → i < length (row w.proposers p) → Some k ≡ cross_place w.reviewers (entry w.proposers p i) p → IsGainLimit w places (entry w.proposers p i) limit
    → (k < limit → i < standing w places p → Blocks w places p (entry w.proposers p i)) × (Blocks w places p (entry w.proposers p i) → (k < limit) × (i < standing w places p))
blocks_by {w} {places} inst p i k limit on cross gain =
    let r = entry w.proposers p i in
    let x = cross_some w.reviewers r p k (sym cross) in
    let at : place_of w.proposers p r ≡ i = place_of-entry inst.proposer_entries p r i on refl in
    let back = x.0 in
    let listed = x.1 in (
      λ a b. record { acceptable = record { proposer_lists = omega arith; reviewer_lists = x.1 }; proposer_gains = omega arith; reviewer_gains = gain.gains p (omega arith) },
      λ h. (⊎_elim (λ l. l) (λ g. absurd (gain.others p listed (omega arith) h.reviewer_gains)) (cases_lt k limit), let b = h.proposer_gains in omega arith),
    )

-- how a proposer stands is no more than the length of its list
pub standing-le : {w : Written} {places : List (Option ℕ)} → IsAssignment w places → (p : ℕ) → standing w places p ≤ length (row w.proposers p)
standing-le {w} {places} assigned p = by_held (held places p) (held_on assigned p (held places p) refl)
  where
    by_held : (o : Option ℕ) → IfSome o (λ i. i < length (row w.proposers p)) → unwrap_or o (length (row w.proposers p)) ≤ length (row w.proposers p)
    by_held None h = omega arith
    by_held (Some i) h = omega arith

-- who blocks with r names it
pub blocking_named : {w : Written} {places : List (Option ℕ)} {r : ℕ} {all : List CompactNaming} → AreAskedOf w.proposers r all → (e : ℕ) → e ≤ length all → ((f : ℕ) → f < e → ¬ Blocks w places (naming_at all f).by r)
    → (q : ℕ) → ((f : ℕ) → e ≤ f → f < length all → q < (naming_at all f).by) → ¬ Blocks w places q r
blocking_named {w} {places} {r} {all} named e le none q before h =
    let a = h.acceptable in
    let on = a.proposer_lists in
    let n = named.named q (place_of w.proposers q r) on (get_or-place_on (row w.proposers q) r on) in
    ⊎_elim
    (λ l. none n.at l (let Q : ℕ → Type 0 = λ p. Blocks w places p r in subst Q (sym n.by) h))
    (λ g. let lt = before n.at g n.there in let by = n.by in omega arith)
    (cases_lt n.at e)

-- where no earlier naming of r blocks and this one does, it is the first that blocks with r
pub first_at : {w : Written} {places : List (Option ℕ)} {r : ℕ} {all : List CompactNaming} → AreAskedOf w.proposers r all → (e : ℕ) → e < length all → ((f : ℕ) → f < e → ¬ Blocks w places (naming_at all f).by r)
    → Blocks w places (naming_at all e).by r → IsFirstBlockingWith w places r (naming_at all e)
first_at {w} {places} {r} {all} named e l none h =
    record {
      blocks = h;
      at = named.places e l;
      earlier = λ q lt. blocking_named named e (omega arith) none q (λ f ge inside. ⊎_elim (λ less. let up = named.rising e f less inside in omega arith) (λ past. let same : e ≡ f = omega arith in let s = ap (λ g. (naming_at all g).by) same in omega arith) (cases_lt e f));
    }

-- where none of the namings of r blocks, nobody blocks with r
pub none_at : {w : Written} {places : List (Option ℕ)} {r : ℕ} {all : List CompactNaming} → AreAskedOf w.proposers r all → (e : ℕ) → length all ≡ e → ((f : ℕ) → f < e → ¬ Blocks w places (naming_at all f).by r) → (q : ℕ) → ¬ Blocks w places q r
none_at named e whole none q = blocking_named named e (omega arith) none q (λ f ge inside. absurd (omega arith))

-- the order of pairs
sooner_true : (n m : CompactNaming) → is_sooner n m ≡ true → (n.by < m.by) ⊎ ((n.by ≡ m.by) × (n.place < m.place))
sooner_true n m h = ⊎_elim (λ l. inl l) (λ g. inr (grind (arith, nat_tests), grind (arith, nat_tests))) (cases_lt n.by m.by)

sooner_false : (n m : CompactNaming) → is_sooner n m ≡ false → (m.by < n.by) ⊎ ((m.by ≡ n.by) × (m.place ≤ n.place))
sooner_false n m h = ⊎_elim (λ l. inl l) (λ g. inr (grind (arith, nat_tests), grind (arith, nat_tests))) (cases_lt m.by n.by)

module _ (w : Written) (places : List (Option ℕ)) (r : ℕ) where
  -- the first pair stays the first
  keeps_first : (m : CompactNaming) → IsFirstPairBelow w places r m → ((q : ℕ) → q < m.by → ¬ Blocks w places q r) → (place_of w.proposers m.by r < m.place → ¬ Blocks w places m.by r) → IsFirstPairBelow w places (r + 1) m
  keeps_first m h earlier here =
      record {
        reviewer = h.reviewer;
        below = let l = h.below in omega arith;
        blocks = h.blocks;
        at = h.at;
        earlier_proposers = λ q s l lt b. ⊎_elim (λ less. h.earlier_proposers q s less lt b) (λ ge. let same : s ≡ r = omega arith in earlier q lt (let Q : ℕ → Type 0 = λ t. Blocks w places q t in subst Q same b)) (cases_lt s r);
        earlier_places = λ s l lt b. ⊎_elim (λ less. h.earlier_places s less lt b)
            (λ ge. let same : s ≡ r = omega arith in let at = ap (place_of w.proposers m.by) same in here (omega arith) (let Q : ℕ → Type 0 = λ t. Blocks w places m.by t in subst Q same b)) (cases_lt s r);
      }

  -- a pair with r is the first
  takes_first : (n : CompactNaming) → IsFirstBlockingWith w places r n → ((q s : ℕ) → s < r → q < n.by → ¬ Blocks w places q s) → ((s : ℕ) → s < r → place_of w.proposers n.by s < n.place → ¬ Blocks w places n.by s) → IsFirstPairBelow w places (r + 1) n
  takes_first n h earlier here =
      record {
        reviewer = r;
        below = omega arith;
        blocks = h.blocks;
        at = h.at;
        earlier_proposers = λ q s l lt b. ⊎_elim (λ less. earlier q s less lt b) (λ ge. let same : s ≡ r = omega arith in h.earlier q lt (let Q : ℕ → Type 0 = λ t. Blocks w places q t in subst Q same b)) (cases_lt s r);
        earlier_places = λ s l lt b. ⊎_elim (λ less. here s less lt b) (λ ge. let same : s ≡ r = omega arith in let at = ap (place_of w.proposers n.by) same in let e = h.at in absurd (omega arith)) (cases_lt s r);
      }

  -- one more reviewer: the sooner of the pair found so far and of its own
  pub first_more : (a b : Option CompactNaming) → IsFirstBelow w places r a → MatchOption b ((p : ℕ) → ¬ Blocks w places p r) (λ n. IsFirstBlockingWith w places r n) → IsFirstBelow w places (r + 1) (sooner_of a b)
  first_more None None h k = λ p s l b. ⊎_elim (λ less. h p s less b) (λ ge. let same : s ≡ r = omega arith in k p (let Q : ℕ → Type 0 = λ t. Blocks w places p t in subst Q same b)) (cases_lt s r)
  first_more None (Some n) h k = takes_first n k (λ q s l lt. h q s l) (λ s l lt. h n.by s l)
  first_more (Some m) None h k = keeps_first m h (λ q lt. k q) (λ lt. k m.by)
  first_more (Some m) (Some n) h k = choose (is_sooner n m) refl
    where
      choose : (t : Bool) → is_sooner n m ≡ t → IsFirstBelow w places (r + 1) (cond t (Some n) (Some m))
      choose true e = takes_first n k
          (λ q s l lt. h.earlier_proposers q s l (⊎_elim (λ x. omega arith) (λ x. let y = x.0 in omega arith) (sooner_true n m e)))
          (λ s l lt. ⊎_elim (λ x. h.earlier_proposers n.by s l x)
          (λ x. let same = x.0 in let less = x.1 in let Q : ℕ → Type 0 = λ p. place_of w.proposers p s < n.place → ¬ Blocks w places p s in
          subst Q (sym same) (λ lower. h.earlier_places s l (omega arith)) lt)
          (sooner_true n m e))
      choose false e = keeps_first m h
          (λ q lt. k.earlier q (⊎_elim (λ x. omega arith) (λ x. let y = x.0 in omega arith) (sooner_false n m e)))
          (λ lt. ⊎_elim (λ x. k.earlier m.by x)
          (λ x. let same = x.0 in let le = x.1 in let at = k.at in let there = ap (λ p. place_of w.proposers p r) same in absurd (omega arith))
          (sooner_false n m e))

-- once all reviewers are asked, the pair that was found is the first that blocks; without one the matching is stable
pub first_end : {w : Written} {places : List (Option ℕ)} → IsInstance w → IsMatching w places → (o : Option CompactNaming) → IsFirstBelow w places (length w.reviewers) o
    → MatchOption o (IsStable w places) (λ n. IsFirstBlocking w places n.by (entry w.proposers n.by n.place))
first_end {w} {places} inst matching None h = record { matching = matching; unblocked = λ p r b. h p r (reviewer_below inst b) b }
  where
    reviewer_below : {w : Written} {places : List (Option ℕ)} {p r : ℕ} → IsInstance w → Blocks w places p r → r < length w.reviewers
    reviewer_below {w} {places} {p} {r} inst b = row_in_range w.reviewers r _ b.acceptable.reviewer_lists
first_end {w} {places} inst matching (Some n) h =
    let there : h.reviewer ≡ entry w.proposers n.by n.place = sym (get_or-place_on (row w.proposers n.by) h.reviewer h.blocks.acceptable.proposer_lists) ∙ ap (entry w.proposers n.by) (sym h.at) in
    let Q : ℕ → Type 0 = λ r. IsFirstBlocking w places n.by r in
    subst Q there (record {
      blocks = h.blocks;
      earlier_proposers = λ q s lt b. h.earlier_proposers q s (row_in_range w.reviewers s _ b.acceptable.reviewer_lists) lt b;
      earlier_places = λ s lt b. h.earlier_places s (row_in_range w.reviewers s _ b.acceptable.reviewer_lists) (let at = h.at in omega arith) b;
    })
