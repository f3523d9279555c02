-- The first breach of an assignment, and how reviewers stand.
use Rattle.std.proofs.Common.{◌≡◌, ℕ, zero, suc, ◌+◌, ◌<◌, ◌≤◌, ◌⊎◌, List, Option, Some, None, MatchOption, length, min, max, refl, sym, ap, subst, ◌∙◌, arith, ⊎_elim, inl, inr}
use Rattle.std.proofs.lemmas.Bool.{cases_lt, cases_Bool}
use Rattle.sm_text.specs.Limits.{most_agents}
use Rattle.sm_agents.specs.Written.{Written, row, entry, place_of, capacity_of, IsAcceptable}
use Rattle.sm_agents.specs.Sound.{IsInstance}
use Rattle.sm_instance.specs.Matching.{held, is_at, load_before, IsAssignment, IsMatching, IsBreach, IsFirstBreach}
use Rattle.sm_lists.specs.CompactNamings.{naming_at}
use Rattle.sm_instance.specs.Crosses.{cross_place}
use Rattle.sm_instance.specs.Namings.{AreAskedOf}
use Rattle.sm_instance.proofs.NamingLemmas.{asked_there}
use Rattle.sm_lists.specs.Earlier.{earlier_of}
use Rattle.sm_instance.specs.Loads.{IsFirstOf, IsUnacceptable, IsOverfull, IsOverfullBelow, IsWorst}
use Rattle.sm_lists.specs.declared.compact_naming.CompactNaming.{CompactNaming}
use Rattle.sm_agents.proofs.ListLemmas.{row_in_range}
use Rattle.sm_instance.proofs.AcceptLemmas.{cross_some}
use Rattle.sm_instance.proofs.LoadLemmas.{load_before-suc_at, load_before-suc_other, load_before-suc, place_at, at_place, IsCounted, IsWorstSoFar, load_next, counted_end, named_at}

-- the first of either
pub first_merge : (P Q : ℕ → Type 0) (a b : Option ℕ) → IsFirstOf P a → IsFirstOf Q b → IsFirstOf (λ p. P p ⊎ Q p) (earlier_of a b)
first_merge P Q None None h k = λ p. ⊎_elim (h p) (k p)
first_merge P Q None (Some q) h k = (inr k.0, λ r l. ⊎_elim (h r) (k.1 r l))
first_merge P Q (Some p) None h k = (inl h.0, λ r l. ⊎_elim (h.1 r l) (k r))
first_merge P Q (Some p) (Some q) h k =
    let R : ℕ → Type 0 = λ m. (P m ⊎ Q m) × ((r : ℕ) → r < m → ¬ (P r ⊎ Q r)) in
    ⊎_elim
    (λ l. let e : p ≡ min p q = omega arith in subst R e (inl h.0, λ r lt. ⊎_elim (h.1 r lt) (k.1 r (omega arith))))
    (λ g. let e : q ≡ min p q = omega arith in subst R e (inr k.0, λ r lt. ⊎_elim (h.1 r (omega arith)) (k.1 r lt)))
    (cases_lt p q)

-- the first of one kind is the first of another that holds of the same numbers
pub first_along : (P Q : ℕ → Type 0) → ((p : ℕ) → P p → Q p) → ((p : ℕ) → Q p → P p) → (o : Option ℕ) → IsFirstOf P o → IsFirstOf Q o
first_along P Q to from None h = λ p q. h p (from p q)
first_along P Q to from (Some p) h = (to p h.0, λ q l x. h.1 q l (from q x))

-- acceptability is decided
pub acceptable_cases : (w : Written) (p r : ℕ) → IsAcceptable w p r ⊎ (¬ IsAcceptable w p r)
acceptable_cases w p r =
    ⊎_elim
    (λ a. ⊎_elim (λ b. inl (record { proposer_lists = a; reviewer_lists = b })) (λ g. inr (λ x. let lt = x.reviewer_lists in omega arith)) (cases_lt (place_of w.reviewers r p) (length (row w.reviewers r))))
    (λ g. inr (λ x. let lt = x.proposer_lists in omega arith))
    (cases_lt (place_of w.proposers p r) (length (row w.proposers p)))

-- more proposers are no fewer
pub load_mono : (w : Written) (places : List (Option ℕ)) (r j k : ℕ) → j ≤ k → load_before w places j r ≤ load_before w places k r
load_mono w places r j zero le = let e : j ≡ 0 = omega arith in let f = ap (λ n. load_before w places n r) e in omega arith
load_mono w places r j (suc k) le =
    ⊎_elim
    (λ l. let up = load_mono w places r j k (omega arith) in let e : suc k ≡ k + 1 = omega arith in let f = ap (λ n. load_before w places n r) e in let more = load_before-suc w places k r in omega arith)
    (λ g. let e : j ≡ suc k = omega arith in let f = ap (λ n. load_before w places n r) e in omega arith)
    (cases_lt j (suc k))

-- who is overfull makes the load behind it too great
pub overfull_passes : {w : Written} {places : List (Option ℕ)} {r q : ℕ} → IsOverfull w places r q → (top : ℕ) → q < top → load_before w places top r ≤ capacity_of w.reviewers r → ⊥
overfull_passes {w} {places} {r} {q} o top lt few =
    let at = at_place w places q r o.at o.holds o.there in
    let more = load_before-suc_at w places q r at in
    let up = load_mono w places r (q + 1) top (omega arith) in
    let full = o.full in
    omega arith

-- a reviewer that nobody finds full keeps its capacity
pub within_capacity : {w : Written} {places : List (Option ℕ)} → IsInstance w → IsAssignment w places → ((r p : ℕ) → r < length w.reviewers → ¬ IsOverfull w places r p) → (r k : ℕ) → load_before w places k r ≤ capacity_of w.reviewers r
within_capacity {w} {places} i assigned none r zero = omega arith
within_capacity {w} {places} i assigned none r (suc k) =
    let before = within_capacity i assigned none r k in
    let e : suc k ≡ k + 1 = omega arith in
    let f = ap (λ n. load_before w places n r) e in
    ⊎_elim
    (λ at. let x = place_at w k r (held places k) at in
    let more = load_before-suc_at w places k r at in
    let in_range = (i.proposer_entries.sound k x.0 (assigned.on_lists k x.0 x.1)).in_range in
    let there = x.2 in
    ⊎_elim (λ lt. omega arith) (λ full. absurd (none r k (omega arith) (record { at = x.0; holds = x.1; there = x.2; full = full }))) (cases_lt (load_before w places k r) (capacity_of w.reviewers r)))
    (λ no. let same = load_before-suc_other w places k r no in omega arith)
    (cases_Bool (is_at w places k r))

module _ {w : Written} {places : List (Option ℕ)} (i : IsInstance w) (assigned : IsAssignment w places) where
  entry_in_range : (p at : ℕ) → held places p ≡ Some at → entry w.proposers p at < length w.reviewers
  entry_in_range p at h = (i.proposer_entries.sound p at (assigned.on_lists p at h)).in_range

  to_breach : (k p : ℕ) → IsUnacceptable w places p ⊎ IsOverfullBelow w places k p → IsBreach w places p
  to_breach k p x =
      ⊎_elim
      (λ u. record { at = u.at; holds = u.holds; cause = inl u.one_sided })
      (λ b. let o = b.overfull in record { at = o.at; holds = o.holds; cause = inr (let Q : ℕ → Type 0 = λ s. capacity_of w.reviewers s ≤ load_before w places p s in subst Q (sym o.there) o.full) })
      x

  from_breach : (p : ℕ) → IsBreach w places p → IsUnacceptable w places p ⊎ IsOverfullBelow w places (length w.reviewers) p
  from_breach p b =
      ⊎_elim
      (λ u. inl (record { at = b.at; holds = b.holds; one_sided = u }))
      (λ full. inr (record { reviewer = entry w.proposers p b.at; below = entry_in_range p b.at b.holds; overfull = record { at = b.at; holds = b.holds; there = refl; full = full } }))
      b.cause

  -- once all reviewers are asked, what was found is the first breach; without one it is a matching
  pub breach_end : (o : Option ℕ) → IsFirstOf (λ p. IsUnacceptable w places p ⊎ IsOverfullBelow w places (length w.reviewers) p) o
      → MatchOption o (IsMatching w places) (λ p. IsFirstBreach w places p)
  breach_end None h =
      record {
        assigned = assigned;
        acceptable = λ p at held. ⊎_elim (λ a. a) (λ n. absurd (h p (inl (record { at = at; holds = held; one_sided = n })))) (acceptable_cases w p (entry w.proposers p at));
        within = λ r. within_capacity i assigned (λ s p lt over. h p (inr (record { reviewer = s; below = lt; overfull = over }))) r (length w.proposers);
      }
  breach_end (Some p) h = record { breach = to_breach (length w.reviewers) p h.0; earlier_proposers = λ q l b. h.1 q l (from_breach q b) }

-- one more reviewer
pub breach_more : (w : Written) (places : List (Option ℕ)) (r : ℕ) (a b : Option ℕ) → IsFirstOf (λ p. IsUnacceptable w places p ⊎ IsOverfullBelow w places r p) a → IsFirstOf (IsOverfull w places r) b
    → IsFirstOf (λ p. IsUnacceptable w places p ⊎ IsOverfullBelow w places (r + 1) p) (earlier_of a b)
breach_more w places r a b h k =
    first_along (λ p. (IsUnacceptable w places p ⊎ IsOverfullBelow w places r p) ⊎ IsOverfull w places r p) (λ p. IsUnacceptable w places p ⊎ IsOverfullBelow w places (r + 1) p)
    (λ p. ⊎_elim (⊎_elim (λ u. inl u) (λ x. inr (record { reviewer = x.reviewer; below = let l = x.below in omega arith; overfull = x.overfull }))) (λ o. inr (record { reviewer = r; below = omega arith; overfull = o })))
    (λ p. ⊎_elim (λ u. inl (inl u)) (λ x. ⊎_elim (λ l. inl (inr (record { reviewer = x.reviewer; below = l; overfull = x.overfull })))
    (λ g. let same : x.reviewer ≡ r = (let l = x.below in omega arith) in inr (let Q : ℕ → Type 0 = λ s. IsOverfull w places s p in subst Q same x.overfull)) (cases_lt x.reviewer r)))
    (earlier_of a b) (first_merge (λ p. IsUnacceptable w places p ⊎ IsOverfullBelow w places r p) (IsOverfull w places r) a b h k)

-- before any reviewer is asked, who can't be where it is holds an unacceptable place
pub breach_start : (w : Written) (places : List (Option ℕ)) (a : Option ℕ) → IsFirstOf (IsUnacceptable w places) a → IsFirstOf (λ p. IsUnacceptable w places p ⊎ IsOverfullBelow w places 0 p) a
breach_start w places a h = first_along (IsUnacceptable w places) (λ p. IsUnacceptable w places p ⊎ IsOverfullBelow w places 0 p) (λ p u. inl u) (λ p. ⊎_elim (λ u. u) (λ x. absurd (let l = x.below in omega arith))) a h

-- who holds a place of an acceptable reviewer, or none
pub accepted : {w : Written} {places : List (Option ℕ)} (p at : ℕ) → held places p ≡ Some at → IsAcceptable w p (entry w.proposers p at) → ¬ IsUnacceptable w places p
accepted {w} p at h a u = let same : at ≡ u.at = (let e = u.holds in cc) in u.one_sided (subst (λ i. IsAcceptable w p (entry w.proposers p i)) same a)

-- who is unmatched holds no unacceptable place
pub unmatched : {w : Written} {places : List (Option ℕ)} (p : ℕ) → (let none : Option ℕ = None in held places p ≡ none) → ¬ IsUnacceptable w places p
unmatched p h u = let e = u.holds in cc

module _ {w : Written} {places : List (Option ℕ)} {r : ℕ} {all : List CompactNaming} (i : IsInstance w) (assigned : IsAssignment w places) (named : AreAskedOf w.proposers r all) where
  -- who holds the place with which it is asked is at r
  there : (e : ℕ) → e < length all → held places (naming_at all e).by ≡ Some (naming_at all e).place → entry w.proposers (naming_at all e).by (naming_at all e).place ≡ r
  there e l h = asked_there named e l (naming_at all e).by (naming_at all e).place refl refl (assigned.on_lists (naming_at all e).by (naming_at all e).place h)

  -- numbers that rise are no smaller than their places
  pub rising_ge : (e : ℕ) → e < length all → e ≤ (naming_at all e).by
  rising_ge zero l = omega arith
  rising_ge (suc e) l = let up = named.rising e (suc e) (omega arith) l in let ge = rising_ge e (omega arith) in omega arith

  -- nobody is named by more agents than there may be
  pub few_named : (e : ℕ) → e < length all → e < most_agents
  few_named e l = let ge = rising_ge e l in let lt = named.in_range e l in let few = i.limits.proposers in omega arith

  -- the first that finds r full
  pub overfull_first : {e count : ℕ} → IsCounted w places r all e count → e < length all → held places (naming_at all e).by ≡ Some (naming_at all e).place → count ≡ capacity_of w.reviewers r
      → IsFirstOf (IsOverfull w places r) (Some (naming_at all e).by)
  overfull_first {e} {count} c l h full =
      let load = load_next assigned i.proposer_entries named c l in (
        record { at = (naming_at all e).place; holds = h; there = there e l h; full = omega arith },
        λ q lt o. overfull_passes o (naming_at all e).by lt (omega arith),
      )

  -- where no more proposers are counted at r than its capacity, none is too many
  pub overfull_none : {e count : ℕ} → IsCounted w places r all e count → length all ≡ e → count ≤ capacity_of w.reviewers r → (q : ℕ) → ¬ IsOverfull w places r q
  overfull_none {e} {count} c whole within q o =
      let whole_load = counted_end assigned i.proposer_entries named c whole in
      let q_in : q < length w.proposers = row_in_range w.proposers q o.at (assigned.on_lists q o.at o.holds) in
      overfull_passes o (length w.proposers) q_in (omega arith)

  -- the place of the worst
  pub worst_more : {e worst : ℕ} → IsWorstSoFar w places r all e worst → e < length all → held places (naming_at all e).by ≡ Some (naming_at all e).place
      → (k : ℕ) → Some k ≡ cross_place w.reviewers (entry w.proposers (naming_at all e).by (naming_at all e).place) (naming_at all e).by → IsWorstSoFar w places r all (e + 1) (max worst k)
  worst_more {e} {worst} s l h k cross =
      let there = there e l h in
      let place : place_of w.reviewers r (naming_at all e).by ≡ k = ap (λ t. place_of w.reviewers t (naming_at all e).by) (sym there) ∙ (cross_some w.reviewers _ _ k (sym cross)).0 in
      record {
        above = λ f lt g. ⊎_elim (λ less. let a = s.above f less g in omega arith) (λ ge. let same : f ≡ e = omega arith in let q = ap (λ t. place_of w.reviewers r (naming_at all t).by) same in omega arith) (cases_lt f e);
        attained = λ p lt. ⊎_elim (λ less. s.attained p less) (λ ge. record { other = (naming_at all e).by; at = (naming_at all e).place; holds = h; there = there; worse = omega arith }) (cases_lt (place_of w.reviewers r p) worst);
      }

  -- a naming by a proposer that isn't at r leaves the worst as it is
  pub worst_skip : {e worst : ℕ} → IsWorstSoFar w places r all e worst → (held places (naming_at all e).by ≡ Some (naming_at all e).place → ⊥) → IsWorstSoFar w places r all (e + 1) worst
  worst_skip {e} {worst} s none =
      record {
        above = λ f lt g. ⊎_elim (λ less. s.above f less g) (λ ge. let same : f ≡ e = omega arith in
            absurd (none (let Q : ℕ → Type 0 = λ t. held places (naming_at all t).by ≡ Some (naming_at all t).place in subst Q same g))) (cases_lt f e);
        attained = s.attained;
      }

  -- the worst of all namings is the worst of the proposers of r
  pub worst_end : {e worst : ℕ} → IsWorstSoFar w places r all e worst → length all ≡ e → IsWorst w places r worst
  worst_end {e} {worst} s whole =
      record {
        above = λ q at h there.
            let x = named_at assigned i.proposer_entries named q (at_place w places q r at h there) in
            let n = x.2 in
            let f = n.at in
            let here : held places (naming_at all f).by ≡ Some (naming_at all f).place = ap (held places) n.by ∙ x.1 ∙ ap Some (sym n.place) in
            let le = s.above f (let inside = n.there in omega arith) here in
            let same = ap (place_of w.reviewers r) n.by in omega arith;
        attained = s.attained;
      }

-- before any naming is asked the worst place is the first
pub worst_start : (w : Written) (places : List (Option ℕ)) (r : ℕ) (all : List CompactNaming) → IsWorstSoFar w places r all 0 0
worst_start w places r all = record { above = λ f lt. absurd (omega arith); attained = λ p lt. absurd (omega arith) }

-- nobody past the last proposer holds a place
pub unacceptable_all : {w : Written} {places : List (Option ℕ)} → IsAssignment w places → (n : ℕ) → length w.proposers ≤ n → ((q : ℕ) → q < n → ¬ IsUnacceptable w places q) → (q : ℕ) → ¬ IsUnacceptable w places q
unacceptable_all {w} assigned n whole none q u =
    let lt = row_in_range w.proposers q u.at (assigned.on_lists q u.at u.holds) in none q (omega arith) u
