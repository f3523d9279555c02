-- The ranks that vectors give, counted for each proposer.
use Rattle.std.proofs.Common.{◌≡◌, ℕ, ◌+◌, ◌<◌, ◌≤◌, ◌==◌, List, [], ◌∷◌, ◌++◌, Bool, Vec, length, map, set, replicate, count_by, slice_index, slice_index_or, refl, sym, ap, ◌∙◌, subst, arith, inl, inr}
use Rattle.std.specs.List.{range_with_len}
use Rattle.std.specs.Vec.{with_items, vec_len}
use Rattle.std.specs.declared.alloc.Global.{Global}
use Rattle.std.proofs.lemmas.List.{map-append, map-set, length-map, length-set, get_or-set_same, get_or-set_other, get_or-replicate, length-replicate}
use Rattle.std.proofs.lemmas.List.FromFn.{length-map-range_with_len, get_or-map-range_with_len}
use Rattle.std.proofs.lemmas.List.Sums.{count_by-le-length}
use Rattle.std.proofs.lemmas.List.Elements.{All-nil, All-head, All-tail, All-push}
use Rattle.sm_lists.specs.Rows.{row, rows_of}
use Rattle.sm_lists.proofs.ResultLemmas.{take-append_at_length}
use Rattle.sm_lists.proofs.Counting.{eq_or_ne}
use Rattle.sm_agents.specs.Written.{Written, row as written_row}
use Rattle.sm_theory.specs.Medians.{column}
use Rattle.sm_theory.proofs.Medians.Counts.{count_cons}
use Rattle.sm_lattice.specs.Counts.{AreCountsOf}
use Rattle.sm_answer_median.specs.MedianAnswer.{most_listed}
use Rattle.sm_answer_median.specs.RankCounts.{AreRankCounts, AreFewCounted}

-- the counts of p's ranks before any vector
abbrev pub no_ranks : Written → ℕ → List ℕ
no_ranks w p = replicate (length (written_row w.proposers p) + 2) 0

no_numbers : (n : ℕ) → AreCountsOf [] (replicate n 0)
no_numbers n = record {
  in_range = All-nil (λ x. x < length (replicate n 0));
  counted = λ x inside. get_or-replicate n x 0 0 (let long = length-replicate {A = ℕ} n 0 in omega (arith, inside, long));
}

-- nothing is counted
pub none_counted : {w : Written} {rows : List (List ℕ)} → rows ≡ map (no_ranks w) (range_with_len 0 (length w.proposers)) → AreRankCounts w [] rows
none_counted {w} {rows} is = subst (AreRankCounts w []) (sym is) (record {
  one_each = length-map-range_with_len (no_ranks w) 0 (length w.proposers);
  ranks = λ p inside. ap length (at p inside) ∙ length-replicate {A = ℕ} (length (written_row w.proposers p) + 2) 0;
  counts = λ p inside. subst (AreCountsOf []) (sym (at p inside)) (no_numbers (length (written_row w.proposers p) + 2));
})
  where
    at : (p : ℕ) → p < length w.proposers → row (map (no_ranks w) (range_with_len 0 (length w.proposers))) p ≡ no_ranks w p
    at p inside = get_or-map-range_with_len (no_ranks w) 0 (length w.proposers) p p [] inside (omega arith)

-- A number more is counted wherever it stands.
count_push : {X : Type 0} (p : X → Bool) (xs : List X) (x : X) → count_by p (x ∷ xs) ≡ count_by p (xs ++ x ∷ [])
count_push p [] x = refl
count_push p (y ∷ xs) x = omega (arith, count_push p xs x, count_cons p x (y ∷ xs), count_cons p x xs, count_cons p y xs, count_cons p y (xs ++ x ∷ []))

-- counts of some numbers with one more in front are those with it behind
counts_behind : {xs counts : List ℕ} {x : ℕ} → AreCountsOf (x ∷ xs) counts → AreCountsOf (xs ++ x ∷ []) counts
counts_behind {xs} {counts} {x} are =
    let P : ℕ → Type 0 = λ y. y < length counts in
    record {
      in_range = All-push P xs x (All-tail P x xs are.in_range) (All-head P x xs are.in_range);
      counted = λ y inside. are.counted y inside ∙ count_push (λ z. z == y) xs x;
    }

-- the ranks of a vector are counted for the first n proposers, and the counts of all others are as they were
pub record AreCountedBelow (n : ℕ) (ranks : List ℕ) (before after : List (List ℕ)) : Type 0 where
  pub each : length after ≡ length before
  pub long : (q : ℕ) → length (row after q) ≡ length (row before q)
  pub counted : (q : ℕ) → q < n → (numbers : List ℕ) → AreCountsOf numbers (row before q) → AreCountsOf (slice_index ranks q ∷ numbers) (row after q)
  pub left : (q : ℕ) → n ≤ q → row after q ≡ row before q

-- nothing of it is counted
pub none_below : (ranks : List ℕ) (rows : List (List ℕ)) → AreCountedBelow 0 ranks rows rows
none_below ranks rows = record { each = refl; long = λ q. refl; counted = λ q less. absurd (omega arith); left = λ q past. refl }

-- one rank more is counted
pub one_below : {ranks : List ℕ} {before after : List (List ℕ)} (p : ℕ) (new : List ℕ) → AreCountedBelow p ranks before after → p < length after → length new ≡ length (row after p)
    → ((numbers : List ℕ) → AreCountsOf numbers (row after p) → AreCountsOf (slice_index ranks p ∷ numbers) new) → AreCountedBelow (p + 1) ranks before (set after p new)
one_below {ranks} {before} {after} p new h inside same one = record {
  each = length-set after p new ∙ h.each;
  long = λ q. elim (eq_or_ne q p) [
    | inl e ↦ subst (λ r. length (row (set after p new) r) ≡ length (row before r)) (sym e) (ap length here ∙ same ∙ h.long p)
    | inr ne ↦ ap length (get_or-set_other after p q new [] ne) ∙ h.long q
  ];
  counted = λ q less. elim (eq_or_ne q p) [
    | inl e ↦ subst (λ r. (numbers : List ℕ) → AreCountsOf numbers (row before r) → AreCountsOf (slice_index ranks r ∷ numbers) (row (set after p new) r)) (sym e)
        (λ numbers are. subst (AreCountsOf (slice_index ranks p ∷ numbers)) (sym here) (one numbers (subst (AreCountsOf numbers) (sym (h.left p (omega arith))) are)))
    | inr ne ↦ λ numbers are. subst (AreCountsOf (slice_index ranks q ∷ numbers)) (sym (get_or-set_other after p q new [] ne)) (h.counted q (omega (arith, less, ne)) numbers are)
  ];
  left = λ q past. get_or-set_other after p q new [] (λ e. omega (arith, e, past)) ∙ h.left q (omega (arith, past));
}
  where
    here : row (set after p new) p ≡ new
    here = get_or-set_same after p new [] inside

-- the ranks of a whole vector are counted
pub vector_counted : {w : Written} {vectors : List (List ℕ)} {ranks : List ℕ} {before after : List (List ℕ)} (n : ℕ) → n ≡ length w.proposers → AreCountedBelow n ranks before after
    → AreRankCounts w vectors before → AreRankCounts w (vectors ++ ranks ∷ []) after
vector_counted {w} {vectors} {ranks} {before} {after} n is h are = record {
  one_each = h.each ∙ are.one_each;
  ranks = λ p inside. h.long p ∙ are.ranks p inside;
  counts = λ p inside.
      let push : column (vectors ++ ranks ∷ []) p ≡ column vectors p ++ slice_index ranks p ∷ [] = map-append (λ (v : List ℕ). slice_index v p) vectors (ranks ∷ []) in
      subst (λ xs. AreCountsOf xs (row after p)) (sym push) (counts_behind (h.counted p (omega (arith, is, inside)) (column vectors p) (are.counts p inside)));
}

-- a count of few vectors has room for one more
pub room_for_one : {w : Written} {rows : List (List ℕ)} (p x : ℕ) → AreFewCounted w rows → p < length w.proposers → x < length (row rows p) → slice_index (row rows p) x < most_listed
room_for_one {w} {rows} p x h inside on =
    let counted : slice_index (row rows p) x ≡ count_by (λ y. y == x) (column h.vectors p) = (h.counts.counts p inside).counted x on in
    let most = count_by-le-length (λ y. y == x) (column h.vectors p) in
    let long = length-map h.vectors (λ (v : List ℕ). slice_index v p) in
    omega (arith, counted, most, long, h.few)

-- a row is written
pub row_set : (rows : List (Vec ℕ Global)) (p : ℕ) (d : Vec ℕ Global) (new : List ℕ) → length new ≡ vec_len (slice_index_or rows p d) → rows_of (set rows p (with_items (slice_index_or rows p d) new)) ≡ set (rows_of rows) p new
row_set rows p d new e = map-set (λ v. v.items) rows p (with_items (slice_index_or rows p d) new) ∙ ap (set (rows_of rows) p) (take-append_at_length (vec_len (slice_index_or rows p d)) new _ e)
