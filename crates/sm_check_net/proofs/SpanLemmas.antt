-- Where proposers come to levels and leave them.
use Rattle.std.proofs.Common.{◌≡◌, ◌≢◌, ℕ, zero, suc, ◌+◌, ◌<◌, ◌≤◌, ◌||◌, inl, inr, arith, refl, sym, ap, ◌∙◌, Bool, true, false, List, [], ◌++◌, length, take, slice_index, Option, eqb-true, eq-eqb, ne_eqb}
use Rattle.std.specs.Prelude.{◌==◌, ◌&&◌, if◌then◌else◌}
use Rattle.std.specs.List.{list_any, position_or_len, flat_map}
use Rattle.std.proofs.lemmas.List.{flat_map_more, take_more}
use Rattle.std.proofs.lemmas.List.Folds.{list_any_more}
use Rattle.std.proofs.lemmas.List.Sums.{fails_before_first, passes_at_first, prefix_len-le-length}
use Rattle.sm_lists.proofs.Counting.{eq_or_ne, lt_or_le}
use Rattle.sm_theory.proofs.Net.Tests.{some_passes, and_parts}
use Rattle.sm_market.specs.Matching.{held}
use Rattle.sm_theory.specs.Conditions.{has_level}
use Rattle.sm_check_net.specs.declared.moves.Move.{Move}
use Rattle.sm_check_net.specs.Moves.{move_at, row_of_moves}
use Rattle.sm_check_net.specs.Pairs.{has_pair, IsFirstAt}
use Rattle.sm_lists.specs.Pairs.{pair_at}
use Rattle.sm_check_net.specs.declared.spans.Passage.TheVariants.{Entry, Exit}
use Rattle.sm_check_net.specs.Spans.{some_pass, entry_by, exit_by, AreNodesFor, marked, marks, AreFirstBelow}
use Rattle.sm_check_net.proofs.ReachLemmas.{step_at}
use Rattle.sm_check_net.proofs.PairListLemmas.{in_either}

-- the sink is replaced, and nothing else
mark_there : (node sink v : ℕ) → v ≡ sink → marked true node sink v ≡ node
mark_there node sink v e = rw (eq-eqb v sink e) refl

mark_elsewhere : (node sink v : ℕ) → v ≢ sink → marked true node sink v ≡ v
mark_elsewhere node sink v ne = rw (ne_eqb v sink ne) refl

both_marked : (a b : Bool) (node sink v : ℕ) → node < sink → marked b node sink (marked a node sink v) ≡ marked (a || b) node sink v
both_marked false b node sink v less = refl
both_marked true false node sink v less = refl
both_marked true true node sink v less = elim (eq_or_ne v sink) [
  | inl e ↦ ap (marked true node sink) (mark_there node sink v e) ∙ mark_elsewhere node sink node (λ f. omega (arith, f)) ∙ sym (mark_there node sink v e)
  | inr ne ↦ ap (marked true node sink) (mark_elsewhere node sink v ne)
]

-- one more move
pub marked_more : (test : Move → Bool) (moves : List Move) (n node sink v : ℕ) {now after : ℕ} → n < length moves → node < sink → now ≡ marked (list_any test (take n moves)) node sink v
    → after ≡ marked (test (move_at moves n)) node sink now → after ≡ marked (list_any test (take (n + 1) moves)) node sink v
marked_more test moves n node sink v less below was is =
    is ∙ ap (marked (test (move_at moves n)) node sink) was ∙ both_marked (list_any test (take n moves)) (test (move_at moves n)) node sink v below
    ∙ ap (λ b. marked b node sink v) (sym (list_any_more test moves n _ less))

-- one more rotation
pub marks_more : (test : ℕ → Bool) (k sink v : ℕ) → marked (test k) (k + 1) sink (marks test k sink v) ≡ marks test (k + 1) sink v
marks_more test k sink v =
    let e : suc k ≡ k + 1 = omega arith in
    (λ t. marked (test k) (sym e t) sink (marks test k sink v)) ∙ ap (λ n. marks test n sink v) e

-- what isn't the sink stays
marks_stay : (test : ℕ → Bool) (n sink v : ℕ) → v ≢ sink → marks test n sink v ≡ v
marks_stay test zero sink v ne = refl
marks_stay test (suc n) sink v ne = ap (marked (test n) (suc n) sink) (marks_stay test n sink v ne) ∙ stays (test n)
  where
    stays : (b : Bool) → marked b (suc n) sink v ≡ v
    stays true = mark_elsewhere (suc n) sink v ne
    stays false = refl

-- the first that passes takes the place of the sink
module _ (test : List Move → Bool) (rows : List (List Move)) where
  abbrev first : ℕ
  first = position_or_len test rows

  abbrev at_row : ℕ → Bool
  at_row k = test (row_of_moves rows k)

  none_yet : (sink m : ℕ) → m ≤ first → marks at_row m sink sink ≡ sink
  none_yet sink zero few = refl
  none_yet sink (suc m) few =
      ap (marked (at_row m) (suc m) sink) (none_yet sink m (omega arith)) ∙ ap (λ b. marked b (suc m) sink sink) (fails_before_first test rows m [] (omega arith))

  once : (sink m : ℕ) → m < sink → first < m → first < length rows → marks at_row m sink sink ≡ suc first
  once sink zero below less there = absurd (omega arith)
  once sink (suc m) below less there = elim (eq_or_ne first m) [
    | inl e ↦
        ap (marked (at_row m) (suc m) sink) (none_yet sink m (omega arith))
        ∙ ap (λ b. marked b (suc m) sink sink) (ap at_row (sym e) ∙ passes_at_first test rows [] there)
        ∙ mark_there (suc m) sink sink refl ∙ (λ t. suc (sym e t))
    | inr ne ↦ ap (marked (at_row m) (suc m) sink) (once sink m (omega arith) (omega arith) there) ∙ stays (at_row m)
  ]
    where
      stays : (b : Bool) → marked b (suc m) sink (suc first) ≡ suc first
      stays true = mark_elsewhere (suc m) sink (suc first) (λ e. omega (arith, e))
      stays false = refl

  -- the node that is marked in the end is that of the first row which passes
  pub marks_first : (sink : ℕ) → sink ≡ length rows + 1 → marks at_row (length rows) sink sink ≡ suc first
  marks_first sink is = elim (lt_or_le first (length rows)) [
    | inl there ↦ once sink (length rows) (omega arith) there there
    | inr past ↦ none_yet sink (length rows) past ∙ all_fail past
  ]
    where
      all_fail : length rows ≤ first → sink ≡ suc first
      all_fail past = let most = first_most in omega arith
        where
          first_most : first ≤ length rows
          first_most = prefix_len-le-length _ rows

-- the nodes at which proposers come to levels, and those at which they leave them
pub entries_are : (levels : List (List ℕ)) (places : List (Option ℕ)) (rows : List (List Move)) {keys : List (ℕ × ℕ)} {begun nodes : List ℕ} (n sink : ℕ) → n ≡ length rows → sink ≡ n + 1
    → AreNodesFor keys (λ p level. if has_level levels p level (held places p) then 0 else sink) begun → length nodes ≡ length begun
    → ((x i j : ℕ) → IsFirstAt keys (i, j) x → slice_index nodes x ≡ marks (λ k. some_pass Entry levels i j (row_of_moves rows k)) n sink (slice_index begun x))
    → AreNodesFor keys (entry_by levels places rows) nodes
entries_are levels places rows {keys} {begun} {nodes} n sink all is b long m = record {
  one_each = long ∙ b.one_each;
  each = λ x i j f. m x i j f ∙ (λ t. marks (λ k. some_pass Entry levels i j (row_of_moves rows k)) (all t) sink (b.each x i j f t)) ∙ go i j (has_level levels i j (held places i));
}
  where
    go : (i j : ℕ) (h : Bool) → marks (λ k. some_pass Entry levels i j (row_of_moves rows k)) (length rows) sink (if h then 0 else sink) ≡ (if h then 0 else suc (position_or_len (some_pass Entry levels i j) rows))
    go i j true = marks_stay (λ k. some_pass Entry levels i j (row_of_moves rows k)) (length rows) sink 0 (λ e. omega (arith, e))
    go i j false = marks_first (some_pass Entry levels i j) rows sink (omega arith)

-- and so with the nodes at which proposers leave levels
pub exits_are : (levels : List (List ℕ)) (rows : List (List Move)) {keys : List (ℕ × ℕ)} {nodes : List ℕ} (begun : List ℕ) (n sink : ℕ) → n ≡ length rows → sink ≡ n + 1
    → length begun ≡ length keys → ((x : ℕ) → x < length keys → slice_index begun x ≡ sink) → length nodes ≡ length begun
    → ((x i j : ℕ) → IsFirstAt keys (i, j) x → slice_index nodes x ≡ marks (λ k. some_pass Exit levels i j (row_of_moves rows k)) n sink (slice_index begun x))
    → AreNodesFor keys (exit_by levels rows) nodes
exits_are levels rows begun n sink count is each all long m = record {
  one_each = long ∙ each;
  each = λ x i j f. m x i j f ∙ (λ t. marks (λ k. some_pass Exit levels i j (row_of_moves rows k)) (count t) sink (all x f.there t)) ∙ marks_first (some_pass Exit levels i j) rows sink (omega arith);
}

-- one more pair's bonds
pub flat_more : (f : ℕ × ℕ → List (ℕ × ℕ)) (before pairs : List (ℕ × ℕ)) (n : ℕ) → n < length pairs → (before ++ flat_map f (take n pairs)) ++ f (pair_at pairs n) ≡ before ++ flat_map f (take (n + 1) pairs)
flat_more f before pairs n less = flat_map_more f before (take n pairs) (pair_at pairs n) ∙ ap (λ xs. before ++ flat_map f xs) (sym (take_more pairs n (0, 0) less))

-- keys that are the pairs of two lists have first numbers below n where both lists have
pub first_below : {n : ℕ} (keys xs ys : List (ℕ × ℕ)) → ((i j : ℕ) → has_pair keys i j ≡ has_pair (xs ++ ys) i j) → AreFirstBelow n xs → AreFirstBelow n ys → AreFirstBelow n keys
first_below {n} keys xs ys same a b c less = elim (in_either xs ys i j (sym (same i j) ∙ step_at keys c i less refl)) [
  | inl h ↦ below xs a h
  | inr h ↦ below ys b h
]
  where
    i : ℕ
    i = (pair_at keys c).0

    j : ℕ
    j = (pair_at keys c).1

    below : (zs : List (ℕ × ℕ)) → AreFirstBelow n zs → has_pair zs i j ≡ true → i < n
    below zs all h =
        let w = some_passes (λ (x : ℕ × ℕ). x.0 == i && x.1 == j) zs (0, 0) h in
        let e : (pair_at zs w.at).0 ≡ i = eqb-true _ i (and_parts _ _ w.holds).0 in
        omega (arith, e, all w.at w.below)
