-- A list is compared with what a test lets through of another, place by place.
use Rattle.std.proofs.Common.{◌≡◌, ℕ, suc, ◌+◌, ◌-◌, ◌<◌, ◌≤◌, ◌↔◌, arith, sym, ap, ◌∙◌, Bool, true, false, ◌&&◌, cond, List, [], ◌∷◌, length, get_or, map, drop, filter, Option, slice_index}
use Rattle.std.specs.List.{range_with_len}
use Rattle.std.proofs.Math.Bool.{and_comm}
use Rattle.std.proofs.Math.Seq.{drop-cons}
use Rattle.std.proofs.Math.ListN.{drop_of_length-le}
use Rattle.std.proofs.lemmas.List.{get_or-drop, length-drop}
use Rattle.std.proofs.lemmas.List.FromFn.{get_or-map-range_with_len}
use Rattle.sm_market.specs.Lists.{row, entry, place_of}
use Rattle.sm_lists.proofs.PlaceLemmas.{entry-place_of}
use Rattle.sm_market.specs.Reduced.{is_no_worse, reduced_row}

-- a keeps b on its reduced list
abbrev pub stays : (rows others : List (List ℕ)) (worst theirs : List (Option ℕ)) → ℕ → ℕ → Bool
stays rows others worst theirs a b = is_no_worse rows worst a b && is_no_worse others theirs b a

-- a list is what the test lets through of xs exactly where the rest of it is what the test lets through of the rest of xs
pub record IsSameFrom (test : ℕ → Bool) (xs list : List ℕ) (place next : ℕ) : Type 0 where
  pub within : next ≤ length list
  pub forth : list ≡ filter test xs → drop next list ≡ filter test (drop place xs)
  pub back : drop next list ≡ filter test (drop place xs) → list ≡ filter test xs

-- the first of the rest passes the test, or doesn't
rest_of : (test : ℕ → Bool) (xs : List ℕ) (place x : ℕ) → place < length xs → x ≡ get_or xs place 0 → filter test (drop place xs) ≡ cond (test x) (x ∷ filter test (drop (place + 1) xs)) (filter test (drop (place + 1) xs))
rest_of test xs place x less is =
    let next : suc place ≡ place + 1 = omega arith in
    ap (filter test) (drop-cons xs place 0 less ∙ ap (λ k. get_or xs place 0 ∷ drop k xs) next)
    ∙ ap (λ y. cond (test y) (y ∷ filter test (drop (place + 1) xs)) (filter test (drop (place + 1) xs))) (sym is)

same_tail : {x y : ℕ} {xs ys : List ℕ} → x ∷ xs ≡ y ∷ ys → xs ≡ ys
same_tail e = ap (drop 1) e

module _ {test : ℕ → Bool} {xs list : List ℕ} {place next : ℕ} (w : IsSameFrom test xs list place next) where
  module _ (x : ℕ) (less : place < length xs) (is : x ≡ get_or xs place 0) where
    passed_by : test x ≡ false → filter test (drop place xs) ≡ filter test (drop (place + 1) xs)
    passed_by fails = rest_of test xs place x less is ∙ ap (λ t. cond t (x ∷ filter test (drop (place + 1) xs)) (filter test (drop (place + 1) xs))) fails

    taken : test x ≡ true → filter test (drop place xs) ≡ x ∷ filter test (drop (place + 1) xs)
    taken passes = rest_of test xs place x less is ∙ ap (λ t. cond t (x ∷ filter test (drop (place + 1) xs)) (filter test (drop (place + 1) xs))) passes

    -- where it fails, the comparison goes on behind it
    pub same_passes : test x ≡ false → IsSameFrom test xs list (place + 1) next
    same_passes fails = record { within = w.within; forth = λ e. w.forth e ∙ passed_by fails; back = λ e. w.back (e ∙ sym (passed_by fails)) }

    -- where it passes and stands on the list as well, the comparison goes on behind both
    pub same_keeps : test x ≡ true → next < length list → slice_index list next ≡ x → IsSameFrom test xs list (place + 1) (next + 1)
    same_keeps passes inside there = record {
      within = omega arith;
      forth = λ e. same_tail (sym cut ∙ w.forth e ∙ taken passes);
      back = λ e. w.back (cut ∙ ap (λ rest. x ∷ rest) e ∙ sym (taken passes));
    }
      where
        cut : drop next list ≡ x ∷ drop (next + 1) list
        cut = let e : suc next ≡ next + 1 = omega arith in drop-cons list next 0 inside ∙ ap (λ y. y ∷ drop (suc next) list) there ∙ ap (λ k. x ∷ drop k list) e

    -- where it doesn't stand there, the list is another
    pub same_not : test x ≡ true → ((next < length list) × (slice_index list next ≡ x) → ⊥) → list ≡ filter test xs → ⊥
    same_not passes out e =
        let rest : drop next list ≡ x ∷ filter test (drop (place + 1) xs) = w.forth e ∙ taken passes in
        let long : length list - next ≡ suc (length (filter test (drop (place + 1) xs))) = sym (length-drop next list) ∙ ap length rest in
        let same : next + 0 ≡ next = omega arith in
        out (omega arith, ap (slice_index list) (sym same) ∙ sym (get_or-drop next list 0 0) ∙ ap (λ ys. get_or ys 0 0) rest)

  -- at the end
  pub same_ends : length xs ≤ place → (next ≡ length list) ↔ (list ≡ filter test xs)
  same_ends past = (
    (λ e. w.back (drop_of_length-le list (omega arith) ∙ sym none)),
    (λ e.
        let short : length list - next ≡ 0 = sym (length-drop next list) ∙ ap length (w.forth e ∙ none) in
        omega (arith, w.within)),
  )
    where
      none : filter test (drop place xs) ≡ []
      none = ap (filter test) (drop_of_length-le xs past)

-- at the beginning all is still to be compared
pub same_begins : (test : ℕ → Bool) (xs list : List ℕ) → IsSameFrom test xs list 0 0
same_begins test xs list = record { within = omega arith; forth = λ e. e; back = λ e. e }

-- an agent's reduced list among those of its side
pub row_is : (rows others : List (List ℕ)) (worst theirs : List (Option ℕ)) (a : ℕ) → a < length rows
    → row (map (reduced_row rows others worst theirs) (range_with_len 0 (length rows))) a ≡ filter (stays rows others worst theirs a) (row rows a)
row_is rows others worst theirs a less = get_or-map-range_with_len (reduced_row rows others worst theirs) 0 (length rows) a a [] less (omega arith)

-- the test of a proposer's place is that of the reviewer who stands there
pub seen_back : (proposers reviewers : List (List ℕ)) (last first : List (Option ℕ)) (p r : ℕ) {at : ℕ} {t : Bool} → at < length (row proposers p) → at ≡ place_of proposers p r
    → t ≡ (is_no_worse proposers last p (entry proposers p at) && is_no_worse reviewers first (entry proposers p at) p) → stays reviewers proposers first last r p ≡ t
seen_back proposers reviewers last first p r {at} {t} on is e =
    let there : entry proposers p at ≡ r = ap (entry proposers p) is ∙ entry-place_of proposers p r (omega arith) in
    and_comm (is_no_worse reviewers first r p) (is_no_worse proposers last p r) ∙ sym (rw there at e)
