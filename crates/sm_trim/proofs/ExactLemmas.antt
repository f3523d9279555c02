-- Exactly so many: what follows, and how many there are with one more.
use Rattle.std.proofs.Common.{◌≡◌, ℕ, ◌+◌, ◌<◌, ◌≤◌, ◌⊎◌, ◌∷◌, [], List, length, get_or, suc, refl, sym, ap, subst, ◌∙◌, arith, inl, inr}
use Rattle.sm_lists.specs.Rows.{place_on}
use Rattle.sm_lists.proofs.Counting.{one_to_one-le}
use Rattle.sm_lists.proofs.PlaceLemmas.{get_or-place_on, place_on-lt}
use Rattle.sm_trim.specs.Sweeping.{AreExactly}
use Rattle.sm_trim.proofs.LoadLaws.{AreDistinct, cons_all, cons_distinct}

-- distinct numbers that stand on a list are no more than its length
pub distinct_on : (xs ys : List ℕ) → AreDistinct xs → ((i : ℕ) → i < length xs → place_on ys (get_or xs i 0) < length ys) → length xs ≤ length ys
distinct_on xs ys distinct on =
    one_to_one-le (length xs) (length ys) (λ i. place_on ys (get_or xs i 0)) on
    (λ i j less inside same. distinct i j less inside
    (sym (get_or-place_on ys (get_or xs i 0) (on i (omega arith)))
    ∙ ap (λ k. get_or ys k 0) same
    ∙ get_or-place_on ys (get_or xs j 0) (on j inside)))

module _ {P : ℕ → Type 0} {n : ℕ} (e : AreExactly P n) where
  -- no more distinct numbers meet P
  pub no_more : (xs : List ℕ) → AreDistinct xs → ((i : ℕ) → i < length xs → P (get_or xs i 0)) → length xs ≤ n
  no_more xs distinct each = let le = distinct_on xs e.those distinct (λ i on. e.all (get_or xs i 0) (each i on)) in let c = e.counted in omega arith

  -- a list with all that meet P is no shorter
  pub no_fewer : (xs : List ℕ) → ((q : ℕ) → P q → place_on xs q < length xs) → n ≤ length xs
  no_fewer xs all = let le = distinct_on e.those xs e.distinct (λ i on. all (get_or e.those i 0) (e.each i on)) in let c = e.counted in omega arith

  -- what says the same is met by as many
  pub exactly_same : (Q : ℕ → Type 0) → ((q : ℕ) → P q → Q q) → ((q : ℕ) → Q q → P q) → AreExactly Q n
  exactly_same Q to from = record {
    those = e.those;
    counted = e.counted;
    distinct = e.distinct;
    each = λ i on. to (get_or e.those i 0) (e.each i on);
    all = λ q h. e.all q (from q h);
  }

  -- and by one more where one more meets it
  pub exactly_more : (Q : ℕ → Type 0) (x : ℕ) → (P x → ⊥) → Q x → ((q : ℕ) → P q → Q q) → ((q : ℕ) → Q q → (x ≡ q) ⊎ P q) → AreExactly Q (n + 1)
  exactly_more Q x other one to from = record {
    those = x ∷ e.those;
    counted = let c = e.counted in omega arith;
    distinct = cons_distinct x e.those (λ i on same. absurd (other (subst P (sym same) (e.each i on)))) e.distinct;
    each = cons_all Q x e.those one (λ i on. to (get_or e.those i 0) (e.each i on));
    all = λ q h. elim (from q h) [
      | inl same ↦ place_on-lt (x ∷ e.those) q 0 (omega arith) same
      | inr old ↦ (let there = e.all q old in place_on-lt (x ∷ e.those) q (suc (place_on e.those q)) (omega arith) (get_or-place_on e.those q there))
    ];
  }

-- nobody meets what can't be met
pub exactly_none : (P : ℕ → Type 0) → ((q : ℕ) → P q → ⊥) → AreExactly P 0
exactly_none P none = record { those = []; counted = refl; distinct = λ i j less on. absurd (omega arith); each = λ i on. absurd (omega arith); all = λ q h. absurd (none q h) }
