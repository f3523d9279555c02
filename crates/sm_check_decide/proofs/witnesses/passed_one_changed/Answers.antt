use Rattle.std.proofs.Common.{◌≡◌, ℕ, zero, suc, ◌<◌, arith, refl, [], ◌∷◌, slice_index_or, true, false}
use Rattle.std.proofs.lemmas.Bool.{false≢true}
use Rattle.std.specs.List.{Contains}
use Rattle.sm_market.specs.Matching.{Places}
use Rattle.sm_theory.specs.Rotations.{IsSuccessor, proposer_at}
use Rattle.sm_theory.specs.Chains.{stage, rotation_at}
use Rattle.sm_theory.specs.Witnesses.{passed_seat, passed_seat_first, passed_seat_chain}
use Rattle.sm_theory.proofs.Tests.Pairs.{exposed_pass}
use Rattle.sm_successors.specs.Search.{IsSearchAt}
use Rattle.sm_check_decide.proofs.witnesses.passed_one_changed.Goals as goal

abbrev reached : Places
reached = stage passed_seat passed_seat_first passed_seat_chain 1

none_searched : IsSearchAt passed_seat reached (0 ∷ 0 ∷ 0 ∷ 0 ∷ [])
none_searched = record {
  one_each = refl;
  passed = λ p i behind on before. absurd (at p before);
}
  where
    at : (p : ℕ) {i : ℕ} → i < slice_index_or (0 ∷ 0 ∷ 0 ∷ 0 ∷ []) p 0 → ⊥
    at zero before = omega arith
    at (suc zero) before = omega arith
    at (suc (suc zero)) before = omega arith
    at (suc (suc (suc zero))) before = omega arith
    at (suc (suc (suc (suc p)))) before = omega arith

-- proposers 0 and 1 have the last reviewers of their lists
at_the_end : (p : ℕ) → p < 2 → (i : ℕ) → IsSuccessor passed_seat reached p i → ⊥
at_the_end zero less i x = let behind : 1 < i = x.behind in let on : i < 2 = x.on_list in omega arith
at_the_end (suc zero) less i x = let behind : 1 < i = x.behind in let on : i < 2 = x.on_list in omega arith
at_the_end (suc (suc p)) less i x = omega arith

below : (p : ℕ) → slice_index_or (true ∷ true ∷ []) p false ≡ true → p < 2
below zero e = omega arith
below (suc zero) e = omega arith
below (suc (suc p)) e = absurd (false≢true e)

neither : (p : ℕ) → 1 < p → Contains (0 ∷ 1 ∷ []) p → ⊥
neither p more w = at w.0 w.1 w.2
  where
    at : (k : ℕ) → k < 2 → slice_index_or (0 ∷ 1 ∷ []) k p ≡ p → ⊥
    at zero less e = let is : 0 ≡ p = e in omega arith
    at (suc zero) less e = let is : 1 ≡ p = e in omega arith
    at (suc (suc k)) less e = omega arith

-- both proposers of the second rotation have higher numbers
above : (k : ℕ) → k < 2 → 1 < proposer_at (rotation_at passed_seat_chain 1) k
above zero less = omega arith
above (suc zero) less = omega arith
above (suc (suc k)) less = omega arith

pub returns : goal.returns
returns c = (
  record {
    places = none_searched;
    quiet = λ other x i less low. absurd (at_the_end (proposer_at other i) low _ (x.next i less));
    passed = λ other x i less marked. absurd (at_the_end (proposer_at other i) (below (proposer_at other i) marked) _ (x.next i less));
  },
  (λ w.
      let one = w.quiet (rotation_at passed_seat_chain 1) (exposed_pass passed_seat reached (rotation_at passed_seat_chain 1) refl) 0 (omega arith) (omega arith) in
      neither (proposer_at (rotation_at passed_seat_chain 1) one.pair) (above one.pair one.pair_in) one.among),
)
