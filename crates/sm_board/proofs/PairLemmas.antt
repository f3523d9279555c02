-- What is read of the first numbers of pairs: the proposers of a rotation, and the rotations of moves.
use Rattle.std.proofs.Common.{◌≡◌, ℕ, zero, suc, refl, sym, ap, ◌∙◌, List, [], ◌∷◌, length, map, slice_index, slice_index_or}
use Rattle.std.proofs.lemmas.List.{length-map}
use Rattle.sm_market.specs.Lists.{row}
use Rattle.sm_board.specs.Board.{firsts}

-- the first number of a pair, also past the last
pub first_of_pairs : (ms : List (ℕ × ℕ)) (a : ℕ) → slice_index (firsts ms) a ≡ (slice_index_or ms a (0, 0)).0
first_of_pairs [] a = refl
first_of_pairs (m ∷ ms) zero = refl
first_of_pairs (m ∷ ms) (suc a) = first_of_pairs ms a

-- a row of mapped rows, also past the last
pub mapped_row : (rows : List (List (ℕ × ℕ))) (p : ℕ) → row (map (λ ms. firsts ms) rows) p ≡ firsts (slice_index_or rows p [])
mapped_row [] p = refl
mapped_row (r ∷ rs) zero = refl
mapped_row (r ∷ rs) (suc p) = mapped_row rs p

-- where the first numbers are these, that of each pair is one of them, and there are as many
pub first_at : (pairs : List (ℕ × ℕ)) {xs : List ℕ} (i : ℕ) → firsts pairs ≡ xs → (slice_index_or pairs i (0, 0)).0 ≡ slice_index xs i
first_at pairs i e = sym (first_of_pairs pairs i) ∙ ap (λ (xs : List ℕ). slice_index xs i) e

pub firsts_many : (pairs : List (ℕ × ℕ)) {xs : List ℕ} → firsts pairs ≡ xs → length pairs ≡ length xs
firsts_many pairs e = sym (length-map pairs (λ pair. pair.0)) ∙ ap length e
