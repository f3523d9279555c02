-- What a search starts with: nothing is held, and nothing is excluded.
use Rattle.std.proofs.Common.{◌≡◌, ℕ, ◌<◌, ◌∷◌, [], inl, inr, arith, refl, sym, ap, ◌∙◌, List, false, length, slice_index, replicate}
use Rattle.std.proofs.lemmas.Bool.{false≢true}
use Rattle.std.proofs.lemmas.List.{get_or-replicate, get_or_past, length-replicate}
use Rattle.sm_lists.proofs.Counting.{lt_or_le}
use Rattle.sm_market.specs.Lists.{row}
use Rattle.sm_theory.specs.ClosedSets.{IsMember}
use Rattle.sm_board.specs.Board.{Board, stay_level, members_in}
use Rattle.sm_board.specs.Courses.{IsHeld}
use Rattle.sm_board.proofs.MemberLemmas.{members_in-other}

-- no rotation is a member of a set of none
pub not_a_member : (n x : ℕ) → IsMember (replicate n false) x → ⊥
not_a_member n x m = elim (lt_or_le x n) [
  | inl less ↦ false≢true (sym (get_or-replicate n x false false less) ∙ m)
  | inr past ↦ false≢true (sym (get_or_past (replicate n false) x false (omega (arith, length-replicate n false))) ∙ m)
]

-- and none is counted
pub none_in : (n : ℕ) (xs : List ℕ) → members_in (replicate n false) xs ≡ 0
none_in n [] = refl
none_in n (x ∷ xs) = members_in-other (replicate n false) x xs (not_a_member n x) ∙ none_in n xs

-- a set of none, with the first stay of each proposer
pub nothing_held : {b : Board} (levels : List ℕ) → length levels ≡ length b.leaves
    → ((p : ℕ) → p < length b.leaves → slice_index levels p ≡ stay_level b p 0)
    → IsHeld b (record { set = replicate (length b.needs) false; log = []; room = length b.needs; stays = replicate (length b.leaves) 0; levels = levels })
nothing_held {b} levels long are = record {
  logged = record {
    one_each = length-replicate (length b.needs) false;
    in_range = λ a less. absurd (omega arith);
    once = λ a c x y. absurd (omega arith);
    each = λ a less. absurd (omega arith);
    all = λ x m. absurd (not_a_member (length b.needs) x m);
  };
  room = refl;
  at_each = length-replicate (length b.leaves) 0;
  now_each = long;
  at_is = λ p less. get_or-replicate (length b.leaves) p 0 0 less ∙ sym (none_in (length b.needs) (row b.leaves p));
  now_is = λ p less. are p less ∙ ap (stay_level b p) (sym (none_in (length b.needs) (row b.leaves p)));
}
