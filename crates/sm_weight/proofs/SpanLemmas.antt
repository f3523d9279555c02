-- The entry and the exit of a level along the moves of a proposer.
use Rattle.std.proofs.Common.{◌≡◌, ◌≢◌, ℕ, zero, suc, ◌+◌, ◌-◌, ◌<◌, ◌≤◌, inl, inr, arith, refl, sym, ap, ◌∙◌, List, length, slice_index}
use Rattle.sm_lists.proofs.Counting.{lt_or_le}
use Rattle.sm_poset.specs.Moves.{rotation_of, place_to}
use Rattle.sm_weight.specs.Spans.{AreAlong, level_to, place_before, IsDivided, LeadsOff, IsExit}

-- before a later move a proposer stands where the one before led
pub place_before-place_to : (stands : ℕ) (moves : List (ℕ × ℕ)) (a : ℕ) → 0 < a → place_before stands moves a ≡ place_to moves (a - 1)
place_before-place_to stands moves zero some = absurd (omega arith)
place_before-place_to stands moves (suc a) some = ap (place_to moves) (let e : a ≡ suc a - 1 = omega arith in e)

-- before a move a proposer stands on its list of levels
pub before_on_list : {levels : List ℕ} {moves : List (ℕ × ℕ)} (stands a : ℕ) → AreAlong levels moves → stands < length levels → a < length moves → place_before stands moves a < length levels
before_on_list stands zero w less there = less
before_on_list stands (suc a) w less there = w.on_list a (omega arith)

module _ {levels : List ℕ} {moves : List (ℕ × ℕ)} {level n : ℕ} (stands : ℕ) (w : AreAlong levels moves) (rises : 0 < length moves → slice_index levels stands ≤ level_to levels moves 0) (d : IsDivided levels moves (level + 1) n) where
  -- a move that leads off the level is the first one to a higher level
  off_is : (a : ℕ) → a < length moves → LeadsOff levels stands moves level a → a ≡ n
  off_is zero there off = elim (lt_or_le 0 n) [
    | inl k ↦ absurd (off.1 (omega (arith, off.0, rises there, d.lower 0 k)))
    | inr k ↦ omega arith
  ]
  off_is (suc a) there off = elim (lt_or_le (suc a) n) [
    | inl k ↦ absurd (off.1 (omega (arith, off.0, w.rising a (suc a) (omega arith) there, d.lower (suc a) k)))
    | inr k ↦ elim (lt_or_le a n) [
      | inl j ↦ omega arith
      | inr j ↦ absurd (omega (arith, off.0, d.higher a j (omega arith)))
    ]
  ]

  -- where no move leads to a higher level, the level is never left
  pub exit_never : (sink : ℕ) → n ≡ length moves → IsExit levels stands moves level sink sink
  exit_never sink e = record {
    leaves = λ a there off. absurd (omega (arith, off_is a there off));
    never = λ none. refl;
  }

  -- where the proposer stands on the level before the first move to a higher one, this move leaves it
  pub exit_found : (sink : ℕ) → n < length moves → slice_index levels (place_before stands moves n) ≡ level → IsExit levels stands moves level sink (rotation_of moves n + 1)
  exit_found sink there e = record {
    leaves = λ a inside off. let same = ap (rotation_of moves) (off_is a inside off) in omega arith;
    never = λ none. absurd (none n there (e, λ x. omega (arith, d.higher n (omega arith) there)));
  }

  -- where it stands on another level there, the level is never left
  pub exit_not : (sink : ℕ) → n < length moves → slice_index levels (place_before stands moves n) ≢ level → IsExit levels stands moves level sink sink
  exit_not sink there ne = record {
    leaves = λ a inside off. absurd (ne (ap (λ b. slice_index levels (place_before stands moves b)) (sym (off_is a inside off)) ∙ off.0));
    never = λ none. refl;
  }
