-- Why two given matchings aren't stable.
use Rattle.std.proofs.Common.{◌≡◌, ℕ, ◌+◌, List, length, Option, subst}
use Rattle.sm_agents.specs.Written.{Written}
use Rattle.sm_instance.specs.Stable.{IsStable}
use Rattle.sm_instance.specs.declared.inputs.Input.TheVariants.{Two}
use Rattle.sm_answer_given.specs.GivenText.{AreGiven}
use Rattle.sm_holding.specs.Held.{places_in, CanHold}
use Rattle.sm_answer_given.specs.Refusing.{IsHoldFault, IsGivenFault, IsBlocking, IsUnstable}
use Rattle.sm_answer_given.specs.declared.faults.Which.TheVariants.{Left, Right}
use Rattle.sm_answer_given.specs.declared.faults.GivenFault.{GivenFault}
use Rattle.sm_answer_given.specs.declared.faults.GivenFault.TheVariants.{BadAnswer, NotStable, OutOfMemory}

module _ (w : Written) (texts : List (List ℕ)) (line : ℕ) (left right : List (ℕ × ℕ)) (given : AreGiven (Two w) texts left right) where
  -- the left pairs can be held, and the right ones can't
  pub right_breach : (f : GivenFault) → CanHold w left → IsHoldFault w right Right (line + length left) f → IsGivenFault w texts line f
  right_breach (BadAnswer at) held h = absurd h
  right_breach (NotStable u) held h = record { left = left; right = right; given = given; unstable = IsUnstable.right_breach held h }
  right_breach OutOfMemory held h = tt

  -- both can be held, and a pair blocks the left matching
  pub left_blocked : (f : GivenFault) (places : List (Option ℕ)) → places ≡ places_in w left → CanHold w left → CanHold w right
      → IsBlocking w places Left (line + length left + length right) f → IsGivenFault w texts line f
  left_blocked (BadAnswer at) places same l r h = absurd h
  left_blocked (NotStable u) places same l r h =
      record { left = left; right = right; given = given; unstable = IsUnstable.left_blocked l r (subst (λ xs. IsBlocking w xs Left (line + length left + length right) (NotStable u)) same h) }
  left_blocked OutOfMemory places same l r h = tt

  -- the left matching is stable, and a pair blocks the right one
  pub right_blocked : (f : GivenFault) (m n : List (Option ℕ)) → m ≡ places_in w left → n ≡ places_in w right → CanHold w left → CanHold w right → IsStable w m
      → IsBlocking w n Right (line + length left + length right) f → IsGivenFault w texts line f
  right_blocked (BadAnswer at) m n same_m same_n l r st h = absurd h
  right_blocked (NotStable u) m n same_m same_n l r st h =
      record {
        left = left;
        right = right;
        given = given;
        unstable = IsUnstable.right_blocked l r (subst (IsStable w) same_m st) (subst (λ xs. IsBlocking w xs Right (line + length left + length right) (NotStable u)) same_n h);
      }
  right_blocked OutOfMemory m n same_m same_n l r st h = tt
