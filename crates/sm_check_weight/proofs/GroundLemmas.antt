-- The rotations above a line behind them: all were eliminated.
use Rattle.std.proofs.Common.{◌≡◌, ℕ, List, [], ◌∷◌, ◌++◌, length, Option, None, Some, Bool, true, false, refl, sym, ap, ◌∙◌, subst}
use Rattle.std.specs.Prelude.{IfSome, IsSome}
use Rattle.std.specs.List.{list_all}
use Rattle.std.proofs.lemmas.Bool.{false≢true}
use Rattle.sm_lists.proofs.BoolLemmas.{first_true, second_true}
use Rattle.sm_agents.specs.Written.{Written}
use Rattle.sm_seats.specs.SeatMarket.{seat_market}
use Rattle.sm_report.specs.Heads.{HeadData}
use Rattle.sm_report.specs.Lines.{LineData}
use Rattle.sm_check_clauses.specs.Judges.{IsOwnLine}
use Rattle.sm_check_clauses.specs.Judging.{Subject, answer}
use Rattle.sm_check_clauses.specs.Said.{first_in, rotation_in, rotations_in, all_needs_in, is_up_to_firsts, is_up_to_rotations}
use Rattle.sm_check_clauses.specs.SeatMatchings.{first_of, seat_places_in}
use Rattle.sm_check_clauses.specs.Walks.{IsChainWalk, IsWalkOf, IsChainAt}
use Rattle.sm_check_clauses.specs.declared.seat_pairs.SeatPairs.{SeatPairs}
use Rattle.sm_check_clauses.specs.declared.chain_walk.ChainWalk.{ChainWalk}
use Rattle.sm_check_clauses.proofs.AnswerLemmas.{said_same}
use Rattle.sm_check_clauses.proofs.WalkLemmas.{none_said, up_to_firsts}
use Rattle.sm_check_weight.specs.Kept.{AreNeedsSoFar, IsWholeWalk, HasWholePoset}

-- a line of an instance is one of each answer over it, and such an answer has one instance
pub own_too : {w : Written} {head : HeadData} {x : LineData} (other : HeadData) → IsOwnLine (answer w head) x → IsOwnLine (answer w other) x
own_too other o = record { right = o.right; fitting = o.fitting }

abbrev instance_in : Written → Subject → Written
instance_in w (answer v head) = v
instance_in w _ = w

-- where two answers with one head are judged as the same, they are over one instance
pub one_instance : (v w : Written) (head : HeadData) → answer v head ≡ answer w head → v ≡ w
one_instance v w head e = ap (instance_in w) e

-- the last of lines that all pass a test
last_passes : (p : LineData → Bool) (above : List LineData) (x : LineData) → list_all p (above ++ x ∷ []) ≡ true → p x ≡ true
last_passes p [] x e = first_true (p x) true e
last_passes p (y ∷ above) x e = last_passes p above x (second_true (p y) (list_all p (above ++ x ∷ [])) e)

-- not all lines are up to the rotations where the last isn't
pub not_all : (above : List LineData) (x : LineData) → is_up_to_rotations x ≡ false → list_all is_up_to_rotations (above ++ x ∷ []) ≡ false
not_all above x behind = go (list_all is_up_to_rotations (above ++ x ∷ [])) refl
  where
    go : (b : Bool) → list_all is_up_to_rotations (above ++ x ∷ []) ≡ b → b ≡ false
    go true e = absurd (false≢true (sym behind ∙ last_passes is_up_to_rotations above x e))
    go false e = refl

module _ (w : Written) (above : List LineData) (x : LineData) (behind : is_up_to_rotations x ≡ false) where
  -- the walk
  whole_above : (walk : ChainWalk) → IsWalkOf w (above ++ x ∷ []) walk → IsWholeWalk w above walk
  whole_above walk k = record {
    is_walk = record {
      is_walk =
          subst (λ (said : List (ℕ × ℕ)). IsChainWalk (seat_market w) (seat_places_in (seat_market w) said) (rotations_in w above) walk) (said_same (first_in w) above x (none_said w x behind).0)
          (subst (λ (rotations : List (List (ℕ × ℕ))). IsChainWalk (seat_market w) (first_of w (above ++ x ∷ [])) rotations walk) (said_same (rotation_in w) above x (none_said w x behind).1) k.is_walk);
      going = λ e. absurd (false≢true (sym e ∙ whole));
      whole = k.whole;
    };
    whole = whole;
  }
    where
      go : (b : Bool) → walk.is_whole ≡ b → b ≡ true
      go true e = refl
      go false e = absurd (false≢true (sym (not_all above x behind) ∙ k.going e))

      whole : walk.is_whole ≡ true
      whole = go walk.is_whole refl

  -- behind the rotations there is a walk through them
  pub walked : (pairs : SeatPairs) (walk : Option ChainWalk) → IsChainAt w (above ++ x ∷ []) pairs walk → IsSome walk
  walked pairs None k = absurd (false≢true (sym behind ∙ (up_to_firsts w x (last_passes is_up_to_firsts above x k.up_to)).0))
  walked pairs (Some walk) k = refl

  -- and it is through all of them, where what each needs was said
  pub grounded : (pairs : SeatPairs) (walk : Option ChainWalk) → IsChainAt w (above ++ x ∷ []) pairs walk → length (all_needs_in above) ≡ length (rotations_in w above)
      → AreNeedsSoFar (seat_market w) (rotations_in w above) (all_needs_in above) → IfSome walk (HasWholePoset w above)
  grounded pairs None k one needs = tt
  grounded pairs (Some walk) k one needs = record { walk_of = whole_above walk k; one_each = one; needs = needs }
