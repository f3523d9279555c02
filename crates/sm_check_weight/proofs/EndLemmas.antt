-- The clauses at the end of an answer, in their order.
use Rattle.std.proofs.Common.{ℕ, ◌<◌, arith, Bool, List, Option, None, Some}
use Rattle.std.specs.Prelude.{MatchOption}
use Rattle.sm_theory.specs.Net.{Net}
use Rattle.sm_theory.specs.FlowLines.{amount_on}
use Rattle.sm_theory.specs.Flows.{IsResidualReach}
use Rattle.sm_theory.specs.declared.flow_lines.FlowLine.{FlowLine}
use Rattle.sm_check_clauses.specs.declared.verdicts.Reason.{Reason}
use Rattle.sm_check_clauses.specs.declared.verdicts.Reason.TheVariants as reason
use Rattle.sm_check_clauses.specs.Pairs.{AreAllThere}
use Rattle.sm_check_clauses.specs.Verdicts.{IsFirstThere, number_of_reason}
use Rattle.sm_check_weight.specs.ClaimClauses.{EndHolds}

-- what is asked without a net and with one, by what holds there, and by what doesn't
pub with_net : {N A X : Type 0} {B Y : N → Type 0} (o : Option N) → (X → A) → ((net : N) → Y net → B net) → MatchOption o X Y → MatchOption o A B
with_net None f g h = f h
with_net (Some net) f g h = g net h

pub with_no_net : {N A X : Type 0} {B Y : N → Type 0} (o : Option N) → ((X → ⊥) → A) → ((net : N) → (Y net → ⊥) → B net) → (MatchOption o X Y → ⊥) → MatchOption o A B
with_no_net None f g h = f h
with_no_net (Some net) f g h = g net h

module _ (net : Net) (flow : List FlowLine) (set : List Bool) (matching : List (Option ℕ)) (pairs : List (ℕ × ℕ)) where
  -- a pair is missing
  pub end_not_there : (AreAllThere matching pairs → ⊥) → IsFirstThere (EndHolds net flow set matching pairs) reason.WrongPair
  end_not_there none = record { clauses_before = before; fails = none }
    where
      before : (other : Reason) → number_of_reason other < 17 → EndHolds net flow set matching pairs other
      before reason.WrongPair l = absurd (omega (arith, l))
      before reason.NotLeast l = absurd (omega (arith, l))
      before _ l = tt

  -- none is, and the set isn't the reach
  pub end_not_least : AreAllThere matching pairs → (IsResidualReach net (amount_on flow) set → ⊥) → IsFirstThere (EndHolds net flow set matching pairs) reason.NotLeast
  end_not_least there none = record { clauses_before = before; fails = none }
    where
      before : (other : Reason) → number_of_reason other < 18 → EndHolds net flow set matching pairs other
      before reason.WrongPair l = there
      before reason.NotLeast l = absurd (omega (arith, l))
      before _ l = tt

  -- all holds
  pub end_holds : AreAllThere matching pairs → IsResidualReach net (amount_on flow) set → (why : Reason) → EndHolds net flow set matching pairs why
  end_holds there least reason.WrongPair = there
  end_holds there least reason.NotLeast = least
  end_holds there least _ = tt
