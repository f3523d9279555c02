-- What a `MarketFault` says of lists.
use Rattle.std.specs.Prelude.{◌≡◌, ℕ, List}
use Rattle.sm_market.specs.Lists.{Lists}
use Rattle.sm_market.specs.Entries.{AreSound, IsFirstOutOfRange, IsFirstRepeated, IsFirstNotMutual}
use Rattle.sm_market.specs.declared.faults.Side.{Side}
use Rattle.sm_market.specs.declared.faults.Side.TheVariants.{Proposers, Reviewers}
use Rattle.sm_market.specs.declared.faults.MarketFault.{MarketFault}
use Rattle.sm_market.specs.declared.faults.MarketFault.TheVariants.{OutOfRange, Repeated, NotMutual, OutOfMemory}

-- a fault in the lists of a side; the proposers' lists come first, so a fault in the reviewers' lists says that the
-- proposers' have none
abbrev pub OnSide : Side → Lists → (List (List ℕ) → List (List ℕ) → Type 0) → Type 0
OnSide Proposers l Fault = Fault l.proposers l.reviewers
OnSide Reviewers l Fault = AreSound l.proposers l.reviewers × Fault l.reviewers l.proposers

-- the first faulty entry stands on this side, at this agent and place, and has this fault; want of memory says
-- nothing of the lists
abbrev pub IsFirstFault : Lists → MarketFault → Type 0
IsFirstFault l (OutOfRange side a i) = OnSide side l (λ rows others. IsFirstOutOfRange rows others a i)
IsFirstFault l (Repeated side a i) = OnSide side l (λ rows others. IsFirstRepeated rows others a i)
IsFirstFault l (NotMutual side a i) = OnSide side l (λ rows others. IsFirstNotMutual rows others a i)
IsFirstFault l OutOfMemory = Unit {0}

-- the same of one side's lists alone, named as that side
abbrev pub IsFirstFaultOf : Side → List (List ℕ) → List (List ℕ) → MarketFault → Type 0
IsFirstFaultOf side rows others (OutOfRange s a i) = (s ≡ side) × IsFirstOutOfRange rows others a i
IsFirstFaultOf side rows others (Repeated s a i) = (s ≡ side) × IsFirstRepeated rows others a i
IsFirstFaultOf side rows others (NotMutual s a i) = (s ≡ side) × IsFirstNotMutual rows others a i
IsFirstFaultOf side rows others OutOfMemory = Unit {0}
