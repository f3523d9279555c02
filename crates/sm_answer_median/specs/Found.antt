-- What is found of the median.
use Rattle.std.specs.Prelude.{◌≡◌, ℕ, List, length, Option}
use Rattle.sm_agents.specs.Written.{Written}
use Rattle.sm_answer_median.specs.MedianAnswer.{IsMedianOfAllowed, AreTooMany}
use Rattle.sm_answer_median.specs.declared.faults.MedianFault.{MedianFault}
use Rattle.sm_answer_median.specs.declared.faults.MedianFault.TheVariants.{TooMany, OutOfMemory}
use Rattle.sm_answer_median.specs.declared.median.Median.{Median}

-- so many stable matchings are allowed, and this is their median
pub record IsMedianOfSome (w : Written) (listed : ℕ) (places : List (Option ℕ)) : Type 0 where
  pub vectors : List (List ℕ)
  pub median : IsMedianOfAllowed w vectors places
  pub count : listed ≡ length vectors

-- the number and the median that are found
abbrev pub IsMedianFound : Written → Median → Type 0
IsMedianFound w found = IsMedianOfSome w found.listed found.matching.places.items

-- why no median is looked for; want of memory says nothing
abbrev pub IsMedianFault : Written → MedianFault → Type 0
IsMedianFault w TooMany = AreTooMany w
IsMedianFault w OutOfMemory = Unit {0}
