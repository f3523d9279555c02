-- The laws of trimmed texts. Each is the contract of a function of `laws`.
use Rattle.std.specs.Prelude.{◌≡◌, ◌↔◌, ℕ, ◌≤◌, Bool, List, Option, length, Ok}
use Rattle.sm_theory.specs.Listings.{IsListing}
use Rattle.sm_text.specs.Limits.{most_bytes}
use Rattle.sm_agents.specs.Written.{Written}
use Rattle.sm_agents.specs.declared.kinds.Measure.{Measure}
use Rattle.sm_agents.specs.declared.kinds.Side.{Side}
use Rattle.sm_instance.specs.Stable.{IsStable, IsBestOf}
use Rattle.sm_instance.specs.Lightest.{IsLightest, IsLightestByBoth}
use Rattle.sm_instance.specs.Ranks.{IsBefore, order_of}
use Rattle.sm_instance.specs.declared.inputs.Input.{Input}
use Rattle.sm_instance.specs.declared.inputs.Input.TheVariants.{Two, Room}
use Rattle.sm_reader.specs.InstanceText.{ReadText, instance_text}
use Rattle.sm_seats.specs.Vectors.{IsAllowedRankVector}
use Rattle.sm_law_reprint.specs.Reading.{printed_text, IsReadBack}
use Rattle.sm_trim_top.specs.Trimmed.{IsTrimmedInput}

-- the text of the instance to which an input is trimmed is read back whole, as that instance, with other lines
abbrev pub TrimmedIsRead : Type 0
TrimmedIsRead = (bytes : List ℕ) (input : Input) → IsTrimmedInput bytes input → length (printed_text input) ≤ most_bytes → IsReadBack input

-- two instances have the same stable matchings, best ones, lightest ones and listings of allowed rank vectors
pub record HaveSameAnswers (w u : Written) : Type 0 where
  pub stable : (places : List (Option ℕ)) → IsStable w places ↔ IsStable u places
  pub bests : (side : Side) (places : List (Option ℕ)) → IsBestOf side w places ↔ IsBestOf side u places
  pub lightest : (by : Measure) (places : List (Option ℕ)) → IsLightest by w places ↔ IsLightest by u places
  pub lightest_by_both : (by : Measure) (places : List (Option ℕ)) → IsLightestByBoth by w places ↔ IsLightestByBoth by u places
  pub listings : (cursor : Option (List ℕ)) (limit : ℕ) (out : List (List ℕ)) (more : Bool)
      → IsListing (IsBefore (order_of w)) (IsAllowedRankVector w) cursor limit out more ↔ IsListing (IsBefore (order_of u)) (IsAllowedRankVector u) cursor limit out more

-- an instance and an input with two sides do
abbrev pub HasAnswersOf : Written → Input → Type 0
HasAnswersOf w (Two u) = HaveSameAnswers w u
HasAnswersOf w (Room persons) = ⊥

-- what is read of that text has the same answers as the instance of the input
abbrev pub TrimmedAnswers : Type 0
TrimmedAnswers = (bytes : List ℕ) (input : Input) (t : IsTrimmedInput bytes input) (read : ReadText) → length (printed_text input) ≤ most_bytes
    → instance_text (printed_text input) ≡ Ok read → HasAnswersOf t.trimmed.whole read.input
