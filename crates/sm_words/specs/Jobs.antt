-- What words may ask for, as plain data.
use Rattle.std.specs.Prelude.{◌≡◌, ◌≤◌, ◌<◌, ◌^◌, ℕ, Bool, true, false, List as Vector, Option}
use Rattle.std.specs.Option.{option_map}
use Rattle.sm_agents.specs.declared.kinds.Measure.{Measure}
use Rattle.sm_agents.specs.declared.kinds.Side.{Side}
use Rattle.sm_make.specs.declared.shape.Shape.{Shape}
use Rattle.sm_make.specs.Made.{most_size}
use Rattle.sm_report.specs.Sound.{IsLimit}
use Rattle.sm_words.specs.declared.jobs.Form.{Form}
use Rattle.sm_words.specs.declared.jobs.Form.TheVariants.{Text}
use Rattle.sm_words.specs.declared.jobs.Job.{Job}
use Rattle.sm_words.specs.declared.jobs.Job.TheVariants as job

-- a command with the values of its operands
pub data JobData : Type 0 where
  Solve : Option Side → JobData
  Reduced : JobData
  Rotations : JobData
  List : Option (Vector ℕ) → ℕ → JobData
  Pairs : JobData
  Regret : JobData
  Weight : Measure → JobData
  Meet : JobData
  Join : JobData
  Survey : ℕ → JobData
  Check : JobData
  Make : Shape → ℕ → ℕ → Bool → JobData
  Rest : JobData
  Median : JobData
  Route : JobData
  Export : JobData

-- a job as plain data
abbrev pub job_of : Job → JobData
job_of (job.Solve side) = Solve side
job_of job.Reduced = Reduced
job_of job.Rotations = Rotations
job_of (job.List after limit) = List (option_map (λ v. v.items) after) limit
job_of job.Pairs = Pairs
job_of job.Regret = Regret
job_of (job.Weight by) = Weight by
job_of job.Meet = Meet
job_of job.Join = Join
job_of (job.Survey limit) = Survey limit
job_of job.Check = Check
job_of (job.Make shape size seed summary) = Make shape size seed summary
job_of job.Rest = Rest
job_of job.Median = Median
job_of job.Route = Route
job_of job.Export = Export

-- a job with its form, as plain data
abbrev pub asked_of : Job × Form → JobData × Form
asked_of asked = (job_of asked.0, asked.1)

-- the jobs whose words may name a form
abbrev pub takes_form : JobData → Bool
takes_form (Solve side) = true
takes_form Reduced = true
takes_form Rotations = true
takes_form (List after limit) = true
takes_form Pairs = true
takes_form Regret = true
takes_form (Weight by) = true
takes_form Meet = false
takes_form Join = false
takes_form (Survey limit) = true
takes_form Check = false
takes_form (Make shape size seed summary) = false
takes_form Rest = false
takes_form Median = false
takes_form Route = false
takes_form Export = false

-- the form is `Text` for each other job
abbrev pub IsFormFor : JobData → Form → Type 0
IsFormFor job form = takes_form job ≡ false → form ≡ Text

-- the least size, and the greatest of any shape; each shape has a greatest one of its own
abbrev pub least_size : ℕ
least_size = 1

-- the greatest size of any shape
abbrev pub greatest_size : ℕ
greatest_size = 2048

-- the greatest seed
abbrev pub most_seed : ℕ
most_seed = 18446744073709551615

-- the numbers of a job lie in their bounds
abbrev pub IsInBounds : JobData → Type 0
IsInBounds (Solve side) = Unit {0}
IsInBounds Reduced = Unit {0}
IsInBounds Rotations = Unit {0}
IsInBounds (List after limit) = IsLimit limit
IsInBounds Pairs = Unit {0}
IsInBounds Regret = Unit {0}
IsInBounds (Weight by) = Unit {0}
IsInBounds Meet = Unit {0}
IsInBounds Join = Unit {0}
IsInBounds (Survey limit) = IsLimit limit
IsInBounds Check = Unit {0}
IsInBounds (Make shape size seed summary) = (least_size ≤ size) × (size ≤ most_size shape) × (seed < 2 ^ 64)
IsInBounds Rest = Unit {0}
IsInBounds Median = Unit {0}
IsInBounds Route = Unit {0}
IsInBounds Export = Unit {0}
