-- The numbers of a job lie in their bounds.
use Rattle.std.proofs.Common.{◌≡◌, ℕ, ◌+◌, ◌≤◌, ◌<◌, ◌^◌, Bool, true, false, cond, List, [], length, Option, Some, None, option_map, Result, Ok, Err, IfOk, IfSome, refl, subst, arith, unwrap_or, codes}
use Rattle.std.specs.Option.{option_and_then, option_map_or}
use Rattle.std.proofs.lemmas.Bool.{ltb-false}
use Rattle.std.proofs.lemmas.Option.{same_Some}
use Rattle.sm_make.specs.Made.{most_size}
use Rattle.sm_report.specs.Meanings.{look_up, measures, limit_named}
use Rattle.sm_report.specs.Sound.{IsLimit}
use Rattle.sm_report.proofs.DecimalLemmas.{number_spelt}
use Rattle.sm_report.proofs.InverseLemmas.{mapped, chained}
use Rattle.sm_report.proofs.FieldInverses.{limit_inverts, within_inverts}
use Rattle.sm_words.specs.declared.operands.Command.{Command}
use Rattle.sm_words.specs.declared.operands.Command.TheVariants as command
use Rattle.sm_words.specs.declared.jobs.Form.{Form}
use Rattle.sm_words.specs.declared.jobs.Job.{Job}
use Rattle.sm_words.specs.declared.jobs.WordsFault.{WordsFault}
use Rattle.sm_words.specs.Jobs.{JobData, Weight, Make, job_of, asked_of, least_size, greatest_size, most_seed, IsInBounds}
use Rattle.sm_words.specs.Tables.{shapes, shows, forms, size_named, seed_named}
use Rattle.sm_words.specs.Operands.{given_by, value_given}
use Rattle.sm_words.specs.Words.{right_words, limit_given, job_for, or_missing, is_too_large, word_of_size, or_too_large, asked, usual_limit, usual_show, usual_form}

-- what holds of an option that holds a known value
held_by : {X : Type 0} (P : X → Type 0) (o : Option X) (x : X) → IfSome o P → o ≡ Some x → P x
held_by P o x h e = subst (λ o. IfSome o P) e h

-- what a command asks for comes from what its words give
pub record AskedFrom (c : Command) (operands : List (List ℕ)) (found : JobData × Form) : Type 0 where
  pub given : List (List ℕ)
  pub read : right_words c [] operands ≡ Ok given
  pub job : job_for c given ≡ Some found.0
  pub form : found.1 ≡ unwrap_or (value_given (codes "form") (look_up forms) given) usual_form
  pub small : is_too_large found.0 ≡ false

pub asked_from : (c : Command) (operands : List (List ℕ)) (found : JobData × Form) → asked c operands ≡ Ok found → AskedFrom c operands found
asked_from c operands found e = by_given (right_words c [] operands) refl e where
  by_size : (g : List (List ℕ)) → right_words c [] operands ≡ Ok g → (j : JobData) → job_for c g ≡ Some j → (large : Bool) → is_too_large j ≡ large
      → cond large (Err (word_of_size operands)) (Ok (j, unwrap_or (value_given (codes "form") (look_up forms) g) usual_form)) ≡ Ok found → AskedFrom c operands found
  by_size g r j i true is e = absurd cc
  by_size g r j i false is e =
      let same : (j, unwrap_or (value_given (codes "form") (look_up forms) g) usual_form) ≡ found = cc in
      subst (λ (f : JobData × Form). AskedFrom c operands f) same (record { given = g; read = r; job = i; form = refl; small = is })

  by_job : (g : List (List ℕ)) (o : Option JobData) → right_words c [] operands ≡ Ok g → job_for c g ≡ o
      → or_too_large operands (option_map_or (λ job. Ok (job, unwrap_or (value_given (codes "form") (look_up forms) g) usual_form)) o (Err (length g + 2))) ≡ Ok found → AskedFrom c operands found
  by_job g None r is e = absurd cc
  by_job g (Some j) r is e = by_size g r j is (is_too_large j) refl e

  by_given : (r : Result (List (List ℕ)) ℕ) → right_words c [] operands ≡ r → or_too_large operands (or_missing c r) ≡ Ok found → AskedFrom c operands found
  by_given (Err word) is e = absurd cc
  by_given (Ok g) is e = by_job g (job_for c g) is refl e

-- The bounds of what words give. The size of a value isn't compared with its shape's yet.
abbrev IsSomeSize : ℕ → Type 0
IsSomeSize size = least_size ≤ size

abbrev IsSeed : ℕ → Type 0
IsSeed seed = seed < 2 ^ 64

limit_named_in : (text : List ℕ) (n : ℕ) → limit_named text ≡ Some n → IsLimit n
limit_named_in text n e = limit_inverts.sound text n e

size_named_in : (text : List ℕ) (n : ℕ) → size_named text ≡ Some n → IsSomeSize n
size_named_in text n e = ((within_inverts least_size greatest_size (omega arith)).sound text n e).0

seed_named_in : (text : List ℕ) (n : ℕ) → seed_named text ≡ Some n → IsSeed n
seed_named_in text n e = let h : n ≤ most_seed = (number_spelt text most_seed n (omega arith) e).within in omega arith

-- what holds of each value that is read holds of one that words give
given_holds : {X : Type 0} (P : X → Type 0) (name : List ℕ) (read : List ℕ → Option X) → ((text : List ℕ) (x : X) → read text ≡ Some x → P x) → (words : List (List ℕ)) → IfSome (value_given name read words) P
given_holds {X} P name read each words = go (look_up (given_by words) name) where
  held : (text : List ℕ) (o : Option X) → read text ≡ o → IfSome o P
  held text None is = tt
  held text (Some x) is = each text x is

  go : (o : Option (List ℕ)) → IfSome (option_and_then read o) P
  go None = tt
  go (Some text) = held text (read text) refl

-- what is asked for, where its size isn't too large
limit_or_usual : (o : Option ℕ) → IfSome o IsLimit → IsLimit (unwrap_or o usual_limit)
limit_or_usual None b = (omega arith, omega arith)
limit_or_usual (Some n) b = b

limit_in_bounds : (words : List (List ℕ)) → IsLimit (limit_given words)
limit_in_bounds words = limit_or_usual (value_given (codes "limit") limit_named words) (given_holds IsLimit (codes "limit") limit_named limit_named_in words)

making_in_bounds : (words : List (List ℕ)) (job : JobData) → job_for command.Make words ≡ Some job → is_too_large job ≡ false → IsInBounds job
making_in_bounds words job e small =
    let show = unwrap_or (value_given (codes "show") (look_up shows) words) usual_show in
    let size = value_given (codes "size") size_named words in
    let seed = value_given (codes "seed") seed_named words in
    let of_shape = chained (λ shape. option_and_then (λ size. option_map (λ seed. Make shape size seed show) seed) size) (value_given (codes "shape") (look_up shapes) words) job e in
    let of_size = chained (λ size. option_map (λ seed. Make of_shape.from size seed show) seed) size job of_shape.gives in
    let of_seed = mapped (λ seed. Make of_shape.from of_size.from seed show) seed job of_size.gives in
    let some = held_by IsSomeSize size of_size.from (given_holds IsSomeSize (codes "size") size_named size_named_in words) of_size.is in
    let seeded = held_by IsSeed seed of_seed.from (given_holds IsSeed (codes "seed") seed_named seed_named_in words) of_seed.is in
    subst (λ job. is_too_large job ≡ false → IsInBounds job) of_seed.gives (λ small. (some, ltb-false (most_size of_shape.from) of_size.from small, seeded)) small

job_in_bounds : (c : Command) (words : List (List ℕ)) (job : JobData) → job_for c words ≡ Some job → is_too_large job ≡ false → IsInBounds job
job_in_bounds command.Solve words job e small = subst IsInBounds (same_Some _ _ e) tt
job_in_bounds command.Reduced words job e small = subst IsInBounds (same_Some _ _ e) tt
job_in_bounds command.Rotations words job e small = subst IsInBounds (same_Some _ _ e) tt
job_in_bounds command.List words job e small = subst IsInBounds (same_Some _ _ e) (limit_in_bounds words)
job_in_bounds command.Pairs words job e small = subst IsInBounds (same_Some _ _ e) tt
job_in_bounds command.Regret words job e small = subst IsInBounds (same_Some _ _ e) tt
job_in_bounds command.Weight words job e small = let of_by = mapped Weight (value_given (codes "by") (look_up measures) words) job e in subst IsInBounds of_by.gives tt
job_in_bounds command.Meet words job e small = subst IsInBounds (same_Some _ _ e) tt
job_in_bounds command.Join words job e small = subst IsInBounds (same_Some _ _ e) tt
job_in_bounds command.Survey words job e small = subst IsInBounds (same_Some _ _ e) (limit_in_bounds words)
job_in_bounds command.Check words job e small = subst IsInBounds (same_Some _ _ e) tt
job_in_bounds command.Make words job e small = making_in_bounds words job e small
job_in_bounds command.Rest words job e small = subst IsInBounds (same_Some _ _ e) tt
job_in_bounds command.Median words job e small = subst IsInBounds (same_Some _ _ e) tt
job_in_bounds command.Route words job e small = subst IsInBounds (same_Some _ _ e) tt
job_in_bounds command.Export words job e small = subst IsInBounds (same_Some _ _ e) tt

asked_in_bounds : (c : Command) (operands : List (List ℕ)) (found : JobData × Form) → asked c operands ≡ Ok found → IsInBounds found.0
asked_in_bounds c operands found e = let from = asked_from c operands found e in job_in_bounds c from.given found.0 from.job from.small

-- and of a job that was read
pub read_in_bounds : (c : Command) (operands : List (List ℕ)) (r : Result (Job × Form) WordsFault) → IfOk r (λ found. asked c operands ≡ Ok (asked_of found)) → IfOk r (λ found. IsInBounds (job_of found.0))
read_in_bounds c operands (Ok found) e = asked_in_bounds c operands (asked_of found) e
read_in_bounds c operands (Err fault) e = tt
