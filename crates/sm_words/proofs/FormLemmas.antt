-- The form of a job that takes none.
use Rattle.std.proofs.Common.{◌≡◌, ℕ, Bool, true, false, cond, List, [], ◌∷◌, ◌++◌, Option, Some, None, Result, Ok, Err, IfOk, option_map, unwrap_or, codes, refl, sym, ap, ◌∙◌, subst}
use Rattle.std.specs.Prelude.{is_some, length, ◌+◌}
use Rattle.std.specs.List.{list_all}
use Rattle.std.specs.Option.{option_and_then}
use Rattle.std.proofs.lemmas.Bool.{false≢true}
use Rattle.std.proofs.lemmas.Option.{same_Some}
use Rattle.sm_report.specs.Meanings.{look_up, measures}
use Rattle.sm_report.proofs.InverseLemmas.{mapped, chained}
use Rattle.sm_words.specs.declared.jobs.Form.{Form}
use Rattle.sm_words.specs.declared.jobs.Job.{Job}
use Rattle.sm_words.specs.declared.jobs.WordsFault.{WordsFault}
use Rattle.sm_words.specs.declared.operands.Command.{Command}
use Rattle.sm_words.specs.declared.operands.Command.TheVariants as command
use Rattle.sm_words.specs.Jobs.{JobData, Weight, Make, job_of, asked_of, takes_form, IsFormFor}
use Rattle.sm_words.specs.Tables.{operands_of, shapes, shows, forms, size_named, seed_named}
use Rattle.sm_words.specs.Operands.{value_given, is_operand, may_follow}
use Rattle.sm_words.specs.Words.{right_words, job_for, asked, usual_show, usual_form}
use Rattle.sm_words.proofs.BoundLemmas.{asked_from}
use Rattle.sm_words.proofs.KeptLemmas.{given_none, follows}

-- the commands with an operand for the form
abbrev names_form : Command → Bool
names_form c = is_some (look_up (operands_of c) (codes "form"))

not_some : {X : Type 0} (o : Option X) → is_some o ≡ false → o ≡ None
not_some None e = refl
not_some (Some x) e = absurd (false≢true (sym e))

-- right words are operands of the command
right_are : (c : Command) (before words found : List (List ℕ)) → list_all (is_operand c) before ≡ true → right_words c before words ≡ Ok found → list_all (is_operand c) found ≡ true
right_are c before [] found all e = let same : before ≡ found = cc in subst (λ ws. list_all (is_operand c) ws ≡ true) same all
right_are c before (word ∷ words) found all e =
    by_word (λ is. right_are c (before ++ word ∷ []) words found (follows c before word all is)) (may_follow c before word) refl e where
      by_word : (may_follow c before word ≡ true → right_words c (before ++ word ∷ []) words ≡ Ok found → list_all (is_operand c) found ≡ true) → (t : Bool) → may_follow c before word ≡ t
          → cond t (right_words c (before ++ word ∷ []) words) (Err (length before + 2)) ≡ Ok found → list_all (is_operand c) found ≡ true
      by_word deep true is e = deep is e
      by_word deep false is e = absurd cc

-- the jobs of the commands with such an operand are those that take a form
job_names : (c : Command) (words : List (List ℕ)) (job : JobData) → job_for c words ≡ Some job → takes_form job ≡ names_form c
job_names command.Solve words job e = sym (ap takes_form (same_Some _ _ e))
job_names command.Reduced words job e = sym (ap takes_form (same_Some _ _ e))
job_names command.Rotations words job e = sym (ap takes_form (same_Some _ _ e))
job_names command.List words job e = sym (ap takes_form (same_Some _ _ e))
job_names command.Pairs words job e = sym (ap takes_form (same_Some _ _ e))
job_names command.Regret words job e = sym (ap takes_form (same_Some _ _ e))
job_names command.Weight words job e = let of_by = mapped Weight (value_given (codes "by") (look_up measures) words) job e in sym (ap takes_form of_by.gives)
job_names command.Meet words job e = sym (ap takes_form (same_Some _ _ e))
job_names command.Join words job e = sym (ap takes_form (same_Some _ _ e))
job_names command.Survey words job e = sym (ap takes_form (same_Some _ _ e))
job_names command.Check words job e = sym (ap takes_form (same_Some _ _ e))
job_names command.Make words job e =
    let show = unwrap_or (value_given (codes "show") (look_up shows) words) usual_show in
    let size = value_given (codes "size") size_named words in
    let seed = value_given (codes "seed") seed_named words in
    let of_shape = chained (λ shape. option_and_then (λ size. option_map (λ seed. Make shape size seed show) seed) size) (value_given (codes "shape") (look_up shapes) words) job e in
    let of_size = chained (λ size. option_map (λ seed. Make of_shape.from size seed show) seed) size job of_shape.gives in
    let of_seed = mapped (λ seed. Make of_shape.from of_size.from seed show) seed job of_size.gives in
    sym (ap takes_form of_seed.gives)
job_names command.Rest words job e = sym (ap takes_form (same_Some _ _ e))
job_names command.Median words job e = sym (ap takes_form (same_Some _ _ e))
job_names command.Route words job e = sym (ap takes_form (same_Some _ _ e))
job_names command.Export words job e = sym (ap takes_form (same_Some _ _ e))

-- so a job that takes no form has the usual one
asked_in_form : (c : Command) (operands : List (List ℕ)) (found : JobData × Form) → asked c operands ≡ Ok found → IsFormFor found.0 found.1
asked_in_form c operands found e none =
    let from = asked_from c operands found e in
    let unknown = not_some (look_up (operands_of c) (codes "form")) (sym (job_names c from.given found.0 from.job) ∙ none) in
    let left = given_none c (codes "form") unknown from.given (right_are c [] operands from.given refl from.read) in
    from.form ∙ ap (λ text. unwrap_or (option_and_then (look_up forms) text) usual_form) left

-- and one that was read has it
pub read_in_form : (c : Command) (operands : List (List ℕ)) (r : Result (Job × Form) WordsFault) → IfOk r (λ found. asked c operands ≡ Ok (asked_of found)) → IfOk r (λ found. IsFormFor (job_of found.0) found.1)
read_in_form c operands (Ok found) e = asked_in_form c operands (asked_of found) e
read_in_form c operands (Err fault) e = tt
