-- What is said of a matching that isn't stable is plain.
use Rattle.std.proofs.Common.{◌≡◌, ℕ, true, [], ◌∷◌, refl}
use Rattle.std.proofs.lemmas.Bool.{and_from}
use Rattle.sm_text.specs.Plain.{is_plain, is_plain_byte}
use Rattle.sm_instance.specs.Inputs.{IsInput}
use Rattle.sm_instance.specs.declared.inputs.Input.{Input}
use Rattle.sm_instance.specs.declared.inputs.Input.TheVariants.{Two, Room}
use Rattle.sm_report.specs.Texts.{left_name, right_name}
use Rattle.sm_instance_lines.proofs.PlainLemmas.{name_of_plain}
use Rattle.sm_answer_given.specs.declared.faults.Which.{Which}
use Rattle.sm_answer_given.specs.declared.faults.Which.TheVariants.{Left, Right}
use Rattle.sm_answer_given.specs.declared.faults.Flaw.{Flaw}
use Rattle.sm_answer_given.specs.declared.faults.Flaw.TheVariants.{Breach, Blocks}
use Rattle.sm_answer_given.specs.declared.faults.Unstable.{Unstable}
use Rattle.sm_serve.specs.Texts.{are_plain}
use Rattle.sm_top.specs.Outcome.{which_name, flaw_name, unstable_fields}

which_plain : (which : Which) → is_plain (which_name which) ≡ true
unfolding is_plain_byte
which_plain Left = refl
which_plain Right = refl

flaw_plain : (flaw : Flaw) → is_plain (flaw_name flaw) ≡ true
unfolding is_plain_byte
flaw_plain Breach = refl
flaw_plain Blocks = refl

left_plain : (input : Input) → IsInput input → (p : ℕ) → is_plain (left_name input p) ≡ true
left_plain (Two w) i p = name_of_plain w.proposers true i.proposers p
left_plain (Room persons) i p = name_of_plain persons true i.agents p

right_plain : (input : Input) → IsInput input → (r : ℕ) → is_plain (right_name input r) ≡ true
right_plain (Two w) i r = name_of_plain w.reviewers _ i.reviewers r
right_plain (Room persons) i r = name_of_plain persons true i.agents r

-- the fields that tell of a matching that isn't stable are plain
pub unstable_plain : (input : Input) → IsInput input → (u : Unstable) → are_plain (unstable_fields input u) ≡ true
unstable_plain input i u =
    and_from (is_plain (which_name u.which)) (are_plain (flaw_name u.flaw ∷ left_name input u.proposer ∷ right_name input u.reviewer ∷ [])) (which_plain u.which)
    (and_from (is_plain (flaw_name u.flaw)) (are_plain (left_name input u.proposer ∷ right_name input u.reviewer ∷ [])) (flaw_plain u.flaw)
    (and_from (is_plain (left_name input u.proposer)) (are_plain (right_name input u.reviewer ∷ [])) (left_plain input i u.proposer)
    (and_from (is_plain (right_name input u.reviewer)) true (right_plain input i u.reviewer) refl)))
