-- Steps have numbers that lines can have.
use Rattle.std.proofs.Common.{◌≡◌, ℕ, zero, suc, ◌+◌, ◌<◌, ◌≤◌, ◌^◌, if◌then◌else◌, Bool, true, false, List, [], ◌∷◌, ◌++◌, subst, sym, arith}
use Rattle.std.specs.List.{All}
use Rattle.std.proofs.lemmas.List.Elements.{All-nil, All-cons, All-push, All-append, All-map}
use Rattle.std.proofs.Common.{map}
use Rattle.sm_agents.specs.Written.{Written}
use Rattle.sm_instance.specs.declared.inputs.Input.TheVariants.{Two}
use Rattle.sm_report.specs.Sound.{IsLineOf, IsRotation}
use Rattle.sm_theory.specs.Routes.{is_only_in, steps_back, steps_forth, steps_between}
use Rattle.sm_theory.specs.declared.step.Step.{Step}
use Rattle.sm_theory.specs.declared.step.Step.TheVariants.{Back, Forth}
use Rattle.sm_answer_route.specs.RouteAnswer.{step_line, IsStepNumbered}

in_front : (wanted : Bool) (step : Step) (steps : List Step) → IsStepNumbered step → All IsStepNumbered steps → All IsStepNumbered (if wanted then step ∷ steps else steps)
in_front true step steps one all = All-cons IsStepNumbered step steps one all
in_front false step steps one all = all

behind : (wanted : Bool) (step : Step) (steps : List Step) → IsStepNumbered step → All IsStepNumbered steps → All IsStepNumbered (if wanted then steps ++ step ∷ [] else steps)
behind true step steps one all = All-push IsStepNumbered steps step all one
behind false step steps one all = all

number : (k : ℕ) → k < 2 ^ 24 → IsRotation (k + 1)
number k few = record { least = omega arith; greatest = omega (arith, few) }

back_numbered : (left right : List Bool) (n : ℕ) → n ≤ 2 ^ 24 → All IsStepNumbered (steps_back left right n)
back_numbered left right zero few = All-nil IsStepNumbered
back_numbered left right (suc n) few = in_front (is_only_in left right n) (Back n) (steps_back left right n) (omega (arith, few)) (back_numbered left right n (omega (arith, few)))

forth_numbered : (left right : List Bool) (n : ℕ) → n ≤ 2 ^ 24 → All IsStepNumbered (steps_forth left right n)
forth_numbered left right zero few = All-nil IsStepNumbered
forth_numbered left right (suc n) few = behind (is_only_in right left n) (Forth n) (steps_forth left right n) (omega (arith, few)) (forth_numbered left right n (omega (arith, few)))

-- of few rotations
pub steps_numbered : (left right : List Bool) (n : ℕ) (steps : List Step) → n < 2 ^ 24 → steps ≡ steps_between left right n → All IsStepNumbered steps
steps_numbered left right n steps few is =
    subst (All IsStepNumbered) (sym is) (All-append IsStepNumbered (steps_back left right n) (steps_forth left right n) (back_numbered left right n (omega (arith, few))) (forth_numbered left right n (omega (arith, few))))

step_sound : (w : Written) (step : Step) → IsStepNumbered step → IsLineOf (Two w) (step_line step)
step_sound w (Back k) small = record { printable = tt; seats = λ i d l. absurd (omega (arith, l)); numbers = number k small; head = tt }
step_sound w (Forth k) small = record { printable = tt; seats = λ i d l. absurd (omega (arith, l)); numbers = number k small; head = tt }

-- and their lines are lines of the instance
pub steps_sound : (w : Written) (steps : List Step) → All IsStepNumbered steps → All (IsLineOf (Two w)) (map step_line steps)
steps_sound w steps numbered = All-map (IsLineOf (Two w)) step_line steps (λ k d l. step_sound w _ (numbered k d l))
