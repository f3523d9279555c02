-- Steps that are put behind one another.
use Rattle.std.proofs.Common.{◌≡◌, ℕ, suc, ◌+◌, ◌-◌, ◌<◌, Bool, true, false, if◌then◌else◌, List, [], ◌∷◌, ◌++◌, arith, refl, sym, ap, ◌∙◌}
use Rattle.std.proofs.lemmas.List.{append_assoc}
use Rattle.sm_theory.specs.declared.step.Step.{Step}
use Rattle.sm_theory.specs.declared.step.Step.TheVariants.{Back}
use Rattle.sm_theory.specs.Routes.{is_only_in, steps_back}

-- one more rotation is looked at, from the highest on
pub back_step : (left right : List Bool) (n taken : ℕ) (steps after whole : List Step) → taken < n
    → steps ++ steps_back left right (n - taken) ≡ whole
    → after ≡ (if is_only_in left right (n - 1 - taken) then steps ++ Back (n - 1 - taken) ∷ [] else steps)
    → after ++ steps_back left right (n - (taken + 1)) ≡ whole
back_step left right n taken steps after whole less so_far one =
    let here : n - taken ≡ suc (n - 1 - taken) = omega arith in
    let below : n - (taken + 1) ≡ n - 1 - taken = omega arith in
    let before : steps ++ steps_back left right (suc (n - 1 - taken)) ≡ whole = rw here at so_far in
    rw below (go (n - 1 - taken) before one)
  where
    go : (k : ℕ) → steps ++ steps_back left right (suc k) ≡ whole → after ≡ (if is_only_in left right k then steps ++ Back k ∷ [] else steps) → after ++ steps_back left right k ≡ whole
    go k before one = by (is_only_in left right k) refl
      where
        by : (b : Bool) → is_only_in left right k ≡ b → after ++ steps_back left right k ≡ whole
        by true e =
            let now : after ≡ steps ++ Back k ∷ [] = one ∙ ap (λ b. if b then steps ++ Back k ∷ [] else steps) e in
            let old : steps ++ (Back k ∷ steps_back left right k) ≡ whole = sym (ap (λ b. steps ++ (if b then Back k ∷ steps_back left right k else steps_back left right k)) e) ∙ before in
            ap (λ xs. xs ++ steps_back left right k) now ∙ append_assoc steps (Back k ∷ []) (steps_back left right k) ∙ old
        by false e =
            let now : after ≡ steps = one ∙ ap (λ b. if b then steps ++ Back k ∷ [] else steps) e in
            let old : steps ++ steps_back left right k ≡ whole = sym (ap (λ b. steps ++ (if b then Back k ∷ steps_back left right k else steps_back left right k)) e) ∙ before in
            ap (λ xs. xs ++ steps_back left right k) now ∙ old
