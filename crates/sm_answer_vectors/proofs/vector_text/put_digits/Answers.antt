use Rattle.std.proofs.Common.{◌≡◌, ℕ, ◌+◌, ◌/◌, ◌%◌, ◌++◌, ◌∷◌, [], arith, ap, sym, ◌∙◌, decimal}
use Rattle.std.proofs.lemmas.Fmt.{decimal_digit, decimal_step}
use Rattle.std.proofs.lemmas.List.{append_assoc}
use Rattle.sm_answer_vectors.proofs.vector_text.put_digits.Goals as goal

pub returns-then-number-lt10 : goal.returns-then-number-lt10
returns-then-number-lt10 c = c.in_ok-push.ensures.items ∙ ap (λ t. c.args.text.now.items ++ t) (sym (decimal_digit c.args.number c.if-number-lt10.true))

pub returns-then-number-lt100 : goal.returns-then-number-lt100
returns-then-number-lt100 c =
    let n = c.args.number in
    let old = c.args.text.now.items in
    let first : decimal (n / 10) ≡ (48 + n / 10) ∷ [] = decimal_digit (n / 10) (omega (arith, c.if-number-lt100.true)) in
    let all : decimal n ≡ ((48 + n / 10) ∷ []) ++ (48 + n % 10) ∷ [] = decimal_step n (omega (arith, c.if-number-lt10.false)) (omega (arith, c.if-number-lt100.true)) ∙ ap (λ t. t ++ (48 + n % 10) ∷ []) first in
    c.in_ok-push-3.ensures.items ∙ ap (λ t. t ++ (48 + n % 10) ∷ []) c.in_ok-push-2.ensures.items
    ∙ append_assoc old ((48 + n / 10) ∷ []) ((48 + n % 10) ∷ []) ∙ ap (λ t. old ++ t) (sym all)
