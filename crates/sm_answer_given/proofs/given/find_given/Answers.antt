use Rattle.std.proofs.Common.{ap, length, ◌+◌, ◌∙◌, ◌≡◌, subst, arith}
use Rattle.sm_text.specs.Lines.{texts_from}
use Rattle.sm_instance.specs.declared.inputs.Input.{Input}
use Rattle.sm_agents.proofs.FaultLemmas.{on_err}
use Rattle.sm_answer_given.specs.declared.faults.Which.TheVariants.{Left, Right}
use Rattle.sm_answer_given.specs.GivenText.{AreGiven}
use Rattle.sm_holding.specs.Held.{places_in, CanHold}
use Rattle.sm_answer_given.specs.Refusing.{IsHoldFault}
use Rattle.sm_answer_given.specs.Refusing.{IsGivenFault, IsBlocking}
use Rattle.sm_answer_given.proofs.GivenLemmas.{right_breach, left_blocked, right_blocked}
use Rattle.sm_answer_given.proofs.given.find_given.Goals as goal

pub returns-in_err-right-clause-fault : goal.returns-in_err-right-clause-fault
returns-in_err-right-clause-fault c =
    let w = c.args.instance.now in
    let texts = texts_from c.args.bytes.now c.args.from in
    let left = c.in_ok-pairs.pairs.left.items in
    let right = c.in_ok-pairs.pairs.right.items in
    let left_len : c.len.result ≡ length left = omega (arith, c.len.ensures) in
    let fault = c.in_err-right.field-0.0 in
    on_err (IsGivenFault w texts c.args.first_line) fault c.from_residual-in_err-right.result c.from_residual-in_err-right.ensures.1
    (right_breach w texts c.args.first_line left right (subst (λ (i : Input). AreGiven i texts left right) c.requires.input c.in_ok-pairs.ensures.given) fault
    (subst (CanHold w) c.deref.ensures.value c.in_ok-left.ensures.can_hold)
    (subst (λ n. IsHoldFault w right Right (c.args.first_line + n) fault) left_len (rw c.deref-2.ensures.value at c.in_err-right.ensures.fault)))

pub returns-in_err-check_stable-clause-fault : goal.returns-in_err-check_stable-clause-fault
returns-in_err-check_stable-clause-fault c =
    let w = c.args.instance.now in
    let texts = texts_from c.args.bytes.now c.args.from in
    let left = c.in_ok-pairs.pairs.left.items in
    let right = c.in_ok-pairs.pairs.right.items in
    let left_len : c.len.result ≡ length left = omega (arith, c.len.ensures) in
    let right_len : c.len-2.result ≡ length right = omega (arith, c.len-2.ensures) in
    let fault = c.in_err-check_stable.field-0.0 in
    on_err (IsGivenFault w texts c.args.first_line) fault c.from_residual-in_err-check_stable.result c.from_residual-in_err-check_stable.ensures.1
    (left_blocked w texts c.args.first_line left right (subst (λ (i : Input). AreGiven i texts left right) c.requires.input c.in_ok-pairs.ensures.given) fault
    c.in_ok-left.left.matching.places.items
    (c.in_ok-left.ensures.held ∙ ap (places_in w) c.deref.ensures.value)
    (subst (CanHold w) c.deref.ensures.value c.in_ok-left.ensures.can_hold)
    (subst (CanHold w) c.deref-2.ensures.value c.in_ok-right.ensures.can_hold)
    (subst (λ n. IsBlocking w c.in_ok-left.left.matching.places.items Left (c.args.first_line + length left + n) fault) right_len
    (subst (λ n. IsBlocking w c.in_ok-left.left.matching.places.items Left (c.args.first_line + n + c.len-2.result) fault) left_len c.in_err-check_stable.ensures.blocked)))

pub returns-in_err-check_stable-2-clause-fault : goal.returns-in_err-check_stable-2-clause-fault
returns-in_err-check_stable-2-clause-fault c =
    let w = c.args.instance.now in
    let texts = texts_from c.args.bytes.now c.args.from in
    let left = c.in_ok-pairs.pairs.left.items in
    let right = c.in_ok-pairs.pairs.right.items in
    let left_len : c.len.result ≡ length left = omega (arith, c.len.ensures) in
    let right_len : c.len-2.result ≡ length right = omega (arith, c.len-2.ensures) in
    let fault = c.in_err-check_stable-2.field-0.0 in
    on_err (IsGivenFault w texts c.args.first_line) fault c.from_residual-in_err-check_stable-2.result c.from_residual-in_err-check_stable-2.ensures.1
    (right_blocked w texts c.args.first_line left right (subst (λ (i : Input). AreGiven i texts left right) c.requires.input c.in_ok-pairs.ensures.given) fault
    c.in_ok-left.left.matching.places.items c.in_ok-right.right.matching.places.items
    (c.in_ok-left.ensures.held ∙ ap (places_in w) c.deref.ensures.value)
    (c.in_ok-right.ensures.held ∙ ap (places_in w) c.deref-2.ensures.value)
    (subst (CanHold w) c.deref.ensures.value c.in_ok-left.ensures.can_hold)
    (subst (CanHold w) c.deref-2.ensures.value c.in_ok-right.ensures.can_hold)
    c.in_ok-check_stable.ensures.stable
    (subst (λ n. IsBlocking w c.in_ok-right.right.matching.places.items Right (c.args.first_line + length left + n) fault) right_len
    (subst (λ n. IsBlocking w c.in_ok-right.right.matching.places.items Right (c.args.first_line + n + c.len-2.result) fault) left_len c.in_err-check_stable-2.ensures.blocked)))
