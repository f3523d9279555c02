use Rattle.std.proofs.Common.{sym, ap, ◌∙◌, cond, ◌||◌, false}
use Rattle.sm_instance_lines.proofs.FormatLemmas.{ordered_format, format_is}
use Rattle.sm_instance_lines.proofs.formats.two_format.Goals as goal

pub returns-then-has_own_order : goal.returns-then-has_own_order
returns-then-has_own_order c = ordered_format c.args.instance.now (sym c.if-has_own_order.true ∙ c.has_own_order.ensures.own)

pub returns-then-has_seconds : goal.returns-then-has_seconds
returns-then-has_seconds c =
    let own = c.has_own_order.result in
    let second = c.has_seconds.result in
    ap (λ s. cond (false || s) 2 1) (sym c.if-has_seconds.true) ∙ ap (λ t. cond (t || second) 2 1) (sym c.if-has_own_order.false)
    ∙ format_is c.args.instance.now c.has_own_order.ensures.instance own second c.has_own_order.ensures.own c.has_seconds.ensures

pub returns-else-has_seconds : goal.returns-else-has_seconds
returns-else-has_seconds c =
    let own = c.has_own_order.result in
    let second = c.has_seconds.result in
    ap (λ s. cond (false || s) 2 1) (sym c.if-has_seconds.false) ∙ ap (λ t. cond (t || second) 2 1) (sym c.if-has_own_order.false)
    ∙ format_is c.args.instance.now c.has_own_order.ensures.instance own second c.has_own_order.ensures.own c.has_seconds.ensures
