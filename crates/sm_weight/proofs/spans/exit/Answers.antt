use Rattle.std.proofs.Common.{◌+◌, arith, sym, ap, ◌∙◌, subst, slice_index}
use Rattle.sm_weight.specs.Spans.{IsDivided}
use Rattle.sm_weight.proofs.SpanLemmas.{before_on_list, exit_never, exit_found, exit_not}
use Rattle.sm_weight.proofs.spans.exit.Goals as goal

pub bounds-levels-before : goal.bounds-levels-before
bounds-levels-before c = omega (arith, c.place_before-before.ensures, before_on_list c.args.stands c.moves_below-a.result c.requires.along c.requires.stands (omega (arith, c.if-a-moves.false, c.moves_below-a.ensures.few)))

pub returns-then-a-moves : goal.returns-then-a-moves
returns-then-a-moves c =
    exit_never c.args.stands c.requires.along c.requires.rises (subst (λ n. IsDivided c.args.levels.now c.args.moves.now (n + 1) c.moves_below-a.result) c.from.ensures c.moves_below-a.ensures) c.args.sink c.if-a-moves.true

pub returns-then-levels-before : goal.returns-then-levels-before
returns-then-levels-before c =
    exit_found c.args.stands c.requires.along c.requires.rises (subst (λ n. IsDivided c.args.levels.now c.args.moves.now (n + 1) c.moves_below-a.result) c.from.ensures c.moves_below-a.ensures) c.args.sink
    (omega (arith, c.if-a-moves.false, c.moves_below-a.ensures.few)) (ap (slice_index c.args.levels.now) (sym c.place_before-before.ensures) ∙ c.if-levels-before.true)

pub returns-else-levels-before : goal.returns-else-levels-before
returns-else-levels-before c =
    exit_not c.args.stands c.requires.along c.requires.rises (subst (λ n. IsDivided c.args.levels.now c.args.moves.now (n + 1) c.moves_below-a.result) c.from.ensures c.moves_below-a.ensures) c.args.sink
    (omega (arith, c.if-a-moves.false, c.moves_below-a.ensures.few)) (λ e. c.if-levels-before.false (ap (slice_index c.args.levels.now) c.place_before-before.ensures ∙ e))
