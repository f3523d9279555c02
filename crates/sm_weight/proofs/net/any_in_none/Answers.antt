use Rattle.std.proofs.Common.{suc, sym, ◌∙◌, eq-eqb, length}
use Rattle.std.proofs.lemmas.Bool.{or_left}
use Rattle.sm_market.specs.Vectors.{rows_of}
use Rattle.sm_theory.specs.Conditions.{forces}
use Rattle.sm_weight.proofs.NetLemmas.{any_at}
use Rattle.sm_weight.proofs.net.any_in_none.Goals as goal

pub returns-then-span_of-sink : goal.returns-then-span_of-sink
returns-then-span_of-sink c =
    sym (any_at (λ x. forces c.args.poset.now.lists (rows_of c.args.levels.now) c.args.poset.now.first.places c.args.poset.now.rotations x 0 (suc (length c.args.poset.now.rotations))) c.args.pairs.now c.loop-p.p-index (0, 0) c.loop-p-test.true
    (or_left _ _ (eq-eqb _ _ (sym c.sink-sink.ensures.sink ∙ sym c.if-span_of-sink.true ∙ c.span_of.ensures.entry))))
