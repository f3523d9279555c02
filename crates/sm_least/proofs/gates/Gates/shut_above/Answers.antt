use Rattle.std.proofs.Common.{◌≡◌, sym, ◌∙◌, subst}
use Rattle.std.specs.Vec.{with_items, vec_len}
use Rattle.sm_lists.proofs.ResultLemmas.{take-append_at_length}
use Rattle.sm_board.specs.Board.{Gates}
use Rattle.sm_least.specs.Steps.{rows_in}
use Rattle.sm_least.specs.Regrets.{AreOpenUpTo}
use Rattle.sm_least.proofs.gates.Gates.shut_above.Goals as goal

pub returns-clause-open : goal.returns-clause-open
returns-clause-open c =
    let until : (with_items c.self.inside.until c.cut.new.until).items ≡ c.cut.new.until =
    take-append_at_length (vec_len c.self.inside.until) c.cut.new.until _ (c.cut.ensures.until_each ∙ c.deref_mut-2.ensures.len) in
    let shut : (with_items c.self.inside.shut c.cut.new.shut).items ≡ c.cut.new.shut =
    take-append_at_length (vec_len c.self.inside.shut) c.cut.new.shut _ (c.cut.ensures.shut_each ∙ c.deref_mut.ensures.len) in
    let new : ◌≡◌ {A = Gates} (record { until = c.cut.new.until; shut = rows_in c.cut.new.shut }) (record { until = (with_items c.self.inside.until c.cut.new.until).items; shut = rows_in (with_items c.self.inside.shut c.cut.new.shut).items }) =
    (λ i. record { until = sym until i; shut = rows_in (sym shut i) }) in
    let old : ◌≡◌ {A = Gates} (record { until = c.deref_mut-2.result.now; shut = rows_in c.deref_mut.result.now }) (record { until = c.self.inside.until.items; shut = rows_in c.self.inside.shut.items }) =
    (λ i. record { until = c.deref_mut-2.ensures.value i; shut = rows_in (c.deref_mut.ensures.value i) }) in
    subst (λ (g : Gates). AreOpenUpTo c.args.board.now c.args.ranks.now c.args.bound c.args.self.now g) new
    (subst (λ (g : Gates). AreOpenUpTo c.args.board.now c.args.ranks.now c.args.bound g (record { until = c.cut.new.until; shut = rows_in c.cut.new.shut })) (old ∙ c.self.view_is) c.cut.ensures.open)
