use Rattle.std.proofs.Common.{◌≡◌, None, sym, subst}
use Rattle.sm_instance.specs.declared.inputs.Input.{Input}
use Rattle.sm_serve.specs.Refusals.{too_many_in}
use Rattle.sm_top.proofs.MadeLemmas.{made_has_few_seats}
use Rattle.sm_top.proofs.RunLemmas.{served_made}
use Rattle.sm_top.proofs.running.serve.Goals as goal

pub returns-in_ok-input-in-Make-clause-served : goal.returns-in_ok-input-in-Make-clause-served
returns-in_ok-input-in-Make-clause-served g c =
    let make = c.in-Make in
    let formed = rw make.is at c.requires.form in
    rw make.is (served_made _ make.shape make.size make.seed make.is_summary c.args.form c.in_ok-input-in-Make.input g.S.Source.left g.S.Source.faults g.K.Sink.held g.K.Sink.faults c.args.source.now _ _ c.show_made.result formed c.in_ok-input-in-Make.ensures c.show_made.ensures.leaves c.show_made.ensures.stop)

pub show_made-requires : goal.show_made-requires
show_made-requires g c =
    let make = c.in-Make in
    let bounds = rw make.is at c.requires.bounds in
    record { few = subst (λ (i : Input). too_many_in i ≡ None) (sym c.in_ok-input-in-Make.ensures) (made_has_few_seats make.shape make.size make.seed bounds.1) }
