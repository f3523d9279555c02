use Rattle.std.proofs.Common.{[], ◌∷◌, sym}
use Rattle.sm_agents.specs.Vectors.{agents_of}
use Rattle.sm_report.proofs.PutLemmas.{items_put, items_broken, spaced-map}
use Rattle.sm_instance_lines.specs.Names.{name_of}
use Rattle.sm_instance_lines.proofs.naming.put_names.Goals as goal

pub returns-in_err-put_name : goal.returns-in_err-put_name
returns-in_err-put_name c =
    let name = name_of (agents_of c.args.others.now) in
    items_broken [] (λ a. 32 ∷ name a) c.args.list.now c.loop-a.a-index 0 c.in_err-put_name.field-0.0 _ c.from_residual.ensures.0
    c.loop-a-test.true (sym (spaced-map name c.args.list.now)) c.loop-a.invariant c.in_err-put_name.ensures

pub returns : goal.returns
returns c =
    let name = name_of (agents_of c.args.others.now) in
    items_put [] (λ a. 32 ∷ name a) c.args.list.now c.loop-a.a-index c.loop-a-test.false (sym (spaced-map name c.args.list.now)) c.loop-a.invariant
