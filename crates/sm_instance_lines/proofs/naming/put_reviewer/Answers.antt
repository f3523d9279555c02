use Rattle.std.proofs.Common.{◌++◌, codes, map, ap, ◌∙◌, Ok}
use Rattle.sm_agents.specs.Vectors.{agents_of}
use Rattle.sm_report.proofs.PutLemmas.{puts_then, puts_same}
use Rattle.sm_instance_lines.specs.Names.{name_of}
use Rattle.sm_instance_lines.specs.Printed.{capacity_text, list_text}
use Rattle.sm_instance_lines.proofs.PieceLemmas.{one_piece, later_stops}
use Rattle.sm_instance_lines.proofs.naming.put_reviewer.Goals as goal

pub returns-in_err-put_capacity : goal.returns-in_err-put_capacity
returns-in_err-put_capacity c =
    let agent = c.args.agent.now in
    let list = list_text (map (name_of (agents_of c.args.others.now)) agent.entries.items) in
    later_stops list c.in_err-put_capacity.field-0.0 _ c.from_residual-in_err-put_capacity.ensures.0
    (ap (λ t. codes "r " ++ t ++ capacity_text c.args.kind agent.capacity ++ list) c.deref.ensures.value)
    (puts_then (Ok tt) (one_piece (Ok tt) c.in_ok-put_bytes.ensures) (one_piece (Ok tt) c.in_ok-put_bytes-2.ensures))
    c.in_err-put_capacity.ensures

pub returns : goal.returns
returns c =
    let kind = c.args.kind in
    let agent = c.args.agent.now in
    let names = name_of (agents_of c.args.others.now) in
    puts_same
    (ap (λ t. codes "r " ++ t ++ capacity_text kind agent.capacity ++ list_text (map names c.deref-2.result.now)) c.deref.ensures.value
    ∙ ap (λ t. codes "r " ++ agent.name.items ++ capacity_text kind agent.capacity ++ list_text (map names t)) c.deref-2.ensures.value)
    (puts_then _
    (puts_then (Ok tt) (puts_then (Ok tt) (one_piece (Ok tt) c.in_ok-put_bytes.ensures) (one_piece (Ok tt) c.in_ok-put_bytes-2.ensures)) c.in_ok-put_capacity.ensures)
    c.put_list.ensures)
