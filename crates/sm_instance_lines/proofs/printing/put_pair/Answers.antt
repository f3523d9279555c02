use Rattle.std.proofs.Common.{◌++◌, codes, refl, sym, ap, ◌∙◌, append_assoc, Ok}
use Rattle.sm_instance.specs.Inputs.{left_of, right_of}
use Rattle.sm_report.proofs.PutLemmas.{puts_then}
use Rattle.sm_instance_lines.specs.Names.{name_of, said_pair}
use Rattle.sm_instance_lines.specs.Printed.{pair_text}
use Rattle.sm_instance_lines.proofs.PieceLemmas.{one_piece, first_stops, later_stops}
use Rattle.sm_instance_lines.proofs.printing.put_pair.Goals as goal

pub returns-in_err-put_bytes : goal.returns-in_err-put_bytes
returns-in_err-put_bytes c =
    let input = c.args.input.now in
    first_stops (pair_text (said_pair (left_of input) (right_of input) (c.args.p, c.args.r))) c.in_err-put_bytes.field-0.0 _ c.from_residual.ensures.0 refl
    (one_piece _ c.in_err-put_bytes.ensures)

pub returns-in_err-put_bytes-3 : goal.returns-in_err-put_bytes-3
returns-in_err-put_bytes-3 c =
    let word = c.args.word.now in
    let left = c.left_name.result.now in
    let right = name_of (right_of c.args.input.now) c.args.r in
    later_stops right c.in_err-put_bytes-3.field-0.0 _ c.from_residual-in_err-put_bytes-3.ensures.0
    (append_assoc (word ++ left) (codes " ") right ∙ append_assoc word left (codes " " ++ right)
    ∙ ap (λ t. word ++ t) (sym (append_assoc left (codes " ") right)) ∙ ap (λ t. word ++ (t ++ codes " " ++ right)) c.left_name.ensures)
    (puts_then (Ok tt) (one_piece (Ok tt) c.in_ok-put_bytes.ensures) (one_piece (Ok tt) c.in_ok-put_bytes-2.ensures))
    (one_piece _ c.in_err-put_bytes-3.ensures)
