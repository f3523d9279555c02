use Rattle.std.proofs.Common.{◌++◌, codes}
use Rattle.std.proofs.lemmas.Int.{to_z-of_z}
use Rattle.std.specs.Fmt.{signed_decimal}
use Rattle.sm_instance.specs.Inputs.{left_of, right_of}
use Rattle.sm_report.proofs.PutLemmas.{puts_then, puts_same}
use Rattle.sm_instance_lines.specs.Names.{said_pair}
use Rattle.sm_instance_lines.specs.Printed.{pair_text, second_text}
use Rattle.sm_instance_lines.proofs.PieceLemmas.{first_stops, three_behind}
use Rattle.sm_instance_lines.proofs.printing.put_weight.Goals as goal

pub returns-in_err-put_pair : goal.returns-in_err-put_pair
returns-in_err-put_pair c =
    let input = c.args.input.now in
    let pair = codes "weight " ++ pair_text (said_pair (left_of input) (right_of input) (c.args.p, c.args.r)) in
    first_stops (codes " " ++ signed_decimal c.args.weight ++ second_text c.args.second) c.in_err-put_pair.field-0.0 _ c.from_residual.ensures.0
    (three_behind pair (codes " ") (signed_decimal c.args.weight) (second_text c.args.second)) c.in_err-put_pair.ensures

pub returns : goal.returns
returns c =
    let input = c.args.input.now in
    let pair = codes "weight " ++ pair_text (said_pair (left_of input) (right_of input) (c.args.p, c.args.r)) in
    let fits = c.ranges.weight in
    let further = c.ranges.second in
    let here = simp to_z-of_z at c.put_weights.ensures in
    puts_same (three_behind pair (codes " ") (signed_decimal c.args.weight) (second_text c.args.second)) (puts_then _ c.in_ok-put_pair.ensures here)
