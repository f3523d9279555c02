use Rattle.std.proofs.Common.{◌++◌, codes, refl, ap, of_z, w64}
use Rattle.std.proofs.lemmas.Int.{to_z-of_z}
use Rattle.std.specs.Fmt.{signed_decimal}
use Rattle.sm_report.proofs.PutLemmas.{puts_then, puts_same}
use Rattle.sm_instance_lines.specs.Printed.{second_text}
use Rattle.sm_instance_lines.proofs.FormatLemmas.{second_written}
use Rattle.sm_instance_lines.proofs.PieceLemmas.{first_stops}
use Rattle.sm_instance_lines.proofs.printing.put_weights.Goals as goal

pub returns-in_err-put_spaced : goal.returns-in_err-put_spaced
returns-in_err-put_spaced c =
    let fits = c.ranges.weight in
    let here = simp to_z-of_z at c.in_err-put_spaced.ensures in
    first_stops (second_text c.args.second) c.in_err-put_spaced.field-0.0 _ c.from_residual.ensures.0 refl here

pub returns : goal.returns
returns c =
    let fits = c.ranges.weight in
    let further = c.ranges.second in
    let here = simp to_z-of_z at c.in_ok-put_spaced.ensures in
    let then = simp to_z-of_z at c.put_spaced-2.ensures in
    puts_same (ap (λ t. codes " " ++ signed_decimal c.args.weight ++ t) (second_written c.args.second (λ same. c.if-second-eq0.false (ap (of_z w64) same)))) (puts_then _ here then)
