use Rattle.std.proofs.Common.{◌++◌, ◌∷◌, [], refl, sym, ap, append-nil}
use Rattle.sm_report.specs.Texts.{left_name, right_name}
use Rattle.sm_report.proofs.PutLemmas.{puts_then, puts_front, puts_broken, puts_same}
use Rattle.sm_report.proofs.printing.put_names.Goals as goal

pub returns-in_err-put_field : goal.returns-in_err-put_field
returns-in_err-put_field c =
    let input = c.args.input.now in
    let e = c.in_err-put_field.field-0.0 in
    puts_broken e _ c.from_residual.ensures.0 (puts_front {xs = 32 ∷ left_name input c.args.p} (32 ∷ right_name input c.args.r ++ []) e c.in_err-put_field.ensures)

pub returns : goal.returns
returns c =
    let input = c.args.input.now in
    let first = c.in_ok-put_field.ensures in
    puts_same (ap (λ t. (32 ∷ left_name input c.args.p) ++ 32 ∷ t) (sym (append-nil (right_name input c.args.r))))
    (puts_then _ (record { ok = first.ok; err = tt; fits = λ _. refl; room = first.room }) c.put_field-2.ensures)
