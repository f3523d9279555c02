use Rattle.std.proofs.Common.{◌∷◌, codes, decimal, refl, sym, ap, ◌∙◌, append_assoc}
use Rattle.sm_report.specs.Texts.{right_name, seat_text_in}
use Rattle.sm_report.proofs.PutLemmas.{puts_then, puts_same}
use Rattle.sm_report.proofs.fields.put_seat.Goals as goal

pub returns-in-Hospitals : goal.returns-in-Hospitals
returns-in-Hospitals c =
    let input = c.args.input.now in
    let seat = c.args.seat in
    let name = right_name input seat.reviewer in
    let first = c.in_ok-put_right_name.ensures in
    puts_same (ap (λ t. 32 ∷ t) (sym (append_assoc name (codes "/") (decimal seat.number)))
    ∙ ap (λ kind. 32 ∷ seat_text_in kind name seat.number) c.in-Hospitals.ensures.kind)
    (puts_then _ (record { ok = first.ok; err = tt; fits = λ _. refl; room = first.room }) c.put_seat_number.ensures)
