use Rattle.std.proofs.Common.{◌∙◌, sym, ap}
use Rattle.std.specs.List.{list_all}
use Rattle.std.proofs.lemmas.List.Folds.{list_all-map}
use Rattle.sm_report.specs.Lines.{line_of}
use Rattle.sm_check_forms.specs.Seats.{is_seat, pair_has_seat}
use Rattle.sm_check_forms.specs.Forms.{fits_two}
use Rattle.sm_check_forms.proofs.forms.fits_two.Goals as goal

pub returns-in-Rotation : goal.returns-in-Rotation
returns-in-Rotation c =
    let w = c.args.instance.now in
    c.have_seats.ensures ∙ ap (list_all (pair_has_seat w)) c.deref-in-Rotation.ensures.value
    ∙ sym (list_all-map (is_seat w) (λ pair. pair.1) c.in-Rotation.pairs.items) ∙ ap (λ line. fits_two w (line_of line)) (sym c.in-Rotation.is)
