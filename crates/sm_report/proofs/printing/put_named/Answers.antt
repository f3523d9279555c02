use Rattle.std.proofs.Common.{◌∷◌, [], refl, sym, append-nil, ◌∙◌}
use Rattle.sm_report.specs.Texts.{left_name, right_name}
use Rattle.sm_report.specs.Fields.{spaced}
use Rattle.sm_report.proofs.PutLemmas.{words_put, joined_is_spaced, puts_front, puts_broken, puts_same}
use Rattle.sm_report.proofs.printing.put_named.Goals as goal

pub returns-in_err-put_bytes : goal.returns-in_err-put_bytes
returns-in_err-put_bytes c =
    let input = c.args.input.now in
    let word = c.args.word.now in
    let names = left_name input c.args.p ∷ right_name input c.args.r ∷ [] in
    let e = c.in_err-put_bytes.field-0.0 in
    let part = c.in_err-put_bytes.ensures in
    puts_broken e _ c.from_residual.ensures.0 (puts_same (sym (joined_is_spaced word names)) (puts_front {xs = word} (spaced names) e
    (record { ok = tt; err = record { front = []; rest = word; held = part.err ∙ sym (append-nil c.args.into.now.bytes); whole = refl }; fits = part.fits; room = part.room })))

pub returns : goal.returns
returns c =
    let input = c.args.input.now in
    words_put c.args.word.now (left_name input c.args.p ∷ right_name input c.args.r ∷ []) _ c.in_ok-put_bytes.ensures c.put_names.ensures
