use Rattle.std.proofs.Common.{map, refl}
use Rattle.sm_report.specs.Fields.{text_of_field}
use Rattle.sm_report.specs.Items.{fields_of_items}
use Rattle.sm_report.proofs.PutLemmas.{line_put, line_broken}
use Rattle.sm_report.proofs.printing.put_list.Goals as goal

pub returns-in_err-put_words : goal.returns-in_err-put_words
returns-in_err-put_words c =
    let input = c.args.input.now in
    line_broken c.args.word.now (map (text_of_field input) c.args.fields.now) (fields_of_items input c.args.items)
    c.in_err-put_words.field-0.0 _ c.from_residual.ensures.0 refl c.in_err-put_words.ensures

pub returns : goal.returns
returns c =
    let input = c.args.input.now in
    line_put c.args.word.now (map (text_of_field input) c.args.fields.now) (fields_of_items input c.args.items) _
    refl c.in_ok-put_words.ensures c.put_items.ensures
