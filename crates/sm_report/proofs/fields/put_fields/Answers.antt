use Rattle.std.proofs.Common.{[], ◌∷◌, sym}
use Rattle.sm_report.specs.Fields.{text_of_field}
use Rattle.sm_report.proofs.PutLemmas.{items_put, items_broken, spaced-map, shown_at}
use Rattle.sm_report.proofs.fields.put_fields.Goals as goal

pub put_field-requires : goal.put_field-requires
put_field-requires c = shown_at c.args.input.now c.args.fields.now c.loop-field.field-index _ c.loop-field-test.true c.requires

pub returns-in_err-put_field : goal.returns-in_err-put_field
returns-in_err-put_field c =
    let f = text_of_field c.args.input.now in
    items_broken [] (λ x. 32 ∷ f x) c.args.fields.now c.loop-field.field-index _ c.in_err-put_field.field-0.0 _ c.from_residual.ensures.0
    c.loop-field-test.true (sym (spaced-map f c.args.fields.now)) c.loop-field.invariant c.in_err-put_field.ensures

pub returns : goal.returns
returns c =
    let f = text_of_field c.args.input.now in
    items_put [] (λ x. 32 ∷ f x) c.args.fields.now c.loop-field.field-index c.loop-field-test.false (sym (spaced-map f c.args.fields.now))
    c.loop-field.invariant
