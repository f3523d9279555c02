use Rattle.std.proofs.Common.{subst, ap, ◌∙◌, ◌∷◌, decimal}
use Rattle.std.proofs.lemmas.Int.{to_z-of_z}
use Rattle.sm_text.specs.Writer.{PutsPiece}
use Rattle.sm_text.proofs.DigitLemmas.{signed_text, signed_below}
use Rattle.sm_text.proofs.writer.LineWriter.put_signed.Goals as goal

pub returns : goal.returns
returns c =
    let fits = c.ranges.value in
    let below = simp to_z-of_z at c.if-value-ge0.false in
    let size = simp to_z-of_z at c.unsigned_abs.ensures.value in
    let text = signed_text c.write_digits-start.new.digits (decimal c.unsigned_abs.result) c.write_digits-start.result c.write_digits-start.auto.digits c.write_digits-start.ensures.within c.write_digits-start.ensures.written in
    subst (λ t. PutsPiece c.args.self.now c.put_bytes-2.new.self t c.put_bytes-2.result)
    (text ∙ ap (λ n. 45 ∷ decimal n) size ∙ signed_below c.args.value below)
    c.put_bytes-2.ensures
