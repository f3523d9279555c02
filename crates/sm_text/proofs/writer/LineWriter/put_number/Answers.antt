use Rattle.std.proofs.Common.{sym, subst}
use Rattle.std.proofs.lemmas.Fmt.{decimal_digit}
use Rattle.sm_text.specs.Writer.{PutsPiece}
use Rattle.sm_text.proofs.writer.LineWriter.put_number.Goals as goal

pub returns-then-value-lt10 : goal.returns-then-value-lt10
returns-then-value-lt10 c = subst (λ t. PutsPiece c.args.self.now c.put_byte.new.self t c.put_byte.result) (sym (decimal_digit c.args.value c.if-value-lt10.true)) c.put_byte.ensures
