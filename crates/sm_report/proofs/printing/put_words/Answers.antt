use Rattle.std.proofs.Common.{map}
use Rattle.sm_report.specs.Fields.{text_of_field}
use Rattle.sm_report.proofs.PutLemmas.{words_put}
use Rattle.sm_report.proofs.printing.put_words.Goals as goal

pub returns : goal.returns
returns c = words_put c.args.word.now (map (text_of_field c.args.input.now) c.args.fields.now) _ c.in_ok-put_bytes.ensures c.put_fields.ensures
