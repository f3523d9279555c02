use Rattle.std.proofs.Common.{arith}
use Rattle.sm_top.proofs.GivenLemmas.{no_json, long_json}
use Rattle.sm_top.proofs.giving.text_of_json.Goals as goal

pub returns-then-len-gt-MOST_BYTES-clause-stop : goal.returns-then-len-gt-MOST_BYTES-clause-stop
returns-then-len-gt-MOST_BYTES-clause-stop c = long_json c.args.bytes.now c.in-Ok.text.items c.requires c.in-Ok.ensures (omega (arith, c.if-len-gt-MOST_BYTES.true, c.len.ensures, c.in-Ok.text.ok.0))

pub returns-in-Err-BadJson-clause-stop : goal.returns-in-Err-BadJson-clause-stop
returns-in-Err-BadJson-clause-stop c = no_json c.args.bytes.now c.requires (rw c.in-Err-BadJson.field-0-is at c.in-Err-BadJson.ensures)
