use Rattle.std.proofs.Common.{refl}
use Rattle.sm_serve.proofs.WritingLemmas.{put_whole, put_failed}
use Rattle.sm_serve.proofs.writing.put_line.Goals as goal

pub returns-in-Done : goal.returns-in-Done
returns-in-Done g c line is = put_whole line c.args.text.now _ _ _ _ is c.in-Done.ensures.taken c.put.ensures.later

pub returns-in-Failed : goal.returns-in-Failed
returns-in-Failed g c line is = put_failed line c.args.text.now _ _ _ _ is c.in-Failed.ensures.taken (c.in-Failed.ensures.failed refl) c.in-Failed.ensures.later
