use Rattle.sm_report.proofs.ReadLemmas.{put_is_read}
use Rattle.sm_report.proofs.laws.what_was_put_is_read.Goals as goal

pub returns : goal.returns
returns c = put_is_read
