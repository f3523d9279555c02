use Rattle.std.proofs.Common.{sym}
use Rattle.sm_reader.specs.InstanceText.{read_of}
use Rattle.sm_trim_top.proofs.TakingLemmas.{behind_untaken, two_taken, kind_untaken}
use Rattle.sm_trim_top.proofs.trimming.read_two.Goals as goal

pub returns-in-Some-clause-stop : goal.returns-in-Some-clause-stop
returns-in-Some-clause-stop c = behind_untaken c.args.bytes.now (read_of c.in-Ok.read) c.in-Some.line c.in-Ok.ensures.read (sym c.in-Some.ensures)

pub returns-in-None-clause-taken : goal.returns-in-None-clause-taken
returns-in-None-clause-taken c = two_taken c.args.bytes.now (read_of c.in-Ok.read) c.in-Ok.ensures.read (sym c.in-None.ensures) c.with_two_sides.result c.with_two_sides.ensures.two

pub returns-in-None-clause-stop : goal.returns-in-None-clause-stop
returns-in-None-clause-stop c = kind_untaken c.args.bytes.now (read_of c.in-Ok.read) c.in-Ok.ensures.read (sym c.in-None.ensures) c.with_two_sides.result c.with_two_sides.ensures.stop
