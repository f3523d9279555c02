use Rattle.std.proofs.Common.{subst}
use Rattle.sm_reader.specs.InstanceText.{read_of, IsTextFault}
use Rattle.sm_law_reprint.proofs.ExportLemmas.{not_refused, read_same, read_whole}
use Rattle.sm_law_reprint.proofs.exported.read_text.Goals as goal

pub unreachable-requires : goal.unreachable-requires
unreachable-requires c =
    let fault = subst (IsTextFault c.args.text.now) c.in-Err-Refused.field-0-is c.in-Err-Refused.ensures.fault in
    not_refused c.args.input.now c.kind-kind.ensures.sound c.requires.short c.args.text.now c.requires.text _ fault

pub returns-in-Ok-clause-same : goal.returns-in-Ok-clause-same
returns-in-Ok-clause-same c =
    read_same c.args.input.now c.kind-kind.ensures.sound c.requires.short c.args.text.now c.requires.text (read_of c.in-Ok.read) c.in-Ok.ensures.read

pub returns-in-Ok-clause-whole : goal.returns-in-Ok-clause-whole
returns-in-Ok-clause-whole c =
    read_whole c.args.input.now c.kind-kind.ensures.sound c.requires.short c.args.text.now c.requires.text (read_of c.in-Ok.read) c.in-Ok.ensures.read
