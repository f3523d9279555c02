use Rattle.sm_report.specs.Lines.{line_of}
use Rattle.sm_check_forms.specs.declared.layouts.Opening.{Opening}
use Rattle.sm_check_forms.proofs.KeywordWords.{opens_with}
use Rattle.sm_check_forms.proofs.layouts.opening_of.Goals as goal

pub returns-clause-opening : goal.returns-clause-opening
returns-clause-opening c =
    let opening : Opening = record { keyword = c.keyword_of.result; number = c.number_in.result } in
    λ input. opens_with input (line_of c.args.line.now) opening c.keyword_of.ensures c.number_in.ensures
