-- Lines that need no escapes in JSON.
use Rattle.std.specs.Prelude.{◌≡◌, true}
use Rattle.sm_text.specs.Plain.{is_plain}
use Rattle.sm_instance.specs.Inputs.{IsInput}
use Rattle.sm_instance.specs.declared.inputs.Input.{Input}
use Rattle.sm_report.specs.Lines.{LineData}
use Rattle.sm_report.specs.Sound.{IsLineOf}
use Rattle.sm_report.specs.Texts.{text_of_line}

-- The text of each line of an input stands for itself in a string of JSON.
abbrev pub LinesArePlain : Type 0
LinesArePlain = (input : Input) (line : LineData) → IsInput input → IsLineOf input line → is_plain (text_of_line input line) ≡ true
