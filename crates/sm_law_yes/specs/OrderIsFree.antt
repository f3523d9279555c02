-- The order of free lines says nothing.
use Rattle.std.specs.Prelude.{List}
use Rattle.sm_instance.specs.declared.inputs.Input.{Input}
use Rattle.sm_report.specs.Heads.{HeadData}
use Rattle.sm_report.specs.Lines.{LineData}
use Rattle.sm_cert.specs.Yes.{GetsYes}
use Rattle.sm_law_yes.specs.Reordered.{IsReordered}

-- an answer that gets a yes gets it in any order of its free lines
abbrev pub OrderIsFree : Type 0
OrderIsFree = (input : Input) (head : HeadData) (lines others : List LineData)
    → GetsYes input head lines → IsReordered lines others → GetsYes input head others
