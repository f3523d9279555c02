-- The lines that the code gives.
use Rattle.std.specs.Prelude.{◌≡◌, List, map, length}
use Rattle.std.specs.declared.alloc.Global.{Global}
use Rattle.std.specs.declared.vec.IntoIter.{IntoIter}
use Rattle.std.specs.Vec.Iter.{into_iter_items, into_iter_len}
use Rattle.sm_report.specs.declared.lines.Line.{Line}
use Rattle.sm_report.specs.Lines.{LineData, line_of}

-- the lines that are left of a list
pub record AreLeft (left : IntoIter Line Global) (rest : List LineData) : Type 0 where
  pub count : into_iter_len left ≡ length (into_iter_items left)
  pub are : rest ≡ map line_of (into_iter_items left)
