use Rattle.std.proofs.Common.{◌≡◌, ◌++◌, drop, option_map}
use Rattle.sm_report.specs.Vectors.{each_in}
use Rattle.sm_report.specs.Meanings.{left_in}
use Rattle.sm_text.specs.Slices.{texts_of}
use Rattle.sm_report.proofs.list_readers.each_left.Given as goal

-- what the items so far spell, and what those that are left do
abbrev pub invariant-loop-item : goal.invariant-loop-item
invariant-loop-item l = option_map (λ xs. l.found.items ++ xs) (each_in (left_in l.input) (texts_of (drop l.item-index l.items))) ≡ each_in (left_in l.input) (texts_of l.items)
