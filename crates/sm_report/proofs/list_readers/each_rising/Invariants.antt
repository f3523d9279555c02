use Rattle.std.proofs.Common.{◌≡◌, ◌++◌, ◌≤◌, drop, option_map}
use Rattle.sm_report.specs.Meanings.{rising_above}
use Rattle.sm_text.specs.Slices.{texts_of}
use Rattle.sm_report.proofs.list_readers.each_rising.Given as goal

-- the numbers so far, and those that are left, above the last one
abbrev pub invariant-loop-item : goal.invariant-loop-item
invariant-loop-item l =
    (option_map (λ xs. l.found.items ++ xs) (rising_above l.last (texts_of (drop l.item-index l.items))) ≡ rising_above 0 (texts_of l.items)) × (l.last ≤ 4294967294)
