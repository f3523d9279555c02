use Rattle.std.proofs.Common.{◌≡◌, false, take}
use Rattle.indexmap.specs.IndexSet.{keys}
use Rattle.sm_text.specs.Slices.{texts_of}
use Rattle.sm_keys.specs.Keys.{spellings}
use Rattle.sm_keys.specs.Tables.{has_repeated}
use Rattle.sm_keys.proofs.repeats.is_repeated.Given as goal

-- the names so far, which differ
abbrev pub invariant-names : goal.invariant-names
invariant-names l = record {
  seen : spellings (keys l.seen) ≡ take l.place (texts_of l.names);
  differ : has_repeated (spellings (keys l.seen)) ≡ false;
}
