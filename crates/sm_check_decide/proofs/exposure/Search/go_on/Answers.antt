use Rattle.std.proofs.Common.{ℕ, List, length}
use Rattle.sm_check_decide.specs.Exposure.{IsSearchOf}
use Rattle.sm_check_decide.specs.ExposureKept.{AreChanged}
use Rattle.sm_check_decide.proofs.ChangeLemmas.{search_further}
use Rattle.sm_check_decide.proofs.exposure.Search.go_on.Goals as goal

pub returns : goal.returns
returns c =
    let pairs : List (ℕ × ℕ) = c.args.rotation.now.pairs.items in
    let before : IsSearchOf c.args.market.now c.args.m.now.places (record { from = c.self.inside.from.items; starts = c.self.inside.starts.items; passed = c.self.inside.passed.items; quiet = c.self.inside.quiet }) = rw c.self.view_is c.requires.search in
    let added : AreChanged c.args.market.now pairs (length pairs) c.add_changed.new.changed.items = rw c.as_slice.ensures.value at c.add_changed.ensures.added in
    search_further c.add_changed.ensures.market c.requires.stable c.requires.exposed before c.add_changed.ensures.kept added
