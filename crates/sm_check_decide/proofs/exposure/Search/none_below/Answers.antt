use Rattle.std.proofs.Common.{◌≡◌, ℕ, ◌<◌, ◌⊎◌, inl, inr, [], arith, refl, ap}
use Rattle.std.specs.List.{Contains}
use Rattle.std.specs.Vec.{with_items}
use Rattle.sm_lists.proofs.ResultLemmas.{take-append_at_length}
use Rattle.sm_theory.specs.Rotations.{IsNoneBelow}
use Rattle.sm_check_decide.specs.Exposure.{IsSearchOf, IsPassed}
use Rattle.sm_check_decide.specs.ExposureKept.{AreStartsAdded}
use Rattle.sm_check_decide.specs.Trails.{Trail}
use Rattle.sm_check_decide.proofs.SearchLemmas.{none_of_searched, searched_more, searched_on, on_of}
use Rattle.sm_check_decide.proofs.exposure.Search.none_below.Goals as goal

pub returns-then-not-are_safe-clause-search : goal.returns-then-not-are_safe-clause-search
returns-then-not-are_safe-clause-search c =
    let l = c.args.market.now in
    let m = c.args.m.now.places in
    let before : IsSearchOf l m (record { from = c.self.inside.from.items; starts = c.self.inside.starts.items; passed = c.self.inside.passed.items; quiet = c.self.inside.quiet }) = rw c.self.view_is c.requires.search in
    let places = c.are_safe.ensures.search in
    let from_is : (with_items c.self.inside.from c.are_safe.new.from).items ≡ c.are_safe.new.from = take-append_at_length c.self.inside.from.len c.are_safe.new.from _ (omega (arith, places.one_each, before.places.one_each, c.deref_mut.ensures.len)) in
    rw from_is (searched_more before c.add_starts.ensures.kept places)

pub returns-clause-search : goal.returns-clause-search
returns-clause-search c =
    let l = c.args.market.now in
    let m = c.args.m.now.places in
    let before : IsSearchOf l m (record { from = c.self.inside.from.items; starts = c.self.inside.starts.items; passed = c.self.inside.passed.items; quiet = c.self.inside.quiet }) = rw c.self.view_is c.requires.search in
    let places = c.are_safe.ensures.search in
    let from_is : (with_items c.self.inside.from c.are_safe.new.from).items ≡ c.are_safe.new.from = take-append_at_length c.self.inside.from.len c.are_safe.new.from _ (omega (arith, places.one_each, before.places.one_each, c.deref_mut.ensures.len)) in
    let added : AreStartsAdded c.self.inside.passed.items c.self.inside.quiet c.args.bound c.add_starts.new.starts.items = rw c.deref.ensures.value at c.add_starts.ensures.added in
    let none : IsNoneBelow l m c.args.bound = none_of_searched before c.add_starts.ensures.kept added (c.are_safe.ensures.safe c.if-not-are_safe.false) in
    let passed_is : (with_items c.self.inside.passed c.pass_over.new.passed).items ≡ c.pass_over.new.passed = take-append_at_length c.self.inside.passed.len c.pass_over.new.passed _ (omega (arith, c.pass_over.ensures.one_each, c.take_back.ensures.one_each, c.as_mut_slice-passed.ensures.len)) in
    let empty : c.clear-2.new.self.items ≡ [] = ap (λ (t : Trail). t.items) c.clear-2.ensures in
    let left : (p : ℕ) → IsPassed c.pass_over.new.passed p → (IsPassed c.self.inside.passed.items p × (¬ Contains c.are_safe.new.trail.items p)) ⊎ (p < c.args.bound) = λ p w. elim (c.pass_over.ensures.more p w) [
      | inl v ↦ let u = c.take_back.ensures.left p v in let old : IsPassed c.self.inside.passed.items p = rw c.as_mut_slice-passed.ensures.value at u.0 in inl (old, u.1)
      | inr low ↦ inr low
    ] in
    rw (from_is, passed_is, empty) (searched_on c.proposers.ensures.market c.requires.made.matching before places (c.are_safe.ensures.closed c.if-not-are_safe.false)
    (λ q v. on_of c.add_starts.new.starts.items c.are_safe.new.trail.items (c.are_safe.ensures.on c.if-not-are_safe.false) q (c.add_starts.ensures.kept q v)) none left)

pub returns-clause-decided : goal.returns-clause-decided
returns-clause-decided c =
    let l = c.args.market.now in
    let m = c.args.m.now.places in
    let before : IsSearchOf l m (record { from = c.self.inside.from.items; starts = c.self.inside.starts.items; passed = c.self.inside.passed.items; quiet = c.self.inside.quiet }) = rw c.self.view_is c.requires.search in
    let added : AreStartsAdded c.self.inside.passed.items c.self.inside.quiet c.args.bound c.add_starts.new.starts.items = rw c.deref.ensures.value at c.add_starts.ensures.added in
    let none : IsNoneBelow l m c.args.bound = none_of_searched before c.add_starts.ensures.kept added (c.are_safe.ensures.safe c.if-not-are_safe.false) in
    ((λ _. none), (λ _. refl))
