use Rattle.std.proofs.Common.{◌≡◌, ◌∙◌, ap, sym, subst, arith, length}
use Rattle.sm_lists.proofs.ResultLemmas.{take-append_at_length, IfOk-both}
use Rattle.sm_lister.specs.Walking.{AreFirstChanges}
use Rattle.sm_lister.proofs.StartLemmas.{are_skips}
use Rattle.sm_lister.proofs.start.skips.Goals as goal

same : (c : goal.After-deref) → c.deref.result.now ≡ c.note_first_changes.new.changes
same c = c.deref.ensures.value ∙ take-append_at_length _ c.note_first_changes.new.changes _ (c.note_first_changes.ensures.change_each ∙ c.deref_mut.ensures.len)

long : (c : goal.After-deref) → length c.deref.result.now ≡ length c.args.course.now.board.leaves
long c = ap length (same c) ∙ c.note_first_changes.ensures.change_each ∙ omega (arith, c.deref_mut.ensures.len, c.in_ok-changes.ensures.len, c.proposers.ensures.proposers)

pub skips_of-requires : goal.skips_of-requires
skips_of-requires c = omega (arith, long c, c.proposers.ensures.course.few)

pub returns-clause-skips : goal.returns-clause-skips
returns-clause-skips c =
    let same : c.deref.result.now ≡ c.note_first_changes.new.changes = c.deref.ensures.value ∙ take-append_at_length _ c.note_first_changes.new.changes _ (c.note_first_changes.ensures.change_each ∙ c.deref_mut.ensures.len) in
    let long : length c.deref.result.now ≡ length c.args.course.now.board.leaves = ap length same ∙ c.note_first_changes.ensures.change_each ∙ omega (arith, c.deref_mut.ensures.len, c.in_ok-changes.ensures.len, c.proposers.ensures.proposers) in
    IfOk-both c.skips_of.result _ _ _ (λ skip each skips. are_skips c.deref.result.now skip.items c.proposers.ensures.course c.requires.order long (subst (AreFirstChanges c.args.course.now (length c.args.course.now.board.needs)) (sym same) c.note_first_changes.ensures.changes) each skips)
    c.skips_of.ensures.skip_each c.skips_of.ensures.skips
