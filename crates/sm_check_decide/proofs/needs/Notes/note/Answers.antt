use Rattle.std.proofs.Common.{◌≡◌, ℕ, ◌<◌, arith, ap, ◌∙◌, List, [], length, refl}
use Rattle.std.specs.Vec.{with_items}
use Rattle.sm_lists.proofs.ResultLemmas.{take-append_at_length}
use Rattle.sm_theory.specs.Marks.{AreMoved, AreMarked, IsFoundNeed, Adds}
use Rattle.sm_check_decide.specs.Noting.{RotationNotes, IsNotesFor, AreNoted}
use Rattle.sm_check_decide.proofs.NotingLemmas.{below_noted, noted_more}
use Rattle.sm_check_decide.proofs.needs.Notes.note.Goals as goal

pub returns-clause-notes : goal.returns-clause-notes
returns-clause-notes c =
    let pairs : List (ℕ × ℕ) = c.args.rotation.now.pairs.items in
    let moved : AreMoved pairs (length pairs) c.self.inside.count c.self.inside.last.items c.note_movers.new.last = rw (c.as_slice-pairs.ensures.value, c.deref_mut.ensures.value) at c.note_movers.ensures in
    let marked : AreMarked c.args.market.now pairs (length pairs) c.self.inside.count c.self.inside.marks c.mark_moves.new.marks = rw c.as_slice-pairs.ensures.value at c.in_ok-mark_moves.ensures.marked in
    let last_is : (with_items c.self.inside.last c.note_movers.new.last).items ≡ c.note_movers.new.last = take-append_at_length c.self.inside.last.len c.note_movers.new.last _ (c.note_movers.ensures.one_each ∙ c.deref_mut.ensures.len) in
    let notes : IsNotesFor c.args.market.now (record { most = c.self.inside.found.bound; count = c.self.inside.count; last = c.self.inside.last.items; marks = c.self.inside.marks; found = c.self.inside.found.items }) = rw c.self.view_is c.requires.notes in
    let room : c.self.inside.count < c.self.inside.found.bound = omega (arith, c.requires.room, ap (λ (n : RotationNotes). n.count) c.self.view_is, ap (λ (n : RotationNotes). n.most) c.self.view_is) in
    rw last_is (record {
      one_each = moved.one_each ∙ notes.one_each;
      for_entries = marked.for_entries;
      below = below_noted notes.below moved marked;
      within = omega (arith, room, c.find.ensures.bound);
    })

pub returns-clause-noted : goal.returns-clause-noted
returns-clause-noted c = λ first rotations noted is.
    let pairs : List (ℕ × ℕ) = c.args.rotation.now.pairs.items in
    let moved : AreMoved pairs (length pairs) c.self.inside.count c.self.inside.last.items c.note_movers.new.last = rw (c.as_slice-pairs.ensures.value, c.deref_mut.ensures.value) at c.note_movers.ensures in
    let marked : AreMarked c.args.market.now pairs (length pairs) c.self.inside.count c.self.inside.marks c.mark_moves.new.marks = rw c.as_slice-pairs.ensures.value at c.in_ok-mark_moves.ensures.marked in
    let found : Adds (λ i. IsFoundNeed c.args.market.now pairs (length pairs) c.self.inside.last.items c.self.inside.marks i) [] c.find.new.found.items = rw (c.as_slice-pairs.ensures.value, c.deref.ensures.value) at c.find.ensures.found in
    let last_is : (with_items c.self.inside.last c.note_movers.new.last).items ≡ c.note_movers.new.last = take-append_at_length c.self.inside.last.len c.note_movers.new.last _ (c.note_movers.ensures.one_each ∙ c.deref_mut.ensures.len) in
    let before : AreNoted c.args.market.now first rotations (record { most = c.self.inside.found.bound; count = c.self.inside.count; last = c.self.inside.last.items; marks = c.self.inside.marks; found = c.self.inside.found.items }) = rw c.self.view_is noted in
    rw last_is (noted_more pairs c.mark_moves.ensures.market before is c.requires.exposed moved marked found refl)
