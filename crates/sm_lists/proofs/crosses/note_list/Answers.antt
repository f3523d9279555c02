use Rattle.std.proofs.Common.{◌≡◌, ℕ, List, Option, length, get_or, ap, subst, sym, ◌∙◌, refl, arith}
use Rattle.std.proofs.lemmas.Bool.{or_parts}
use Rattle.sm_lists.specs.Kept.{noted_of}
use Rattle.sm_lists.proofs.FirstLemmas.{first_more, first_on_list, length-first_noted, once_more, again_more, none_again, AreFirst}
use Rattle.sm_lists.proofs.crosses.note_list.Goals as goal

pub loop-place-preserved : goal.loop-place-preserved
loop-place-preserved c =
    let list = c.args.list.now in
    let k = c.loop-place.place in
    let places : List (Option ℕ) = c.loop-place.notes.places in
    let before = c.loop-place.invariant in
    let o : Option ℕ = noted_of places (get_or list k 0) in
    record {
      rounds = c.note-repeats.ensures.rounds ∙ before.rounds;
      one_each = ap (λ (xs : List (Option ℕ)). length xs) c.note-repeats.ensures.places ∙ length-first_noted o places (get_or list k 0) k ∙ before.one_each;
      first = rw c.note-repeats.ensures.places (first_more (λ j. get_or list j 0) (λ j. j) k places o refl before.first);
      once = λ free.
          let parts = or_parts c.loop-place.repeats c.note-repeats.result free in
          let same = length-first_noted o places (get_or list k 0) k in
          rw c.note-repeats.ensures.places (λ j l inside. once_more list k places o refl (sym c.note-repeats.ensures.again ∙ parts.1) (before.once parts.0) j l (omega arith));
      again = λ seen. rw c.note-repeats.ensures.places (again_more list k places o refl before.first c.loop-place.repeats c.note-repeats.result c.note-repeats.ensures.again before.again seen);
    }

pub returns-clause-found : goal.returns-clause-found
returns-clause-found c =
    let list = c.args.list.now in
    let places : List (Option ℕ) = c.loop-place.notes.places in
    let whole : c.loop-place.place ≡ length list = omega arith in
    let all : AreFirst (λ j. get_or list j 0) (λ j. j) (length list) places = subst (λ k. AreFirst (λ j. get_or list j 0) (λ j. j) k places) whole c.loop-place.invariant.first in
    let same = c.loop-place.invariant.one_each in
    λ a l. first_on_list list places all a (omega arith)

pub returns-clause-once : goal.returns-clause-once
returns-clause-once c =
    let list = c.args.list.now in
    let whole : c.loop-place.place ≡ length list = omega arith in
    let same = c.loop-place.invariant.one_each in (
      λ free k l inside. c.loop-place.invariant.once free k (omega arith) (omega arith),
      λ once. none_again c.loop-place.repeats c.loop-place.invariant.again (λ k l inside. once k (omega arith) (omega arith)),
    )
