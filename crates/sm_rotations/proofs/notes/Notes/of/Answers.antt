use Rattle.std.proofs.Common.{◌≡◌, [], None, replicate, rules, refl, arith}
use Rattle.sm_theory.proofs.Chains.Marking.{last_start, marks_start, note_of-replicate}
use Rattle.sm_rotations.proofs.notes.Notes.of.Goals as goal

pub returns : goal.returns
returns c = λ first f.
    let items : c.in_ok-vec.field-0.items ≡ replicate c.proposers.result None = search rules in
    record {
      matching = f;
      eliminable = record { exposed = λ k less. absurd (omega arith) };
      one_each = search rules;
      last = rw items (last_start [] (replicate c.proposers.result None) (note_of-replicate c.proposers.result));
      marks = marks_start c.in_ok-new.ensures.for_entries c.in_ok-new.ensures.none;
      followers = rw c.new-2.ensures.items (record { one_each = refl; sound = λ i j some. absurd (omega (arith, some)); all = λ i j below within need. absurd (omega arith); once = λ i j. omega arith });
    }
