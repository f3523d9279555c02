use Rattle.std.proofs.Common.{◌≡◌, None, replicate, rules}
use Rattle.sm_theory.proofs.Chains.Marking.{note_of-replicate}
use Rattle.sm_check_decide.proofs.NotingLemmas.{noted_none}
use Rattle.sm_check_decide.proofs.needs.Notes.of.Goals as goal

pub returns-clause-none : goal.returns-clause-none
returns-clause-none c = λ first f.
    let items : c.in_ok-vec.field-0.items ≡ replicate c.proposers.result None = search rules in
    rw (c.in_ok-new-2.ensures, items) (noted_none c.args.most f c.in_ok-new.ensures.for_entries c.in_ok-new.ensures.none (note_of-replicate c.proposers.result))
