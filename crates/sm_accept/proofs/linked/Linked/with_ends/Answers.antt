use Rattle.std.proofs.Common.{◌≡◌, length, refl, arith}
use Rattle.sm_lists.proofs.ResultLemmas.{take-append_at_length}
use Rattle.sm_accept.proofs.LinkSteps.{all_linked}
use Rattle.sm_accept.proofs.linked.Linked.with_ends.Goals as goal

pub returns-clause-made : goal.returns-clause-made
returns-clause-made c =
    let starts_long : length c.set_starts-count.new.starts ≡ c.in_ok-starts.starts.len = let len = c.in_ok-starts.ensures.len in let auto = c.set_starts-count.auto.starts in let also = c.deref_mut.ensures.len in omega arith in
    rw (take-append_at_length c.in_ok-starts.starts.len c.set_starts-count.new.starts _ starts_long)
    (all_linked refl c.set_starts-count.ensures.starts c.requires.ends_each c.requires.ends_on_lists
    (let len = c.in_ok-vec.ensures.len in let count = c.set_starts-count.ensures.count in let kept = c.link_held.ensures.next_each in omega arith)
    (let len = c.in_ok-vec-2.ensures.len in let count = c.set_starts-count.ensures.count in let kept = c.link_held.ensures.before_each in omega arith)
    (rw (c.deref-2.ensures.value, c.deref.ensures.value, take-append_at_length c.in_ok-starts.starts.len c.set_starts-count.new.starts _ starts_long) at c.link_held.ensures.linked))
