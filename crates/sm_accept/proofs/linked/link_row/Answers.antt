use Rattle.std.proofs.Common.{◌≡◌, ℕ, ◌+◌, length, ap, ◌∙◌, arith, inl, inr, refl}
use Rattle.std.proofs.lemmas.Bool.{false≢true}
use Rattle.std.proofs.lemmas.List.{length-set}
use Rattle.sm_accept.specs.Linking.{IsNumberIn}
use Rattle.sm_accept.proofs.LinkLemmas.{link_in_range, in_le, held_in}
use Rattle.sm_accept.proofs.LinkSteps.{row_begins, row_skips, row_joins, row_ends, not_in}
use Rattle.sm_accept.proofs.linked.link_row.Goals as goal
use Rattle.sm_accept.proofs.linked.link_row.Goals.{then-is_held, else-is_held}

pub join-requires-clause-next : goal.join-requires-clause-next
join-requires-clause-next c =
    let t = c.loop-place.invariant in
    omega (arith, t.next_each, t.linked.last_le, c.loop-place-test.true, c.proposer_len-places.ensures, link_in_range c.requires.starts c.args.p c.loop-place.last c.requires.in_range (omega (arith, t.linked.last_le, c.loop-place-test.true, c.proposer_len-places.ensures)))

pub join-requires-clause-before : goal.join-requires-clause-before
join-requires-clause-before c =
    let t = c.loop-place.invariant in
    omega (arith, t.before_each, link_in_range c.requires.starts c.args.p (c.loop-place.place + 1) c.requires.in_range (omega (arith, c.loop-place-test.true, c.proposer_len-places.ensures)))

pub loop-place-init : goal.loop-place-init
loop-place-init c = record { linked = row_begins c.requires.before; next_each = c.requires.next_each; before_each = c.requires.before_each }

pub loop-place-preserved : goal.loop-place-preserved
loop-place-preserved c =
    let t = c.loop-place.invariant in
    let k : ℕ = c.loop-place.place in
    elim c.if-is_held.branch [
      | then-is_held b ↦
          let joined = row_joins c.requires.starts c.requires.in_range t.next_each t.before_each (let e : k + 1 ≡ k + 1 = refl in e) (held_in (c.is_held.ensures.0 b.if-is_held.true)) t.linked in
          record {
            linked = rw (b.last-is, b.links-is, b.join.ensures.next, b.join.ensures.before) joined;
            next_each = rw b.links-is (ap length b.join.ensures.next ∙ length-set c.loop-place.links.next.items _ _ ∙ t.next_each);
            before_each = rw b.links-is (ap length b.join.ensures.before ∙ length-set c.loop-place.links.before.items _ _ ∙ t.before_each);
          }
      | else-is_held b ↦
          record {
            linked = rw (b.last-is, b.links-is) (row_skips (not_in (omega (arith, c.loop-place-test.true, c.proposer_len-places.ensures)) (λ h. false≢true (b.if-is_held.ensures.1 h))) t.linked);
            next_each = rw b.links-is t.next_each;
            before_each = rw b.links-is t.before_each;
          }
    ]

pub join-requires-2-clause-next : goal.join-requires-2-clause-next
join-requires-2-clause-next c =
    let t = c.loop-place.invariant in
    omega (arith, t.next_each, link_in_range c.requires.starts c.args.p c.loop-place.last c.requires.in_range (omega (arith, in_le t.linked.last_in)))

pub join-requires-2-clause-before : goal.join-requires-2-clause-before
join-requires-2-clause-before c =
    let t = c.loop-place.invariant in
    omega (arith, t.before_each, link_in_range c.requires.starts c.args.p (c.proposer_len-places.result + 1) c.requires.in_range (omega (arith, c.proposer_len-places.ensures)))

pub returns-clause-linked : goal.returns-clause-linked
returns-clause-linked c =
    let t = c.loop-place.invariant in
    let n : ℕ = c.proposer_len-places.result + 1 in
    let behind : IsNumberIn c.args.market.now c.args.ends.now c.args.p n = inl (inr (omega (arith, c.proposer_len-places.ensures))) in
    rw (c.join-2.ensures.next, c.join-2.ensures.before)
    (row_ends (omega (arith, c.proposer_len-places.ensures)) (row_joins c.requires.starts c.requires.in_range t.next_each t.before_each (omega (arith, c.loop-place-test.false, c.loop-place.auto.place-end)) behind t.linked))
