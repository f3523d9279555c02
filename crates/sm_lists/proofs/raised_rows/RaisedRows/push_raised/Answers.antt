use Rattle.std.proofs.Common.{◌≡◌, ℕ, ◌+◌, List, length, drop, get_or, refl, ap, sym, ◌∙◌, arith}
use Rattle.sm_lists.proofs.ResultLemmas.{on_err, take-append_at_length}
use Rattle.sm_lists.proofs.SpanLemmas.{resized_is}
use Rattle.sm_lists.proofs.RaisedLemmas.{get_or-resized}
use Rattle.sm_lists.proofs.RaisedSpanLemmas.{raised_spans_more, raised_rows-more, raised_spans_added, raised_rows-added, AreAdded}
use Rattle.sm_lists.proofs.raised_rows.RaisedRows.push_raised.Goals as goal

pub invariant_of-self-in_err-resize : goal.invariant_of-self-in_err-resize
invariant_of-self-in_err-resize c =
    let s = c.self.inside in
    rw (c.in_err-resize.ensures.items, c.in_ok-span.ensures.added) (raised_spans_more s.entries c.args.list.now s.spans.items s.raises.items s.raises.items c.self.invariant (λ a l. refl))

pub returns-in_err-resize-clause-kept : goal.returns-in_err-resize-clause-kept
returns-in_err-resize-clause-kept c =
    let s = c.self.inside in
    on_err c.from_residual-in_err-resize.result
    (rw (← c.self.view_is)
    (rw (c.in_err-resize.ensures.items, c.in_ok-span.ensures.added)
    (raised_rows-more s.entries c.args.list.now s.spans.items s.raises.items s.raises.items c.self.invariant (λ a l. refl))))

pub invariant_of-self-in_err-resize-2 : goal.invariant_of-self-in_err-resize-2
invariant_of-self-in_err-resize-2 c =
    let s = c.self.inside in
    rw (c.in_err-resize-2.ensures.items, c.in_ok-span.ensures.added)
    (raised_spans_more s.entries c.args.list.now s.spans.items s.raises.items c.resize.new.self.items c.self.invariant
    (λ a l. ap (λ t. get_or t a 0) c.in_ok-resize.ensures.items ∙ get_or-resized s.raises.items _ _ a (omega (arith, l, c.len-agents.ensures, s.spans.ok.0))))

pub returns-in_err-resize-2-clause-kept : goal.returns-in_err-resize-2-clause-kept
returns-in_err-resize-2-clause-kept c =
    let s = c.self.inside in
    on_err c.from_residual-in_err-resize-2.result
    (rw (← c.self.view_is)
    (rw (c.in_err-resize-2.ensures.items, c.in_ok-span.ensures.added)
    (raised_rows-more s.entries c.args.list.now s.spans.items s.raises.items c.resize.new.self.items c.self.invariant
    (λ a l. ap (λ t. get_or t a 0) c.in_ok-resize.ensures.items ∙ get_or-resized s.raises.items _ _ a (omega (arith, l, c.len-agents.ensures, s.spans.ok.0))))))

pub invariant_of-self-2 : goal.invariant_of-self-2
invariant_of-self-2 c =
    let s = c.self.inside in
    let raises : List ℕ = s.raises.items in
    let new : List ℕ = c.count_from.new.numbers in
    let agents : c.len-agents.result ≡ length s.spans.items = c.len-agents.ensures ∙ s.spans.ok.0 in
    let long : length new ≡ c.resize.new.self.len = c.count_from.ensures.as_long ∙ c.deref_mut.ensures.len in
    let is = take-append_at_length c.resize.new.self.len new (drop (length new) c.resize.new.self.items) long in
    let e = c.in_ok-span.ensures in
    let added : AreAdded s.entries c.args.list.now s.spans.items c.in_ok-span.span c.args.count raises new = record {
      before = c.self.invariant;
      start = e.start;
      end = e.end ∙ ap length e.added;
      same = λ a l. c.count_from.ensures.before a (omega (arith, l, agents)) ∙ ap (λ t. get_or t a 0) (c.deref_mut.ensures.value ∙ c.in_ok-resize.ensures.items) ∙ get_or-resized raises _ _ a (omega (arith, l, agents));
      counted = λ k l. ap (λ n. get_or new (n + k) 0) (sym agents) ∙ c.count_from.ensures.counted k (omega (arith, l, c.deref_mut.ensures.len, c.in_ok-resize.ensures.len));
      room = λ i k more few. omega (arith, c.requires.small i, few);
    } in
    rw (is, c.in_ok-resize-2.ensures.items ∙ resized_is s.spans c.len-agents.result c.args.count c.in_ok-span.span c.len-agents.ensures, e.added) (raised_spans_added added)

pub returns-clause-pushed : goal.returns-clause-pushed
returns-clause-pushed c =
    let s = c.self.inside in
    let raises : List ℕ = s.raises.items in
    let new : List ℕ = c.count_from.new.numbers in
    let agents : c.len-agents.result ≡ length s.spans.items = c.len-agents.ensures ∙ s.spans.ok.0 in
    let long : length new ≡ c.resize.new.self.len = c.count_from.ensures.as_long ∙ c.deref_mut.ensures.len in
    let is = take-append_at_length c.resize.new.self.len new (drop (length new) c.resize.new.self.items) long in
    let e = c.in_ok-span.ensures in
    let added : AreAdded s.entries c.args.list.now s.spans.items c.in_ok-span.span c.args.count raises new = record {
      before = c.self.invariant;
      start = e.start;
      end = e.end ∙ ap length e.added;
      same = λ a l. c.count_from.ensures.before a (omega (arith, l, agents)) ∙ ap (λ t. get_or t a 0) (c.deref_mut.ensures.value ∙ c.in_ok-resize.ensures.items) ∙ get_or-resized raises _ _ a (omega (arith, l, agents));
      counted = λ k l. ap (λ n. get_or new (n + k) 0) (sym agents) ∙ c.count_from.ensures.counted k (omega (arith, l, c.deref_mut.ensures.len, c.in_ok-resize.ensures.len));
      room = λ i k more few. omega (arith, c.requires.small i, few);
    } in
    rw (← c.self.view_is) (rw (is, c.in_ok-resize-2.ensures.items ∙ resized_is s.spans c.len-agents.result c.args.count c.in_ok-span.span c.len-agents.ensures, e.added) (raised_rows-added added))
