use Rattle.std.proofs.Common.{◌≡◌, ◌+◌, ◌-◌, ◌++◌, arith, ap, ◌∙◌, length, take, drop, slice_index, decimal}
use Rattle.std.proofs.lemmas.List.{get_or_default}
use Rattle.sm_lists.proofs.ResultLemmas.{take-append_at_length}
use Rattle.sm_answer_vectors.proofs.SpelledLemmas.{starts_rise, starts_within, spelled_over}
use Rattle.sm_answer_vectors.proofs.vector_text.VectorText.write.Goals as goal

pub overflow_sub-end : goal.overflow_sub-end
overflow_sub-end c =
    let starts = c.args.self.now.starts.items in
    let kept = c.requires.kept in
    let start : c.index-start.result.now ≡ slice_index starts c.args.i = c.index-start.ensures ∙ get_or_default starts c.args.i c.index-start.result.now 0 (omega (arith, kept.start_each, c.requires.place)) in
    let stop : c.index-end.result.now ≡ slice_index starts (c.args.i + 1) = c.index-end.ensures ∙ get_or_default starts (c.args.i + 1) c.index-end.result.now 0 (omega (arith, kept.start_each, c.requires.place)) in
    omega (arith, start, stop, starts_rise c.args.i c.requires.place kept)

pub write_at-requires : goal.write_at-requires
write_at-requires c =
    let starts = c.args.self.now.starts.items in
    let kept = c.requires.kept in
    let stop : c.index-end.result.now ≡ slice_index starts (c.args.i + 1) = c.index-end.ensures ∙ get_or_default starts (c.args.i + 1) c.index-end.result.now 0 (omega (arith, kept.start_each, c.requires.place)) in
    omega (arith, stop, c.if-end-start.false, starts_within (c.args.i + 1) (omega (arith, c.requires.place)) kept, ap length c.deref_mut.ensures.value)

pub returns-clause-kept : goal.returns-clause-kept
returns-clause-kept c =
    let numbers = c.args.self.now.shown.items in
    let text = c.args.self.now.text.items in
    let starts = c.args.self.now.starts.items in
    let kept = c.requires.kept in
    let start : c.index-start.result.now ≡ slice_index starts c.args.i = c.index-start.ensures ∙ get_or_default starts c.args.i c.index-start.result.now 0 (omega (arith, kept.start_each, c.requires.place)) in
    let stop : c.index-end.result.now ≡ slice_index starts (c.args.i + 1) = c.index-end.ensures ∙ get_or_default starts (c.args.i + 1) c.index-end.result.now 0 (omega (arith, kept.start_each, c.requires.place)) in
    let digits : c.bytes-digits.result.now ≡ decimal c.args.number = c.bytes-digits.ensures ∙ c.in_ok-put_number.ensures.ok ∙ ap (λ t. t ++ decimal c.from.result) c.clear.ensures.empty ∙ ap decimal c.from.ensures in
    let new = c.write_at.new.text in
    let is : new ≡ take (slice_index starts c.args.i) text ++ decimal c.args.number ++ drop (slice_index starts c.args.i + length (decimal c.args.number)) text = rw (start, digits, c.deref_mut.ensures.value) at c.write_at.ensures.written in
    let long : length new ≡ c.args.self.now.text.len = c.write_at.ensures.long ∙ c.deref_mut.ensures.len in
    let as_long : slice_index starts (c.args.i + 1) - slice_index starts c.args.i ≡ length (decimal c.args.number) + 1 = omega (arith, start, stop, c.if-end-start.false, ap length digits) in
    rw (take-append_at_length c.args.self.now.text.len new (drop (length new) text) long, is) (spelled_over c.args.i c.args.number c.requires.place as_long kept)
