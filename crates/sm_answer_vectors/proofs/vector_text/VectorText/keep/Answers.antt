use Rattle.std.proofs.Common.{◌≡◌, ◌∙◌, arith, slice_index}
use Rattle.std.proofs.lemmas.List.{get_or_default}
use Rattle.sm_answer_vectors.proofs.SpelledLemmas.{spelled_front}
use Rattle.sm_answer_vectors.proofs.vector_text.VectorText.keep.Goals as goal

pub returns-clause-kept : goal.returns-clause-kept
returns-clause-kept c =
    let starts = c.args.self.now.starts.items in
    let at : c.index.result.now ≡ slice_index starts c.args.count = c.index.ensures ∙ get_or_default starts c.args.count c.index.result.now 0 (omega (arith, c.requires.kept.start_each, c.requires.few)) in
    rw (c.truncate.ensures.items, c.truncate-2.ensures.items, c.truncate-3.ensures.items, at) (spelled_front c.args.count c.requires.few c.requires.kept)
