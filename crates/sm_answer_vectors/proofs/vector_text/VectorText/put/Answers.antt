use Rattle.std.proofs.Common.{◌≡◌, ◌++◌, ◌∙◌, subst, OnOk}
use Rattle.sm_answer_vectors.proofs.SpelledLemmas.{text_shown}
use Rattle.sm_answer_vectors.proofs.vector_text.VectorText.put.Goals as goal

pub returns : goal.returns
returns c =
    let text = c.as_slice.result.now in
    let shown = text_shown c.args.self.now.shown.items text (c.as_slice.ensures.value ∙ c.requires.text_is) c.in-len1-up.len_at_least in
    subst (λ t. OnOk c.put_bytes-2.result (c.put_bytes-2.new.self.bytes ≡ c.args.into.now.bytes ++ t)) shown c.put_bytes-2.ensures.ok
