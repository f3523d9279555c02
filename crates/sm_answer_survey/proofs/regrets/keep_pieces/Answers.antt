use Rattle.std.proofs.Common.{length, ap, ◌∙◌, sym, arith}
use Rattle.std.proofs.lemmas.List.{ext_get_or}
use Rattle.sm_answer_list.proofs.RankLemmas.{vector_long}
use Rattle.sm_answer_survey.proofs.regrets.keep_pieces.Goals as goal

pub are_same-requires-clause-long : goal.are_same-requires-clause-long
are_same-requires-clause-long c = ap length c.ranks.ensures ∙ c.loop-piece.invariant.worse.ranks_each ∙ sym (vector_long c.requires.vector)

pub returns-clause-ranks : goal.returns-clause-ranks
returns-clause-ranks c =
    let i = c.loop-piece.invariant in
    ext_get_or 0 c.loop-piece.kept c.args.ranks.now (i.worse.ranks_each ∙ sym (vector_long c.requires.vector))
    (λ q l. i.same q (omega (arith, l, i.worse.ranks_each, i.worse.worse_each, i.greatest.cover)))
