use Rattle.std.proofs.Common.{[], length, map, sym, ◌∙◌, arith}
use Rattle.std.proofs.Math.ListN.{get_or-map}
use Rattle.std.proofs.lemmas.List.{ext_get_or, length-map}
use Rattle.sm_accept.proofs.lengths.write_lengths.Goals as goal

pub returns : goal.returns
returns c =
    let long = length-map c.args.market.now.reviewers (λ list. length list) in
    ext_get_or 0 _ (map (λ list. length list) c.args.market.now.reviewers) (omega arith)
    (λ r h. c.loop-r.invariant r (omega arith) ∙ sym (get_or-map (λ list. length list) c.args.market.now.reviewers r []))
