use Rattle.std.proofs.Common.{◌≡◌, ◌++◌, ◌∷◌, [], ℕ, not, false, cond, List, map, get_or, sym, ap, ◌∙◌, arith, pos}
use Rattle.std.specs.List.{list_any}
use Rattle.sm_agents.specs.Written.{weighed, is_same_pair}
use Rattle.sm_agents.proofs.ItemLemmas.{length-weighed, pair_at-weighed, pair_is_new, pairs_more}
use Rattle.sm_agents.proofs.pairs.Pairs.of.Goals as goal

pub loop-n-preserved : goal.loop-n-preserved
loop-n-preserved c =
    let weights = c.args.weights.now in
    let n = c.loop-n.n in
    let long = length-weighed weights in
    let old : List (ℕ × ℕ) = c.loop-n.pairs in
    let here = sym (pair_at-weighed weights n c.loop-n-test.true) in
    let new : list_any (is_same_pair (weighed (get_or weights n (0, 0, pos 0)))) old ≡ false = pair_is_new (map weighed weights) n old _ (omega arith) c.loop-n.invariant here (λ k l. c.requires.differ n k l c.loop-n-test.true) in
    let pair : ℕ × ℕ = weighed (get_or weights n (0, 0, pos 0)) in
    c.in_ok-add.ensures.pairs ∙ ap (λ b. cond b (old ++ pair ∷ []) old) (c.in_ok-add.ensures.added ∙ ap not new) ∙ pairs_more (map weighed weights) n old pair (omega arith) c.loop-n.invariant here
