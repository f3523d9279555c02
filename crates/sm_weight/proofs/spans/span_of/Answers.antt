use Rattle.std.proofs.Common.{◌≡◌, ℕ, suc, ◌+◌, arith, ap, ◌∙◌, subst, List, Vec, Option, length}
use Rattle.std.specs.declared.alloc.Global.{Global}
use Rattle.std.proofs.lemmas.List.{length-map}
use Rattle.sm_market.specs.Lists.{Lists, row}
use Rattle.sm_market.specs.Vectors.{rows_of}
use Rattle.sm_market.specs.Matching.{held, standing}
use Rattle.sm_market.specs.Pairing.{Paired}
use Rattle.sm_rotations.proofs.NeedsLemmas.{as_many}
use Rattle.sm_lists.proofs.RowLemmas.{vector_read}
use Rattle.sm_weight.specs.Spans.{IsEntryNode, IsExit}
use Rattle.sm_weight.proofs.NodeLemmas.{rises_first, entry_is, exit_is}
use Rattle.sm_weight.proofs.spans.span_of.Goals as goal

pub exit-requires-clause-rises : goal.exit-requires-clause-rises
exit-requires-clause-rises c =
    let p : ℕ = c.args.p in
    let poset = c.chain-chain.ensures.poset in
    let levels_many = length-map c.args.levels.now (λ (v : Vec ℕ Global). v.items) in
    let levels : c.deref-2.result.now ≡ row (rows_of c.args.levels.now) p = c.deref-2.ensures.value ∙ ap (λ (v : Vec ℕ Global). v.items) c.index-levels-p.is ∙ vector_read c.args.levels.now p c.index-levels-p.result (omega (arith, c.requires.levels.one_each, c.requires.proposer)) in
    let stands : c.proposer_standing-stands.result ≡ standing c.args.poset.now.lists.proposers c.args.poset.now.first.places.proposers p =
    c.proposer_standing-stands.ensures.standing ∙ ap (λ (l : Lists). standing l.proposers c.chain-chain.result.now.first.places.proposers p) c.market.ensures.market ∙ ap (λ (m : Paired). standing c.args.poset.now.lists.proposers m.places.proposers p) c.chain-chain.ensures.first in
    rw (levels, stands) (rises_first poset.market poset.printed.chain c.requires.levels p c.moves-moves.ensures.moves c.requires.proposer c.moves-moves.ensures.down)

pub returns-clause-entry : goal.returns-clause-entry
returns-clause-entry c =
    let p : ℕ = c.args.p in
    let poset = c.chain-chain.ensures.poset in
    let levels_many = length-map c.args.levels.now (λ (v : Vec ℕ Global). v.items) in
    let levels : c.deref.result.now ≡ row (rows_of c.args.levels.now) p = c.deref.ensures.value ∙ ap (λ (v : Vec ℕ Global). v.items) c.index-levels-p.is ∙ vector_read c.args.levels.now p c.index-levels-p.result (omega (arith, c.requires.levels.one_each, c.requires.proposer)) in
    let first : c.place-first.result ≡ held c.args.poset.now.first.places.proposers p = c.place-first.ensures ∙ ap (λ (m : Paired). held m.places.proposers p) c.chain-chain.ensures.first in
    let last : c.len.result + 1 ≡ suc (length c.args.poset.now.rotations) = omega (arith, c.len.ensures, as_many c.chain-chain.result.now.rotations.items, ap length c.chain-chain.ensures.rotations) in
    let entry : IsEntryNode (row (rows_of c.args.levels.now) p) (held c.args.poset.now.first.places.proposers p) c.moves-moves.result.now c.args.level (c.len.result + 1) c.entry.result =
    subst (λ (xs : List ℕ). IsEntryNode xs (held c.args.poset.now.first.places.proposers p) c.moves-moves.result.now c.args.level (c.len.result + 1) c.entry.result) levels
    (subst (λ (o : Option ℕ). IsEntryNode c.deref.result.now o c.moves-moves.result.now c.args.level (c.len.result + 1) c.entry.result) first c.entry.ensures) in
    entry_is poset.market poset.printed.chain c.requires.levels p c.moves-moves.ensures.moves c.args.level (c.len.result + 1) c.entry.result last entry

pub returns-clause-exit : goal.returns-clause-exit
returns-clause-exit c =
    let p : ℕ = c.args.p in
    let poset = c.chain-chain.ensures.poset in
    let levels_many = length-map c.args.levels.now (λ (v : Vec ℕ Global). v.items) in
    let levels : c.deref-2.result.now ≡ row (rows_of c.args.levels.now) p = c.deref-2.ensures.value ∙ ap (λ (v : Vec ℕ Global). v.items) c.index-levels-p.is ∙ vector_read c.args.levels.now p c.index-levels-p.result (omega (arith, c.requires.levels.one_each, c.requires.proposer)) in
    let stands : c.proposer_standing-stands.result ≡ standing c.args.poset.now.lists.proposers c.args.poset.now.first.places.proposers p =
    c.proposer_standing-stands.ensures.standing ∙ ap (λ (l : Lists). standing l.proposers c.chain-chain.result.now.first.places.proposers p) c.market.ensures.market ∙ ap (λ (m : Paired). standing c.args.poset.now.lists.proposers m.places.proposers p) c.chain-chain.ensures.first in
    let last : c.len.result + 1 ≡ suc (length c.args.poset.now.rotations) = omega (arith, c.len.ensures, as_many c.chain-chain.result.now.rotations.items, ap length c.chain-chain.ensures.rotations) in
    let exit : IsExit (row (rows_of c.args.levels.now) p) (standing c.args.poset.now.lists.proposers c.args.poset.now.first.places.proposers p) c.moves-moves.result.now c.args.level (c.len.result + 1) c.exit.result =
    subst (λ (xs : List ℕ). IsExit xs (standing c.args.poset.now.lists.proposers c.args.poset.now.first.places.proposers p) c.moves-moves.result.now c.args.level (c.len.result + 1) c.exit.result) levels
    (subst (λ (i : ℕ). IsExit c.deref-2.result.now i c.moves-moves.result.now c.args.level (c.len.result + 1) c.exit.result) stands c.exit.ensures) in
    exit_is poset.market poset.printed.chain c.requires.levels p c.moves-moves.ensures.moves c.args.level (c.len.result + 1) c.exit.result last exit
