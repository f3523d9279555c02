use Rattle.std.proofs.Common.{ℕ, ◌+◌, List, length, get_or, ap, ◌∙◌, arith}
use Rattle.sm_accept.specs.Linking.{Linking, link_at}
use Rattle.sm_accept.proofs.LinkLemmas.{link_in_range, behind_answer, held_in}
use Rattle.sm_accept.proofs.linked.Linked.behind.Goals as goal

pub behind-number-requires-clause-there : goal.behind-number-requires-clause-there
behind-number-requires-clause-there c =
    let start = ap (λ (xs : List ℕ). get_or xs c.args.p 0) (c.deref.ensures.value ∙ ap (λ (v : Linking). v.starts) c.self.view_is) in
    let long = ap length (ap (λ (v : Linking). v.next) c.self.view_is) in
    let on = c.requires.held.on_list in
    omega (arith, link_in_range c.requires.made.starts c.args.p (c.args.place + 1) c.requires.in_range (omega arith), c.requires.made.next_each)

pub returns : goal.returns
returns c =
    let starts = c.deref.ensures.value ∙ ap (λ (v : Linking). v.starts) c.self.view_is in
    let next = ap (λ (v : Linking). v.next) c.self.view_is in
    let is = c.behind-number.ensures ∙ ap (λ (xs : List ℕ). link_at xs c.self.inside.links.next.items c.args.p (c.args.place + 1)) starts ∙ ap (λ (xs : List ℕ). link_at c.args.self.now.starts xs c.args.p (c.args.place + 1)) next in
    let on = c.requires.held.on_list in
    behind_answer c.args.place (c.requires.made.next c.args.p (c.args.place + 1) c.requires.in_range (omega arith) (held_in c.requires.held)) c.place_of_number.result
    (rw (is, c.proposer_len-places.ensures) at c.place_of_number.ensures)
