use Rattle.std.proofs.Common.{ℕ, Bool, true, ◌≡◌, ◌<◌, eqb, List, take, subst}
use Rattle.std.specs.List.{IsAnyAnswer}
use Rattle.sm_market.specs.Lists.{row, place_of}
use Rattle.sm_lists.proofs.PlaceLemmas.{among_first}
use Rattle.sm_market.proofs.market.Market.prefers.Goals as goal

pub returns : goal.returns
returns c =
    let rows = c.args.self.now.reviewers in
    let n = c.reviewer_standing-standing.result in
    let b : Bool = c.contains.result in
    let P : List ℕ → Type 0 = λ list. IsAnyAnswer (λ y t. eqb y c.args.p ≡ t) (take n list) b in
    let Q : ℕ → Type 0 = λ s. (b ≡ true → place_of rows c.args.r c.args.p < s) × (place_of rows c.args.r c.args.p < s → b ≡ true) in
    subst Q c.reviewer_standing-standing.ensures.standing
    (among_first (row rows c.args.r) c.args.p n b c.reviewer_standing-standing.ensures.on_list (subst P c.reviewer_list.ensures.list c.contains.ensures.cases))
