use Rattle.std.proofs.Common.{ℕ, ◌≡◌, ◌<◌, List, length, get_or, ap, subst, ◌∙◌, refl, arith}
use Rattle.std.proofs.lemmas.List.{length-map}
use Rattle.sm_lists.proofs.FoundLemmas.{place_on-unfound}
use Rattle.sm_market.specs.Lists.{row, entry}
use Rattle.sm_market.specs.Vectors.{rows_of}
use Rattle.sm_market.proofs.WalkLemmas.{walk_step, cross_at, fresh_at}
use Rattle.sm_market.proofs.entries.check_list.Goals as goal

pub returns-in_default-clause-fault : goal.returns-in_default-clause-fault
returns-in_default-clause-fault c =
    let rows : List (List ℕ) = rows_of c.args.rows.now in
    let others : List (List ℕ) = rows_of c.args.others.now in
    let i = c.loop-i.i in
    let b = get_or c.list_at-list.result.now i 0 in
    let is : b ≡ entry rows c.args.a i = ap (λ (s : List ℕ). get_or s i 0) c.list_at-list.ensures in
    let same = length-map c.args.others.now (λ v. v.items) in
    let on : i < length (row rows c.args.a) = subst (λ (s : List ℕ). i < length s) c.list_at-list.ensures c.loop-i-test.true in
    let inside : b < length others = omega arith in (
      refl,
      record {
        first = record { on_list = on; earlier_agents = c.requires.earlier_agents; earlier_places = c.loop-i.invariant.sound };
        in_range = rw (← is) inside;
        fresh = fresh_at c.loop-i.invariant (rw (← is) c.if-met-b.false);
        one_sided = place_on-unfound (row others (entry rows c.args.a i)) c.args.a (c.in_default.ensures ∙ cross_at c.args.crosses.now c.requires.crosses i on);
      },
    )

pub loop-i-preserved : goal.loop-i-preserved
loop-i-preserved c =
    let rows : List (List ℕ) = rows_of c.args.rows.now in
    let i = c.loop-i.i in
    let b = get_or c.list_at-list.result.now i 0 in
    let is : b ≡ entry rows c.args.a i = ap (λ (s : List ℕ). get_or s i 0) c.list_at-list.ensures in
    let same = length-map c.args.others.now (λ v. v.items) in
    let on : i < length (row rows c.args.a) = subst (λ (s : List ℕ). i < length s) c.list_at-list.ensures c.loop-i-test.true in
    walk_step c.loop-i.invariant b c.in-Some.field-0 is (omega arith) c.if-met-b.false (c.in-Some.ensures ∙ cross_at c.args.crosses.now c.requires.crosses i on)
