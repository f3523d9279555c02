use Rattle.std.proofs.Common.{ℕ, ◌<◌, ◌≡◌, List, length, map, get_or, ap, subst, sym, ◌∙◌, arith}
use Rattle.std.proofs.lemmas.List.{length-map}
use Rattle.sm_lists.specs.Rows.{row, entry, lists_in}
use Rattle.sm_lists.specs.Namings.{AreNamings}
use Rattle.sm_lists.specs.Held.{held_in}
use Rattle.sm_lists.proofs.NamingLemmas.{held_in-pushed, namings_add, namings_pass, namings_next}
use Rattle.sm_lists.proofs.crosses.add_namings.Goals as goal
use Rattle.sm_lists.proofs.crosses.add_namings.Goals.{then-named-len+in_ok-push, else-named-len}

pub loop-place-preserved : goal.loop-place-preserved
loop-place-preserved g c =
    let list = c.lent_at-list.result.now in
    let rows : List (List ℕ) = lists_in c.args.rows.now in
    let k = c.loop-place.place in
    let f = g.N.KeptNaming.kept in
    let on : k < length (row rows c.args.by) = subst (λ (s : List ℕ). k < length s) c.lent_at-list.ensures c.loop-place-test.true in
    let is : get_or list k 0 ≡ entry rows c.args.by k = ap (λ (s : List ℕ). get_or s k 0) c.lent_at-list.ensures in
    let long = length-map c.loop-place.namings (map f) in
    let same = c.loop-place.invariant.one_each in
    elim c.if-named-len.branch [
      | then-named-len+in_ok-push w ↦ rw (w.namings-is, w.in_ok-push.ensures.pushed, held_in-pushed f c.loop-place.namings (get_or list k 0) w.of.result, w.of.ensures)
          (namings_add c.loop-place.invariant (get_or list k 0) on is (omega (arith, w.if-named-len.true)))
      | else-named-len w ↦ rw w.namings-is (namings_pass c.loop-place.invariant (omega arith))
    ]

pub returns : goal.returns
returns g c =
    let rows : List (List ℕ) = lists_in c.args.rows.now in
    let end : length c.lent_at-list.result.now ≡ c.loop-place.place = omega arith in
    let long : c.loop-place.place ≡ length (row rows c.args.by) = sym end ∙ ap (λ (s : List ℕ). length s) c.lent_at-list.ensures in
    let Q : ℕ → Type 0 = λ k. AreNamings rows (length c.args.namings.now) c.args.by k (held_in g.N.KeptNaming.kept c.loop-place.namings) in
    record { after = namings_next (subst Q long c.loop-place.invariant) }
