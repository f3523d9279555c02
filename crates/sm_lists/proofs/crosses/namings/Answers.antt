use Rattle.std.proofs.Common.{ℕ, ◌≡◌, length, subst, sym, arith}
use Rattle.std.proofs.lemmas.List.{length-map}
use Rattle.sm_lists.specs.Namings.{AreNamings}
use Rattle.sm_lists.specs.Rows.{lists_in}
use Rattle.sm_lists.specs.Held.{held_in}
use Rattle.sm_lists.proofs.NamingLemmas.{namings_start}
use Rattle.sm_lists.proofs.crosses.namings.Goals as goal

pub loop-by-init : goal.loop-by-init
loop-by-init g c =
    let many = length-map c.args.others.now (λ list. list.now) in
    let Q : ℕ → Type 0 = λ n. AreNamings (lists_in c.args.rows.now) n 0 0 (held_in g.N.KeptNaming.kept c.in_ok-namings.namings) in
    subst Q (sym many) (namings_start g.N.KeptNaming.kept (lists_in c.args.rows.now) (length c.args.others.now) c.in_ok-namings.namings c.in_ok-namings.ensures)

pub returns : goal.returns
returns g c =
    let long = length-map c.args.rows.now (λ list. list.now) in
    let whole : c.loop-by.by ≡ length (lists_in c.args.rows.now) = omega arith in
    let Q : ℕ → Type 0 = λ a. AreNamings (lists_in c.args.rows.now) (length (lists_in c.args.others.now)) a 0 (held_in g.N.KeptNaming.kept c.loop-by.namings) in
    subst Q whole c.loop-by.invariant
