use Rattle.std.proofs.Common.{◌≡◌, ℕ, List, true, false, length, refl, sym, ◌∙◌, arith, nat_lt, ◌+◌}
use Rattle.std.specs.Borrow.{Bor}
use Rattle.std.specs.List.{list_any}
use Rattle.std.specs.Str.{bytes_eq}
use Rattle.std.proofs.lemmas.Bool.Decides.{nat_tests}
use Rattle.std.proofs.lemmas.List.{length-map}
use Rattle.sm_text.specs.Limits.{most_entries}
use Rattle.sm_text.specs.Slices.{texts_of}
use Rattle.sm_keys.specs.Tables.{has_repeated}
use Rattle.sm_reader.specs.Draft.{masters_declared}
use Rattle.sm_reader.proofs.MasterLemmas.{declared_among}
use Rattle.sm_reader.proofs.masters.check_master.Goals as goal

pub returns-then-contains_key-clause-fault : goal.returns-then-contains_key-clause-fault
returns-then-contains_key-clause-fault c =
    let d = c.args.draft.now in
    let name = c.args.master.name.now in
    let is : list_any (bytes_eq name) (masters_declared d) ≡ true = sym (declared_among (texts_of d.on_masters.items) name d.masters.entries) ∙ sym c.contains_key.ensures ∙ c.if-contains_key.true in
    (rw is refl, refl)

pub returns-then-branch-clause-fault : goal.returns-then-branch-clause-fault
returns-then-branch-clause-fault c =
    let d = c.args.draft.now in
    let name = c.args.master.name.now in
    let entries = texts_of c.args.master.entries.now in
    let is : list_any (bytes_eq name) (masters_declared d) ≡ false = sym (declared_among (texts_of d.on_masters.items) name d.masters.entries) ∙ sym c.contains_key.ensures ∙ c.if-contains_key.false in
    let twice : has_repeated entries ≡ true = sym c.in_ok-has_repeated.ensures ∙ c.if-branch.true in
    (rw (is, twice) refl, refl)

pub returns-then-entries-draft-clause-fault : goal.returns-then-entries-draft-clause-fault
returns-then-entries-draft-clause-fault c =
    let d = c.args.draft.now in
    let name = c.args.master.name.now in
    let entries = texts_of c.args.master.entries.now in
    let is : list_any (bytes_eq name) (masters_declared d) ≡ false = sym (declared_among (texts_of d.on_masters.items) name d.masters.entries) ∙ sym c.contains_key.ensures ∙ c.if-contains_key.false in
    let differ : has_repeated entries ≡ false = sym c.in_ok-has_repeated.ensures ∙ c.if-branch.false in
    let long : length entries ≡ length c.args.master.entries.now = length-map c.args.master.entries.now (λ (x : Bor (List ℕ)). x.now) in
    let past : nat_lt most_entries (d.entries + length entries) ≡ true = grind (arith, nat_tests) in
    (rw (is, differ, past) refl, refl)

pub returns-clause-faultless : goal.returns-clause-faultless
returns-clause-faultless c =
    let d = c.args.draft.now in
    let name = c.args.master.name.now in
    let entries = texts_of c.args.master.entries.now in
    let is : list_any (bytes_eq name) (masters_declared d) ≡ false = sym (declared_among (texts_of d.on_masters.items) name d.masters.entries) ∙ sym c.contains_key.ensures ∙ c.if-contains_key.false in
    let differ : has_repeated entries ≡ false = sym c.in_ok-has_repeated.ensures ∙ c.if-branch.false in
    let long : length entries ≡ length c.args.master.entries.now = length-map c.args.master.entries.now (λ (x : Bor (List ℕ)). x.now) in
    let fits : nat_lt most_entries (d.entries + length entries) ≡ false = grind (arith, nat_tests) in
    rw (is, differ, fits) refl
