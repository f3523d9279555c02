use Rattle.std.proofs.Common.{◌≡◌, ◌+◌, ◌<◌, Bool, ℕ, List, false, cond, Some, length, sym, ◌∙◌, subst, arith}
use Rattle.std.specs.Borrow.{Bor}
use Rattle.std.proofs.lemmas.List.{length-map}
use Rattle.sm_text.specs.Limits.{most_entries}
use Rattle.sm_text.specs.Slices.{texts_of}
use Rattle.sm_text.specs.declared.refusal.RefusalKind.TheVariants.{RepeatedEntry}
use Rattle.sm_keys.specs.Tables.{has_repeated}
use Rattle.sm_reader.specs.Draft.{declared_on, limit_fault, IsLineFault}
use Rattle.sm_reader.proofs.judging.refusal_of_long.Goals as goal

pub returns-in-Ok-false : goal.returns-in-Ok-false
returns-in-Ok-false c =
    let d = c.args.draft.now in
    let entries = texts_of c.args.entries.now in
    let agents = length (declared_on c.args.side d) in
    let differ : has_repeated entries ≡ false = sym c.in-Ok-false.ensures ∙ c.in-Ok-false.field-0-test in
    let long : length entries ≡ length c.args.entries.now = length-map c.args.entries.now (λ (x : Bor (List ℕ)). x.now) in
    let past : most_entries < d.entries + length entries = omega (arith, c.requires, long) in
    subst (λ (b : Bool). IsLineFault (cond b (Some RepeatedEntry) (limit_fault agents d.entries (length entries))) c.args.line c.beyond.result) (sym differ) (c.beyond.ensures (length entries) past)
