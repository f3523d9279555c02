use Rattle.std.proofs.Common.{◌≡◌, ℕ, List, [], drop, get_or, ◌∙◌, sym, ap, refl, subst, Some}
use Rattle.std.specs.Borrow.{Bor}
use Rattle.std.specs.Option.{option_map}
use Rattle.std.proofs.lemmas.List.{take_rest, drop-map}
use Rattle.sm_forms.specs.Forms.{form_under}
use Rattle.sm_reader.specs.Judging.{of_form, verdict_on}
use Rattle.sm_keys.specs.Tokens.{AreNamesAtEnd}
use Rattle.sm_text.specs.Slices.{texts_of}
use Rattle.sm_reader.specs.Draft.{said_of, IsJudged, IsRefusedBy}
use Rattle.sm_forms.specs.Forms.{form_of, IsOrderOf}
use Rattle.sm_reader.proofs.JudgeLemmas.{verdict_empty, verdict_bad, verdict_end, verdict_form, judged_by, refused_line}
use Rattle.sm_reader.proofs.DraftLemmas.{draft_later}
use Rattle.sm_reader.proofs.ResultLemmas.{if_ok, if_err}
use Rattle.sm_forms.proofs.FormLemmas.{listed}
use Rattle.sm_forms.proofs.NameLemmas.{names_rest, form_names}
use Rattle.sm_reader.proofs.judging.judge.Goals as goal

pub form_under-requires : goal.form_under-requires
form_under-requires c = names_rest c.args.found.names 1 c.args.tokens.now c.requires.names

pub add-requires-clause-names : goal.add-requires-clause-names
add-requires-clause-names c =
    let names = c.args.found.names in
    subst (λ f. AreNamesAtEnd names (listed f)) (sym c.form_under.ensures.form ∙ ap (option_map form_of) c.in-Some.is)
    (form_names names c.args.header.kind c.args.header.format _ _ (names_rest names 1 c.args.tokens.now c.requires.names))

pub returns-in_default-clause-judged : goal.returns-in_default-clause-judged
returns-in_default-clause-judged c = (verdict_empty c.args.header.kind c.args.header.format (said_of c.args.header.kind c.args.draft.now) c.args.line c.args.tokens.now c.in_default.len_below, draft_later c.args.header.kind c.args.line c.args.draft.now c.requires.draft)

pub returns-then-found-clause-refused : goal.returns-then-found-clause-refused
returns-then-found-clause-refused c =
    (verdict_bad c.args.header.kind c.args.header.format (said_of c.args.header.kind c.args.draft.now) c.args.line c.args.tokens.now c.in-len1-up.len_at_least (sym c.requires.bad ∙ c.if-found.true), refl)

pub returns-then-is_end-clause-judged : goal.returns-then-is_end-clause-judged
returns-then-is_end-clause-judged c =
    (verdict_end c.args.header.kind c.args.header.format (said_of c.args.header.kind c.args.draft.now) c.args.line c.args.tokens.now c.in-len1-up.len_at_least (sym c.requires.bad ∙ c.if-found.false) (sym c.is_end.ensures ∙ c.if-is_end.true), refl, c.requires.draft)

pub returns-in-None-clause-refused : goal.returns-in-None-clause-refused
returns-in-None-clause-refused c =
    let d : Bor (List ℕ) = record { ref_ptr = (0, 0); now = [] } in
    let said = said_of c.args.header.kind c.args.draft.now in (
      verdict_form c.args.header.kind c.args.header.format said c.args.line c.args.tokens.now d c.in-len1-up.len_at_least (sym c.requires.bad ∙ c.if-found.false) (sym c.is_end.ensures ∙ c.if-is_end.false)
          ∙ ap (λ rest. of_form said c.args.line (form_under c.args.header.kind c.args.header.format (get_or c.args.tokens.now 0 d).now (texts_of rest))) (sym (take_rest c.args.tokens.now 1))
          ∙ ap (of_form said c.args.line) (sym c.form_under.ensures.form ∙ ap (option_map form_of) c.in-None.is),
      refl,
    )

pub returns-in-Some-clause-judged : goal.returns-in-Some-clause-judged
returns-in-Some-clause-judged c =
    let d : Bor (List ℕ) = record { ref_ptr = (0, 0); now = [] } in
    let h = c.args.header in
    let said = said_of h.kind c.args.draft.now in
    let form = c.in-Some.form in
    let same : verdict_on h.kind h.format said c.args.line (texts_of c.args.tokens.now) ≡ of_form said c.args.line (Some (form_of form)) =
    verdict_form h.kind h.format said c.args.line c.args.tokens.now d c.in-len1-up.len_at_least (sym c.requires.bad ∙ c.if-found.false) (sym c.is_end.ensures ∙ c.if-is_end.false)
    ∙ ap (λ rest. of_form said c.args.line (form_under h.kind h.format (get_or c.args.tokens.now 0 d).now (texts_of rest))) (sym (take_rest c.args.tokens.now 1))
    ∙ ap (of_form said c.args.line) (sym c.form_under.ensures.form ∙ ap (option_map form_of) c.in-Some.is) in
    let order : IsOrderOf (drop 1 (texts_of c.args.tokens.now)) form =
    subst (λ names. IsOrderOf names form) (ap texts_of (take_rest c.args.tokens.now 1) ∙ sym (drop-map (λ (x : Bor (List ℕ)). x.now) 1 c.args.tokens.now)) c.in-Some.ensures.order in
    if_ok _ (IsJudged h.kind h.format c.args.line (texts_of c.args.tokens.now) c.args.draft.now c.add.new.draft) c.add.result c.add.ensures.added
    (judged_by h.kind h.format c.args.line (texts_of c.args.tokens.now) c.args.draft.now c.add.new.draft form same order)

pub returns-in-Some-clause-refused : goal.returns-in-Some-clause-refused
returns-in-Some-clause-refused c =
    let d : Bor (List ℕ) = record { ref_ptr = (0, 0); now = [] } in
    let h = c.args.header in
    let said = said_of h.kind c.args.draft.now in
    let form = form_of c.in-Some.form in
    let verdict = verdict_on h.kind h.format said c.args.line (texts_of c.args.tokens.now) in
    let same : verdict ≡ of_form said c.args.line (Some form) =
    verdict_form h.kind h.format said c.args.line c.args.tokens.now d c.in-len1-up.len_at_least (sym c.requires.bad ∙ c.if-found.false) (sym c.is_end.ensures ∙ c.if-is_end.false)
    ∙ ap (λ rest. of_form said c.args.line (form_under h.kind h.format (get_or c.args.tokens.now 0 d).now (texts_of rest))) (sym (take_rest c.args.tokens.now 1))
    ∙ ap (of_form said c.args.line) (sym c.form_under.ensures.form ∙ ap (option_map form_of) c.in-Some.is) in
    if_err _ (IsRefusedBy verdict c.args.line) c.add.result c.add.ensures.fault (refused_line said c.args.line form verdict same)
