use Rattle.std.proofs.Common.{◌≡◌, ◌∙◌, ℕ, List, sym, subst}
use Rattle.sm_text.specs.Tokens.{tokens}
use Rattle.sm_reader.specs.Listed.{ListsOnLine, IsAgentFault}
use Rattle.sm_reader.proofs.ResultLemmas.{on_err}
use Rattle.sm_reader.proofs.ListedLemmas.{lists_some, lists_all, names_kept, line_added, line_refused}
use Rattle.sm_reader.proofs.listed.add_line.Goals as goal

pub returns-then-not-branch-clause-added : goal.returns-then-not-branch-clause-added
returns-then-not-branch-clause-added c =
    let d = c.args.draft.now in
    let new = c.list_line.new.draft in
    names_kept c.args.kind c.args.line d new c.listed_side.result c.requires.draft
    (lists_some c.listed_side.result d new (tokens c.args.agent.list.now) c.args.line c.in_ok-list_line.field-0 c.list_line.new.indexes.items c.if-not-branch.true c.in_ok-list_line.ensures)

pub returns-in_err-put_declared-clause-fault : goal.returns-in_err-put_declared-clause-fault
returns-in_err-put_declared-clause-fault c =
    let a = c.args.agent in
    let d = c.args.draft.now in
    let new = c.list_line.new.draft in
    let entries = tokens a.list.now in
    let ids = c.in_ok-entries.entries in
    let same : ids.items ≡ c.list_line.new.indexes.items = c.in_ok-entries.ensures.items ∙ c.deref.ensures.value in
    let lists = lists_all c.listed_side.result d new entries c.args.line c.in_ok-list_line.field-0 c.list_line.new.indexes.items c.if-not-branch.false c.in_ok-list_line.ensures in
    let listed = subst (λ side. ListsOnLine side d new entries c.args.line ids.items) c.listed_side.ensures
    (subst (λ (xs : List ℕ). ListsOnLine c.listed_side.result d new entries c.args.line xs) (sym same) lists) in
    let f = c.in_err-put_declared.field-0.0 in
    on_err (λ f. IsAgentFault c.args.kind c.args.line a.side a.name.now entries d f) c.from_residual-in_err-put_declared.result f c.from_residual-in_err-put_declared.ensures.1
    (line_refused c.args.kind c.args.line d new a.name entries ids a.side f c.requires.two_sided c.requires.named c.requires.draft listed c.in_err-put_declared.ensures.fault)

pub returns-clause-added : goal.returns-clause-added
returns-clause-added c =
    let a = c.args.agent in
    let d = c.args.draft.now in
    let new = c.list_line.new.draft in
    let entries = tokens a.list.now in
    let ids = c.in_ok-entries.entries in
    let same : ids.items ≡ c.list_line.new.indexes.items = c.in_ok-entries.ensures.items ∙ c.deref.ensures.value in
    let lists = lists_all c.listed_side.result d new entries c.args.line c.in_ok-list_line.field-0 c.list_line.new.indexes.items c.if-not-branch.false c.in_ok-list_line.ensures in
    let listed = subst (λ side. ListsOnLine side d new entries c.args.line ids.items) c.listed_side.ensures
    (subst (λ (xs : List ℕ). ListsOnLine c.listed_side.result d new entries c.args.line xs) (sym same) lists) in
    line_added c.args.kind c.args.line d new c.put_declared.new.draft a.name entries ids a.side c.requires.two_sided c.requires.named c.requires.draft listed c.in_ok-put_declared.ensures.put
