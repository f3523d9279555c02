use Rattle.std.proofs.Common.{◌≡◌, ℕ, ◌+◌, ◌<◌, ◌++◌, ◌∷◌, [], arith, refl, sym, ap, ◌∙◌, subst, List, Vec, length}
use Rattle.std.specs.declared.alloc.Global.{Global}
use Rattle.std.proofs.lemmas.Bool.{false≢true}
use Rattle.std.proofs.lemmas.List.{take_all}
use Rattle.sm_weight.specs.declared.edges.Edge.{Edge}
use Rattle.sm_weight.specs.Edges.{edge_at}
use Rattle.sm_weight.proofs.EdgeLemmas.{IsOnce, once_start, once_new, once_same, once_all}
use Rattle.sm_weight.proofs.edges.each_once.Goals as goal
use Rattle.sm_weight.proofs.edges.each_once.Goals.{then-i-eq0+in_ok-push, then-i-eq0-via-then-i-eq0, then-i-eq0-via-else-i-eq0+then-not-have_same_ends, else-i-eq0+else-not-have_same_ends}

pub loop-i-init : goal.loop-i-init
loop-i-init c = subst (λ (xs : List Edge). IsOnce c.args.edges.now xs 0) (sym c.in_ok-once.ensures.items) (once_start c.args.edges.now)

pub loop-i-preserved : goal.loop-i-preserved
loop-i-preserved c =
    let i : ℕ = c.loop-i.i in
    let edges : List Edge = c.args.edges.now in
    let before = c.loop-i.invariant in
    elim c.if-i-eq0.branch [
      | then-i-eq0+in_ok-push w ↦
          let items : c.if-i-eq0.once.items ≡ c.loop-i.once.items ++ edge_at edges i ∷ [] = ap (λ (v : Vec Edge Global). v.items) w.once-is ∙ w.in_ok-push.ensures.items in
          subst (λ (xs : List Edge). IsOnce edges xs (i + 1)) (sym items) (once_new i c.requires before c.loop-i-test.true
          (elim w.then-i-eq0.branch [
            | then-i-eq0-via-then-i-eq0 w' ↦ λ some. absurd (omega (arith, w'.if-i-eq0.true))
            | then-i-eq0-via-else-i-eq0+then-not-have_same_ends w' ↦ λ some same. absurd (false≢true (w'.if-not-have_same_ends.ensures.1 same))
          ]))
      | else-i-eq0+else-not-have_same_ends w ↦
          let items : c.if-i-eq0.once.items ≡ c.loop-i.once.items = ap (λ (v : Vec Edge Global). v.items) w.once-is in
          let some : 0 < i = omega (arith, w.if-i-eq0.false) in
          subst (λ (xs : List Edge). IsOnce edges xs (i + 1)) (sym items) (once_same i c.requires before c.loop-i-test.true some
          (w.if-not-have_same_ends.ensures.0 refl))
    ]

pub returns : goal.returns
returns c =
    let all : c.loop-i.i ≡ length c.args.edges.now = omega (arith, c.loop-i-test.false, c.loop-i.auto.i-end) in
    once_all c.loop-i.i all (take_all c.loop-i.i c.args.edges.now (omega arith)) c.loop-i.invariant
