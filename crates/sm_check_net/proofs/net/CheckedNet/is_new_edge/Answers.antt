use Rattle.std.proofs.Common.{sym, ◌∙◌}
use Rattle.std.proofs.lemmas.Bool.{false≢true}
use Rattle.sm_theory.proofs.Net.Tests.{not_parts}
use Rattle.sm_check_net.proofs.RepeatLemmas.{new_of, old_of}
use Rattle.sm_check_net.proofs.net.CheckedNet.is_new_edge.Goals as goal

pub returns-then-not-repeats-a : goal.returns-then-not-repeats-a
returns-then-not-repeats-a c = (
  (λ yes'.
      let w = c.is_on_edge.ensures.0 yes' in
      record { not_through = w.not_through; edge = w.edge; new = new_of c.args.a c.requires.repeats c.requires.in_range (λ m. false≢true (sym c.if-not-repeats-a.true ∙ m)) }),
  (λ w. c.is_on_edge.ensures.1 (record { not_through = w.not_through; edge = w.edge })),
)

pub returns-else-not-repeats-a : goal.returns-else-not-repeats-a
returns-else-not-repeats-a c = (
  (λ t. absurd (false≢true (sym (not_parts _ t) ∙ c.if-not-repeats-a.false))),
  (λ w. absurd (old_of c.args.a c.requires.repeats c.requires.in_range w.new c.if-not-repeats-a.false)),
)
